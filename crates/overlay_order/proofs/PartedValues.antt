-- Values that may be parted: counts, and counts with data that may be parted.
use Rattle.std.proofs.Common.{◌≡◌, false, ℕ, ◌+◌, ◌*◌, max, ℤ, neg_ℤ, ◌+ℤ◌, bit_or, refl, ap, ap₂, ◌∙◌}
use Rattle.std.specs.Bool.{⊤}
use Rattle.std.specs.Int.{bit_at}
use Rattle.std.proofs.lemmas.Nat.Bits.{bit_at_or}
use Rattle.overlay_geom.specs.Counts.{joined_counts, reversed_counts}
use Rattle.overlay_geom.proofs.Signs.{linear}
use Rattle.overlay_order.specs.Counts.{boolean_counts, reversed_directions}
use Rattle.overlay_order.specs.EdgeData.{AreMerged, IsPiece, IsReversed}
use Rattle.overlay_order.specs.Parting.{MayPart, MayPartData, opposite}
use Rattle.overlay_order.specs.declared.count.ShapeCountBoolean.{ShapeCountBoolean}
use Rattle.overlay_order.specs.declared.data.CountWithData.{CountWithData}
use Rattle.overlay_order.specs.declared.string_count.ShapeCountString.{ShapeCountString}
use Rattle.overlay_order.proofs.DirectionBits.{by_bits}

-- the opposite of a sum is the sum of the opposites
opposite_sum : (a b m t : ℤ) → m ≡ a +ℤ b → t ≡ neg_ℤ m → t ≡ neg_ℤ a +ℤ neg_ℤ b
opposite_sum a b m t sum turned = omega linear

-- counts of the subject and the clip
pub boolean_may_part : MayPart
    (λ (c k m : ShapeCountBoolean). (m.subj ≡ c.subj +ℤ k.subj) × (m.clip ≡ c.clip +ℤ k.clip))
    (λ c p. p ≡ c) (λ c t. (t.subj ≡ neg_ℤ c.subj) × (t.clip ≡ neg_ℤ c.clip))
boolean_may_part = record {
  copied = λ c p is. is;
  copies = λ c. refl;
  turned = λ c k m t merged back. (
    opposite c,
    opposite k,
    (refl, refl),
    (refl, refl),
    (
      opposite_sum c.subj k.subj m.subj t.subj merged.0 back.0,
      opposite_sum c.clip k.clip m.clip t.clip merged.1 back.1,
    ),
  );
}

-- the reversed directions of two strings together are those of each together
directions_both : (m n : ℕ) → reversed_directions (bit_or m n) ≡ bit_or (reversed_directions m) (reversed_directions n)
directions_both m n =
    ap₂ (λ low high. 2 * low + high) (bit_at_or m n 0) (bit_at_or m n 1)
    ∙ by_bits (λ b d. 2 * max b d + max (bit_at m 1) (bit_at n 1) ≡ bit_or (2 * b + bit_at m 1) (2 * d + bit_at n 1))
    m 0 n 0
    (by_bits (λ b d. 2 * 0 + max b d ≡ bit_or (2 * 0 + b) (2 * 0 + d)) m 1 n 1 refl refl refl refl)
    (by_bits (λ b d. 2 * 1 + max b d ≡ bit_or (2 * 0 + b) (2 * 1 + d)) m 1 n 1 refl refl refl refl)
    (by_bits (λ b d. 2 * 1 + max b d ≡ bit_or (2 * 1 + b) (2 * 0 + d)) m 1 n 1 refl refl refl refl)
    (by_bits (λ b d. 2 * 1 + max b d ≡ bit_or (2 * 1 + b) (2 * 1 + d)) m 1 n 1 refl refl refl refl)

-- counts of a shape and directions of a string
pub string_may_part : MayPart
    (λ (c k m : ShapeCountString). (m.subj ≡ c.subj +ℤ k.subj) × (m.clip ≡ bit_or c.clip k.clip))
    (λ c p. p ≡ c) (λ c t. (t.subj ≡ neg_ℤ c.subj) × (t.clip ≡ reversed_directions c.clip))
string_may_part = record {
  copied = λ c p is. is;
  copies = λ c. refl;
  turned = λ c k m t merged back. (
    record { subj = neg_ℤ c.subj; clip = reversed_directions c.clip },
    record { subj = neg_ℤ k.subj; clip = reversed_directions k.clip },
    (refl, refl),
    (refl, refl),
    (
      opposite_sum c.subj k.subj m.subj t.subj merged.0 back.0,
      back.1 ∙ ap reversed_directions merged.1 ∙ directions_both c.clip k.clip,
    ),
  );
}

-- no data
pub none_may_part : {D : Type 0} → ((d e : D) → d ≡ e) → MayPartData (λ c (d : D) k e m. ⊤) (λ d p. ⊤) (λ d t. ⊤)
none_may_part alike = record {
  copied = λ d p split. alike p d;
  copies = λ d. tt;
  turned = λ c k d e m t merged back. (d, e, tt, tt, tt);
}

-- counts with data
module _ {D : Type 0} (merges : ShapeCountBoolean → D → ShapeCountBoolean → D → D → Type 0)
    (splits reverses : D → D → Type 0) (may : MayPartData merges splits reverses) where
  counts_turned : (c k m t : ShapeCountBoolean) →
      boolean_counts m ≡ joined_counts (boolean_counts c) (boolean_counts k) →
      boolean_counts t ≡ reversed_counts (boolean_counts m) →
      boolean_counts t ≡ joined_counts (boolean_counts (opposite c)) (boolean_counts (opposite k))
  counts_turned c k m t sum back = back ∙ ap reversed_counts sum ∙ apart
    where
      apart : reversed_counts (joined_counts (boolean_counts c) (boolean_counts k))
          ≡ joined_counts (boolean_counts (opposite c)) (boolean_counts (opposite k))
      apart = λ i. record {
        subj = opposite_sum c.subj k.subj (c.subj +ℤ k.subj) (neg_ℤ (c.subj +ℤ k.subj)) refl refl i;
        clip = opposite_sum c.clip k.clip (c.clip +ℤ k.clip) (neg_ℤ (c.clip +ℤ k.clip)) refl refl i;
        along = false;
        against = false;
      }

  pub data_may_part : MayPart (AreMerged merges) (IsPiece splits) (IsReversed reverses)
  data_may_part = record {
    copied = λ c p piece. same c p piece;
    copies = λ c. record { counts = refl; edge_data = may.copies c.edge_data };
    turned = λ c k m t merged back.
        let apart = may.turned c.count k.count c.edge_data k.edge_data m.edge_data t.edge_data merged.edge_data
        back.edge_data in (
          record { count = opposite c.count; edge_data = apart.0 },
          record { count = opposite k.count; edge_data = apart.1 },
          record { counts = refl; edge_data = apart.2 },
          record { counts = refl; edge_data = apart.3 },
          record {
            counts = counts_turned c.count k.count m.count t.count merged.counts back.counts;
            edge_data = apart.4;
          },
        );
  }
    where
      same : (c p : CountWithData D) → IsPiece splits c p → p ≡ c
      same c p piece = λ i. record {
        count = piece.counts i;
        edge_data = may.copied c.edge_data p.edge_data piece.edge_data i;
      }
