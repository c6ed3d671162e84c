-- The first part of two parts on one line: it starts with either, and ends in an end of either.
use Rattle.std.proofs.Common.{◌≡◌, ◌⊎◌, inl, inr, ⊎_elim, ℕ, ◌+◌, ◌≤◌, Bool, true, false, cond, refl, sym, ap, subst}
use Rattle.std.proofs.Common.{arith}
use Rattle.std.proofs.lemmas.Int.{ints}
use Rattle.overlay_geom.specs.Counts.{Counts, joined_counts, weight_of_counts}
use Rattle.overlay_geom.specs.Plane.{Point, Edge, point_lt}
use Rattle.overlay_geom.proofs.Marks.{mark_weight-or}
use Rattle.overlay_geom.proofs.Orders.{point_lt-itself, point_lt-order}
use Rattle.overlay_geom.proofs.PointOrder.{point_lt-after_up_to}
use Rattle.overlay_parts.specs.Parts.{Part, ends_of_part, first_of, part_between, IsHeldPart, IsJoinedPart}
use Rattle.overlay_parts.specs.LineParts.{IsFrontOf}

-- a point is not smaller than a smaller point
pub not_back : (p q : Point) → point_lt p q ≡ true → point_lt q p ≡ false
not_back p q less = point_lt-order.one_way p q less

-- joined counts weigh no more than both
pub weight_of_two : (c k : Counts) → weight_of_counts (joined_counts c k) ≤ weight_of_counts c + weight_of_counts k
weight_of_two c k =
    let along = mark_weight-or c.along k.along in
    let against = mark_weight-or c.against k.against in
    omega (arith, ints)

-- sums in order
below_sum : (a b sum s t : ℕ) → sum ≤ a + b → a ≤ s → b ≤ t → sum ≤ s + t
below_sum a b sum s t whole first second = omega arith

-- the order of the two parts does not matter
pub front_flipped : {C : Type 0} (s t front : Part C) → IsFrontOf t s front → IsFrontOf s t front
front_flipped s t front is = record {
  start = ⊎_elim inr inl is.start;
  end = ⊎_elim inr inl is.end;
  forward = is.forward;
  of_s = is.of_t;
  of_t = is.of_s;
  light = is.light;
  cover = omega (arith, is.cover);
}

module _ {C : Type 0} (limit : ℕ) (s t : Part C) (s_held : IsHeldPart limit s) (t_held : IsHeldPart limit t) where
  -- s starts before t
  pub front_of_earlier : point_lt (ends_of_part s).a (ends_of_part t).a ≡ true →
      IsFrontOf s t (part_between s (ends_of_part s).a (first_of (ends_of_part s).b (ends_of_part t).a))
  front_of_earlier before = by (point_lt (ends_of_part t).a (ends_of_part s).b) refl
    where
      by : (b : Bool) → point_lt (ends_of_part t).a (ends_of_part s).b ≡ b →
          IsFrontOf s t (part_between s (ends_of_part s).a (cond b (ends_of_part t).a (ends_of_part s).b))
      by true less = record {
        start = inl refl;
        end = inr (inl refl);
        forward = before;
        of_s = not_back (ends_of_part t).a (ends_of_part s).b less;
        of_t = not_back (ends_of_part t).a (ends_of_part t).b t_held.held.forward;
        light = s_held.light;
        cover = omega arith;
      }
      by false past = record {
        start = inl refl;
        end = inl (inr refl);
        forward = s_held.held.forward;
        of_s = point_lt-itself (ends_of_part s).b;
        of_t = not_back (ends_of_part s).b (ends_of_part t).b
            (point_lt-after_up_to (ends_of_part s).b (ends_of_part t).a (ends_of_part t).b past t_held.held.forward);
        light = s_held.light;
        cover = omega arith;
      }

  -- both start in one point, and are joined up to the end that comes first
  module _ (merges : C → C → C → Type 0) (both : Part C) (same : (ends_of_part s).a ≡ (ends_of_part t).a) where
    -- they are joined up to a point
    abbrev IsUpTo : Point → Type 0
    IsUpTo v = IsJoinedPart merges (part_between s (ends_of_part s).a v) (part_between t (ends_of_part t).a v) both

    -- this is the first part, where the point is an end and not behind either
    front_up_to : (v : Point) → IsUpTo v → (v ≡ (ends_of_part s).b) ⊎ (v ≡ (ends_of_part t).b) →
        point_lt (ends_of_part s).a v ≡ true → point_lt (ends_of_part s).b v ≡ false →
        point_lt (ends_of_part t).b v ≡ false → IsFrontOf s t both
    front_up_to v join is_end after of_s of_t = record {
      start = inl (ap (λ (e : Edge). e.a) join.ends);
      end = ⊎_elim (λ is. inl (inr (subst (λ (e : Edge). e.b ≡ (ends_of_part s).b) (sym join.ends) is)))
          (λ is. inr (inr (subst (λ (e : Edge). e.b ≡ (ends_of_part t).b) (sym join.ends) is))) is_end;
      forward = subst (λ (e : Edge). point_lt e.a e.b ≡ true) (sym join.ends) after;
      of_s = subst (λ (e : Edge). point_lt (ends_of_part s).b e.b ≡ false) (sym join.ends) of_s;
      of_t = subst (λ (e : Edge). point_lt (ends_of_part t).b e.b ≡ false) (sym join.ends) of_t;
      light = subst (λ k. weight_of_counts k ≤ both.cover) (sym join.counts)
          (subst (λ n. weight_of_counts (joined_counts s.edge.edge.counts t.edge.edge.counts) ≤ n) (sym join.cover)
          (below_sum (weight_of_counts s.edge.edge.counts) (weight_of_counts t.edge.edge.counts)
          (weight_of_counts (joined_counts s.edge.edge.counts t.edge.edge.counts)) s.cover t.cover
          (weight_of_two s.edge.edge.counts t.edge.edge.counts) s_held.light t_held.light));
      cover = subst (λ n. n ≤ s.cover + t.cover) (sym join.cover) (omega arith);
    }

    pub front_of_both : IsUpTo (first_of (ends_of_part s).b (ends_of_part t).b) → IsFrontOf s t both
    front_of_both = by (point_lt (ends_of_part t).b (ends_of_part s).b) refl
      where
        by : (b : Bool) → point_lt (ends_of_part t).b (ends_of_part s).b ≡ b →
            IsUpTo (cond b (ends_of_part t).b (ends_of_part s).b) → IsFrontOf s t both
        by true less join =
            front_up_to (ends_of_part t).b join (inr refl)
            (subst (λ p. point_lt p (ends_of_part t).b ≡ true) (sym same) t_held.held.forward)
            (not_back (ends_of_part t).b (ends_of_part s).b less) (point_lt-itself (ends_of_part t).b)
        by false past join =
            front_up_to (ends_of_part s).b join (inl refl) s_held.held.forward (point_lt-itself (ends_of_part s).b) past
