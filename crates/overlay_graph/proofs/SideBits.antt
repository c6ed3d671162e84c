-- The filled sides of an edge, told by its fill bits.
use Rattle.std.proofs.Common.{◌≡◌, ℕ, ℤ, ◌+ℤ◌, Bool, true, false, List, refl}
use Rattle.overlay_geom.specs.Edges.{CountedEdge, subj_of, clip_of, winding_below}
use Rattle.overlay_geom.specs.Rules.{Fills, is_filled, bits_of, fill_bits}
use Rattle.overlay_geom.specs.declared.fill_rule.FillRule.{FillRule}
use Rattle.overlay_order.specs.Counts.{has_bit}

-- each bit is set where its side is filled
pub record ShowsSides (f : Fills) : Type 0 where
  pub subj_above : has_bit (bits_of f) 0 ≡ f.subj_above
  pub subj_below : has_bit (bits_of f) 1 ≡ f.subj_below
  pub clip_above : has_bit (bits_of f) 2 ≡ f.clip_above
  pub clip_below : has_bit (bits_of f) 3 ≡ f.clip_below

-- the bits tell side by side
sides : (subj_above subj_below clip_above clip_below : Bool) →
    ShowsSides (record {
      subj_above = subj_above;
      subj_below = subj_below;
      clip_above = clip_above;
      clip_below =
          clip_below;
    })
sides true true true true = record { subj_above = refl; subj_below = refl; clip_above = refl; clip_below = refl }
sides true true true false = record { subj_above = refl; subj_below = refl; clip_above = refl; clip_below = refl }
sides true true false true = record { subj_above = refl; subj_below = refl; clip_above = refl; clip_below = refl }
sides true true false false = record { subj_above = refl; subj_below = refl; clip_above = refl; clip_below = refl }
sides true false true true = record { subj_above = refl; subj_below = refl; clip_above = refl; clip_below = refl }
sides true false true false = record { subj_above = refl; subj_below = refl; clip_above = refl; clip_below = refl }
sides true false false true = record { subj_above = refl; subj_below = refl; clip_above = refl; clip_below = refl }
sides true false false false = record { subj_above = refl; subj_below = refl; clip_above = refl; clip_below = refl }
sides false true true true = record { subj_above = refl; subj_below = refl; clip_above = refl; clip_below = refl }
sides false true true false = record { subj_above = refl; subj_below = refl; clip_above = refl; clip_below = refl }
sides false true false true = record { subj_above = refl; subj_below = refl; clip_above = refl; clip_below = refl }
sides false true false false = record { subj_above = refl; subj_below = refl; clip_above = refl; clip_below = refl }
sides false false true true = record { subj_above = refl; subj_below = refl; clip_above = refl; clip_below = refl }
sides false false true false = record { subj_above = refl; subj_below = refl; clip_above = refl; clip_below = refl }
sides false false false true = record { subj_above = refl; subj_below = refl; clip_above = refl; clip_below = refl }
sides false false false false = record { subj_above = refl; subj_below = refl; clip_above = refl; clip_below = refl }

-- the bits of any fills
pub bits_show_sides : (f : Fills) → ShowsSides f
bits_show_sides f = sides f.subj_above f.subj_below f.clip_above f.clip_below

-- the bits between the windings below an edge and those beyond it are its fill bits
pub bits_between_windings : (rule : FillRule) (es : List CountedEdge) (e : CountedEdge) (n : ℕ)
    (subj clip subj_above clip_above : ℤ) →
    subj ≡ winding_below subj_of es e → clip ≡ winding_below clip_of es e → subj_above ≡ subj +ℤ e.counts.subj →
    clip_above ≡ clip +ℤ e.counts.clip →
    n ≡ bits_of (record {
      subj_above = is_filled rule subj_above;
      subj_below = is_filled rule subj;
      clip_above =
          is_filled rule clip_above;
      clip_below = is_filled rule clip;
    }) →
    n ≡ fill_bits rule es e
bits_between_windings rule es e n subj clip subj_above clip_above s c sa ca bits = rw (← c, ← s, ← ca, ← sa) bits
