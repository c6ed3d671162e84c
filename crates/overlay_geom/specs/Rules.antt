-- Fill rules, overlay rules, windings below and above an edge, and the fill bits of an edge.
use Rattle.std.specs.Prelude.{ℕ, ◌+◌, ◌%◌, Bool, cond, not, ◌&&◌, ◌||◌, ◌==◌, ℤ, pos, nat_abs, int_lt, List}
use Rattle.std.specs.Ordering.{int_eq}
use Rattle.overlay_geom.specs.Edges.{CountedEdge, subj_of, clip_of, winding_below, winding_above}
use Rattle.overlay_geom.specs.declared.fill_rule.FillRule.{FillRule}
use Rattle.overlay_geom.specs.declared.fill_rule.FillRule.TheVariants.{EvenOdd, NonZero, Positive, Negative}
use Rattle.overlay_geom.specs.declared.overlay_rule.OverlayRule.{OverlayRule}
use Rattle.overlay_geom.specs.declared.overlay_rule.OverlayRule.TheVariants.{Subject, Clip, Intersect, Union}
use Rattle.overlay_geom.specs.declared.overlay_rule.OverlayRule.TheVariants.{Difference, InverseDifference, Xor}

-- a winding is filled under the rule
abbrev pub is_filled : FillRule → ℤ → Bool
is_filled EvenOdd w = nat_abs w % 2 == 1
is_filled NonZero w = not (int_eq w (pos 0))
is_filled Positive w = int_lt (pos 0) w
is_filled Negative w = int_lt w (pos 0)

-- the sides of an edge that the subject and the clip fill
pub record Fills : Type 0 where
  pub subj_above : Bool
  pub subj_below : Bool
  pub clip_above : Bool
  pub clip_below : Bool

-- the filled sides of an edge of the list, by the windings just above it and just below it
abbrev pub fills_of : FillRule → List CountedEdge → CountedEdge → Fills
fills_of fill es e = record {
  subj_above = is_filled fill (winding_above subj_of es e);
  subj_below = is_filled fill (winding_below subj_of es e);
  clip_above = is_filled fill (winding_above clip_of es e);
  clip_below = is_filled fill (winding_below clip_of es e);
}

-- the bit if the side is filled, else 0
abbrev pub bit : Bool → ℕ → ℕ
bit b n = cond b n 0

-- filled sides as bits: subject above 1 and below 2, clip above 4 and below 8
abbrev pub bits_of : Fills → ℕ
bits_of f = bit f.subj_above 1 + bit f.subj_below 2 + bit f.clip_above 4 + bit f.clip_below 8

-- the fill bits of an edge of the list
abbrev pub fill_bits : FillRule → List CountedEdge → CountedEdge → ℕ
fill_bits fill es e = bits_of (fills_of fill es e)

-- the rule takes a point, by whether the subject and whether the clip fill it
abbrev pub rule_holds : OverlayRule → Bool → Bool → Bool
rule_holds Subject s c = s
rule_holds Clip s c = c
rule_holds Intersect s c = s && c
rule_holds Union s c = s || c
rule_holds Difference s c = s && not c
rule_holds InverseDifference s c = c && not s
rule_holds Xor s c = cond s (not c) c

-- the rules hold of a winding of the subject and a winding of the clip
abbrev pub rules_hold : FillRule → OverlayRule → ℤ → ℤ → Bool
rules_hold fill rule s c = rule_holds rule (is_filled fill s) (is_filled fill c)
