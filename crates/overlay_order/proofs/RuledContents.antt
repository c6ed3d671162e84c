-- The edges of an arrangement are a planar list, and a ruled one under each of the rules.
use Rattle.std.proofs.Common.{◌≡◌, ℕ, true, false, pos, List, refl, ap, ◌∙◌}
use Rattle.std.proofs.lemmas.List.Elements.{All-contains}
use Rattle.overlay_geom.specs.Plane.{point_lt}
use Rattle.overlay_geom.specs.Edges.{CountedEdge, subj_of, clip_of}
use Rattle.overlay_geom.specs.Settled.{IsSettled}
use Rattle.overlay_geom.specs.Rules.{is_filled, rule_holds, rules_hold}
use Rattle.overlay_geom.specs.declared.fill_rule.FillRule.{FillRule}
use Rattle.overlay_geom.specs.declared.fill_rule.FillRule.TheVariants.{EvenOdd, NonZero, Positive, Negative}
use Rattle.overlay_geom.specs.declared.overlay_rule.OverlayRule.{OverlayRule}
use Rattle.overlay_geom.specs.declared.overlay_rule.OverlayRule.TheVariants.{Subject, Clip, Intersect, Union}
use Rattle.overlay_geom.specs.declared.overlay_rule.OverlayRule.TheVariants.{Difference, InverseDifference, Xor}
use Rattle.overlay_plane.specs.Balance.{HasBalancedCounts}
use Rattle.overlay_plane.specs.Regions.{IsPlanar, IsRuled}
use Rattle.overlay_plane.proofs.EdgeOrder.{distinct_from_ascending}
use Rattle.overlay_plane.proofs.Entries.{all_of_entries}
use Rattle.overlay_order.specs.Content.{IsHeld, IsContent, IsAscending}

-- a winding 0 is filled under no rule
pub zero_is_empty : (fill : FillRule) → is_filled fill (pos 0) ≡ false
zero_is_empty EvenOdd = refl
zero_is_empty NonZero = refl
zero_is_empty Positive = refl
zero_is_empty Negative = refl

-- no rule takes points that neither shape fills
neither_is_taken : (rule : OverlayRule) → rule_holds rule false false ≡ false
neither_is_taken Subject = refl
neither_is_taken Clip = refl
neither_is_taken Intersect = refl
neither_is_taken Union = refl
neither_is_taken Difference = refl
neither_is_taken InverseDifference = refl
neither_is_taken Xor = refl

-- the rules do not hold of two windings 0
pub none_of_zero : (fill : FillRule) (rule : OverlayRule) → rules_hold fill rule (pos 0) (pos 0) ≡ false
none_of_zero fill rule = ap (λ t. rule_holds rule t t) (zero_is_empty fill) ∙ neither_is_taken rule

-- the edges of a content that ascend and are settled are planar
pub planar_content : (limit : ℕ) (es : List CountedEdge) → IsContent limit es → IsAscending es → IsSettled es →
    IsPlanar es
planar_content limit es content ascending settled = record {
  forward = all_of_entries (λ e. point_lt e.a e.b ≡ true) es
      (λ e c. (All-contains (IsHeld limit) es e content.held c).forward);
  settled = settled;
  distinct = distinct_from_ascending es ascending;
}

-- with balanced counts they are ruled
pub ruled_content : (limit : ℕ) (es : List CountedEdge) → IsContent limit es → IsAscending es → IsSettled es →
    HasBalancedCounts es →
    (fill : FillRule) (rule : OverlayRule) → IsRuled (rules_hold fill rule) subj_of clip_of es
ruled_content limit es content ascending settled balanced fill rule = record {
  planar = planar_content limit es content ascending settled;
  subj_balanced = balanced.subj;
  clip_balanced = balanced.clip;
  none = none_of_zero fill rule;
}
