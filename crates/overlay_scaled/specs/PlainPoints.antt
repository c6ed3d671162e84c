-- Plain points of a list of edges, which need not be an arrangement: inner points of an edge where no other edge meets
-- it. On both sides of the edge the windings there tell all that is true off the edges.
use Rattle.std.specs.Prelude.{◌≡◌, ◌↔◌, Bool, true, false, ◌||◌, ℤ, pos, List, Contains}
use Rattle.overlay_geom.specs.Edges.{CountedEdge, ends_of, subj_of, clip_of, winding_by}
use Rattle.overlay_geom.specs.Merged.{IsMerged}
use Rattle.overlay_geom.specs.Plane.{PlanePoint, IsOn, IsEnd}
use Rattle.overlay_plane.specs.Balance.{HasBalancedCounts}
use Rattle.overlay_plane.specs.EdgeLists.{IsForwardBy}
use Rattle.overlay_plane.specs.Meetings.{MeetsAnother}
use Rattle.overlay_plane.specs.Predicates.{HoldsSomewhere}
use Rattle.overlay_scaled.specs.Through.{winding_over}

-- p is an inner point of the edge e of the list, and no different edge has its meeting point with e there. Others may
-- run along e past p
pub record IsPlain (es : List CountedEdge) (e : CountedEdge) (p : PlanePoint) : Type 0 where
  pub entry : Contains es e
  pub on : IsOn (ends_of e) p
  pub no_end : ¬ (IsEnd (ends_of e) p)
  pub alone : ¬ (MeetsAnother es e p)

-- a plain point of some edge passes the test
abbrev pub SomePlain : (PlanePoint → Bool) → List CountedEdge → Type 0
SomePlain test es = (e : CountedEdge) × (p : PlanePoint) × IsPlain es e p × (test p ≡ true)

-- the rule holds of the windings below the edges through p, or of those above them
abbrev pub holds_beside : (ℤ → ℤ → Bool) → List CountedEdge → PlanePoint → Bool
holds_beside holds es p = holds (winding_over subj_of es p) (winding_over clip_of es p)
    || holds (winding_by subj_of es p) (winding_by clip_of es p)

-- ---- laws

-- where the merged edges lead forward and have balanced counts, a rule that fails for two windings 0 holds somewhere
-- off the edges of the content exactly where it holds beside a plain point of the merged edges
abbrev pub PlainPointsTellRules : Type 0
PlainPointsTellRules = (holds : ℤ → ℤ → Bool) (content es : List CountedEdge) → IsMerged content es →
    IsForwardBy ends_of es → HasBalancedCounts es → holds (pos 0) (pos 0) ≡ false →
    HoldsSomewhere holds subj_of clip_of content ↔ SomePlain (holds_beside holds es) es
