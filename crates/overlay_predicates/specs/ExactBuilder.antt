-- What contracts see of a builder for exact predicates, and what its calls do to it.
use Rattle.std.specs.Prelude.{◌≡◌, Bool, false, List, [], Result}
use Rattle.overlay_geom.specs.Edges.{CountedEdge, weight}
use Rattle.overlay_geom.specs.declared.error.OverlayError.{OverlayError}
use Rattle.overlay_geom.specs.declared.fill_rule.FillRule.{FillRule}
use Rattle.overlay_plane.specs.Balance.{HasBalancedCounts}
use Rattle.overlay_builder.specs.GivenPaths.{GivenPath, added_paths}
use Rattle.overlay_builder.specs.Held.{Held}
use Rattle.overlay_builder.specs.PathLists.{AddsAsAsked}

-- a builder for exact predicates: its fill rule, and the counted edges that it holds
pub record ExactBuilder : Type 0 where
  pub fill_rule : FillRule
  pub edges : List CountedEdge

-- a new builder with this rule: it has no edges
abbrev pub empty_builder : FillRule → ExactBuilder
empty_builder fill_rule = record { fill_rule = fill_rule; edges = [] }

-- the builder without its edges
abbrev pub cleared : ExactBuilder → ExactBuilder
cleared b = record b { edges = [] }

-- the part of it that all builders have: it never fails
abbrev pub held_by : ExactBuilder → Held CountedEdge
held_by b = record { edges = b.edges; failed = false }

-- what is always so of it: it has not failed, and its counts are balanced, since only closed contours are added
pub record IsUsable (failed : Bool) (es : List CountedEdge) : Type 0 where
  pub usable : failed ≡ false
  pub balanced : HasBalancedCounts es

-- a call that adds the paths, without their points on one line, answers so, of the builder before and
-- afterwards
pub record ExactBuilderAdds {V : Type 0} (paths : List GivenPath) (old new : ExactBuilder)
    (result : Result V OverlayError) : Type 0 where
  pub added : AddsAsAsked weight (added_paths false paths) (held_by old) (held_by new) result
  -- nothing but the edges changes, whatever is answered
  pub kept : new ≡ record old { edges = new.edges }
