-- What contracts see of a builder for predicates, and what its calls do to it.
use Rattle.std.specs.Prelude.{◌≡◌, Bool, false, List, [], Result}
use Rattle.overlay_geom.specs.Edges.{CountedEdge, weight}
use Rattle.overlay_geom.specs.declared.error.OverlayError.{OverlayError}
use Rattle.overlay_geom.specs.declared.solver.Solver.{Solver}
use Rattle.overlay_geom.specs.declared.fill_rule.FillRule.{FillRule}
use Rattle.overlay_builder.specs.GivenPaths.{GivenPath, added_paths}
use Rattle.overlay_builder.specs.Held.{Held}
use Rattle.overlay_builder.specs.PathLists.{AddsAsAsked}

-- a builder for predicates: its settings, the counted edges that it holds, and whether a query was refused since it was
-- last cleared
pub record PredicateBuilder : Type 0 where
  pub solver : Solver
  pub fill_rule : FillRule
  pub edges : List CountedEdge
  pub failed : Bool

-- a new builder with these settings: it has no edges, and has not failed
abbrev pub empty_builder : FillRule → Solver → PredicateBuilder
empty_builder fill_rule solver = record { solver = solver; fill_rule = fill_rule; edges = []; failed = false }

-- the builder without its edges, which has not failed
abbrev pub cleared : PredicateBuilder → PredicateBuilder
cleared b = record b { edges = []; failed = false }

-- the part of it that all builders have
abbrev pub held_by : PredicateBuilder → Held CountedEdge
held_by b = record { edges = b.edges; failed = b.failed }

-- a call that adds the paths, without their points on one line, answers so, of the builder before and of the one
-- afterwards
pub record PredicateBuilderAdds {V : Type 0} (paths : List GivenPath) (old new : PredicateBuilder)
    (result : Result V OverlayError) : Type 0 where
  pub added : AddsAsAsked weight (added_paths false paths) (held_by old) (held_by new) result
  -- nothing but the edges changes, whatever is answered
  pub kept : new ≡ record old { edges = new.edges }
