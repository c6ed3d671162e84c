-- What a view shows of a builder for strings.
use Rattle.std.specs.Prelude.{◌≡◌, ◌≢◌, List, []}
use Rattle.overlay_geom.specs.Edges.{CountedEdge}
use Rattle.overlay_geom.specs.Plane.{Step}
use Rattle.overlay_geom.specs.declared.solver.Solver.{Solver}
use Rattle.overlay_geom.specs.declared.fill_rule.FillRule.{FillRule}
use Rattle.overlay_geom.specs.declared.options.ContourDirection.{ContourDirection}
use Rattle.overlay_graph.specs.Graphs.{Graph, graph_edges}
use Rattle.overlay_graph.specs.Arranged.{IsArranged}
use Rattle.overlay_extract.specs.Sliced.{WindsRoundFilled}
use Rattle.overlay_string.specs.FarSlices.{WindsRoundFarFilled}

-- the graph shows an arrangement by the solver, with some edge, of what a builder held, and the sides that are filled
-- under the rule
pub record IsStringView {C : Type 0} (solver : Solver) (rule : FillRule) (held : List CountedEdge) (g : Graph C)
    : Type 0 where
  pub arranged : IsArranged solver held (graph_edges g)
  pub some_edge : graph_edges g ≢ []
  pub filled : g.fill_rule ≡ rule
  -- steps that wind off the graph's edges as what is filled asks do so of what the builder held, far from it: k rounds
  -- moved some point
  pub far : (fill : FillRule) (direction : ContourDirection) (steps : List Step) →
      WindsRoundFilled fill direction (graph_edges g) steps →
      WindsRoundFarFilled arranged.moving fill direction held steps
