-- A view shows the edges that its builder holds.
use Rattle.std.proofs.Common.{◌≡◌, ℕ, [], sym, subst}
use Rattle.std.specs.Prelude.{◌≢◌, Ok}
use Rattle.overlay_geom.specs.declared.solver.Solver.{Solver}
use Rattle.overlay_geom.specs.Rules.{rules_hold}
use Rattle.overlay_geom.specs.declared.fill_rule.FillRule.{FillRule}
use Rattle.overlay_geom.specs.declared.overlay_rule.OverlayRule.TheVariants.{Subject}
use Rattle.overlay_plane.proofs.FarPoints.{far_points_wind_as_wanted}
use Rattle.overlay_graph.specs.Graphs.{Graph, graph_edges}
use Rattle.overlay_graph.specs.Arranged.{IsArranged}
use Rattle.overlay_walk.specs.Steps.{filled_hand}
use Rattle.overlay_builder.specs.Held.{AnswersQuery}
use Rattle.overlay_string.specs.StringBuilder.{StringBuilder, held_by}
use Rattle.overlay_string.specs.StringViews.{IsStringView}

module _ {C U : Type 0} (limit : ℕ) (solver : Solver) (old new : StringBuilder U) (seen : Graph C)
    (first : AnswersQuery limit solver (held_by old) (held_by new) (Ok seen)) (same : graph_edges seen ≡ new.edges)
  where
    -- what is shown is a view of what the builder held
    pub is_view : (rule : FillRule) → graph_edges seen ≢ [] → seen.fill_rule ≡ rule
        → IsStringView solver rule old.edges seen
    is_view rule some filled = record {
      arranged = arranged;
      some_edge = some;
      filled = filled;
      far = λ fill direction steps winds. far_points_wind_as_wanted (rules_hold fill Subject) (filled_hand direction)
          arranged.moving old.edges (graph_edges seen) steps arranged.far winds;
    }
      where
        arranged : IsArranged solver old.edges (graph_edges seen)
        arranged = subst (IsArranged solver old.edges) (sym same) first.arranged
