-- A view shows the edges that its builder holds.
use Rattle.std.proofs.Common.{◌≡◌, ℕ, [], sym, subst}
use Rattle.std.specs.Prelude.{◌≢◌, Ok}
use Rattle.overlay_geom.specs.declared.solver.Solver.{Solver}
use Rattle.overlay_geom.specs.declared.fill_rule.FillRule.{FillRule}
use Rattle.overlay_plane.proofs.FarPoints.{far_points_wind_as_wanted}
use Rattle.overlay_graph.specs.Arranged.{IsArranged}
use Rattle.overlay_builder.specs.Held.{AnswersQuery}
use Rattle.overlay_extract.specs.Results.{region_asked, filled_asked}
use Rattle.i_overlay.specs.Builder.{Builder, held_by}
use Rattle.i_overlay.specs.Views.{Viewed, IsView, viewed_edges}

module _ {C U : Type 0} (limit : ℕ) (solver : Solver) (old new : Builder U) (seen : Viewed C U)
    (first : AnswersQuery limit solver (held_by old) (held_by new) (Ok seen)) (same : viewed_edges seen ≡ new.edges)
  where
    -- what is shown is a view of what the builder held
    pub is_view : (rule : FillRule) → viewed_edges seen ≢ [] → seen.graph.fill_rule ≡ rule → seen.options ≡ old.options
        → IsView solver rule old.options old.edges seen
    is_view rule some filled optioned = record {
      arranged = arranged;
      some_edge = some;
      filled = filled;
      optioned = optioned;
      far = λ q steps winds. far_points_wind_as_wanted (region_asked q) (filled_asked q) arranged.moving old.edges
          (viewed_edges seen) steps arranged.far winds;
    }
      where
        arranged : IsArranged solver old.edges (viewed_edges seen)
        arranged = subst (IsArranged solver old.edges) (sym same) first.arranged
