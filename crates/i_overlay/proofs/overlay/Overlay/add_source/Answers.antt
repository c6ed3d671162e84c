-- The paths are added by the core, as contours of the subject or of the clip, and keep the counts balanced.
use Rattle.std.proofs.Common.{sym, subst, ◌∙◌}
use Rattle.overlay_geom.specs.Edges.{weight}
use Rattle.overlay_builder.specs.Held.{plain_held}
use Rattle.overlay_builder.specs.PathLists.{AddsAsAsked}
use Rattle.i_overlay.specs.Builder.{held_by}
use Rattle.overlay_builder.specs.GivenPaths.{added_paths, paths_for}
use Rattle.overlay_order.specs.Counts.{boolean_counts}
use Rattle.overlay_builder.proofs.AddedContours.{dataless_pass_once, contours_added}
use Rattle.overlay_builder.proofs.Balanced.{adding_keeps_balance}
use Rattle.i_overlay.proofs.Builders.{only_edges_new}
use Rattle.i_overlay.proofs.overlay.Overlay.add_source.Goals as goal

pub invariant_of-self : goal.invariant_of-self
invariant_of-self g c = λ ready.
    let paths = g.R0.IntShapeResource.paths c.args.resource.now in
    let keep = c.self.inside.options.preserve_input_collinear in
    adding_keeps_balance keep (paths_for c.args.shape_type paths) (plain_held c.self.inside.core)
    (plain_held c.add_paths.new.self) c.add_paths.result
    (contours_added keep c.args.shape_type (λ k. boolean_counts k.count) c.contour_kind-kind.result
    c.passing_without_data.result
    c.contour_kind-kind.ensures (dataless_pass_once c.args.shape_type c.passing_without_data.result
    c.passing_without_data.ensures) paths
    c.self.inside.core c.add_paths.new.self c.add_paths.result c.add_paths.ensures)
    (c.self.invariant (sym c.add_paths.ensures.kept ∙ ready))

pub returns : goal.returns
returns g c =
    let paths = g.R0.IntShapeResource.paths c.args.resource.now in
    let keep = c.self.inside.options.preserve_input_collinear in
    let given = paths_for c.args.shape_type paths in
    record {
      added = subst
          (λ b. AddsAsAsked weight (added_paths b.options.preserve_input_collinear given) (held_by b)
          (plain_held c.add_paths.new.self) c.add_paths.result)
          c.self.view_is
          (contours_added keep c.args.shape_type (λ k. boolean_counts k.count) c.contour_kind-kind.result
          c.passing_without_data.result
          c.contour_kind-kind.ensures (dataless_pass_once c.args.shape_type c.passing_without_data.result
          c.passing_without_data.ensures) paths
          c.self.inside.core c.add_paths.new.self c.add_paths.result c.add_paths.ensures);
      kept = only_edges_new _ _ _ _ c.self.view_is c.add_paths.ensures.kept;
    }
