-- The paths are added by the core, as contours of the subject or of the clip, and keep the counts balanced.
use Rattle.std.proofs.Common.{false, refl, ◌∙◌, ap}
use Rattle.overlay_geom.specs.Edges.{weight}
use Rattle.overlay_order.specs.Counts.{boolean_counts}
use Rattle.overlay_builder.specs.GivenPaths.{added_paths, paths_for}
use Rattle.overlay_builder.specs.Held.{plain_held}
use Rattle.overlay_builder.specs.PathLists.{AddsAsAsked}
use Rattle.overlay_builder.specs.declared.path.PathKind.TheVariants.{Thinned}
use Rattle.overlay_builder.proofs.AddedContours.{counts_pass_once, contours_added}
use Rattle.overlay_builder.proofs.Balanced.{adding_keeps_balance}
use Rattle.overlay_predicates.specs.ExactBuilder.{ExactBuilder}
use Rattle.overlay_predicates.proofs.ExactBuilders.{seen_so}
use Rattle.overlay_predicates.proofs.exact_predicates.ExactPredicates.add_source.Goals as goal

pub invariant_of-self : goal.invariant_of-self
invariant_of-self g c =
    let paths = g.R0.IntShapeResource.paths c.args.resource.now in record {
      usable = c.add_paths.ensures.kept ∙ c.self.invariant.usable;
      balanced = adding_keeps_balance false (paths_for c.args.shape_type paths)
          (plain_held c.self.inside.core) (plain_held c.add_paths.new.self) c.add_paths.result
          (contours_added false c.args.shape_type boolean_counts Thinned c.passing.result refl
          (counts_pass_once c.args.shape_type c.passing.result c.passing.ensures) paths
          c.self.inside.core c.add_paths.new.self c.add_paths.result c.add_paths.ensures)
          c.self.invariant.balanced;
    }

pub returns : goal.returns
returns g c =
    let paths = g.R0.IntShapeResource.paths c.args.resource.now in
    let given = paths_for c.args.shape_type paths in
    record {
      added = seen_so (λ before after. AddsAsAsked weight (added_paths false given) before after c.add_paths.result)
          c.self.inside.fill_rule c.args.self.now (plain_held c.self.inside.core) (plain_held c.add_paths.new.self)
          c.self.view_is c.self.invariant.usable c.add_paths.ensures.kept
          (contours_added false c.args.shape_type boolean_counts Thinned c.passing.result refl
          (counts_pass_once c.args.shape_type c.passing.result c.passing.ensures) paths
          c.self.inside.core c.add_paths.new.self c.add_paths.result c.add_paths.ensures);
      kept = ap {A = ExactBuilder} (λ b. record b { edges = (plain_held c.add_paths.new.self).edges }) c.self.view_is;
    }
