-- The paths are added to an empty core, or one of them is refused.
use Rattle.std.proofs.Common.{◌∙◌, All, false, refl, ap, subst}
use Rattle.std.proofs.lemmas.Result.{err_from_is_err_and}
use Rattle.std.specs.Prelude.{Ok, Err}
use Rattle.overlay_geom.specs.declared.options.ShapeType.TheVariants.{Subject}
use Rattle.overlay_plane.specs.Carried.{edges_in}
use Rattle.overlay_order.specs.Counts.{boolean_counts}
use Rattle.overlay_builder.specs.GivenPaths.{paths_for}
use Rattle.overlay_builder.specs.Held.{plain_held}
use Rattle.overlay_builder.specs.declared.path.PathKind.TheVariants.{Thinned}
use Rattle.overlay_builder.proofs.AddedContours.{counts_pass_once, contours_added}
use Rattle.overlay_relate.specs.Blocks.{plain_blocks}
use Rattle.overlay_sectors.specs.Blocks.{IsBlockOf}
use Rattle.overlay_located.proofs.ToldShapes.{paths_held, paths_refused}
use Rattle.overlay_located.proofs.exact_shape.ExactShape.new.Goals as goal

pub returns-in_err-add_paths : goal.returns-in_err-add_paths
returns-in_err-add_paths g c =
    let paths = g.R0.IntShapeResource.paths c.args.resource.now in
    let p = err_from_is_err_and c.from_residual-in_err-add_paths.result c.from_residual-in_err-add_paths.ensures.1 in
    rw (p.1, p.2) (record {
      ok = tt;
      err = paths_refused (paths_for Subject paths) (plain_held c.in_ok-core.core) (plain_held c.add_paths.new.self)
          (ap plain_held c.in_ok-core.ensures.empty) c.in_err-add_paths.field-0.0
          (contours_added false Subject boolean_counts Thinned c.passing.result refl
          (counts_pass_once Subject c.passing.result c.passing.ensures) paths
          c.in_ok-core.core c.add_paths.new.self (Err c.in_err-add_paths.field-0.0) c.in_err-add_paths.ensures);
    })

pub returns-clause-ok : goal.returns-clause-ok
returns-clause-ok g c =
    let paths = g.R0.IntShapeResource.paths c.args.resource.now in
    record {
      rule = refl;
      holds = paths_held (paths_for Subject paths) (plain_held c.in_ok-core.core) (plain_held c.add_paths.new.self)
          (ap plain_held c.in_ok-core.ensures.empty) c.in_ok-add_paths.field-0
          (contours_added false Subject boolean_counts Thinned c.passing.result refl
          (counts_pass_once Subject c.passing.result c.passing.ensures) paths
          c.in_ok-core.core c.add_paths.new.self (Ok c.in_ok-add_paths.field-0) c.in_ok-add_paths.ensures);
    }

pub invariant_of-result : goal.invariant_of-result
invariant_of-result g c =
    let whole = g.I.IntNumber.whole in
    record {
      blocks_of = subst (λ es. All (IsBlockOf es) (plain_blocks whole c.in_ok-blocks.blocks.items))
          (c.edges.ensures.plain ∙ ap edges_in c.content.ensures.edges) c.in_ok-blocks.ensures;
      groups_of = subst (λ es. All (IsBlockOf es) (plain_blocks whole c.in_ok-groups.groups.items))
          (c.edges-2.ensures.plain ∙ ap edges_in c.content-2.ensures.edges) c.in_ok-groups.ensures;
    }
