-- The paths are all that is held, and then arranged; or one of the two is refused.
use Rattle.std.proofs.lemmas.Result.{err_from_is_err_and}
use Rattle.overlay_geom.specs.declared.options.ShapeType.TheVariants.{Subject}
use Rattle.overlay_builder.specs.GivenPaths.{paths_for}
use Rattle.overlay_builder.specs.Held.{plain_held}
use Rattle.overlay_plane.specs.Carried.{edges_in}
use Rattle.i_overlay.proofs.AddedAlone.{paths_held, paths_refused, query_refused, still_usable}
use Rattle.i_overlay.proofs.FarPaths.{arranged_alone}
use Rattle.i_overlay.proofs.simplifying.arranged_alone.add_and_arrange.Goals as goal

pub returns-in_err-add_paths-clause-err : goal.returns-in_err-add_paths-clause-err
returns-in_err-add_paths-clause-err g c =
    let p = err_from_is_err_and c.from_residual.result c.from_residual.ensures.1 in
    rw (p.1, p.2) (paths_refused c.args.keeps_points c.contour_kind-kind.result c.contour_kind-kind.ensures
    c.passing_without_data.result c.passing_without_data.ensures c.args.core.now c.requires.nothing
    (g.R0.IntShapeResource.paths c.args.resource.now) c.add_paths.new.self _ c.in_err-add_paths.ensures c.args.solver)

pub returns-in_err-arrange-clause-err : goal.returns-in_err-arrange-clause-err
returns-in_err-arrange-clause-err g c =
    let paths = g.R0.IntShapeResource.paths c.args.resource.now in
    let p = err_from_is_err_and c.from_residual-in_err-arrange.result c.from_residual-in_err-arrange.ensures.1 in
    rw (p.1, p.2) (query_refused c.args.keeps_points c.args.solver (paths_for Subject paths) g.I.IntNumber.limit
    (plain_held c.add_paths.new.self) (plain_held c.arrange.new.self) c.in_err-arrange.field-0.0
    (paths_held c.args.keeps_points c.contour_kind-kind.result c.contour_kind-kind.ensures
    c.passing_without_data.result c.passing_without_data.ensures c.args.core.now c.requires.nothing
    paths c.add_paths.new.self _ c.in_ok-add_paths.ensures)
    (still_usable c.args.keeps_points c.contour_kind-kind.result c.contour_kind-kind.ensures
    c.passing_without_data.result c.passing_without_data.ensures c.args.core.now c.requires.nothing
    paths c.add_paths.new.self _ c.in_ok-add_paths.ensures)
    c.in_err-arrange.ensures.query)

pub returns-clause-arranged : goal.returns-clause-arranged
returns-clause-arranged g c =
    arranged_alone c.args.keeps_points c.args.solver
    (paths_for Subject (g.R0.IntShapeResource.paths c.args.resource.now)) (edges_in c.add_paths.new.self.edges)
    (edges_in c.arrange.new.self.edges)
    (paths_held c.args.keeps_points c.contour_kind-kind.result c.contour_kind-kind.ensures
    c.passing_without_data.result c.passing_without_data.ensures c.args.core.now c.requires.nothing
    (g.R0.IntShapeResource.paths c.args.resource.now) c.add_paths.new.self _ c.in_ok-add_paths.ensures)
    c.in_ok-arrange.ensures.query.arranged
