-- The one path is all that is added.
use Rattle.std.proofs.Common.{sym, subst}
use Rattle.overlay_geom.specs.Points.{plain_points}
use Rattle.overlay_geom.specs.declared.options.ShapeType.TheVariants.{Subject}
use Rattle.overlay_builder.specs.GivenPaths.{paths_for}
use Rattle.i_overlay.specs.Alone.{AnswersAlone}
use Rattle.i_overlay.specs.Builder.{held_by}
use Rattle.i_overlay.proofs.SimplifiedPaths.{the_one}
use Rattle.i_overlay.proofs.overlay.Overlay.simplify_source.Goals as goal

pub returns-then-takes_fast_path-clause-alone : goal.returns-then-takes_fast_path-clause-alone
returns-then-takes_fast_path-clause-alone g c =
    let paths = g.R0.IntShapeResource.paths c.args.resource.now in
    subst (λ all. AnswersAlone g.I.IntNumber.limit c.args.self.now.solver
    c.args.self.now.options.preserve_input_collinear
    (paths_for Subject all) (held_by c.simplify_path.new.self) c.simplify_path.result)
    (sym (the_one paths (plain_points g.I.IntNumber.whole c.path.result.now)
    (c.takes_fast_path.ensures.0 c.if-takes_fast_path.true).0 c.path.ensures))
    c.simplify_path.ensures.alone
