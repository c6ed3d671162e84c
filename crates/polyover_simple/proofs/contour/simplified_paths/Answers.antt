-- One path is simplified as a contour, and others as a source, by a new builder.
use Rattle.std.proofs.Common.{◌≡◌, ◌==◌, Bool, [], ◌∷◌, length, sym, ap, subst, ◌∙◌}
use Rattle.std.specs.Prelude.{IfOk, IfErr}
use Rattle.overlay_builder.specs.GivenPaths.{paths_for}
use Rattle.overlay_extract.specs.Results.{asked}
use Rattle.overlay_geom.specs.Paths.{plain_shapes}
use Rattle.overlay_geom.specs.Points.{plain_points}
use Rattle.overlay_geom.specs.declared.options.ShapeType.TheVariants.{Subject}
use Rattle.overlay_geom.specs.declared.overlay_rule.OverlayRule.TheVariants as rule
use Rattle.i_overlay.specs.Alone.{MayRefuseAlone}
use Rattle.i_overlay.proofs.SimplifiedPaths.{the_one}
use Rattle.polyover_simple.specs.Simplified.{AreSimplifiedSo}
use Rattle.polyover_simple.proofs.Simplified.{source_simplified_so}
use Rattle.polyover_simple.proofs.contour.simplified_paths.Goals as goal

pub returns-then-path_count-eq1-clause-simplified : goal.returns-then-path_count-eq1-clause-simplified
returns-then-path_count-eq1-clause-simplified g c =
    let whole = g.I.IntNumber.whole in
    let paths = g.R0.IntShapeResource.paths c.args.paths.now in
    let one = the_one paths (plain_points whole c.path.result.now)
    (sym c.path_count.ensures ∙ c.if-path_count-eq1.true) c.path.ensures in
    subst (λ all. IfOk c.simplified_contour.result (λ s. AreSimplifiedSo c.args.solver
    (asked g.I.Wide.WideIntNumber.width g.I.WideUInt.UIntNumber.natural c.args.fill rule.Subject c.args.options)
    c.args.options.preserve_input_collinear all (plain_shapes whole s.shapes.items) s.as_given)) (sym one)
    (rw c.in_ok-overlay.ensures.ok at c.simplified_contour.ensures.simplified)

pub returns-then-path_count-eq1-clause-err : goal.returns-then-path_count-eq1-clause-err
returns-then-path_count-eq1-clause-err g c =
    let whole = g.I.IntNumber.whole in
    let paths = g.R0.IntShapeResource.paths c.args.paths.now in
    let one = the_one paths (plain_points whole c.path.result.now)
    (sym c.path_count.ensures ∙ c.if-path_count-eq1.true) c.path.ensures in
    subst (λ all. IfErr c.simplified_contour.result (MayRefuseAlone c.args.options.preserve_input_collinear
    c.args.solver (paths_for Subject all))) (sym one)
    (rw c.in_ok-overlay.ensures.ok at c.simplified_contour.ensures.err)

pub returns-clause-simplified : goal.returns-clause-simplified
returns-clause-simplified g c =
    let whole = g.I.IntNumber.whole in
    let paths = g.R0.IntShapeResource.paths c.args.paths.now in
    let e = rw c.in_ok-overlay.ensures.ok at c.in_ok-shapes.ensures in
    source_simplified_so c.args.solver
    (asked g.I.Wide.WideIntNumber.width g.I.WideUInt.UIntNumber.natural c.args.fill rule.Subject c.args.options)
    c.args.options.preserve_input_collinear paths c.simplify_source.new.self.edges e.alone.arranged
    (plain_shapes whole c.in_ok-shapes.shapes.items)
    (λ is. c.if-path_count-eq1.false (c.path_count.ensures ∙ is)) e.simplified
