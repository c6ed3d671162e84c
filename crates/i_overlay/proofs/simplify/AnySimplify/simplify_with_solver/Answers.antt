-- The new builder answers of the paths that it holds alone.
use Rattle.std.proofs.Common.{subst}
use Rattle.std.specs.Prelude.{IfOk}
use Rattle.overlay_geom.specs.declared.overlay_rule.OverlayRule.TheVariants.{Subject}
use Rattle.overlay_geom.specs.Paths.{plain_shapes}
use Rattle.overlay_extract.specs.Results.{asked}
use Rattle.i_overlay.specs.Builder.{held_by}
use Rattle.i_overlay.specs.Simplified.{IsSimplifiedAlone}
use Rattle.i_overlay.proofs.FarPaths.{simplified_alone}
use Rattle.i_overlay.proofs.simplify.AnySimplify.simplify_with_solver.Goals as goal

pub returns-clause-result : goal.returns-clause-result
returns-clause-result g c =
    let old = c.in_ok-overlay.overlay in
    let e = c.simplify_source.ensures in
    let paths = g.R0.IntShapeResource.paths c.args.self.now in
    subst (λ b. IfOk c.simplify_source.result (λ v. IsSimplifiedAlone b.solver
    (asked g.I.Wide.WideIntNumber.width g.I.WideUInt.UIntNumber.natural c.args.fill_rule Subject b.options)
    b.options.preserve_input_collinear paths (plain_shapes g.I.IntNumber.whole v.items))) c.in_ok-overlay.ensures.ok
    (simplified_alone g.I.IntNumber.limit old.solver
    (asked g.I.Wide.WideIntNumber.width g.I.WideUInt.UIntNumber.natural c.args.fill_rule Subject old.options)
    old.options.preserve_input_collinear paths (held_by c.simplify_source.new.self) c.simplify_source.result
    (λ v. plain_shapes g.I.IntNumber.whole v.items) e.alone e.simplified)
