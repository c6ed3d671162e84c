-- The new builder answers of the paths that were added to it.
use Rattle.std.proofs.Common.{◌≡◌, sym, ap, subst}
use Rattle.std.proofs.lemmas.Result.{err_from_is_err_and}
use Rattle.std.specs.Prelude.{IfOk, false}
use Rattle.overlay_geom.specs.Options.{AreOptions}
use Rattle.overlay_geom.specs.Paths.{plain_shapes}
use Rattle.overlay_builder.specs.GivenPaths.{subject_and_clip, added_paths}
use Rattle.overlay_builder.specs.PathLists.{HoldsPaths, MayRefuseBuilder}
use Rattle.overlay_extract.specs.Results.{IsResult}
use Rattle.i_overlay.specs.Builder.{held_by}
use Rattle.i_overlay.specs.OneShot.{asked_by_default}
use Rattle.i_overlay.proofs.OneShots.{asked_of_default, result_of_paths, query_refused, adding_refused}
use Rattle.i_overlay.proofs.single.AnySingleIntOverlay.overlay_with_solver.Goals as goal

pub returns-in_err-overlay-clause-err : goal.returns-in_err-overlay-clause-err
returns-in_err-overlay-clause-err g c =
    let paths = subject_and_clip (g.R0.IntShapeResource.paths c.args.self.now)
    (g.R1.IntShapeResource.paths c.args.other.now) in
    let p = err_from_is_err_and c.from_residual.result c.from_residual.ensures.1 in
    rw (p.1, p.2) (adding_refused c.args.solver paths c.in_err-overlay.field-0.0
    (subst (λ keep. MayRefuseBuilder (added_paths keep paths) c.in_err-overlay.field-0.0)
    c.default-options.ensures.input_kept c.in_err-overlay.ensures.err))

pub returns-clause-result : goal.returns-clause-result
returns-clause-result g c =
    let paths = subject_and_clip (g.R0.IntShapeResource.paths c.args.self.now)
    (g.R1.IntShapeResource.paths c.args.other.now) in
    let made = c.in_ok-overlay.ensures.made in
    let old = c.in_ok-overlay.overlay in
    let new = c.overlay.new.self in
    let natural = g.I.WideUInt.UIntNumber.natural in
    let holds : HoldsPaths (added_paths false paths) old.edges =
    subst (λ keep. HoldsPaths (added_paths keep paths) old.edges) c.default-options.ensures.input_kept
    c.in_ok-overlay.ensures.ok in
    let are : AreOptions natural false false false old.options =
    subst (λ o. AreOptions natural false false false o) (sym (ap (λ b. b.options) made)) c.default-options.ensures in
    result_of_paths c.args.solver (ap (λ b. b.solver) made) c.overlay.result
    (λ v. plain_shapes g.I.IntNumber.whole v.items)
    (asked_by_default g.I.Wide.WideIntNumber.width c.args.fill_rule c.args.overlay_rule) paths old.edges new.edges holds
    c.overlay.ensures.answers.query.arranged
    (subst (λ q. IfOk c.overlay.result (λ v. IsResult q new.edges (plain_shapes g.I.IntNumber.whole v.items)))
    (asked_of_default _ natural c.args.fill_rule c.args.overlay_rule old.options are)
    c.overlay.ensures.result)

pub returns-clause-err : goal.returns-clause-err
returns-clause-err g c =
    let paths = subject_and_clip (g.R0.IntShapeResource.paths c.args.self.now)
    (g.R1.IntShapeResource.paths c.args.other.now) in
    let made = c.in_ok-overlay.ensures.made in
    let old = c.in_ok-overlay.overlay in
    let holds : HoldsPaths (added_paths false paths) old.edges =
    subst (λ keep. HoldsPaths (added_paths keep paths) old.edges) c.default-options.ensures.input_kept
    c.in_ok-overlay.ensures.ok in
    query_refused c.args.solver (ap (λ b. b.solver) made) g.I.IntNumber.limit paths (held_by old)
    (held_by c.overlay.new.self) c.overlay.result holds (ap (λ b. b.failed) made) c.overlay.ensures.answers.query
