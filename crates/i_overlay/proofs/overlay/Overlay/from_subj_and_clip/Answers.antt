-- Points on one line are dropped, as the default options say.
use Rattle.std.proofs.Common.{subst}
use Rattle.std.specs.Prelude.{IfOk, IfErr}
use Rattle.overlay_builder.specs.GivenPaths.{subject_and_clip, added_paths}
use Rattle.overlay_builder.specs.PathLists.{HoldsPaths, MayRefuseBuilder}
use Rattle.i_overlay.proofs.overlay.Overlay.from_subj_and_clip.Goals as goal

pub returns-clause-ok : goal.returns-clause-ok
returns-clause-ok g c =
    let paths = subject_and_clip (g.R0.IntShapeResource.paths c.args.subj.now)
    (g.R1.IntShapeResource.paths c.args.clip.now) in
    subst (λ keep. IfOk c.from_subj_and_clip_custom.result (λ o. HoldsPaths (added_paths keep paths) o.edges))
    c.default-options.ensures.input_kept
    c.from_subj_and_clip_custom.ensures.ok

pub returns-clause-err : goal.returns-clause-err
returns-clause-err g c =
    let paths = subject_and_clip (g.R0.IntShapeResource.paths c.args.subj.now)
    (g.R1.IntShapeResource.paths c.args.clip.now) in
    subst (λ keep. IfErr c.from_subj_and_clip_custom.result (MayRefuseBuilder (added_paths keep paths)))
    c.default-options.ensures.input_kept
    c.from_subj_and_clip_custom.ensures.err
