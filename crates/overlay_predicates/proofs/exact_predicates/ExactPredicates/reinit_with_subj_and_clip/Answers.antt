-- The paths of the clip are added after those of the subject.
use Rattle.std.proofs.lemmas.Result.{err_from_is_err_and}
use Rattle.overlay_geom.specs.declared.options.ShapeType.TheVariants.{Subject, Clip}
use Rattle.overlay_builder.specs.GivenPaths.{paths_for}
use Rattle.overlay_predicates.proofs.ExactBuilders.{first_source_refused, both_sources}
use Rattle.overlay_predicates.proofs.exact_predicates.ExactPredicates.reinit_with_subj_and_clip.Goals as goal

pub returns-in_err-reinit_with_subj : goal.returns-in_err-reinit_with_subj
returns-in_err-reinit_with_subj g c =
    let subj = paths_for Subject (g.R0.IntShapeResource.paths c.args.subj.now) in
    let clip = paths_for Clip (g.R1.IntShapeResource.paths c.args.clip.now) in
    let p = err_from_is_err_and c.from_residual.result c.from_residual.ensures.1 in
    rw (p.1, p.2) (first_source_refused subj clip _ _ c.in_err-reinit_with_subj.field-0.0
    c.in_err-reinit_with_subj.ensures)

pub returns : goal.returns
returns g c =
    both_sources (paths_for Subject (g.R0.IntShapeResource.paths c.args.subj.now))
    (paths_for Clip (g.R1.IntShapeResource.paths c.args.clip.now)) _ _ _
    c.in_ok-reinit_with_subj.field-0 c.in_ok-reinit_with_subj.ensures c.add_source.result c.add_source.ensures
