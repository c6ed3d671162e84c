-- All relations are told of one arrangement.
use Rattle.std.proofs.lemmas.Result.{err_from_is_err_and}
use Rattle.overlay_builder.specs.GivenPaths.{subject_and_clip}
use Rattle.overlay_geom.specs.Flat.{paths_in}
use Rattle.i_overlay.proofs.OneShots.{adding_refused}
use Rattle.i_overlay.proofs.ToldRelations.{made_under, covering_of_two, relations_or_refused}
use Rattle.polyover_calls.proofs.relate.relations_between.Goals as goal

pub returns-in_err-overlay : goal.returns-in_err-overlay
returns-in_err-overlay g c =
    let whole = g.I.IntNumber.whole in
    let paths = subject_and_clip (paths_in whole c.args.subject.now.points.items c.args.subject.now.ranges.items)
    (paths_in whole c.args.clip.now.points.items c.args.clip.now.ranges.items) in
    let e = err_from_is_err_and c.from_residual.result c.from_residual.ensures.1 in
    rw (e.1, e.2) (adding_refused c.args.solver paths _ c.in_err-overlay.ensures.err)

pub returns : goal.returns
returns g c =
    let whole = g.I.IntNumber.whole in
    let p = paths_in whole c.args.subject.now.points.items c.args.subject.now.ranges.items in
    let q = paths_in whole c.args.clip.now.points.items c.args.clip.now.ranges.items in
    let overlay = c.in_ok-overlay.overlay in
    let made = c.in_ok-overlay.ensures in
    relations_or_refused c.args.solver c.relations.result _ c.args.fill (subject_and_clip p q) (subject_and_clip q p)
    overlay c.relations.new.self (made_under c.args.fill _ (subject_and_clip p q) overlay made.ok made.made)
    (covering_of_two c.args.solver c.args.fill p q) c.relations.ensures
