-- The new builder answers of the paths that were added to it.
use Rattle.overlay_builder.specs.GivenPaths.{subject_and_clip}
use Rattle.overlay_geom.specs.Flat.{paths_in}
use Rattle.polyover_exact.proofs.Told.{told_of_held}
use Rattle.polyover_exact.proofs.relate.relations_between.Goals as goal

pub returns : goal.returns
returns g c =
    let whole = g.I.IntNumber.whole in
    let p = paths_in whole c.args.subject.now.points.items c.args.subject.now.ranges.items in
    let q = paths_in whole c.args.clip.now.points.items c.args.clip.now.ranges.items in
    let made = c.in_ok-predicates.ensures in
    told_of_held c.args.fill (subject_and_clip p q) c.in_ok-predicates.predicates c.relations.result made.ok made.made
    c.relations.ensures
