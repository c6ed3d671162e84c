-- No point is left out if the points are taken as they are.
use Rattle.std.proofs.Common.{refl}
use Rattle.std.proofs.lemmas.Result.{on_ok_weaker}
use Rattle.overlay_geom.specs.Points.{plain_points}
use Rattle.overlay_builder.specs.Paths.{passed_edge}
use Rattle.overlay_builder.specs.PathLists.{carried_weight}
use Rattle.overlay_builder.specs.declared.path.PathKind.TheVariants.{Open, Closed}
use Rattle.overlay_builder.proofs.TakenPaths.{given_added, given_too_heavy}
use Rattle.overlay_builder.proofs.path.add_path.Goals as goal

pub returns-in-Open-clause-ok : goal.returns-in-Open-clause-ok
returns-in-Open-clause-ok g c =
    on_ok_weaker c.add_given.result
    (given_added c.args.kind Open c.in-Open.is (passed_edge g.C.EdgeCount.counts c.args.passing)
    (plain_points g.I.IntNumber.whole c.args.points.now) c.args.content.now c.add_given.new.content refl)
    c.add_given.ensures.ok

pub returns-in-Open-clause-too_many : goal.returns-in-Open-clause-too_many
returns-in-Open-clause-too_many g c = λ same.
    given_too_heavy c.args.kind Open c.in-Open.is (passed_edge g.C.EdgeCount.counts c.args.passing)
    (plain_points g.I.IntNumber.whole c.args.points.now) c.args.content.now carried_weight refl
    (c.add_given.ensures.too_many same)

pub returns-in-Closed-clause-ok : goal.returns-in-Closed-clause-ok
returns-in-Closed-clause-ok g c =
    on_ok_weaker c.add_given-in-Closed.result
    (given_added c.args.kind Closed c.in-Closed.is (passed_edge g.C.EdgeCount.counts c.args.passing)
    (plain_points g.I.IntNumber.whole c.args.points.now) c.args.content.now c.add_given-in-Closed.new.content refl)
    c.add_given-in-Closed.ensures.ok

pub returns-in-Closed-clause-too_many : goal.returns-in-Closed-clause-too_many
returns-in-Closed-clause-too_many g c = λ same.
    given_too_heavy c.args.kind Closed c.in-Closed.is (passed_edge g.C.EdgeCount.counts c.args.passing)
    (plain_points g.I.IntNumber.whole c.args.points.now) c.args.content.now carried_weight refl
    (c.add_given-in-Closed.ensures.too_many same)
