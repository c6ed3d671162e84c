-- A point was left out where there are fewer.
use Rattle.std.proofs.Common.{◌≡◌, length, sym, arith}
use Rattle.std.proofs.lemmas.List.{length-map}
use Rattle.overlay_geom.specs.Points.{plain_point, plain_points}
use Rattle.overlay_builder.proofs.LeftOut.{left_out}
use Rattle.overlay_builder.proofs.path.add_thinned.Goals as goal

pub returns-clause-left_out : goal.returns-clause-left_out
returns-clause-left_out g c =
    let at = plain_point g.I.IntNumber.whole in
    let few : c.len.result ≡ length (plain_points g.I.IntNumber.whole c.in_ok-bent.bent.items) =
    omega (arith, c.len.ensures, c.in_ok-bent.bent.ok.0, length-map c.in_ok-bent.bent.items at) in
    left_out c.len.result (length c.args.points.now) (plain_points g.I.IntNumber.whole c.args.points.now)
    (plain_points g.I.IntNumber.whole c.in_ok-bent.bent.items) few (sym (length-map c.args.points.now at))
    c.in_ok-bent.ensures.ok
