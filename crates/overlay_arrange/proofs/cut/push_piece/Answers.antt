-- The piece lies between points in range, and weighs as much as its edge.
use Rattle.std.proofs.Common.{arith}
use Rattle.overlay_geom.specs.Points.{plain_point}
use Rattle.overlay_order.specs.Content.{plain_edge}
use Rattle.overlay_arrange.proofs.Pieces.{step_held, step_weighs}
use Rattle.overlay_arrange.proofs.cut.push_piece.Goals as goal

pub push-requires-clause-held : goal.push-requires-clause-held
push-requires-clause-held g c =
    let plain = plain_edge g.I.IntNumber.whole g.C.EdgeCount.counts in
    let at = plain_point g.I.IntNumber.whole in
    step_held g.I.IntNumber.limit (plain c.args.cut.now.e) (plain c.in-Some.piece) (at c.args.from)
    (at c.args.to) c.requires.from c.requires.to c.in-Some.ensures.counts

pub push-requires-clause-light : goal.push-requires-clause-light
push-requires-clause-light g c =
    let plain = plain_edge g.I.IntNumber.whole g.C.EdgeCount.counts in
    let at = plain_point g.I.IntNumber.whole in
    let same = step_weighs (plain c.args.cut.now.e) (plain c.in-Some.piece) (at c.args.from)
    (at c.args.to) c.in-Some.ensures.counts in
    omega (arith, same, c.requires.light)
