-- Each edge is as light as all.
use Rattle.std.proofs.Common.{arith}
use Rattle.overlay_parts.proofs.HeldWeight.{weight_so_far}
use Rattle.overlay_parts.proofs.parts.lone_parts.Goals as goal

pub lone_part-requires : goal.lone_part-requires
lone_part-requires g c =
    let bound = weight_so_far g.I.IntNumber.whole g.C.EdgeCount.counts c.args.edges.now c.loop-i.i
    c.index-edges-i.result (omega (arith, c.loop-i-test.true)) c.index-edges-i.is in
    omega (arith, bound, c.requires)
