-- The places are those of later edges.
use Rattle.std.proofs.Common.{get_or, arith}
use Rattle.overlay_geom.proofs.Mapped.{All-mapped_at}
use Rattle.overlay_order.specs.Content.{plain_edge, IsHeld}
use Rattle.overlay_given.proofs.NearTests.{near_at}
use Rattle.overlay_given.proofs.uncrossed.meets_some.Goals as goal

pub offset_bounds-edges-j : goal.offset_bounds-edges-j
offset_bounds-edges-j g c =
    let later = near_at g.I.IntNumber.whole g.C.EdgeCount.counts c.args.edges.now c.args.i c.args.near.now
    c.requires.within c.requires.near c.loop-k.k c.loop-k-test.true in
    let less = later.1 in
    omega (arith, less)

pub bounds-edges-j : goal.bounds-edges-j
bounds-edges-j g c =
    let later = near_at g.I.IntNumber.whole g.C.EdgeCount.counts c.args.edges.now c.args.i c.args.near.now
    c.requires.within c.requires.near c.loop-k.k c.loop-k-test.true in
    later.1

pub meet_in_ends-requires-clause-one : goal.meet_in_ends-requires-clause-one
meet_in_ends-requires-clause-one g c =
    All-mapped_at (IsHeld g.I.IntNumber.limit) (plain_edge g.I.IntNumber.whole g.C.EdgeCount.counts) c.args.edges.now
    c.args.i c.index-edges-i.result c.requires.within c.index-edges-i.is c.requires.held

pub meet_in_ends-requires-clause-other : goal.meet_in_ends-requires-clause-other
meet_in_ends-requires-clause-other g c =
    let later = near_at g.I.IntNumber.whole g.C.EdgeCount.counts c.args.edges.now c.args.i c.args.near.now
    c.requires.within c.requires.near c.loop-k.k c.loop-k-test.true in
    All-mapped_at (IsHeld g.I.IntNumber.limit) (plain_edge g.I.IntNumber.whole g.C.EdgeCount.counts) c.args.edges.now
    (get_or c.args.near.now c.loop-k.k 0) c.index-edges-j.result later.1 c.index-edges-j.is c.requires.held
