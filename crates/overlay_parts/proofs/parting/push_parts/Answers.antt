-- One edge is a part of itself; else the parts of the edges follow.
use Rattle.std.proofs.Common.{arith}
use Rattle.overlay_geom.specs.Edges.{weight}
use Rattle.overlay_order.specs.Content.{plain_edges}
use Rattle.overlay_parts.specs.Stores.IsStoreReached.{unwritten}
use Rattle.overlay_parts.proofs.EdgesByLines.{lone_held, lone_parted, more_held, more_parted}
use Rattle.overlay_parts.proofs.parting.push_parts.Goals as goal

pub returns-in_err-push-clause-store : goal.returns-in_err-push-clause-store
returns-in_err-push-clause-store g c = unwritten _

pub returns-then-edges-eq1-clause-parted : goal.returns-then-edges-eq1-clause-parted
returns-then-edges-eq1-clause-parted g c =
    lone_parted g.I.IntNumber.whole g.C.EdgeCount.counts c.args.parts.now.items c.push.new.self.items
    g.C.EdgeCount.merges c.lone_part.result c.args.edges.now c.index-edges-0.result c.if-edges-eq1.true
    c.index-edges-0.is c.in_ok-push.ensures.items c.lone_part.ensures

pub returns-then-edges-eq1-clause-held : goal.returns-then-edges-eq1-clause-held
returns-then-edges-eq1-clause-held g c =
    lone_held g.I.IntNumber.whole g.C.EdgeCount.counts c.args.parts.now.items c.push.new.self.items
    g.I.IntNumber.limit c.lone_part.result c.args.edges.now c.index-edges-0.result c.if-edges-eq1.true
    c.index-edges-0.is c.in_ok-push.ensures.items c.lone_part.ensures c.requires.held

pub returns-then-edges-eq1-clause-store : goal.returns-then-edges-eq1-clause-store
returns-then-edges-eq1-clause-store g c = unwritten _

pub returns-clause-parted : goal.returns-clause-parted
returns-clause-parted g c =
    more_parted g.I.IntNumber.whole g.C.EdgeCount.counts c.args.parts.now.items c.loop-i.parts.items
    c.in_ok-more.more.items c.loop-i.i c.loop-i.invariant (omega (arith, c.loop-i-test.false)) g.C.EdgeCount.merges
    c.args.edges.now c.in_ok-more.ensures.parted

pub returns-clause-held : goal.returns-clause-held
returns-clause-held g c =
    more_held g.I.IntNumber.whole g.C.EdgeCount.counts c.args.parts.now.items c.loop-i.parts.items
    c.in_ok-more.more.items c.loop-i.i c.loop-i.invariant (omega (arith, c.loop-i-test.false)) g.I.IntNumber.limit
    (weight (plain_edges g.I.IntNumber.whole g.C.EdgeCount.counts c.args.edges.now)) c.requires.line.0
    (c.in_ok-more.ensures.on c.requires.line.0 c.requires.line.1)
