-- Each edge of the chain is over the point.
use Rattle.std.proofs.Common.{◌<◌, ◌+◌, ◌-◌, ◌/◌, length, rules}
use Rattle.overlay_geom.specs.Points.{plain_point}
use Rattle.overlay_located.specs.Chains.{plain_link}
use Rattle.overlay_located.proofs.ChainsTell.{over_at}
use Rattle.overlay_located.proofs.chain.place_over.Goals as goal

pub height_over-requires-clause-from : goal.height_over-requires-clause-from
height_over-requires-clause-from g c =
    let middle = c.loop-low.low + (c.loop-low.high - c.loop-low.low) / 2 in
    let lt : c.loop-low.low + (c.loop-low.high - c.loop-low.low) / 2 < length c.args.chain.now = search rules in
    (over_at (plain_link g.I.IntNumber.whole g.C.EdgeCount.counts) (plain_point g.I.IntNumber.whole c.args.p)
    c.args.chain.now middle c.index-chain-middle.result lt c.requires.over).from

pub height_over-requires-clause-to : goal.height_over-requires-clause-to
height_over-requires-clause-to g c =
    let middle = c.loop-low.low + (c.loop-low.high - c.loop-low.low) / 2 in
    let lt : c.loop-low.low + (c.loop-low.high - c.loop-low.low) / 2 < length c.args.chain.now = search rules in
    (over_at (plain_link g.I.IntNumber.whole g.C.EdgeCount.counts) (plain_point g.I.IntNumber.whole c.args.p)
    c.args.chain.now middle c.index-chain-middle.result lt c.requires.over).to

pub height_over-requires-clause-wide : goal.height_over-requires-clause-wide
height_over-requires-clause-wide g c =
    let middle = c.loop-low.low + (c.loop-low.high - c.loop-low.low) / 2 in
    let lt : c.loop-low.low + (c.loop-low.high - c.loop-low.low) / 2 < length c.args.chain.now = search rules in
    (over_at (plain_link g.I.IntNumber.whole g.C.EdgeCount.counts) (plain_point g.I.IntNumber.whole c.args.p)
    c.args.chain.now middle c.index-chain-middle.result lt c.requires.over).wide
