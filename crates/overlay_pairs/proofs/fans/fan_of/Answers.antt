-- Both extreme edges are the edge itself.
use Rattle.overlay_order.specs.Content.{plain_edge}
use Rattle.overlay_pairs.proofs.EdgeFans.{own_fan}
use Rattle.overlay_pairs.proofs.fans.fan_of.Goals as goal

pub returns-clause-holds : goal.returns-clause-holds
returns-clause-holds g c = own_fan g.I.IntNumber.limit
    (plain_edge g.I.IntNumber.whole g.C.EdgeCount.counts c.args.e.now) c.requires.one
