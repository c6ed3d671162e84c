-- Each end that the edges still share is one of the edge.
use Rattle.overlay_order.specs.Content.{plain_edge}
use Rattle.overlay_pairs.specs.Bundles.{plain_fan}
use Rattle.overlay_pairs.proofs.EdgeFans.{narrowed_held, narrowed_holds, narrowed_keeps}
use Rattle.overlay_pairs.proofs.fans.fan_round.Goals as goal

pub returns-clause-held : goal.returns-clause-held
returns-clause-held g c =
    let whole = g.I.IntNumber.whole in
    let e = plain_edge whole g.C.EdgeCount.counts c.args.e.now in
    let turned = plain_fan whole c.turned_to-turned.result in
    let old = plain_fan whole c.args.fan.now in
    let at_a = c.stays_at-is_at_a in
    let at_b = c.stays_at-is_at_b in
    narrowed_held g.I.IntNumber.limit old turned at_a.result at_b.result e c.turned_to-turned.ensures.held

pub returns-clause-holds : goal.returns-clause-holds
returns-clause-holds g c =
    let whole = g.I.IntNumber.whole in
    let e = plain_edge whole g.C.EdgeCount.counts c.args.e.now in
    let turned = plain_fan whole c.turned_to-turned.result in
    let old = plain_fan whole c.args.fan.now in
    let at_a = c.stays_at-is_at_a in
    let at_b = c.stays_at-is_at_b in
    narrowed_holds g.I.IntNumber.limit old turned at_a.result at_b.result e c.turned_to-turned.ensures.inside
    at_a.ensures.ends at_b.ensures.ends

pub returns-clause-keeps : goal.returns-clause-keeps
returns-clause-keeps g c =
    let whole = g.I.IntNumber.whole in
    let e = plain_edge whole g.C.EdgeCount.counts c.args.e.now in
    let turned = plain_fan whole c.turned_to-turned.result in
    let old = plain_fan whole c.args.fan.now in
    let at_a = c.stays_at-is_at_a in
    let at_b = c.stays_at-is_at_b in
    narrowed_keeps g.I.IntNumber.limit old turned at_a.result at_b.result e at_a.ensures.before
    at_b.ensures.before c.turned_to-turned.ensures.keeps
