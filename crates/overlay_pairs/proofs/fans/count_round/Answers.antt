-- The fan of 8 that begins there lies beside the edge.
use Rattle.std.proofs.Common.{◌<◌, ◌/◌, List, All, length, refl, sym, subst, arith}
use Rattle.overlay_order.specs.Content.{plain_edge}
use Rattle.overlay_pairs.specs.Bundles.{plain_fan, plain_fans, BeginsFan, IsHeldFan}
use Rattle.overlay_pairs.proofs.FansBeside.{fan_held, fan_passed, lone_fan}
use Rattle.overlay_pairs.proofs.fans.count_round.Goals as goal

pub begins_fan-requires-clause-within : goal.begins_fan-requires-clause-within
begins_fan-requires-clause-within g c =
    let whole = g.I.IntNumber.whole in
    let e = plain_edge whole g.C.EdgeCount.counts c.args.e.now in
    let fans = c.args.fans.now in
    let some = c.requires.fans in
    subst (λ (xs : List _). c.args.at / 8 < length xs) (sym c.deref.ensures.value)
    (fan_held (plain_fan whole) g.I.IntNumber.limit 8 some.0 some.1
    fans.of_8.items (lone_fan e) c.args.at some.2.permutation some.2.by_8 some.3)

pub begins_fan-requires-clause-held : goal.begins_fan-requires-clause-held
begins_fan-requires-clause-held g c =
    subst (λ (xs : List _). All (IsHeldFan g.I.IntNumber.limit) (plain_fans g.I.IntNumber.whole xs))
    (sym c.deref.ensures.value) c.requires.fans.2.by_8.held

pub returns-then-begins_fan : goal.returns-then-begins_fan
returns-then-begins_fan g c es ss s of =
    let whole = g.I.IntNumber.whole in
    let fans = c.args.fans.now in
    let e = plain_edge whole g.C.EdgeCount.counts c.args.e.now in
    fan_passed g.I.IntNumber.limit 8 es ss
    (plain_fans whole fans.of_8.items) of.permutation of.by_8 e s c.args.at (omega arith) of.es_held
    c.requires.one
    (subst (λ (xs : List _). BeginsFan (plain_fans whole xs) 8 e c.args.at) c.deref.ensures.value
    (c.if-begins_fan.ensures refl))
