-- A fan that begins there lies beside the edge.
use Rattle.std.proofs.Common.{◌<◌, ◌/◌, List, All, length, refl, sym, subst, arith}
use Rattle.overlay_order.specs.Content.{plain_edge}
use Rattle.overlay_pairs.specs.Bundles.{plain_fan, plain_fans, BeginsFan, IsHeldFan}
use Rattle.overlay_pairs.proofs.FansBeside.{fan_held, fan_passed, lone_fan}
use Rattle.overlay_pairs.proofs.fans.count_round_by_sizes.Goals as goal

pub begins_fan-requires-clause-within : goal.begins_fan-requires-clause-within
begins_fan-requires-clause-within g c =
    let whole = g.I.IntNumber.whole in
    let e = plain_edge whole g.C.EdgeCount.counts c.args.e.now in
    let fans = c.args.fans.now in
    let some = c.requires.fans in
    subst (λ (xs : List _). c.args.at / 32768 < length xs) (sym c.deref.ensures.value)
    (fan_held (plain_fan whole) g.I.IntNumber.limit 32768 some.0 some.1
    fans.of_32768.items (lone_fan e) c.args.at some.2.permutation some.2.by_32768 some.3)

pub begins_fan-requires-clause-held : goal.begins_fan-requires-clause-held
begins_fan-requires-clause-held g c =
    subst (λ (xs : List _). All (IsHeldFan g.I.IntNumber.limit) (plain_fans g.I.IntNumber.whole xs))
    (sym c.deref.ensures.value) c.requires.fans.2.by_32768.held

pub returns-then-begins_fan : goal.returns-then-begins_fan
returns-then-begins_fan g c es ss s of =
    let whole = g.I.IntNumber.whole in
    let fans = c.args.fans.now in
    let e = plain_edge whole g.C.EdgeCount.counts c.args.e.now in
    fan_passed g.I.IntNumber.limit 32768 es ss
    (plain_fans whole fans.of_32768.items) of.permutation of.by_32768 e s c.args.at (omega arith) of.es_held
    c.requires.one
    (subst (λ (xs : List _). BeginsFan (plain_fans whole xs) 32768 e c.args.at)
    c.deref.ensures.value
    (c.if-begins_fan.ensures refl))

pub begins_fan-requires-else-begins_fan-clause-within :
    goal.begins_fan-requires-else-begins_fan-clause-within
begins_fan-requires-else-begins_fan-clause-within g c =
    let whole = g.I.IntNumber.whole in
    let e = plain_edge whole g.C.EdgeCount.counts c.args.e.now in
    let fans = c.args.fans.now in
    let some = c.requires.fans in
    subst (λ (xs : List _). c.args.at / 4096 < length xs) (sym c.deref-else-begins_fan.ensures.value)
    (fan_held (plain_fan whole) g.I.IntNumber.limit 4096 some.0 some.1
    fans.of_4096.items (lone_fan e) c.args.at some.2.permutation some.2.by_4096 some.3)

pub begins_fan-requires-else-begins_fan-clause-held : goal.begins_fan-requires-else-begins_fan-clause-held
begins_fan-requires-else-begins_fan-clause-held g c =
    subst (λ (xs : List _). All (IsHeldFan g.I.IntNumber.limit) (plain_fans g.I.IntNumber.whole xs))
    (sym c.deref-else-begins_fan.ensures.value) c.requires.fans.2.by_4096.held

pub returns-then-begins_fan-2 : goal.returns-then-begins_fan-2
returns-then-begins_fan-2 g c es ss s of =
    let whole = g.I.IntNumber.whole in
    let fans = c.args.fans.now in
    let e = plain_edge whole g.C.EdgeCount.counts c.args.e.now in
    fan_passed g.I.IntNumber.limit 4096 es ss
    (plain_fans whole fans.of_4096.items) of.permutation of.by_4096 e s c.args.at (omega arith) of.es_held
    c.requires.one
    (subst (λ (xs : List _). BeginsFan (plain_fans whole xs) 4096 e c.args.at)
    c.deref-else-begins_fan.ensures.value
    (c.if-begins_fan-2.ensures refl))

pub begins_fan-requires-else-begins_fan-2-clause-within :
    goal.begins_fan-requires-else-begins_fan-2-clause-within
begins_fan-requires-else-begins_fan-2-clause-within g c =
    let whole = g.I.IntNumber.whole in
    let e = plain_edge whole g.C.EdgeCount.counts c.args.e.now in
    let fans = c.args.fans.now in
    let some = c.requires.fans in
    subst (λ (xs : List _). c.args.at / 512 < length xs) (sym c.deref-else-begins_fan-2.ensures.value)
    (fan_held (plain_fan whole) g.I.IntNumber.limit 512 some.0 some.1
    fans.of_512.items (lone_fan e) c.args.at some.2.permutation some.2.by_512 some.3)

pub begins_fan-requires-else-begins_fan-2-clause-held :
    goal.begins_fan-requires-else-begins_fan-2-clause-held
begins_fan-requires-else-begins_fan-2-clause-held g c =
    subst (λ (xs : List _). All (IsHeldFan g.I.IntNumber.limit) (plain_fans g.I.IntNumber.whole xs))
    (sym c.deref-else-begins_fan-2.ensures.value) c.requires.fans.2.by_512.held

pub returns-then-begins_fan-3 : goal.returns-then-begins_fan-3
returns-then-begins_fan-3 g c es ss s of =
    let whole = g.I.IntNumber.whole in
    let fans = c.args.fans.now in
    let e = plain_edge whole g.C.EdgeCount.counts c.args.e.now in
    fan_passed g.I.IntNumber.limit 512 es ss
    (plain_fans whole fans.of_512.items) of.permutation of.by_512 e s c.args.at (omega arith) of.es_held
    c.requires.one
    (subst (λ (xs : List _). BeginsFan (plain_fans whole xs) 512 e c.args.at)
    c.deref-else-begins_fan-2.ensures.value
    (c.if-begins_fan-3.ensures refl))

pub begins_fan-requires-else-begins_fan-3-clause-within :
    goal.begins_fan-requires-else-begins_fan-3-clause-within
begins_fan-requires-else-begins_fan-3-clause-within g c =
    let whole = g.I.IntNumber.whole in
    let e = plain_edge whole g.C.EdgeCount.counts c.args.e.now in
    let fans = c.args.fans.now in
    let some = c.requires.fans in
    subst (λ (xs : List _). c.args.at / 64 < length xs) (sym c.deref-else-begins_fan-3.ensures.value)
    (fan_held (plain_fan whole) g.I.IntNumber.limit 64 some.0 some.1
    fans.of_64.items (lone_fan e) c.args.at some.2.permutation some.2.by_64 some.3)

pub begins_fan-requires-else-begins_fan-3-clause-held :
    goal.begins_fan-requires-else-begins_fan-3-clause-held
begins_fan-requires-else-begins_fan-3-clause-held g c =
    subst (λ (xs : List _). All (IsHeldFan g.I.IntNumber.limit) (plain_fans g.I.IntNumber.whole xs))
    (sym c.deref-else-begins_fan-3.ensures.value) c.requires.fans.2.by_64.held

pub returns-then-begins_fan-4 : goal.returns-then-begins_fan-4
returns-then-begins_fan-4 g c es ss s of =
    let whole = g.I.IntNumber.whole in
    let fans = c.args.fans.now in
    let e = plain_edge whole g.C.EdgeCount.counts c.args.e.now in
    fan_passed g.I.IntNumber.limit 64 es ss
    (plain_fans whole fans.of_64.items) of.permutation of.by_64 e s c.args.at (omega arith) of.es_held
    c.requires.one
    (subst (λ (xs : List _). BeginsFan (plain_fans whole xs) 64 e c.args.at)
    c.deref-else-begins_fan-3.ensures.value
    (c.if-begins_fan-4.ensures refl))

pub begins_fan-requires-else-begins_fan-4-clause-within :
    goal.begins_fan-requires-else-begins_fan-4-clause-within
begins_fan-requires-else-begins_fan-4-clause-within g c =
    let whole = g.I.IntNumber.whole in
    let e = plain_edge whole g.C.EdgeCount.counts c.args.e.now in
    let fans = c.args.fans.now in
    let some = c.requires.fans in
    subst (λ (xs : List _). c.args.at / 8 < length xs) (sym c.deref-else-begins_fan-4.ensures.value)
    (fan_held (plain_fan whole) g.I.IntNumber.limit 8 some.0 some.1
    fans.of_8.items (lone_fan e) c.args.at some.2.permutation some.2.by_8 some.3)

pub begins_fan-requires-else-begins_fan-4-clause-held :
    goal.begins_fan-requires-else-begins_fan-4-clause-held
begins_fan-requires-else-begins_fan-4-clause-held g c =
    subst (λ (xs : List _). All (IsHeldFan g.I.IntNumber.limit) (plain_fans g.I.IntNumber.whole xs))
    (sym c.deref-else-begins_fan-4.ensures.value) c.requires.fans.2.by_8.held

pub returns-then-begins_fan-5 : goal.returns-then-begins_fan-5
returns-then-begins_fan-5 g c es ss s of =
    let whole = g.I.IntNumber.whole in
    let fans = c.args.fans.now in
    let e = plain_edge whole g.C.EdgeCount.counts c.args.e.now in
    fan_passed g.I.IntNumber.limit 8 es ss
    (plain_fans whole fans.of_8.items) of.permutation of.by_8 e s c.args.at (omega arith) of.es_held
    c.requires.one
    (subst (λ (xs : List _). BeginsFan (plain_fans whole xs) 8 e c.args.at)
    c.deref-else-begins_fan-4.ensures.value
    (c.if-begins_fan-5.ensures refl))
