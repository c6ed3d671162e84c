-- A bundle that begins there lies beside the edge.
use Rattle.std.proofs.Common.{◌<◌, ◌/◌, List, All, length, refl, sym, subst, arith}
use Rattle.overlay_order.specs.Content.{plain_edge}
use Rattle.overlay_pairs.specs.Bundles.{plain_bundle, plain_bundles, BeginsBeside, IsHeldBundle}
use Rattle.overlay_pairs.specs.Extents.{plain_extent, plain_extents}
use Rattle.overlay_pairs.proofs.BundlesBeside.{bundle_held, bundle_passed, lone_bundle}
use Rattle.overlay_pairs.proofs.beside.count_beside_by_sizes.Goals as goal

pub begins_beside-requires-clause-within : goal.begins_beside-requires-clause-within
begins_beside-requires-clause-within g c =
    let whole = g.I.IntNumber.whole in
    let e = plain_edge whole g.C.EdgeCount.counts c.args.e.now in
    let bundles = c.args.bundles.now in
    let some = c.requires.bundles in
    let d = lone_bundle e (plain_extent whole c.args.of) in
    subst (λ (xs : List _). c.args.at / 32768 < length xs) (sym c.deref.ensures.value)
    (bundle_held (plain_extent whole) (plain_bundle whole) g.I.IntNumber.limit 32768 some.0 bundles.edges.items
    bundles.of_32768.items d c.args.at some.1.permutation some.1.by_32768 c.requires.within)

pub begins_beside-requires-clause-held : goal.begins_beside-requires-clause-held
begins_beside-requires-clause-held g c =
    subst (λ (xs : List _). All (IsHeldBundle g.I.IntNumber.limit) (plain_bundles g.I.IntNumber.whole xs))
    (sym c.deref.ensures.value) c.requires.bundles.1.by_32768.held

pub returns-then-begins_beside : goal.returns-then-begins_beside
returns-then-begins_beside g c es of =
    let whole = g.I.IntNumber.whole in
    let bundles = c.args.bundles.now in
    let e = plain_edge whole g.C.EdgeCount.counts c.args.e.now in
    let s = plain_extent whole c.args.of in
    bundle_passed g.I.IntNumber.limit 32768 es (plain_extents whole bundles.edges.items)
    (plain_bundles whole bundles.of_32768.items) of.permutation of.by_32768 e s c.args.at (omega arith) of.es_held
    c.requires.one
    (subst (λ (xs : List _). BeginsBeside (plain_bundles whole xs) 32768 e s c.args.at)
    c.deref.ensures.value
    (c.if-begins_beside.ensures refl))

pub begins_beside-requires-else-begins_beside-clause-within :
    goal.begins_beside-requires-else-begins_beside-clause-within
begins_beside-requires-else-begins_beside-clause-within g c =
    let whole = g.I.IntNumber.whole in
    let e = plain_edge whole g.C.EdgeCount.counts c.args.e.now in
    let bundles = c.args.bundles.now in
    let some = c.requires.bundles in
    let d = lone_bundle e (plain_extent whole c.args.of) in
    subst (λ (xs : List _). c.args.at / 4096 < length xs) (sym c.deref-else-begins_beside.ensures.value)
    (bundle_held (plain_extent whole) (plain_bundle whole) g.I.IntNumber.limit 4096 some.0 bundles.edges.items
    bundles.of_4096.items d c.args.at some.1.permutation some.1.by_4096 c.requires.within)

pub begins_beside-requires-else-begins_beside-clause-held : goal.begins_beside-requires-else-begins_beside-clause-held
begins_beside-requires-else-begins_beside-clause-held g c =
    subst (λ (xs : List _). All (IsHeldBundle g.I.IntNumber.limit) (plain_bundles g.I.IntNumber.whole xs))
    (sym c.deref-else-begins_beside.ensures.value) c.requires.bundles.1.by_4096.held

pub returns-then-begins_beside-2 : goal.returns-then-begins_beside-2
returns-then-begins_beside-2 g c es of =
    let whole = g.I.IntNumber.whole in
    let bundles = c.args.bundles.now in
    let e = plain_edge whole g.C.EdgeCount.counts c.args.e.now in
    let s = plain_extent whole c.args.of in
    bundle_passed g.I.IntNumber.limit 4096 es (plain_extents whole bundles.edges.items)
    (plain_bundles whole bundles.of_4096.items) of.permutation of.by_4096 e s c.args.at (omega arith) of.es_held
    c.requires.one
    (subst (λ (xs : List _). BeginsBeside (plain_bundles whole xs) 4096 e s c.args.at)
    c.deref-else-begins_beside.ensures.value
    (c.if-begins_beside-2.ensures refl))

pub begins_beside-requires-else-begins_beside-2-clause-within :
    goal.begins_beside-requires-else-begins_beside-2-clause-within
begins_beside-requires-else-begins_beside-2-clause-within g c =
    let whole = g.I.IntNumber.whole in
    let e = plain_edge whole g.C.EdgeCount.counts c.args.e.now in
    let bundles = c.args.bundles.now in
    let some = c.requires.bundles in
    let d = lone_bundle e (plain_extent whole c.args.of) in
    subst (λ (xs : List _). c.args.at / 512 < length xs) (sym c.deref-else-begins_beside-2.ensures.value)
    (bundle_held (plain_extent whole) (plain_bundle whole) g.I.IntNumber.limit 512 some.0 bundles.edges.items
    bundles.of_512.items d c.args.at some.1.permutation some.1.by_512 c.requires.within)

pub begins_beside-requires-else-begins_beside-2-clause-held :
    goal.begins_beside-requires-else-begins_beside-2-clause-held
begins_beside-requires-else-begins_beside-2-clause-held g c =
    subst (λ (xs : List _). All (IsHeldBundle g.I.IntNumber.limit) (plain_bundles g.I.IntNumber.whole xs))
    (sym c.deref-else-begins_beside-2.ensures.value) c.requires.bundles.1.by_512.held

pub returns-then-begins_beside-3 : goal.returns-then-begins_beside-3
returns-then-begins_beside-3 g c es of =
    let whole = g.I.IntNumber.whole in
    let bundles = c.args.bundles.now in
    let e = plain_edge whole g.C.EdgeCount.counts c.args.e.now in
    let s = plain_extent whole c.args.of in
    bundle_passed g.I.IntNumber.limit 512 es (plain_extents whole bundles.edges.items)
    (plain_bundles whole bundles.of_512.items) of.permutation of.by_512 e s c.args.at (omega arith) of.es_held
    c.requires.one
    (subst (λ (xs : List _). BeginsBeside (plain_bundles whole xs) 512 e s c.args.at)
    c.deref-else-begins_beside-2.ensures.value
    (c.if-begins_beside-3.ensures refl))

pub begins_beside-requires-else-begins_beside-3-clause-within :
    goal.begins_beside-requires-else-begins_beside-3-clause-within
begins_beside-requires-else-begins_beside-3-clause-within g c =
    let whole = g.I.IntNumber.whole in
    let e = plain_edge whole g.C.EdgeCount.counts c.args.e.now in
    let bundles = c.args.bundles.now in
    let some = c.requires.bundles in
    let d = lone_bundle e (plain_extent whole c.args.of) in
    subst (λ (xs : List _). c.args.at / 64 < length xs) (sym c.deref-else-begins_beside-3.ensures.value)
    (bundle_held (plain_extent whole) (plain_bundle whole) g.I.IntNumber.limit 64 some.0 bundles.edges.items
    bundles.of_64.items d c.args.at some.1.permutation some.1.by_64 c.requires.within)

pub begins_beside-requires-else-begins_beside-3-clause-held :
    goal.begins_beside-requires-else-begins_beside-3-clause-held
begins_beside-requires-else-begins_beside-3-clause-held g c =
    subst (λ (xs : List _). All (IsHeldBundle g.I.IntNumber.limit) (plain_bundles g.I.IntNumber.whole xs))
    (sym c.deref-else-begins_beside-3.ensures.value) c.requires.bundles.1.by_64.held

pub returns-then-begins_beside-4 : goal.returns-then-begins_beside-4
returns-then-begins_beside-4 g c es of =
    let whole = g.I.IntNumber.whole in
    let bundles = c.args.bundles.now in
    let e = plain_edge whole g.C.EdgeCount.counts c.args.e.now in
    let s = plain_extent whole c.args.of in
    bundle_passed g.I.IntNumber.limit 64 es (plain_extents whole bundles.edges.items)
    (plain_bundles whole bundles.of_64.items) of.permutation of.by_64 e s c.args.at (omega arith) of.es_held
    c.requires.one
    (subst (λ (xs : List _). BeginsBeside (plain_bundles whole xs) 64 e s c.args.at)
    c.deref-else-begins_beside-3.ensures.value
    (c.if-begins_beside-4.ensures refl))

pub begins_beside-requires-else-begins_beside-4-clause-within :
    goal.begins_beside-requires-else-begins_beside-4-clause-within
begins_beside-requires-else-begins_beside-4-clause-within g c =
    let whole = g.I.IntNumber.whole in
    let e = plain_edge whole g.C.EdgeCount.counts c.args.e.now in
    let bundles = c.args.bundles.now in
    let some = c.requires.bundles in
    let d = lone_bundle e (plain_extent whole c.args.of) in
    subst (λ (xs : List _). c.args.at / 8 < length xs) (sym c.deref-else-begins_beside-4.ensures.value)
    (bundle_held (plain_extent whole) (plain_bundle whole) g.I.IntNumber.limit 8 some.0 bundles.edges.items
    bundles.of_8.items d c.args.at some.1.permutation some.1.by_8 c.requires.within)

pub begins_beside-requires-else-begins_beside-4-clause-held :
    goal.begins_beside-requires-else-begins_beside-4-clause-held
begins_beside-requires-else-begins_beside-4-clause-held g c =
    subst (λ (xs : List _). All (IsHeldBundle g.I.IntNumber.limit) (plain_bundles g.I.IntNumber.whole xs))
    (sym c.deref-else-begins_beside-4.ensures.value) c.requires.bundles.1.by_8.held

pub returns-then-begins_beside-5 : goal.returns-then-begins_beside-5
returns-then-begins_beside-5 g c es of =
    let whole = g.I.IntNumber.whole in
    let bundles = c.args.bundles.now in
    let e = plain_edge whole g.C.EdgeCount.counts c.args.e.now in
    let s = plain_extent whole c.args.of in
    bundle_passed g.I.IntNumber.limit 8 es (plain_extents whole bundles.edges.items)
    (plain_bundles whole bundles.of_8.items) of.permutation of.by_8 e s c.args.at (omega arith) of.es_held
    c.requires.one
    (subst (λ (xs : List _). BeginsBeside (plain_bundles whole xs) 8 e s c.args.at)
    c.deref-else-begins_beside-4.ensures.value
    (c.if-begins_beside-5.ensures refl))
