-- The bundle of 8 that begins there lies beside the edge.
use Rattle.std.proofs.Common.{◌<◌, ◌/◌, List, All, length, refl, sym, subst, arith}
use Rattle.overlay_order.specs.Content.{plain_edge}
use Rattle.overlay_pairs.specs.Bundles.{plain_bundle, plain_bundles, BeginsBeside, IsHeldBundle}
use Rattle.overlay_pairs.specs.Extents.{plain_extent, plain_extents}
use Rattle.overlay_pairs.proofs.BundlesBeside.{bundle_held, bundle_passed, lone_bundle}
use Rattle.overlay_pairs.proofs.beside.count_beside.Goals as goal

pub begins_beside-requires-clause-within : goal.begins_beside-requires-clause-within
begins_beside-requires-clause-within g c =
    let whole = g.I.IntNumber.whole in
    let e = plain_edge whole g.C.EdgeCount.counts c.args.e.now in
    let bundles = c.args.bundles.now in
    let some = c.requires.bundles in
    let d = lone_bundle e (plain_extent whole c.args.of) in
    subst (λ (xs : List _). c.args.at / 8 < length xs) (sym c.deref.ensures.value)
    (bundle_held (plain_extent whole) (plain_bundle whole) g.I.IntNumber.limit 8 some.0 bundles.edges.items
    bundles.of_8.items d c.args.at some.1.permutation some.1.by_8 c.requires.within)

pub begins_beside-requires-clause-held : goal.begins_beside-requires-clause-held
begins_beside-requires-clause-held g c =
    subst (λ (xs : List _). All (IsHeldBundle g.I.IntNumber.limit) (plain_bundles g.I.IntNumber.whole xs))
    (sym c.deref.ensures.value) c.requires.bundles.1.by_8.held

pub returns-then-begins_beside : goal.returns-then-begins_beside
returns-then-begins_beside g c es of =
    let whole = g.I.IntNumber.whole in
    let bundles = c.args.bundles.now in
    let e = plain_edge whole g.C.EdgeCount.counts c.args.e.now in
    let s = plain_extent whole c.args.of in
    bundle_passed g.I.IntNumber.limit 8 es (plain_extents whole bundles.edges.items)
    (plain_bundles whole bundles.of_8.items) of.permutation of.by_8 e s c.args.at (omega arith) of.es_held
    c.requires.one
    (subst (λ (xs : List _). BeginsBeside (plain_bundles whole xs) 8 e s c.args.at) c.deref.ensures.value
    (c.if-begins_beside.ensures refl))
