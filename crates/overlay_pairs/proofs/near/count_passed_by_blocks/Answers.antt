-- A block that begins there lies apart, so all in it do. If the box at the place lies above, so do the others of its
-- strip.
use Rattle.std.proofs.Common.{◌<◌, ◌/◌, List, length, refl, sym, ◌∙◌, subst, arith}
use Rattle.overlay_geom.proofs.Comparisons.{Decides-int_lt}
use Rattle.overlay_pairs.specs.Extents.{plain_extent, plain_extents}
use Rattle.overlay_pairs.specs.Near.{BeginsApart}
use Rattle.overlay_pairs.proofs.ExtentBlocks.{block_held, block_passed}
use Rattle.overlay_pairs.proofs.Entries.{placed_in_mapped}
use Rattle.overlay_pairs.proofs.StripOrder.{rest_above_apart}
use Rattle.overlay_pairs.proofs.near.count_passed_by_blocks.Goals as goal

pub begins_apart-requires-clause-within :
    goal.begins_apart-requires-clause-within
begins_apart-requires-clause-within g c =
    let strips = c.args.strips.now in
    subst (λ (xs : List _). c.args.at / 32768 < length xs) (sym c.deref.ensures.value)
    (block_held (plain_extent g.I.IntNumber.whole) 32768 c.args.at strips.edges.items strips.of_32768.items
    c.requires.blocks.by_32768 c.requires.within)

pub returns-then-begins_apart : goal.returns-then-begins_apart
returns-then-begins_apart g c =
    let plain = plain_extents g.I.IntNumber.whole in
    let strips = c.args.strips.now in
    let of = plain_extent g.I.IntNumber.whole c.args.of in
    block_passed 32768 (plain strips.edges.items) (plain strips.of_32768.items) of c.args.at (omega arith)
    c.requires.blocks.by_32768
    (subst (λ (xs : List _). BeginsApart (plain xs) 32768 of c.args.at)
    c.deref.ensures.value (c.if-begins_apart.ensures refl))

pub begins_apart-requires-else-begins_apart-clause-within :
    goal.begins_apart-requires-else-begins_apart-clause-within
begins_apart-requires-else-begins_apart-clause-within g c =
    let strips = c.args.strips.now in
    subst (λ (xs : List _). c.args.at / 4096 < length xs) (sym c.deref-else-begins_apart.ensures.value)
    (block_held (plain_extent g.I.IntNumber.whole) 4096 c.args.at strips.edges.items strips.of_4096.items
    c.requires.blocks.by_4096 c.requires.within)

pub returns-then-begins_apart-2 : goal.returns-then-begins_apart-2
returns-then-begins_apart-2 g c =
    let plain = plain_extents g.I.IntNumber.whole in
    let strips = c.args.strips.now in
    let of = plain_extent g.I.IntNumber.whole c.args.of in
    block_passed 4096 (plain strips.edges.items) (plain strips.of_4096.items) of c.args.at (omega arith)
    c.requires.blocks.by_4096
    (subst (λ (xs : List _). BeginsApart (plain xs) 4096 of c.args.at)
    c.deref-else-begins_apart.ensures.value (c.if-begins_apart-2.ensures refl))

pub begins_apart-requires-else-begins_apart-2-clause-within :
    goal.begins_apart-requires-else-begins_apart-2-clause-within
begins_apart-requires-else-begins_apart-2-clause-within g c =
    let strips = c.args.strips.now in
    subst (λ (xs : List _). c.args.at / 512 < length xs) (sym c.deref-else-begins_apart-2.ensures.value)
    (block_held (plain_extent g.I.IntNumber.whole) 512 c.args.at strips.edges.items strips.of_512.items
    c.requires.blocks.by_512 c.requires.within)

pub returns-then-begins_apart-3 : goal.returns-then-begins_apart-3
returns-then-begins_apart-3 g c =
    let plain = plain_extents g.I.IntNumber.whole in
    let strips = c.args.strips.now in
    let of = plain_extent g.I.IntNumber.whole c.args.of in
    block_passed 512 (plain strips.edges.items) (plain strips.of_512.items) of c.args.at (omega arith)
    c.requires.blocks.by_512
    (subst (λ (xs : List _). BeginsApart (plain xs) 512 of c.args.at)
    c.deref-else-begins_apart-2.ensures.value (c.if-begins_apart-3.ensures refl))

pub returns-then-is_wholly_below : goal.returns-then-is_wholly_below
returns-then-is_wholly_below g c =
    let plain = plain_extent g.I.IntNumber.whole in
    let strips = c.args.strips.now in
    rest_above_apart strips.width c.requires.some (plain_extents g.I.IntNumber.whole strips.edges.items)
    (plain c.args.of) c.requires.heights c.args.at (plain c.index.result.now)
    (placed_in_mapped plain strips.edges.items c.args.at c.index.result.now c.requires.within c.index.ensures)
    ((Decides-int_lt (g.I.IntNumber.whole c.args.of.high) (g.I.IntNumber.whole c.index.result.now.low)).0
    (sym c.is_wholly_below.ensures ∙ c.if-is_wholly_below.true))

pub begins_apart-requires-else-is_wholly_below-clause-within :
    goal.begins_apart-requires-else-is_wholly_below-clause-within
begins_apart-requires-else-is_wholly_below-clause-within g c =
    let strips = c.args.strips.now in
    subst (λ (xs : List _). c.args.at / 64 < length xs) (sym c.deref-else-is_wholly_below.ensures.value)
    (block_held (plain_extent g.I.IntNumber.whole) 64 c.args.at strips.edges.items strips.of_64.items
    c.requires.blocks.by_64 c.requires.within)

pub returns-then-begins_apart-4 : goal.returns-then-begins_apart-4
returns-then-begins_apart-4 g c =
    let plain = plain_extents g.I.IntNumber.whole in
    let strips = c.args.strips.now in
    let of = plain_extent g.I.IntNumber.whole c.args.of in
    block_passed 64 (plain strips.edges.items) (plain strips.of_64.items) of c.args.at (omega arith)
    c.requires.blocks.by_64
    (subst (λ (xs : List _). BeginsApart (plain xs) 64 of c.args.at)
    c.deref-else-is_wholly_below.ensures.value (c.if-begins_apart-4.ensures refl))

pub begins_apart-requires-else-begins_apart-4-clause-within :
    goal.begins_apart-requires-else-begins_apart-4-clause-within
begins_apart-requires-else-begins_apart-4-clause-within g c =
    let strips = c.args.strips.now in
    subst (λ (xs : List _). c.args.at / 8 < length xs) (sym c.deref-else-begins_apart-4.ensures.value)
    (block_held (plain_extent g.I.IntNumber.whole) 8 c.args.at strips.edges.items strips.of_8.items
    c.requires.blocks.by_8 c.requires.within)

pub returns-then-begins_apart-5 : goal.returns-then-begins_apart-5
returns-then-begins_apart-5 g c =
    let plain = plain_extents g.I.IntNumber.whole in
    let strips = c.args.strips.now in
    let of = plain_extent g.I.IntNumber.whole c.args.of in
    block_passed 8 (plain strips.edges.items) (plain strips.of_8.items) of c.args.at (omega arith)
    c.requires.blocks.by_8
    (subst (λ (xs : List _). BeginsApart (plain xs) 8 of c.args.at)
    c.deref-else-begins_apart-4.ensures.value (c.if-begins_apart-5.ensures refl))
