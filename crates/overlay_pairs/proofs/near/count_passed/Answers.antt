-- The block of 8 that begins there lies apart, or the box at the place lies above, and so do the others of its strip.
use Rattle.std.proofs.Common.{◌<◌, ◌/◌, List, length, refl, sym, ◌∙◌, subst, arith}
use Rattle.overlay_geom.proofs.Comparisons.{Decides-int_lt}
use Rattle.overlay_pairs.specs.Extents.{plain_extent, plain_extents}
use Rattle.overlay_pairs.specs.Near.{BeginsApart}
use Rattle.overlay_pairs.proofs.ExtentBlocks.{block_held, block_passed}
use Rattle.overlay_pairs.proofs.Entries.{placed_in_mapped}
use Rattle.overlay_pairs.proofs.StripOrder.{rest_above_apart}
use Rattle.overlay_pairs.proofs.near.count_passed.Goals as goal

pub returns-then-is_wholly_below : goal.returns-then-is_wholly_below
returns-then-is_wholly_below g c =
    let plain = plain_extent g.I.IntNumber.whole in
    let strips = c.args.strips.now in
    rest_above_apart strips.width c.requires.some (plain_extents g.I.IntNumber.whole strips.edges.items)
    (plain c.args.of) c.requires.heights c.args.at (plain c.index.result.now)
    (placed_in_mapped plain strips.edges.items c.args.at c.index.result.now c.requires.within c.index.ensures)
    ((Decides-int_lt (g.I.IntNumber.whole c.args.of.high) (g.I.IntNumber.whole c.index.result.now.low)).0
    (sym c.is_wholly_below.ensures ∙ c.if-is_wholly_below.true))

pub begins_apart-requires-clause-within : goal.begins_apart-requires-clause-within
begins_apart-requires-clause-within g c =
    let strips = c.args.strips.now in
    subst (λ (xs : List _). c.args.at / 8 < length xs) (sym c.deref.ensures.value)
    (block_held (plain_extent g.I.IntNumber.whole) 8 c.args.at strips.edges.items strips.of_8.items
    c.requires.blocks.by_8 c.requires.within)

pub returns-then-begins_apart : goal.returns-then-begins_apart
returns-then-begins_apart g c =
    let plain = plain_extents g.I.IntNumber.whole in
    let strips = c.args.strips.now in
    let of = plain_extent g.I.IntNumber.whole c.args.of in
    block_passed 8 (plain strips.edges.items) (plain strips.of_8.items) of c.args.at (omega arith)
    c.requires.blocks.by_8
    (subst (λ (xs : List _). BeginsApart (plain xs) 8 of c.args.at)
    c.deref.ensures.value (c.if-begins_apart.ensures refl))
