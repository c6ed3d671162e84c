-- The heights of the first block do not overlap with the edge's own, or the blocks that it may meet are tested.
use Rattle.std.proofs.Common.{◌/◌, sym, subst, ◌∙◌, arith}
use Rattle.std.proofs.lemmas.List.{length-map}
use Rattle.std.proofs.Math.Nat.{div-add-mod}
use Rattle.overlay_geom.specs.Edges.{ends_of}
use Rattle.overlay_order.specs.Content.{plain_edge}
use Rattle.overlay_given.specs.Heights.{LiesBetween}
use Rattle.overlay_given.specs.declared.heights.Heights.{Heights}
use Rattle.overlay_given.proofs.HeightBlocks.{uncrossed_apart}
use Rattle.overlay_given.proofs.uncrossed.uncrossed_end.Goals as goal

pub bounds-blocks-from : goal.bounds-blocks-from
bounds-blocks-from g c =
    let l = length-map c.args.edges.now (plain_edge g.I.IntNumber.whole g.C.EdgeCount.counts) in
    let within = c.requires.within in
    let enough = c.requires.blocks.enough in
    let parts = div-add-mod c.args.from 8 in
    omega (arith, l, within, enough, parts)

pub returns-then-not-meets-clause-none : goal.returns-then-not-meets-clause-none
returns-then-not-meets-clause-none g c = λ k f past less at_f.
    let whole = g.I.IntNumber.whole in
    let plain = plain_edge whole g.C.EdgeCount.counts in
    let block = c.index-blocks-from.result in
    let l = length-map c.args.edges.now plain in
    let within = c.requires.within in
    let enough = c.requires.blocks.enough in
    let up_to = c.block_end-end.ensures.block in
    let parts = div-add-mod c.args.from 8 in
    uncrossed_apart (ends_of (plain c.args.e.now)) (ends_of f) (whole c.args.own.low) (whole c.args.own.high)
    (whole block.low) (whole block.high) c.requires.own
    (subst (λ (h : Heights g.row.I.Denot). LiesBetween (ends_of f) (whole h.low) (whole h.high))
    (sym c.index-blocks-from.is)
    (c.requires.blocks.lie (c.args.from / 8) k block f (omega (arith, l, within, enough, parts))
    (omega (arith, past, parts)) (omega (arith, less, up_to)) at_f))
    (sym c.overlap-meets.ensures ∙ c.if-not-meets.true)

pub returns-then-crosses_some_of-clause-some : goal.returns-then-crosses_some_of-clause-some
returns-then-crosses_some_of-clause-some g c = λ is.
    let some = c.crosses_some_of.ensures.some c.if-crosses_some_of.true in
    let less = some.3 in
    let within = c.met_end-to.ensures.within in (
      some.0,
      some.1,
      some.2,
      omega (arith, less, within),
      some.4,
      some.5,
    )
