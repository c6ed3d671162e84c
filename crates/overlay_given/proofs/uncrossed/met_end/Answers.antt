-- A further block, or the end of the list.
use Rattle.std.proofs.Common.{arith}
use Rattle.std.proofs.lemmas.List.{length-map}
use Rattle.std.proofs.Math.Nat.{div-add-mod}
use Rattle.overlay_order.specs.Content.{plain_edge}
use Rattle.overlay_given.proofs.uncrossed.met_end.Goals as goal

pub bounds-blocks-end : goal.bounds-blocks-end
bounds-blocks-end g c =
    let l = length-map c.args.edges.now (plain_edge g.I.IntNumber.whole g.C.EdgeCount.counts) in
    let less = c.loop-end-test.true in
    let enough = c.requires.blocks.enough in
    let parts = div-add-mod c.loop-end.end 8 in
    omega (arith, l, less, enough, parts)
