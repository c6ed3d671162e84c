-- The place and its remainder tell where its block begins.
use Rattle.std.proofs.Common.{arith}
use Rattle.std.proofs.Math.Nat.{div-add-mod, mod-lt}
use Rattle.overlay_given.proofs.heights.block_end.Goals as goal

pub returns-clause-behind : goal.returns-clause-behind
returns-clause-behind c =
    let rest = mod-lt c.args.place {m = 8} (omega arith) in
    c.on_by.ensures.on c.requires (omega (arith, rest))

pub returns-clause-block : goal.returns-clause-block
returns-clause-block c =
    let whole = div-add-mod c.args.place 8 in
    let rest = mod-lt c.args.place {m = 8} (omega arith) in
    let further = c.on_by.ensures.no_further in
    omega (arith, whole, rest, further)
