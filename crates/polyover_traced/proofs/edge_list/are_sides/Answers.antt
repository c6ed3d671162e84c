-- One side more stands for something, and all of them.
use Rattle.std.proofs.Common.{◌<◌, refl, subst, arith}
use Rattle.std.proofs.lemmas.List.{take_all}
use Rattle.std.proofs.lemmas.List.Elements.{All-more}
use Rattle.polyover_traced.specs.EdgeLists.{AreSides}
use Rattle.polyover_traced.proofs.edge_list.are_sides.Goals as goal

pub loop-side-preserved : goal.loop-side-preserved
loop-side-preserved c = All-more (λ s. s < 2) c.args.sides.now c.loop-side.side-index 0 c.loop-side-test.true
    c.loop-side.invariant (Prim.omega (arith, c.if-side-gt1.false))

pub returns : goal.returns
returns c = (
  λ _. subst AreSides (take_all c.loop-side.side-index c.args.sides.now c.loop-side-test.false) c.loop-side.invariant,
  λ _. refl,
)
