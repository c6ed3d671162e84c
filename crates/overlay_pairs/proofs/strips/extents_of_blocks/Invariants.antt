-- The blocks so far cover the boxes so far.
use Rattle.overlay_pairs.specs.Extents.{plain_extents}
use Rattle.overlay_pairs.proofs.ExtentBlocks.{AreBlocksUpTo}
use Rattle.overlay_pairs.proofs.strips.extents_of_blocks.Given as goal

abbrev pub invariant-loop-i : goal.invariant-loop-i
invariant-loop-i g l = AreBlocksUpTo (plain_extents g.I.IntNumber.whole l.extents)
    (plain_extents g.I.IntNumber.whole l.blocks.items) l.i
