-- The lemma is the law.
use Rattle.overlay_extract.proofs.BoundLoops.{loops_can_be_bound}
use Rattle.overlay_extract.proofs.slicing.laws.loops_can_be_bound.Goals as goal

pub returns : goal.returns
returns c = loops_can_be_bound
