-- The lemma is the law.
use Rattle.overlay_extract.proofs.ToursCut.{tours_make_loops}
use Rattle.overlay_extract.proofs.slicing.laws.tours_make_loops.Goals as goal

pub returns : goal.returns
returns c = tours_make_loops
