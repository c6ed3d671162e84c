-- The lemma is the law.
use Rattle.overlay_extract.proofs.OrbitTours.{orbits_make_tours}
use Rattle.overlay_extract.proofs.slicing.laws.orbits_make_tours.Goals as goal

pub returns : goal.returns
returns c = orbits_make_tours
