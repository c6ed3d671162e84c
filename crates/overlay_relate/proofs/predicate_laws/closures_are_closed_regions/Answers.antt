-- The law is proved in proofs/Closures.antt.
use Rattle.overlay_relate.proofs.Closures.{closures_are_closed_regions}
use Rattle.overlay_relate.proofs.predicate_laws.closures_are_closed_regions.Goals as goal

pub returns : goal.returns
returns c = closures_are_closed_regions
