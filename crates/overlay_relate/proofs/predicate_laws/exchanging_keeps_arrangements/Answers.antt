-- The law is proved in proofs/ExchangedPaths.antt.
use Rattle.overlay_relate.proofs.ExchangedPaths.{exchanging_keeps_arrangements}
use Rattle.overlay_relate.proofs.predicate_laws.exchanging_keeps_arrangements.Goals as goal

pub returns : goal.returns
returns c = exchanging_keeps_arrangements
