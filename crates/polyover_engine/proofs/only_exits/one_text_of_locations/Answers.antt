-- The law is proved in proofs/OneExit.antt.
use Rattle.polyover_engine.proofs.OneExit.{one_text_of_locations}
use Rattle.polyover_engine.proofs.only_exits.one_text_of_locations.Goals as goal

pub returns : goal.returns
returns c = one_text_of_locations
