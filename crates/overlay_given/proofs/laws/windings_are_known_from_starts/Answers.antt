-- Edges through the start are met there.
use Rattle.overlay_given.proofs.Winds.{winds_from_start}
use Rattle.overlay_given.proofs.laws.windings_are_known_from_starts.Goals as goal

pub returns : goal.returns
returns c es i e ms given balanced end place b sums = winds_from_start es i e ms given balanced end place b sums
