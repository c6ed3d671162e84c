-- In a balanced list the ends at a place cancel, so the left side tells of the winding above.
use Rattle.overlay_given.proofs.Winds.{winds_past}
use Rattle.overlay_given.proofs.laws.windings_are_known_past_places.Goals as goal

pub returns : goal.returns
returns c es i e ms given balanced l next before from end place old sum new winds rises is =
    winds_past es i e ms given balanced l next before from end place old sum new winds rises is
