-- The next one of a side leads back to it by the other hand.
use Rattle.overlay_extract.proofs.NextSides.{next_sides_lead_back}
use Rattle.overlay_extract.proofs.slicing.filled_sides.next_sides_lead_back.Goals as goal

pub returns : goal.returns
returns c = next_sides_lead_back
