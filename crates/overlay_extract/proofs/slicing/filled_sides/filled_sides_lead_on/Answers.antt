-- By their hand filled sides lead on.
use Rattle.overlay_extract.proofs.NextSides.{filled_sides_lead_on}
use Rattle.overlay_extract.proofs.slicing.filled_sides.filled_sides_lead_on.Goals as goal

pub returns : goal.returns
returns c = filled_sides_lead_on
