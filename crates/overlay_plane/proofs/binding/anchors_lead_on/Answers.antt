-- The law is proved in proofs/AnchorsLeadOn.antt.
use Rattle.overlay_plane.proofs.AnchorsLeadOn.{anchors_lead_on}
use Rattle.overlay_plane.proofs.binding.anchors_lead_on.Goals as goal

pub returns : goal.returns
returns c = anchors_lead_on
