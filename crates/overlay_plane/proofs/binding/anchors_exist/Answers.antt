-- The law is proved in proofs/Anchors.antt.
use Rattle.overlay_plane.proofs.Anchors.{anchors_exist}
use Rattle.overlay_plane.proofs.binding.anchors_exist.Goals as goal

pub returns : goal.returns
returns c = anchors_exist
