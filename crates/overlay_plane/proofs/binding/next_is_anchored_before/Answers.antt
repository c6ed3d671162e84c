-- The law is proved in proofs/NextAnchors.antt.
use Rattle.overlay_plane.proofs.NextAnchors.{next_is_anchored_before}
use Rattle.overlay_plane.proofs.binding.next_is_anchored_before.Goals as goal

pub returns : goal.returns
returns c = next_is_anchored_before
