-- The law is proved in proofs/LowerEdges.antt.
use Rattle.overlay_plane.proofs.LowerEdges.{lower_at_is_under}
use Rattle.overlay_plane.proofs.binding.lower_at_is_under.Goals as goal

pub returns : goal.returns
returns c = lower_at_is_under
