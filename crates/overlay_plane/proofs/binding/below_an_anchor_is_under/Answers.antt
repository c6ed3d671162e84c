-- The law is proved in proofs/BelowAnchors.antt.
use Rattle.overlay_plane.proofs.BelowAnchors.{below_an_anchor_is_under}
use Rattle.overlay_plane.proofs.binding.below_an_anchor_is_under.Goals as goal

pub returns : goal.returns
returns c = below_an_anchor_is_under
