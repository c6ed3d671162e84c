-- Closed parts alternate.
use Rattle.overlay_plane.proofs.ClosedParts.{closed_parts_alternate}
use Rattle.overlay_plane.proofs.next_step.closed_parts_alternate.Goals as goal

pub returns : goal.returns
returns c = closed_parts_alternate
