-- The law is proved in proofs/EdgesTell.antt.
use Rattle.overlay_plane.proofs.EdgesTell.{edges_tell_predicates}
use Rattle.overlay_plane.proofs.predicates.edges_tell_predicates.Goals as goal

pub returns : goal.returns
returns c = edges_tell_predicates
