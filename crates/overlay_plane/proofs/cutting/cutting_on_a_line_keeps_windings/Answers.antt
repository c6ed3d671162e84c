-- The law is proved in proofs/CutOnLines.antt.
use Rattle.overlay_plane.proofs.CutOnLines.{cutting_on_a_line_keeps_windings}
use Rattle.overlay_plane.proofs.cutting.cutting_on_a_line_keeps_windings.Goals as goal

pub returns : goal.returns
returns c = cutting_on_a_line_keeps_windings
