-- The law is proved in proofs/AlongALine.antt.
use Rattle.overlay_scaled.proofs.AlongALine.{winding_along_a_line}
use Rattle.overlay_scaled.proofs.beside.winding_along_a_line.Goals as goal

pub returns : goal.returns
returns c = winding_along_a_line
