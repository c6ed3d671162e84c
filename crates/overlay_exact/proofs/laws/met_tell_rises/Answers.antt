-- Edges through the place that do not run along the edge have their meeting points with it there.
use Rattle.overlay_exact.proofs.MetRises.{rises_told}
use Rattle.overlay_exact.proofs.laws.met_tell_rises.Goals as goal

pub returns : goal.returns
returns c count es i e ms from end p given place = rises_told es i e ms given from end p place count
