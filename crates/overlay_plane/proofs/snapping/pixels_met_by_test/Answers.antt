-- The law is proved in proofs/MetPixels.antt.
use Rattle.overlay_plane.proofs.MetPixels.{pixels_met_by_test}
use Rattle.overlay_plane.proofs.snapping.pixels_met_by_test.Goals as goal

pub returns : goal.returns
returns c = pixels_met_by_test
