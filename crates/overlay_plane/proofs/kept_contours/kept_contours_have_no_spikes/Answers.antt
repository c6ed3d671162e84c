-- The law is proved in proofs/NoSpikes.antt.
use Rattle.overlay_plane.proofs.NoSpikes.{kept_contours_have_no_spikes}
use Rattle.overlay_plane.proofs.kept_contours.kept_contours_have_no_spikes.Goals as goal

pub returns : goal.returns
returns c = kept_contours_have_no_spikes
