-- The law is proved in proofs/OneClip.antt.
use Rattle.overlay_string.proofs.OneClip.{one_clip}
use Rattle.overlay_string.proofs.only_clips.one_clip.Goals as goal

pub returns : goal.returns
returns c = one_clip
