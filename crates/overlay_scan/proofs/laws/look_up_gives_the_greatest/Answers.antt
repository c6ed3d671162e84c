-- The law is proved in proofs/LastEntries.antt.
use Rattle.overlay_scan.proofs.LastEntries.{look_up_gives_the_greatest}
use Rattle.overlay_scan.proofs.laws.look_up_gives_the_greatest.Goals as goal

pub returns : goal.returns
returns g c = look_up_gives_the_greatest _
