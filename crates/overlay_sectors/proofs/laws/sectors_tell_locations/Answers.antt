-- The law is proved in proofs/SectorsTell.antt.
use Rattle.overlay_sectors.proofs.SectorsTell.{sectors_tell}
use Rattle.overlay_sectors.proofs.laws.sectors_tell_locations.Goals as goal

pub returns : goal.returns
returns c = sectors_tell
