-- The law is proved in proofs/OneGrid.antt.
use Rattle.overlay_tiles.proofs.OneGrid.{one_tiling}
use Rattle.overlay_tiles.proofs.only_tiles.one_tiling.Goals as goal

pub returns : goal.returns
returns c = one_tiling
