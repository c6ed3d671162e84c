-- The law is proved in proofs/OneGrid.antt.
use Rattle.overlay_tiles.proofs.OneGrid.{one_grid}
use Rattle.overlay_tiles.proofs.only_tiles.one_grid.Goals as goal

pub returns : goal.returns
returns c = one_grid
