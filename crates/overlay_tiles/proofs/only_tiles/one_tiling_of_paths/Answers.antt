-- Tiles are slices, and slices are one.
use Rattle.overlay_tiles.proofs.OneGrid.{one_tiling_of_paths}
use Rattle.overlay_tiles.proofs.only_tiles.one_tiling_of_paths.Goals as goal

pub returns : goal.returns
returns c = one_tiling_of_paths c.one_answer.ensures.slices
