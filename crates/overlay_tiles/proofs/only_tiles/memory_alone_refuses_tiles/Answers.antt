-- Tiles are slices, which memory alone refuses.
use Rattle.overlay_tiles.proofs.OneGrid.{tiled_paths_are_refused_by_memory_alone}
use Rattle.overlay_tiles.proofs.only_tiles.memory_alone_refuses_tiles.Goals as goal

pub returns : goal.returns
returns c = tiled_paths_are_refused_by_memory_alone c.memory_alone_refuses.ensures
