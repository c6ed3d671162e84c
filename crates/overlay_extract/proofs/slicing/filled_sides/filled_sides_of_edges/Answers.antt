-- The list of the filled sides has exactly the steps with a filled side on their left.
use Rattle.overlay_extract.proofs.SideLists.{filled_sides_of_edges}
use Rattle.overlay_extract.proofs.slicing.filled_sides.filled_sides_of_edges.Goals as goal

pub returns : goal.returns
returns c = filled_sides_of_edges
