-- The number is in one of the two lists, or the walk is past them.
use Rattle.std.proofs.Common.{rules}
use Rattle.overlay_extract.proofs.binding.sweep.shape_at.Goals as goal

pub returns-in-Some : goal.returns-in-Some
returns-in-Some c = search rules steps 100000

pub returns-in-None : goal.returns-in-None
returns-in-None c = search rules steps 100000

pub returns-else-walk-numbers : goal.returns-else-walk-numbers
returns-else-walk-numbers c = search rules steps 100000
