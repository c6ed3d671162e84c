-- Groups tell first, and then blocks.
use Rattle.overlay_sectors.proofs.blocks.passed_from.Goals as goal

pub returns-then-at-next : goal.returns-then-at-next
returns-then-at-next g c = λ es of. c.passed-next.ensures es of.groups_of

pub returns-else-at-next : goal.returns-else-at-next
returns-else-at-next g c = λ es of. c.passed.ensures es of.blocks_of
