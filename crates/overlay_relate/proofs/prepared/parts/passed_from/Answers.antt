-- Blocks and groups tell of the edges of which they are.
use Rattle.overlay_relate.proofs.prepared.parts.passed_from.Goals as goal

pub returns-then-at-next : goal.returns-then-at-next
returns-then-at-next g c = λ es of. c.passed-next.ensures es of.long of.groups_of

pub returns-else-at-next : goal.returns-else-at-next
returns-else-at-next g c = λ es of. c.passed.ensures es of.long of.blocks_of
