-- One round fewer is left after each cut.
use Rattle.overlay_arrange.proofs.content.Content.+split_since.Given as goal

abbrev pub decreases-split_since : goal.decreases-split_since
decreases-split_since g l = l.rounds
