-- Each plain point has its sides in the list.
use Rattle.overlay_given.proofs.ToldRelations.{interiors_told}
use Rattle.overlay_given.proofs.laws.sides_tell_interiors.Goals as goal

pub returns : goal.returns
returns c filled content es none forward balanced merged sides are f found = interiors_told filled content es none
    forward balanced merged sides are f found
