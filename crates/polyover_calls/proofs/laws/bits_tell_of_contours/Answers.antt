-- The law is proved in proofs/RelatedContours.antt.
use Rattle.polyover_calls.proofs.RelatedContours.{bits_tell_of_contours}
use Rattle.polyover_calls.proofs.laws.bits_tell_of_contours.Goals as goal

pub returns : goal.returns
returns g c = bits_tell_of_contours g.I.IntNumber.whole g.I.IntNumber.limit
