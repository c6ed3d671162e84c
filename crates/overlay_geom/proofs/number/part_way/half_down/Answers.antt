-- The quotient is rounded at the half.
use Rattle.overlay_geom.proofs.Divided.{half_down-more, half_down-kept}
use Rattle.overlay_geom.proofs.number.part_way.half_down.Goals as goal

pub returns-then-r-d : goal.returns-then-r-d
returns-then-r-d c = half_down-more c.args.q c.args.r c.args.d c.requires.rest c.if-r-d.true

pub returns-else-r-d : goal.returns-else-r-d
returns-else-r-d c = half_down-kept c.args.q c.args.r c.args.d c.requires.rest c.if-r-d.false
