-- A loop passes no side whose reverse lies in the same orbit.
use Rattle.overlay_extract.proofs.SimpleLoops.{loops_pass_no_side_both_ways}
use Rattle.overlay_extract.proofs.slicing.filled_sides.loops_pass_no_side_both_ways.Goals as goal

pub returns : goal.returns
returns c = loops_pass_no_side_both_ways
