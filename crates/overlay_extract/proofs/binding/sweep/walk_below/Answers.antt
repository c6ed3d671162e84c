-- The conditions of the look-up are those given here.
use Rattle.overlay_scan.proofs.LinesFit.{line_fits}
use Rattle.overlay_extract.proofs.binding.sweep.walk_below.Goals as goal

pub first_less-requires : goal.first_less-requires
first_less-requires g c = (
  line_fits _ _ g.met.I.IntNumber.small.align_bound g.met.I.IntNumber.small.size_bound,
  (c.requires.state, (c.requires.moves, (c.requires.asked, c.requires.meets))),
)

pub returns : goal.returns
returns g c = record {
  value = c.first_less.ensures.value;
  content = c.first_less.ensures.content;
  state = c.first_less.ensures.state;
}
