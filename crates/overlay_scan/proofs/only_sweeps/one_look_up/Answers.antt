-- Both values are the one that the answers tell.
use Rattle.std.proofs.Common.{sym, ◌∙◌}
use Rattle.overlay_scan.proofs.only_sweeps.one_look_up.Goals as goal

pub returns : goal.returns
returns g c = λ default fs answer answered rise first second a b. a answer answered rise ∙ sym (b answer answered rise)
