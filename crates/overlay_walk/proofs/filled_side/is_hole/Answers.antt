-- The first step tells.
use Rattle.std.proofs.Common.{◌≡◌, ◌≤◌, ℤ, List, [], ◌∷◌, length, get_or, sym, ap, ◌∙◌, arith}
use Rattle.overlay_plane.specs.Binding.{is_hole}
use Rattle.overlay_plane.specs.Contours.{is_filled_above}
use Rattle.overlay_plane.specs.Turn.{Hand}
use Rattle.overlay_walk.specs.Steps.{plain_step, plain_steps, filled_hand}
use Rattle.overlay_walk.specs.declared.step.Step.{Step as StepTaken}
use Rattle.overlay_walk.proofs.filled_side.is_hole.Goals as goal

first_tells : {I : Type 0} (whole : I → ℤ) (filled : Hand) (ss : List (StepTaken I)) (s : StepTaken I) → 1 ≤ length ss
    → s ≡ get_or ss 0 s → is_hole filled (plain_steps whole ss) ≡ is_filled_above filled (plain_step whole s)
first_tells whole filled [] s some at = absurd (omega (arith, some))
first_tells whole filled (t ∷ ss) s some at = ap (λ u. is_filled_above filled (plain_step whole u)) (sym at)

pub returns-in-len1-up : goal.returns-in-len1-up
returns-in-len1-up g c =
    c.is_filled_above.ensures
    ∙ sym (first_tells g.I.IntNumber.whole (filled_hand c.args.direction) c.args.walk.now c.first-item.result
    c.in-len1-up.len_at_least c.first-item.is)
