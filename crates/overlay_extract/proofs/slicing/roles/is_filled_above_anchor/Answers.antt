-- The lowest step tells.
use Rattle.std.proofs.Common.{sym, subst}
use Rattle.overlay_extract.specs.Bound.{PassesAnchor}
use Rattle.overlay_extract.proofs.AnchorSteps.{lowest_passes}
use Rattle.overlay_walk.specs.Steps.{plain_step, plain_steps}
use Rattle.overlay_extract.proofs.slicing.roles.is_filled_above_anchor.Goals as goal

pub returns : goal.returns
returns g c =
    let whole = g.I.IntNumber.whole in
    let walk = plain_steps whole c.args.walk.now in
    subst (λ t. PassesAnchor t walk) (sym c.is_forward.ensures)
    (lowest_passes walk (plain_step whole c.lowest_step.result) c.lowest_step.ensures.among
    c.lowest_step.ensures.anchor)
