-- Each step is long.
use Rattle.std.proofs.Common.{subst}
use Rattle.overlay_geom.proofs.Mapped.{All-mapped_at}
use Rattle.overlay_walk.specs.Steps.{plain_step, IsLong}
use Rattle.overlay_walk.proofs.top_first.PlacedSteps.step_at.Goals as goal

pub returns-then-place-self-clause-long : goal.returns-then-place-self-clause-long
returns-then-place-self-clause-long g c =
    let whole = g.I.IntNumber.whole in
    subst (λ (s : _). IsLong g.I.IntNumber.limit (plain_step whole s)) c.index-self-place.is
    (All-mapped_at (IsLong g.I.IntNumber.limit) (plain_step whole) c.args.self.now.steps.now c.args.place
    c.index-self-place.result c.if-place-self.true c.index-self-place.is c.args.self.now.steps_are_long)
