-- The next walk is one of the walks.
use Rattle.std.proofs.Common.{◌++◌, All, sym, ap, subst, ◌∙◌}
use Rattle.overlay_walk.specs.Steps.{plain_steps, IsLong}
use Rattle.overlay_walk.proofs.WalksRead.{walk_among}
use Rattle.overlay_walk.proofs.area.large_walks.Goals as goal

pub reaches-requires : goal.reaches-requires
reaches-requires g c =
    let whole = g.I.IntNumber.whole in
    subst (λ ss. All (IsLong g.I.IntNumber.limit) (plain_steps whole ss)) (sym c.deref.ensures.value)
    (walk_among whole c.args.walks.items c.loop-walk.yielded c.in-Some.walk _
    (c.loop-walk.invariant.2 ∙ ap (λ rest. c.loop-walk.yielded ++ rest) c.in-Some.ensures.steps.0)
    (All (IsLong g.I.IntNumber.limit)) c.requires)
