-- The first walk tells.
use Rattle.std.proofs.Common.{Bool, List, All, sym, ap, ◌∙◌, subst}
use Rattle.overlay_geom.specs.Plane.{Step}
use Rattle.overlay_plane.specs.MinimumArea.{reaches}
use Rattle.overlay_walk.specs.Steps.{plain_steps, IsLong}
use Rattle.overlay_walk.proofs.GroupContours.{first_of_walks, first_tells}
use Rattle.overlay_walk.proofs.group_contours.first_reaches.Goals as goal

pub reaches-requires : goal.reaches-requires
reaches-requires g c =
    let whole = g.I.IntNumber.whole in
    subst (λ ss. All (IsLong g.I.IntNumber.limit) (plain_steps whole ss)) (sym c.deref.ensures.value)
    (first_of_walks whole (All (IsLong g.I.IntNumber.limit)) c.args.walks.now c.first-item.result
    c.in-len1-up.len_at_least c.first-item.is c.requires)

pub returns-in-len1-up : goal.returns-in-len1-up
returns-in-len1-up g c =
    let whole = g.I.IntNumber.whole in
    let keeps : List Step → Bool = λ w. reaches g.I.Wide.WideIntNumber.width
    (g.I.WideUInt.UIntNumber.natural c.args.min_output_area) w in
    c.reaches.ensures ∙ ap (λ ss. keeps (plain_steps whole ss)) c.deref.ensures.value
    ∙ sym (first_tells whole keeps c.args.walks.now c.first-item.result c.in-len1-up.len_at_least c.first-item.is)
