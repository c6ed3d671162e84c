-- One more step goes on from the point reached; without one the two points are the same.
use Rattle.std.proofs.Common.{◌≡◌, false, sym, ap, ◌∙◌, subst}
use Rattle.std.specs.Ordering.{is_eq}
use Rattle.std.proofs.lemmas.Bool.{both_ways}
use Rattle.std.proofs.lemmas.List.{map-append}
use Rattle.std.proofs.lemmas.List.Elements.{All-push}
use Rattle.overlay_geom.specs.Plane.{point_eq}
use Rattle.overlay_geom.specs.Points.{plain_point}
use Rattle.overlay_geom.proofs.Orders.{point_eq-same, point_eq-of_same}
use Rattle.overlay_geom.proofs.PointComparisons.{point_cmp-is_tie}
use Rattle.overlay_extract.specs.ClosedWalks.{HasLength, LeadsTo}
use Rattle.overlay_extract.proofs.ClosedWalks.{leads-push}
use Rattle.overlay_walk.specs.Steps.{plain_steps}
use Rattle.callers.proofs.closed_walks.push_step.Goals as goal

pub returns-then-is_eq-clause-leads : goal.returns-then-is_eq-clause-leads
returns-then-is_eq-clause-leads g c start leads =
    let whole = g.I.IntNumber.whole in
    let p = plain_point whole c.args.from in
    let q = plain_point whole c.args.to in
    subst (LeadsTo start (plain_steps whole c.args.walk.now.items))
    (point_eq-same p q (sym (point_cmp-is_tie p q) ∙ ap is_eq (sym c.compare_points.ensures) ∙ sym c.is_eq.ensures
    ∙ c.if-is_eq.true)) leads

pub returns-clause-leads : goal.returns-clause-leads
returns-clause-leads g c start leads =
    let whole = g.I.IntNumber.whole in
    rw (c.in_ok-push.ensures.items, map-append)
    (leads-push start (plain_steps whole c.args.walk.now.items)
    (record { from = plain_point whole c.args.from; to = plain_point whole c.args.to }) leads)

pub returns-clause-long : goal.returns-clause-long
returns-clause-long g c long =
    let whole = g.I.IntNumber.whole in
    let p = plain_point whole c.args.from in
    let q = plain_point whole c.args.to in
    let apart : point_eq p q ≡ false = sym (point_cmp-is_tie p q) ∙ ap is_eq (sym c.compare_points.ensures)
    ∙ sym c.is_eq.ensures ∙ c.if-is_eq.false in
    rw (c.in_ok-push.ensures.items, map-append)
    (All-push HasLength (plain_steps whole c.args.walk.now.items) (record { from = p; to = q }) long
    (λ same. both_ways (point_eq p q) apart (point_eq-of_same p q same)))
