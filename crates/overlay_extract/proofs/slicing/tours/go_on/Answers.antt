-- The tour goes on, or comes back to its start.
use Rattle.std.proofs.Common.{sym, ap, ◌∙◌}
use Rattle.std.specs.Ordering.{is_eq}
use Rattle.std.proofs.lemmas.Bool.{both_ways}
use Rattle.std.proofs.lemmas.List.{map-append}
use Rattle.overlay_geom.specs.Plane.{point_eq}
use Rattle.overlay_geom.specs.Points.{plain_point}
use Rattle.overlay_geom.proofs.Orders.{point_eq-same, point_eq-of_same}
use Rattle.overlay_geom.proofs.PointComparisons.{point_cmp-is_tie}
use Rattle.overlay_extract.proofs.TourParts.{start_goes_on, start_comes_back}
use Rattle.overlay_extract.proofs.TourSplits.{tour_goes_on, tour_comes_back}
use Rattle.overlay_walk.specs.Steps.{plain_step, plain_steps}
use Rattle.overlay_walk.specs.Walks.{plain_walks}
use Rattle.overlay_extract.proofs.slicing.tours.go_on.Goals as goal

pub returns-then-not-is_eq-clause-on : goal.returns-then-not-is_eq-clause-on
returns-then-not-is_eq-clause-on g c walked so_far =
    let whole = g.I.IntNumber.whole in
    let start = plain_point whole c.args.start in
    let end = plain_point whole c.args.step.to in
    rw (c.in_ok-push.ensures.items, map-append)
    (tour_goes_on start walked (plain_steps whole c.args.tour.now.items) (plain_walks whole c.args.tours.now.items)
    (plain_step whole c.args.step) so_far
    (λ same. both_ways (point_eq end start)
    (sym (point_cmp-is_tie end start) ∙ ap is_eq (sym c.compare_points.ensures) ∙ sym c.is_eq.ensures
    ∙ c.if-not-is_eq.true) (point_eq-of_same end start same)))

pub returns-clause-on : goal.returns-clause-on
returns-clause-on g c walked so_far =
    let whole = g.I.IntNumber.whole in
    let start = plain_point whole c.args.start in
    let end = plain_point whole c.args.step.to in
    rw (
      c.replace.ensures.after,
      c.new-next.ensures.items,
      c.in_ok-push-2.ensures.items,
      map-append,
      c.replace.ensures.value,
      c.in_ok-push.ensures.items,
      map-append,
    )
    (tour_comes_back start walked (plain_steps whole c.args.tour.now.items) (plain_walks whole c.args.tours.now.items)
    (plain_step whole c.args.step) so_far
    (point_eq-same end start
    (sym (point_cmp-is_tie end start) ∙ ap is_eq (sym c.compare_points.ensures) ∙ sym c.is_eq.ensures
    ∙ c.if-not-is_eq.false)))

pub returns-then-not-is_eq-clause-start : goal.returns-then-not-is_eq-clause-start
returns-then-not-is_eq-clause-start g c walked so_far from_start =
    let whole = g.I.IntNumber.whole in
    rw (c.in_ok-push.ensures.items, map-append)
    (start_goes_on (plain_point whole c.args.start) walked (plain_steps whole c.args.tour.now.items)
    (plain_walks whole c.args.tours.now.items) (plain_step whole c.args.step) so_far from_start)

pub returns-clause-start : goal.returns-clause-start
returns-clause-start g c walked so_far from_start =
    let whole = g.I.IntNumber.whole in
    let start = plain_point whole c.args.start in
    let end = plain_point whole c.args.step.to in
    rw (
      c.replace.ensures.after,
      c.new-next.ensures.items,
      c.in_ok-push-2.ensures.items,
      map-append,
      c.replace.ensures.value,
      c.in_ok-push.ensures.items,
      map-append,
    )
    (start_comes_back start walked (plain_steps whole c.args.tour.now.items) (plain_walks whole c.args.tours.now.items)
    (plain_step whole c.args.step) so_far from_start
    (point_eq-same end start
    (sym (point_cmp-is_tie end start) ∙ ap is_eq (sym c.compare_points.ensures) ∙ sym c.is_eq.ensures
    ∙ c.if-not-is_eq.false)))
