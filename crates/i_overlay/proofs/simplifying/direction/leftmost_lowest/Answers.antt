-- A smaller point takes the place of the smallest one so far.
use Rattle.std.proofs.Common.{◌≡◌, ◌+◌, ◌<◌, length, sym, ap, ap₂, ◌∙◌, subst, arith}
use Rattle.std.proofs.lemmas.List.{length-map}
use Rattle.std.specs.Ordering.{is_lt}
use Rattle.overlay_geom.specs.Plane.{point_lt}
use Rattle.overlay_geom.specs.Points.{plain_point, plain_points}
use Rattle.overlay_geom.proofs.Mapped.{read_mapped}
use Rattle.overlay_geom.proofs.PointComparisons.{point_cmp-is_less}
use Rattle.overlay_plane.specs.Turn.{no_step}
use Rattle.i_overlay.proofs.LeastPoints.{point_at, IsLeastUpTo, still_least, newly_least, least_of_all}
use Rattle.i_overlay.proofs.simplifying.direction.leftmost_lowest.Goals.{then-is_lt, else-is_lt}
use Rattle.i_overlay.proofs.simplifying.direction.leftmost_lowest.Goals as goal

pub loop-number-preserved : goal.loop-number-preserved
loop-number-preserved g c =
    let whole = g.I.IntNumber.whole in
    let ps = plain_points whole c.args.points.now in
    let number = c.loop-number.number in
    let place = c.loop-number.place in
    let at_number : point_at ps number ≡ plain_point whole c.index-points-number.result =
    read_mapped (plain_point whole) c.args.points.now number c.index-points-number.result no_step.from
    c.loop-number-test.true c.index-points-number.is in
    let at_place : point_at ps place ≡ plain_point whole c.index-points-place.result =
    read_mapped (plain_point whole) c.args.points.now place c.index-points-place.result no_step.from
    c.loop-number.invariant.0 c.index-points-place.is in
    let told : c.is_lt.result ≡ point_lt (point_at ps number) (point_at ps place) =
    c.is_lt.ensures ∙ ap is_lt c.compare_points.ensures
    ∙ point_cmp-is_less (plain_point whole c.index-points-number.result) (plain_point whole c.index-points-place.result)
    ∙ sym (ap₂ point_lt at_number at_place) in
    elim c.if-is_lt.branch [
      | then-is_lt w ↦ subst (λ k. (k < length c.args.points.now) × IsLeastUpTo ps (number + 1) k) (sym w.place-is)
          (c.loop-number-test.true, newly_least ps number place c.loop-number.invariant.1 (sym told ∙ w.if-is_lt.true))
      | else-is_lt w ↦ subst (λ k. (k < length c.args.points.now) × IsLeastUpTo ps (number + 1) k) (sym w.place-is) (
        c.loop-number.invariant.0,
        still_least ps number place c.loop-number.invariant.1
            (sym told ∙ w.if-is_lt.false),
      )
    ]

pub returns-clause-least : goal.returns-clause-least
returns-clause-least g c =
    let ps = plain_points g.I.IntNumber.whole c.args.points.now in
    let size : length ps ≡ length c.args.points.now = length-map c.args.points.now (plain_point g.I.IntNumber.whole) in
    least_of_all ps c.loop-number.place
    (λ k within. c.loop-number.invariant.1 k (omega (arith, within, size, c.loop-number-test.false)))
