-- The contour is read at its smallest point, from the points before and after it.
use Rattle.std.proofs.Common.{◌≡◌, inl, inr, ◌<ℤ◌, ◌≤ℤ◌, pos, length, sym, ap, ap₂, ◌∙◌}
use Rattle.std.proofs.Common.{subst}
use Rattle.std.proofs.Common.{arith}
use Rattle.std.proofs.lemmas.List.{length-map}
use Rattle.std.specs.Prelude.{int_lt}
use Rattle.overlay_geom.proofs.Comparisons.{is_lt-int_cmp}
use Rattle.overlay_geom.specs.Plane.{cross_at}
use Rattle.overlay_geom.specs.Points.{plain_point, plain_points, InRange}
use Rattle.overlay_geom.proofs.Mapped.{All-mapped_at, read_mapped}
use Rattle.overlay_plane.proofs.Tests.{lt_from_test, ge_from_test}
use Rattle.overlay_plane.specs.Turn.{no_step}
use Rattle.i_overlay.proofs.DirectionRead.{IsAfter, goes_on, comes_from, is_within}
use Rattle.i_overlay.proofs.DirectionRead.{runs_clockwise, runs_counterclockwise}
use Rattle.i_overlay.proofs.LeastPoints.{point_at}
use Rattle.i_overlay.proofs.simplifying.direction.direction_of.Goals.{then-place-eq0, else-place-eq0}
use Rattle.i_overlay.proofs.simplifying.direction.direction_of.Goals.{then-place-last, else-place-last}
use Rattle.i_overlay.proofs.simplifying.direction.direction_of.Goals as goal

pub cross_at-requires-clause-v : goal.cross_at-requires-clause-v
cross_at-requires-clause-v g c = All-mapped_at (InRange g.I.IntNumber.limit) (plain_point g.I.IntNumber.whole)
    c.args.points.now c.leftmost_lowest-place.result c.index-points-place.result c.leftmost_lowest-place.ensures.within
    c.index-points-place.is c.requires.in_range

pub cross_at-requires-clause-p : goal.cross_at-requires-clause-p
cross_at-requires-clause-p g c = All-mapped_at (InRange g.I.IntNumber.limit) (plain_point g.I.IntNumber.whole)
    c.args.points.now c.if-place-last.after c.index-points-after.result
    (is_within (length c.args.points.now) _ _ (omega (arith, c.requires.some))
    (goes_on (length c.args.points.now) c.leftmost_lowest-place.result c.if-place-last.after
    c.leftmost_lowest-place.ensures.within (elim c.if-place-last.branch [
      | then-place-last w ↦ inl (w.if-place-last.true, w.after-is)
      | else-place-last w ↦ inr (w.if-place-last.false, w.after-is)
    ]))).1
    c.index-points-after.is c.requires.in_range

pub cross_at-requires-clause-q : goal.cross_at-requires-clause-q
cross_at-requires-clause-q g c = All-mapped_at (InRange g.I.IntNumber.limit) (plain_point g.I.IntNumber.whole)
    c.args.points.now c.if-place-eq0.before c.index-points-before.result
    (is_within (length c.args.points.now) _ _ (omega (arith, c.requires.some))
    (comes_from (length c.args.points.now) c.leftmost_lowest-place.result c.if-place-eq0.before
    c.leftmost_lowest-place.ensures.within (elim c.if-place-eq0.branch [
      | then-place-eq0 w ↦ inl (w.if-place-eq0.true, w.before-is)
      | else-place-eq0 w ↦ inr (w.if-place-eq0.false, w.before-is)
    ]))).0
    c.index-points-before.is c.requires.in_range

pub returns-then-is_lt : goal.returns-then-is_lt
returns-then-is_lt g c =
    let whole = g.I.IntNumber.whole in
    let points = c.args.points.now in
    let ps = plain_points whole points in
    let place = c.leftmost_lowest-place.result in
    let before = c.if-place-eq0.before in
    let after = c.if-place-last.after in
    let size : length ps ≡ length points = length-map points (plain_point whole) in
    let comes : IsAfter (length points) before place = (comes_from (length c.args.points.now)
    c.leftmost_lowest-place.result c.if-place-eq0.before
    c.leftmost_lowest-place.ensures.within (elim c.if-place-eq0.branch [
      | then-place-eq0 w ↦ inl (w.if-place-eq0.true, w.before-is)
      | else-place-eq0 w ↦ inr (w.if-place-eq0.false, w.before-is)
    ])) in
    let goes : IsAfter (length points) place after = (goes_on (length c.args.points.now) c.leftmost_lowest-place.result
    c.if-place-last.after
    c.leftmost_lowest-place.ensures.within (elim c.if-place-last.branch [
      | then-place-last w ↦ inl (w.if-place-last.true, w.after-is)
      | else-place-last w ↦ inr (w.if-place-last.false, w.after-is)
    ])) in
    let before_within = (is_within (length points) before place (omega (arith, c.requires.some)) comes).0 in
    let after_within = (is_within (length points) place after (omega (arith, c.requires.some)) goes).1 in
    let at_place : point_at ps place ≡ plain_point whole c.index-points-place.result =
    read_mapped (plain_point whole) points place c.index-points-place.result no_step.from
    c.leftmost_lowest-place.ensures.within c.index-points-place.is in
    let at_before : point_at ps before ≡ plain_point whole c.index-points-before.result =
    read_mapped (plain_point whole) points before c.index-points-before.result no_step.from
    before_within c.index-points-before.is in
    let at_after : point_at ps after ≡ plain_point whole c.index-points-after.result =
    read_mapped (plain_point whole) points after c.index-points-after.result no_step.from
    after_within c.index-points-after.is in
    let turned = cross_at (plain_point whole c.index-points-place.result)
    (plain_point whole c.index-points-after.result) (plain_point whole c.index-points-before.result) in
    let test : c.is_lt.result ≡ int_lt turned (pos 0) = rw (c.is_lt.ensures, c.sign.ensures, c.cross_at.ensures.value)
    (is_lt-int_cmp turned (pos 0)) in
    runs_clockwise ps c.requires.once (omega (arith, c.requires.some, size)) place before after
    (omega (arith, c.leftmost_lowest-place.ensures.within, size)) (omega (arith, before_within, size))
    (subst (λ n. IsAfter n before place) (sym size) comes) (subst (λ n. IsAfter n place after) (sym size) goes)
    c.leftmost_lowest-place.ensures.least
    (subst (λ z. z <ℤ pos 0) (sym (ap (λ v. cross_at v (point_at ps after) (point_at ps before)) at_place
    ∙ ap₂ (cross_at (plain_point whole c.index-points-place.result)) at_after at_before))
    (lt_from_test turned (pos 0) (sym test ∙ c.if-is_lt.true)))

pub returns-else-is_lt : goal.returns-else-is_lt
returns-else-is_lt g c =
    let whole = g.I.IntNumber.whole in
    let points = c.args.points.now in
    let ps = plain_points whole points in
    let place = c.leftmost_lowest-place.result in
    let before = c.if-place-eq0.before in
    let after = c.if-place-last.after in
    let size : length ps ≡ length points = length-map points (plain_point whole) in
    let comes : IsAfter (length points) before place = (comes_from (length c.args.points.now)
    c.leftmost_lowest-place.result c.if-place-eq0.before
    c.leftmost_lowest-place.ensures.within (elim c.if-place-eq0.branch [
      | then-place-eq0 w ↦ inl (w.if-place-eq0.true, w.before-is)
      | else-place-eq0 w ↦ inr (w.if-place-eq0.false, w.before-is)
    ])) in
    let goes : IsAfter (length points) place after = (goes_on (length c.args.points.now) c.leftmost_lowest-place.result
    c.if-place-last.after
    c.leftmost_lowest-place.ensures.within (elim c.if-place-last.branch [
      | then-place-last w ↦ inl (w.if-place-last.true, w.after-is)
      | else-place-last w ↦ inr (w.if-place-last.false, w.after-is)
    ])) in
    let before_within = (is_within (length points) before place (omega (arith, c.requires.some)) comes).0 in
    let after_within = (is_within (length points) place after (omega (arith, c.requires.some)) goes).1 in
    let at_place : point_at ps place ≡ plain_point whole c.index-points-place.result =
    read_mapped (plain_point whole) points place c.index-points-place.result no_step.from
    c.leftmost_lowest-place.ensures.within c.index-points-place.is in
    let at_before : point_at ps before ≡ plain_point whole c.index-points-before.result =
    read_mapped (plain_point whole) points before c.index-points-before.result no_step.from
    before_within c.index-points-before.is in
    let at_after : point_at ps after ≡ plain_point whole c.index-points-after.result =
    read_mapped (plain_point whole) points after c.index-points-after.result no_step.from
    after_within c.index-points-after.is in
    let turned = cross_at (plain_point whole c.index-points-place.result)
    (plain_point whole c.index-points-after.result) (plain_point whole c.index-points-before.result) in
    let test : c.is_lt.result ≡ int_lt turned (pos 0) = rw (c.is_lt.ensures, c.sign.ensures, c.cross_at.ensures.value)
    (is_lt-int_cmp turned (pos 0)) in
    runs_counterclockwise ps c.requires.once (omega (arith, c.requires.some, size)) place before after
    (omega (arith, c.leftmost_lowest-place.ensures.within, size)) (omega (arith, before_within, size))
    (subst (λ n. IsAfter n before place) (sym size) comes) (subst (λ n. IsAfter n place after) (sym size) goes)
    c.leftmost_lowest-place.ensures.least
    (subst (λ z. pos 0 ≤ℤ z) (sym (ap (λ v. cross_at v (point_at ps after) (point_at ps before)) at_place
    ∙ ap₂ (cross_at (plain_point whole c.index-points-place.result)) at_after at_before))
    (ge_from_test turned (pos 0) (sym test ∙ c.if-is_lt.false)))
