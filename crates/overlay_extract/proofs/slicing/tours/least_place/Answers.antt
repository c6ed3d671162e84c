-- A step from a smaller point takes the place, and else the one found stays.
use Rattle.std.proofs.Common.{◌≡◌, ◌+◌, false, take, get_or, All, sym, ap, ◌∙◌, subst, arith}
use Rattle.std.specs.Ordering.{is_lt}
use Rattle.std.proofs.lemmas.List.{get_or-map}
use Rattle.std.proofs.lemmas.List.Elements.{All-nil, All-weaker}
use Rattle.overlay_geom.specs.Plane.{Step, point_lt}
use Rattle.overlay_geom.specs.Points.{plain_point}
use Rattle.overlay_geom.proofs.Mapped.{All-mapped_more, mapped_whole}
use Rattle.overlay_geom.proofs.Orders.{point_lt-itself, point_lt-order}
use Rattle.overlay_geom.proofs.PointComparisons.{point_cmp-is_less}
use Rattle.overlay_plane.specs.Turn.{no_step}
use Rattle.overlay_walk.specs.Places.{step_at}
use Rattle.overlay_walk.specs.Steps.{plain_step, plain_steps}
use Rattle.overlay_extract.proofs.slicing.tours.least_place.Goals as goal
use Rattle.overlay_extract.proofs.slicing.tours.least_place.Goals.{then-is_lt, else-is_lt}

pub loop-place-init : goal.loop-place-init
loop-place-init g c =
    let orbit = plain_steps g.I.IntNumber.whole c.args.orbit.now in
    (omega arith, λ some. some, All-nil (λ s. point_lt s.from (step_at orbit 0).from ≡ false))

pub loop-place-preserved : goal.loop-place-preserved
loop-place-preserved g c =
    let whole = g.I.IntNumber.whole in
    let orbit = c.args.orbit.now in
    let plain = plain_steps whole orbit in
    let l = c.loop-place in
    let within = c.loop-place-test.true in
    let here = c.index-orbit-place.result in
    let low = c.index-orbit-least.result in
    let below = l.invariant.0 in
    let p = plain_point whole (get_or orbit l.place here).from in
    let q = plain_point whole (get_or orbit l.least low).from in
    let at_here : (step_at plain l.place).from ≡ p = ap (λ (s : Step). s.from)
    (get_or-map (plain_step whole) orbit l.place here no_step within) in
    let at_low : (step_at plain l.least).from ≡ q = ap (λ (s : Step). s.from)
    (get_or-map (plain_step whole) orbit l.least low no_step (omega arith)) in
    let found = sym (point_cmp-is_less p q) ∙ ap is_lt (sym c.compare_points.ensures) ∙ sym c.is_lt.ensures in
    let before = subst (λ v. All (λ s. point_lt s.from v ≡ false) (plain_steps whole (take l.place orbit))) at_low
    l.invariant.2 in
    elim c.if-is_lt.branch [
      | then-is_lt w ↦ rw w.least-is (
        omega arith,
        λ some. within,
        subst (λ v. All (λ s. point_lt s.from v ≡ false) (plain_steps whole (take (l.place + 1) orbit))) (sym at_here)
            (All-mapped_more (λ s. point_lt s.from p ≡ false) (plain_step whole) orbit l.place here within
            c.index-orbit-place.is
            (All-weaker (λ s. point_lt s.from q ≡ false) (λ s. point_lt s.from p ≡ false)
            (λ s h. point_lt-order.chain s.from q p h (point_lt-order.one_way p q (found ∙ w.if-is_lt.true)))
            (plain_steps whole (take l.place orbit)) before)
            (subst (λ s. point_lt (plain_point whole s.from) p ≡ false) (sym c.index-orbit-place.is)
            (point_lt-itself p))),
      )
      | else-is_lt w ↦ rw w.least-is (
        omega arith,
        l.invariant.1,
        subst (λ v. All (λ s. point_lt s.from v ≡ false) (plain_steps whole (take (l.place + 1) orbit))) (sym at_low)
            (All-mapped_more (λ s. point_lt s.from q ≡ false) (plain_step whole) orbit l.place here within
            c.index-orbit-place.is before
            (subst (λ s. point_lt (plain_point whole s.from) q ≡ false) (sym c.index-orbit-place.is)
            (found ∙ w.if-is_lt.false))),
      )
    ]

pub returns-clause-least : goal.returns-clause-least
returns-clause-least g c =
    let whole = g.I.IntNumber.whole in
    let orbit = c.args.orbit.now in
    let l = c.loop-place in
    let past = c.loop-place-test.false in
    subst (All (λ s. point_lt s.from (step_at (plain_steps whole orbit) l.least).from ≡ false))
    (mapped_whole (plain_step whole) orbit l.place (omega arith)) l.invariant.2
