-- The walk is split step by step.
use Rattle.std.proofs.Common.{[], ◌+◌, take, drop, get_or, rules, sym, ap, subst, arith}
use Rattle.std.proofs.lemmas.List.{drop_all, get_or-map}
use Rattle.overlay_geom.specs.Points.{plain_point}
use Rattle.overlay_geom.proofs.Mapped.{mapped_more, mapped_rest, mapped_whole}
use Rattle.overlay_plane.specs.Turn.{no_step}
use Rattle.overlay_extract.proofs.TourParts.{split_at_start}
use Rattle.overlay_extract.proofs.TourSplits.{IsOnItsWay, reached_here, way_goes_on, way_ended}
use Rattle.overlay_walk.specs.Steps.{plain_step, plain_steps}
use Rattle.overlay_walk.specs.Walks.{plain_walks}
use Rattle.overlay_extract.proofs.slicing.tours.split.Goals as goal

pub loop-place-preserved : goal.loop-place-preserved
loop-place-preserved g c =
    let whole = g.I.IntNumber.whole in
    let l = c.loop-place in
    let walk = c.args.walk.now in
    let step = c.index-walk-place.result in
    let tour = plain_steps whole l.tour.items in
    let tours = plain_walks whole l.tours.items in
    let new_tour = plain_steps whole c.go_on.new.tour.items in
    let new_tours = plain_walks whole c.go_on.new.tours.items in
    let walked = plain_steps whole (take l.place walk) in
    let rest = plain_steps whole (drop (l.place + 1) walk) in
    let start = plain_point whole (get_or walk 0 c.index-walk-0.result).from in
    let way = subst (λ ss. IsOnItsWay start walked ss tour tours)
    (mapped_rest (plain_step whole) walk l.place step c.loop-place-test.true c.index-walk-place.is) l.invariant.0 in (
      subst (λ ss. IsOnItsWay start ss rest new_tour new_tours)
          (sym (mapped_more (plain_step whole) walk l.place step c.loop-place-test.true c.index-walk-place.is))
          (way_goes_on start walked (plain_step whole step) rest tour new_tour tours new_tours way
          c.in_ok-go_on.ensures.on),
      c.in_ok-go_on.ensures.start walked (reached_here start walked (plain_step whole step) rest tour tours way)
          l.invariant.1,
    )

pub returns-clause-tours : goal.returns-clause-tours
returns-clause-tours g c =
    let whole = g.I.IntNumber.whole in
    let l = c.loop-place in
    let walk = c.args.walk.now in
    let tour = plain_steps whole l.tour.items in
    let tours = plain_walks whole l.tours.items in
    let past = c.loop-place-test.false in
    let start = plain_point whole (get_or walk 0 c.index-walk-0.result).from in
    way_ended start (plain_steps whole walk) tour tours
    (subst (λ ss. IsOnItsWay start ss [] tour tours) (mapped_whole (plain_step whole) walk l.place (omega arith))
    (subst (λ ss. IsOnItsWay start (plain_steps whole (take l.place walk)) (plain_steps whole ss) tour tours)
    (drop_all l.place walk (omega arith)) l.invariant.0))

pub returns-clause-start : goal.returns-clause-start
returns-clause-start g c =
    let whole = g.I.IntNumber.whole in
    let l = c.loop-place in
    let walk = c.args.walk.now in
    let first = c.index-walk-0.result in
    let tour = plain_steps whole l.tour.items in
    let tours = plain_walks whole l.tours.items in
    let past = c.loop-place-test.false in
    let start = plain_point whole (get_or walk 0 first).from in
    split_at_start start (plain_steps whole walk) tour tours
    (subst (λ ss. IsOnItsWay start ss [] tour tours) (mapped_whole (plain_step whole) walk l.place (omega arith))
    (subst (λ ss. IsOnItsWay start (plain_steps whole (take l.place walk)) (plain_steps whole ss) tour tours)
    (drop_all l.place walk (omega arith)) l.invariant.0)) l.invariant.1
    (ap (λ s. s.from) (get_or-map (plain_step whole) walk 0 first no_step (search rules)))
