-- Nothing is shown at first; each contour shows a further walk.
use Rattle.std.proofs.Common.{◌++◌, [], ◌∷◌, All, take, sym, subst}
use Rattle.overlay_geom.specs.Plane.{points_of}
use Rattle.overlay_geom.specs.Points.{plain_points}
use Rattle.overlay_geom.specs.Thinned.{IsKeptOrThinned}
use Rattle.overlay_walk.specs.Steps.{plain_steps, IsLong}
use Rattle.overlay_walk.specs.Walks.{plain_walks}
use Rattle.overlay_walk.proofs.WalksRead.{walks_more, walk_has}
use Rattle.overlay_extract.proofs.ContoursAdded.{Show, show_none, show_more}
use Rattle.overlay_extract.proofs.extract.add_contours.Goals as goal

pub loop-walk-init : goal.loop-walk-init
loop-walk-init g c =
    show_none g.I.IntNumber.whole c.args.keeps_points c.args.output.now.points.items c.args.output.now.ranges.items
    c.requires.no_points c.requires.no_ranges

pub contour-requires : goal.contour-requires
contour-requires g c =
    let whole = g.I.IntNumber.whole in
    subst (λ ss. All (IsLong g.I.IntNumber.limit) (plain_steps whole ss)) (sym c.deref.ensures.value)
    (walk_has whole c.args.walks.now c.loop-walk.walk-index c.walk-item.result c.loop-walk-test.true c.walk-item.is
    (All (IsLong g.I.IntNumber.limit)) c.requires.long)

pub loop-walk-preserved : goal.loop-walk-preserved
loop-walk-preserved g c =
    let whole = g.I.IntNumber.whole in
    let keep = c.args.keeps_points in
    let w = plain_steps whole c.walk-item.result.items in
    let before = plain_walks whole (take c.loop-walk.walk-index c.args.walks.now) in
    let points = c.loop-walk.output.points.items in
    let ranges = c.loop-walk.output.ranges.items in
    let contour = c.deref-in-loop-walk.result.now in
    let taken : IsKeptOrThinned keep (points_of w) (plain_points whole contour) =
    subst (λ ps. IsKeptOrThinned keep (points_of w) (plain_points whole ps)) (sym c.deref-in-loop-walk.ensures.value)
    (subst (λ ss. IsKeptOrThinned keep (points_of (plain_steps whole ss))
    (plain_points whole c.in_ok-contour.contour.items)) c.deref.ensures.value c.in_ok-contour.ensures.ok) in
    subst (λ ws. Show whole keep ws c.add_contour.new.self.points.items c.add_contour.new.self.ranges.items)
    (sym (walks_more whole c.args.walks.now c.loop-walk.walk-index c.walk-item.result c.loop-walk-test.true
    c.walk-item.is))
    (subst (λ ps. Show whole keep (before ++ w ∷ []) ps c.add_contour.new.self.ranges.items)
    (sym c.in-Ok.ensures.points)
    (subst (λ rs. Show whole keep (before ++ w ∷ []) (points ++ contour) rs) (sym c.in-Ok.ensures.ranges)
    (show_more whole keep before w points contour ranges c.loop-walk.invariant taken)))
