-- One contour more is joined to those so far.
use Rattle.std.proofs.Common.{◌≡◌, ◌++◌, ◌∷◌, [], take, sym, ◌∙◌, subst}
use Rattle.std.proofs.lemmas.List.{length-map}
use Rattle.overlay_geom.specs.Paths.{paths_of_shape}
use Rattle.overlay_geom.specs.Plane.{Point, in_plane}
use Rattle.overlay_geom.specs.Points.{plain_point, plain_points, AllInRange}
use Rattle.overlay_geom.specs.Resolved.{IsResolved}
use Rattle.overlay_geom.proofs.Mapped.{All-mapped_at, mapped_more, mapped_whole}
use Rattle.overlay_relate.specs.Answers.{AnswersWhere}
use Rattle.overlay_relate.specs.Locations.{IsLocatedIn}
use Rattle.overlay_relate.specs.declared.location.PointLocation.{PointLocation}
use Rattle.overlay_relate.specs.declared.location.PointLocation.TheVariants.{Outside}
use Rattle.overlay_relate.proofs.Answered.{answers_weaker}
use Rattle.overlay_relate.proofs.Located.{outside_none}
use Rattle.overlay_relate.proofs.in_shapes.located_in_shape.Goals as goal

pub loop-contour-init : goal.loop-contour-init
loop-contour-init g c =
    answers_weaker (λ (q : Point) (l : PointLocation). l ≡ Outside)
    (λ (q : Point) (l : PointLocation). IsLocatedIn [] (in_plane q) l)
    (λ q l is. subst (IsLocatedIn [] (in_plane q)) (sym is) (outside_none (in_plane q)))
    (plain_points g.I.IntNumber.whole c.args.points.now) c.in_ok-located.located.items
    (c.in_ok-located.ensures).value

pub join_contour-requires-clause-contour : goal.join_contour-requires-clause-contour
join_contour-requires-clause-contour g c =
    let whole = g.I.IntNumber.whole in
    subst (λ xs. AllInRange g.I.IntNumber.limit (plain_points whole xs)) (sym c.deref.ensures.value)
    (All-mapped_at (AllInRange g.I.IntNumber.limit) (λ x. plain_points g.I.IntNumber.whole x.items) c.args.contours.now
    c.loop-contour.contour-index c.contour-item.result
    c.loop-contour-test.true c.contour-item.is c.requires.contours)

pub join_contour-requires-clause-resolved : goal.join_contour-requires-clause-resolved
join_contour-requires-clause-resolved g c =
    let whole = g.I.IntNumber.whole in
    subst (λ xs. IsResolved (plain_points whole xs)) (sym c.deref.ensures.value)
    (All-mapped_at IsResolved (λ x. plain_points g.I.IntNumber.whole x.items) c.args.contours.now
    c.loop-contour.contour-index c.contour-item.result
    c.loop-contour-test.true c.contour-item.is c.requires.resolved)

pub join_contour-requires-clause-counted : goal.join_contour-requires-clause-counted
join_contour-requires-clause-counted g c =
    c.loop-contour.invariant.counted ∙ length-map c.args.points.now (plain_point g.I.IntNumber.whole)

pub loop-contour-preserved : goal.loop-contour-preserved
loop-contour-preserved g c =
    let whole = g.I.IntNumber.whole in
    let points = plain_points whole c.args.points.now in
    let seen = paths_of_shape whole (take c.loop-contour.contour-index c.args.contours.now) in
    let new = c.join_contour.new.located.items in
    subst (λ ss. AnswersWhere (IsLocatedIn ss) points new)
    (sym (mapped_more (λ x. plain_points g.I.IntNumber.whole x.items) c.args.contours.now c.loop-contour.contour-index
    c.contour-item.result c.loop-contour-test.true c.contour-item.is))
    (subst (λ ps. AnswersWhere (IsLocatedIn (seen ++ plain_points whole ps ∷ [])) points new) c.deref.ensures.value
    (c.in_ok-join_contour.ensures.joined seen c.loop-contour.invariant))

pub returns : goal.returns
returns g c = record {
  located = let whole = g.I.IntNumber.whole in
      subst (λ ss. AnswersWhere (IsLocatedIn ss) (plain_points whole c.args.points.now) c.loop-contour.located.items)
      (mapped_whole (λ x. plain_points g.I.IntNumber.whole x.items) c.args.contours.now c.loop-contour.contour-index
      c.loop-contour-test.false) c.loop-contour.invariant;
}
