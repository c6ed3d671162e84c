-- One shape more is joined to those so far.
use Rattle.std.proofs.Common.{◌≡◌, ◌++◌, ◌∷◌, [], All, take, sym, ◌∙◌, subst}
use Rattle.std.proofs.lemmas.List.{length-map}
use Rattle.overlay_geom.specs.Paths.{paths_of_shape, plain_shapes}
use Rattle.overlay_geom.specs.Plane.{Point, in_plane}
use Rattle.overlay_geom.specs.Points.{plain_point, plain_points, AllInRange}
use Rattle.overlay_geom.specs.Resolved.{IsResolved}
use Rattle.overlay_geom.proofs.Mapped.{All-mapped_at, mapped_more, mapped_whole}
use Rattle.overlay_relate.specs.Answers.{AnswersWhere}
use Rattle.overlay_relate.specs.Locations.{IsLocatedAmong}
use Rattle.overlay_relate.specs.declared.location.PointLocation.{PointLocation}
use Rattle.overlay_relate.specs.declared.location.PointLocation.TheVariants.{Outside}
use Rattle.overlay_relate.proofs.Answered.{answers_weaker}
use Rattle.overlay_relate.proofs.Located.{outside_no_shapes}
use Rattle.overlay_relate.proofs.in_shapes.located_in_shapes.Goals as goal

pub loop-shape-init : goal.loop-shape-init
loop-shape-init g c =
    answers_weaker (λ (q : Point) (l : PointLocation). l ≡ Outside)
    (λ (q : Point) (l : PointLocation). IsLocatedAmong [] (in_plane q) l)
    (λ q l is. subst (IsLocatedAmong [] (in_plane q)) (sym is) (outside_no_shapes (in_plane q)))
    (plain_points g.I.IntNumber.whole c.args.points.now) c.in_ok-located.located.items
    (c.in_ok-located.ensures).value

pub join_shape-requires-clause-contours : goal.join_shape-requires-clause-contours
join_shape-requires-clause-contours g c =
    let whole = g.I.IntNumber.whole in
    subst (λ xs. All (AllInRange g.I.IntNumber.limit) (paths_of_shape whole xs)) (sym c.deref.ensures.value)
    (All-mapped_at (All (AllInRange g.I.IntNumber.limit)) (λ x. paths_of_shape whole x.items) c.args.shapes.now
    c.loop-shape.shape-index c.shape-item.result
    c.loop-shape-test.true c.shape-item.is c.requires.shapes)

pub join_shape-requires-clause-resolved : goal.join_shape-requires-clause-resolved
join_shape-requires-clause-resolved g c =
    let whole = g.I.IntNumber.whole in
    subst (λ xs. All IsResolved (paths_of_shape whole xs)) (sym c.deref.ensures.value)
    (All-mapped_at (All IsResolved) (λ x. paths_of_shape whole x.items) c.args.shapes.now c.loop-shape.shape-index
    c.shape-item.result
    c.loop-shape-test.true c.shape-item.is c.requires.resolved)

pub join_shape-requires-clause-counted : goal.join_shape-requires-clause-counted
join_shape-requires-clause-counted g c =
    c.loop-shape.invariant.counted ∙ length-map c.args.points.now (plain_point g.I.IntNumber.whole)

pub loop-shape-preserved : goal.loop-shape-preserved
loop-shape-preserved g c =
    let whole = g.I.IntNumber.whole in
    let points = plain_points whole c.args.points.now in
    let seen = plain_shapes whole (take c.loop-shape.shape-index c.args.shapes.now) in
    let new = c.join_shape.new.located.items in
    subst (λ ss. AnswersWhere (IsLocatedAmong ss) points new)
    (sym (mapped_more (λ x. paths_of_shape g.I.IntNumber.whole x.items) c.args.shapes.now c.loop-shape.shape-index
    c.shape-item.result c.loop-shape-test.true c.shape-item.is))
    (subst (λ cs. AnswersWhere (IsLocatedAmong (seen ++ paths_of_shape whole cs ∷ [])) points new) c.deref.ensures.value
    (c.in_ok-join_shape.ensures.joined seen c.loop-shape.invariant))

pub returns : goal.returns
returns g c = record {
  located = let whole = g.I.IntNumber.whole in
      subst (λ ss. AnswersWhere (IsLocatedAmong ss) (plain_points whole c.args.points.now) c.loop-shape.located.items)
      (mapped_whole (λ x. paths_of_shape g.I.IntNumber.whole x.items) c.args.shapes.now c.loop-shape.shape-index
      c.loop-shape-test.false) c.loop-shape.invariant;
}
