-- The points by their abscissas are asked, and the answers put into the order of the points.
use Rattle.std.proofs.Common.{◌≡◌, length, sym, ap, ◌∙◌, subst}
use Rattle.std.proofs.lemmas.List.{length-map}
use Rattle.std.proofs.lemmas.Result.{IfOk-weaker}
use Rattle.overlay_geom.specs.Numbered.{Numbered}
use Rattle.overlay_geom.specs.Paths.{paths_of_shape}
use Rattle.overlay_geom.specs.Plane.{Point, in_plane}
use Rattle.overlay_geom.specs.Points.{plain_points, InRange, AllInRange}
use Rattle.overlay_relate.specs.Answers.{AnswersEach}
use Rattle.overlay_relate.specs.Locations.{IsLocatedIn}
use Rattle.overlay_relate.specs.Queries.{plain_query, plain_queries, points_asked, AreQueries, IsAnswered}
use Rattle.overlay_relate.specs.Runs.{AreByX}
use Rattle.overlay_relate.specs.declared.location.PointLocation.{PointLocation}
use Rattle.overlay_relate.proofs.Asked.{asked_by_x, All-asked, answers_ordered}
use Rattle.overlay_relate.proofs.in_shapes.locate_in_shape.Goals as goal

pub located_in_shape-requires-clause-points : goal.located_in_shape-requires-clause-points
located_in_shape-requires-clause-points g c =
    let whole = g.I.IntNumber.whole in
    let limit = g.I.IntNumber.limit in
    let qs = plain_queries whole c.in_ok-queries.queries.items in
    let is : plain_points whole c.deref-2.result.now ≡ points_asked qs = ap (plain_points whole) c.deref-2.ensures.value
    ∙ c.in_ok-asked.ensures.ok ∙ ap (λ ds. points_asked (plain_queries whole ds)) c.deref.ensures.value in
    subst (AllInRange limit) (sym is) (All-asked (InRange limit) (plain_points whole c.args.points.now) qs
    c.in_ok-queries.ensures.queries c.requires.points)

pub located_in_shape-requires-clause-order : goal.located_in_shape-requires-clause-order
located_in_shape-requires-clause-order g c =
    let whole = g.I.IntNumber.whole in
    let qs = plain_queries whole c.in_ok-queries.queries.items in
    let is : plain_points whole c.deref-2.result.now ≡ points_asked qs = ap (plain_points whole) c.deref-2.ensures.value
    ∙ c.in_ok-asked.ensures.ok ∙ ap (λ ds. points_asked (plain_queries whole ds)) c.deref.ensures.value in
    subst AreByX (sym is) (asked_by_x (plain_points whole c.args.points.now) qs c.in_ok-queries.ensures.queries)

pub in_given_order-requires-clause-queries : goal.in_given_order-requires-clause-queries
in_given_order-requires-clause-queries g c =
    let whole = g.I.IntNumber.whole in
    subst (λ ds. AreQueries (plain_points whole c.args.points.now) (plain_queries whole ds))
    (sym c.deref-3.ensures.value)
    c.in_ok-queries.ensures.queries

pub in_given_order-requires-clause-counted : goal.in_given_order-requires-clause-counted
in_given_order-requires-clause-counted g c =
    let whole = g.I.IntNumber.whole in
    let qs = plain_queries whole c.in_ok-queries.queries.items in
    let is : plain_points whole c.deref-2.result.now ≡ points_asked qs = ap (plain_points whole) c.deref-2.ensures.value
    ∙ c.in_ok-asked.ensures.ok ∙ ap (λ ds. points_asked (plain_queries whole ds)) c.deref.ensures.value in
    ap length c.deref-4.ensures.value ∙ c.in_ok-located.ensures.located.counted ∙ ap length is
    ∙ length-map qs (λ (n : Numbered Point). n.item) ∙ length-map c.in_ok-queries.queries.items (plain_query whole)
    ∙ sym (ap length c.deref-3.ensures.value)

pub returns : goal.returns
returns g c = record {
  located = let whole = g.I.IntNumber.whole in
      let points = plain_points whole c.args.points.now in
      let R = λ (q : Point) (l : PointLocation). IsLocatedIn (paths_of_shape whole c.args.contours.now) (in_plane q) l
      in
      let asked = points_asked (plain_queries whole c.deref-3.result.now) in
      let is : plain_points whole c.deref-2.result.now ≡ asked = ap (plain_points whole) c.deref-2.ensures.value
      ∙ c.in_ok-asked.ensures.ok ∙ ap (λ ds. points_asked (plain_queries whole ds)) c.deref.ensures.value
      ∙ sym (ap (λ ds. points_asked (plain_queries whole ds)) c.deref-3.ensures.value) in
      let right : AnswersEach R asked c.deref-4.result.now = subst (AnswersEach R asked) (sym c.deref-4.ensures.value)
      (subst (λ qs. AnswersEach R qs c.in_ok-located.located.items) is c.in_ok-located.ensures.located) in
      IfOk-weaker c.in_given_order.result (λ v. AnswersEach (IsAnswered asked c.deref-4.result.now) points v.items)
      (λ v. AnswersEach R points v.items)
      (λ v placed. answers_ordered R points asked c.deref-4.result.now v.items right placed)
      c.in_given_order.ensures.ok;
}
