-- Where a point lies by the contour's edges, it lies in the contour.
use Rattle.std.proofs.Common.{◌≡◌, true, ◌∷◌, [], All, sym, ap, ◌∙◌, subst}
use Rattle.std.proofs.lemmas.List.Elements.{All-weaker}
use Rattle.overlay_geom.specs.Plane.{Point, Edge, in_plane, point_lt}
use Rattle.overlay_geom.specs.Points.{plain_points}
use Rattle.overlay_geom.specs.Resolved.{plain_edges, IsLongEdge}
use Rattle.overlay_relate.specs.Locations.{IsLocatedBy, IsLocatedIn}
use Rattle.overlay_relate.specs.declared.location.PointLocation.{PointLocation}
use Rattle.overlay_relate.proofs.Answered.{answers_weaker}
use Rattle.overlay_relate.proofs.Located.{located_by_edges}
use Rattle.overlay_relate.proofs.in_contour.locate_from.Goals as goal

pub locate_by_sweep-requires-clause-contour : goal.locate_by_sweep-requires-clause-contour
locate_by_sweep-requires-clause-contour g c =
    let whole = g.I.IntNumber.whole in
    let long = subst (λ es. All (IsLongEdge g.I.IntNumber.limit) (plain_edges whole es)) (sym c.deref.ensures.value)
    c.in_ok-edges.ensures.long in record {
      contour = plain_points whole c.args.contour.now;
      is = ap (plain_edges whole) c.deref.ensures.value ∙ (c.in_ok-edges.ensures).edges;
      resolved = c.requires.resolved;
      forward = All-weaker (IsLongEdge g.I.IntNumber.limit) (λ e. point_lt e.a e.b ≡ true) (λ (e : Edge) l. l.forward)
          (plain_edges whole c.deref.result.now) long;
    }

pub returns : goal.returns
returns g c = record {
  located = let whole = g.I.IntNumber.whole in
      let contour = plain_points whole c.args.contour.now in
      let es = plain_edges whole c.deref.result.now in
      answers_weaker (λ (q : Point) (l : PointLocation). IsLocatedBy es (in_plane q) l)
      (λ (q : Point) (l : PointLocation). IsLocatedIn (contour ∷ []) (in_plane q) l)
      (λ q l at. located_by_edges contour es (ap (plain_edges whole) c.deref.ensures.value
      ∙ (c.in_ok-edges.ensures).edges) (in_plane q) l at)
      (plain_points whole c.args.points.now) c.in_ok-answers.answers.items (c.in_ok-answers.ensures).located;
}
