-- Off the edges a point is inside where its location is `Inside`.
use Rattle.std.proofs.Common.{◌≡◌, Bool, map, ap, sym, ◌∙◌, subst}
use Rattle.overlay_geom.specs.Plane.{Point, IsOff, in_plane}
use Rattle.overlay_geom.specs.Points.{plain_points}
use Rattle.overlay_relate.specs.Answers.{AnswersEach}
use Rattle.overlay_relate.specs.Locations.{IsLocatedAmong, shapes_edges, is_in_shapes, is_inside}
use Rattle.overlay_relate.specs.declared.location.PointLocation.{PointLocation}
use Rattle.overlay_relate.proofs.Answered.{answers_mapped}
use Rattle.overlay_relate.proofs.Located.{inside_off_shapes}
use Rattle.overlay_relate.proofs.containment.IntPointContainment.contains_points.Goals as goal

pub returns-clause-inside : goal.returns-clause-inside
returns-clause-inside g c =
    let whole = g.I.IntNumber.whole in
    let shapes = g.Self.IntPointContainment.shapes c.args.self.now in
    let qs = plain_points whole c.args.points.now in
    let S = λ (q : Point) (t : Bool). IsOff (shapes_edges shapes) (in_plane q) → t ≡ is_in_shapes shapes (in_plane q) in
    subst (AnswersEach S qs) (ap (map is_inside) (sym c.deref.ensures.value) ∙ sym (c.in_ok-inside.ensures).inside)
    (answers_mapped (λ (q : Point) (l : PointLocation). IsLocatedAmong shapes (in_plane q) l) S is_inside
    (λ q l at off. inside_off_shapes shapes (in_plane q) l off at) qs c.in_ok-locations.locations.items
    (c.in_ok-locations.ensures).located)
