-- What leads from the point, and the parity of the winding right of it, tell the location.
use Rattle.std.proofs.Common.{◌≡◌, true, cond, ◌||◌, map, sym, ap, ◌∙◌, subst, rules, w64, to_z, of_z, to_z-of_z}
use Rattle.std.proofs.lemmas.List.Elements.{All-weaker}
use Rattle.overlay_geom.specs.Plane.{point_lt, in_plane}
use Rattle.overlay_geom.specs.Points.{plain_point}
use Rattle.overlay_geom.specs.Resolved.{IsLongEdge}
use Rattle.overlay_order.specs.Counts.{boolean_counts}
use Rattle.overlay_relate.specs.Locations.{is_odd, IsLocatedBy}
use Rattle.overlay_relate.specs.declared.location.PointLocation.TheVariants.{Inside, Boundary, Outside}
use Rattle.overlay_located.specs.Once.{counted_once, turned_point, turned_uprights, Lead, TellsOf}
use Rattle.overlay_located.specs.Queries.{plain_query}
use Rattle.overlay_located.proofs.OnceLocated.{located_told}
use Rattle.overlay_located.proofs.parity.parity_location.Goals as goal

pub returns : goal.returns
returns g c = λ es long all uprights.
    let whole = g.I.IntNumber.whole in
    let plain = plain_query whole boolean_counts in
    let v = plain_point whole c.args.p in
    let q = plain c.in_ok-q.q in
    let r = plain c.in_ok-r.r in
    let one : TellsOf (map counted_once es) v q = c.in_ok-q.ensures (map counted_once es) all in
    let two : TellsOf (map counted_once (turned_uprights es)) (turned_point v) r =
    subst (λ w. TellsOf (map counted_once (turned_uprights es)) w r) c.turned.ensures
    (c.in_ok-r.ensures (map counted_once (turned_uprights es)) uprights) in
    let s = c.in_ok-is_on.is_on in
    let t = c.in_ok-is_on_upright.is_on_upright in
    let right : to_z w64 (of_z w64 c.in_ok-q.q.right) ≡ c.in_ok-q.q.right = search (rules, to_z-of_z) in
    subst (IsLocatedBy es (in_plane v))
    (sym (c.location_by.ensures ∙ ap (λ b. cond (s || t) Boundary (cond b Inside Outside))
    (c.fills-is_odd.ensures ∙ ap is_odd right)))
    (located_told es v (All-weaker (IsLongEdge g.I.IntNumber.limit) (λ e. point_lt e.a e.b ≡ true)
    (λ e l. l.forward) es long) q r one two s t
    (subst (λ w. Lead w q.through s) one.0 c.in_ok-is_on.ensures)
    (subst (λ w. Lead w r.through t) two.0 c.in_ok-is_on_upright.ensures))
