-- Beside the edge nothing is below the point; at its x-coordinates the height tells.
use Rattle.std.proofs.Common.{⊎_elim, int_lt, refl, sym, ◌∙◌}
use Rattle.std.proofs.lemmas.Bool.{or_cases}
use Rattle.overlay_geom.specs.Plane.{in_plane}
use Rattle.overlay_geom.specs.Points.{plain_point}
use Rattle.overlay_geom.specs.Resolved.{plain_edge}
use Rattle.overlay_plane.proofs.Tests.{lt_from_test}
use Rattle.overlay_relate.proofs.ByEdge.{leads_right, left_of, right_of, on_one}
use Rattle.overlay_relate.proofs.by_edge.location_by.Goals as goal

pub returns-then-is_beside : goal.returns-then-is_beside
returns-then-is_beside g c =
    let e = plain_edge g.I.IntNumber.whole c.args.e.now in
    let v = plain_point g.I.IntNumber.whole c.args.p in
    let right = leads_right e c.requires.forward in
    ⊎_elim (λ left. left_of e v right (lt_from_test v.x e.a.x left))
    (λ past. right_of e v right (lt_from_test e.b.x v.x past))
    (or_cases (int_lt v.x e.a.x) (int_lt e.b.x v.x) (sym c.is_beside.ensures ∙ c.if-is_beside.true))

pub returns-in-Equal : goal.returns-in-Equal
returns-in-Equal g c =
    let e = plain_edge g.I.IntNumber.whole c.args.e.now in
    let v = plain_point g.I.IntNumber.whole c.args.p in
    on_one e (in_plane v) (c.in-Equal.ensures.on.0 refl)
