-- The query is one of the list, for this point.
use Rattle.std.proofs.Common.{◌≡◌, ◌<◌, true, length, sym, subst, ◌∙◌, rules}
use Rattle.std.specs.Prelude.{IfSome}
use Rattle.overlay_geom.specs.Plane.{in_plane}
use Rattle.overlay_geom.specs.Points.{plain_point}
use Rattle.overlay_geom.specs.Rules.{is_filled}
use Rattle.overlay_geom.proofs.Orders.{point_eq-same}
use Rattle.overlay_sectors.specs.Located.{LiesIn}
use Rattle.overlay_located.specs.Queries.{plain_query, IsTold}
use Rattle.overlay_located.proofs.told.location_at.Goals as goal

pub returns : goal.returns
returns g c = λ es content all.
    let whole = g.I.IntNumber.whole in
    let counts = g.C.EdgeCount.counts in
    let q = c.index-told-place.result in
    let lt : c.args.place < length c.args.told.now = search rules in
    let is : c.is_same.result ≡ true = search rules in
    let same = point_eq-same (plain_point whole q.point) (plain_point whole c.args.p) (sym c.is_same.ensures ∙ is) in
    subst (λ v. IfSome c.location_by.result (LiesIn (is_filled c.args.fill_rule) es (in_plane v))) same
    (c.location_by.ensures es content
    (subst (λ r. IsTold es (plain_query whole counts r)) (sym c.index-told-place.is) (all c.args.place q lt)))
