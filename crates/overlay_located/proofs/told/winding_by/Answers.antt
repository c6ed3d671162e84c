-- The sums of the four edges, one after the other.
use Rattle.std.proofs.Common.{◌≡◌, ◌∙◌, rules, w64, to_z, of_z, to_z-of_z}
use Rattle.std.proofs.lemmas.Option.{IfSome_then}
use Rattle.overlay_geom.specs.Points.{plain_point}
use Rattle.overlay_order.specs.Content.{plain_edge, plain_edges}
use Rattle.overlay_located.specs.Few.{if_some, few_edges}
use Rattle.overlay_located.specs.Queries.{plain_query, sum_on}
use Rattle.overlay_sectors.specs.Rays.{plain_ray}
use Rattle.overlay_sectors.specs.Sectors.{is_low}
use Rattle.overlay_located.proofs.QuerySums.{mapped_parts, near_parts}
use Rattle.overlay_located.proofs.told.winding_by.Goals as goal

pub returns : goal.returns
returns g c =
    let whole = g.I.IntNumber.whole in
    let plain = plain_edges whole g.C.EdgeCount.counts in
    let few = c.args.q.through in
    let none = c.sum_on-none.result in
    let start = sum_on (plain_query whole g.C.EdgeCount.counts c.args.q) c.args.flank in
    let back : to_z w64 (of_z w64 none) ≡ none = search (rules, to_z-of_z) in
    let z : to_z w64 (of_z w64 none) ≡ start = back ∙ c.sum_on-none.ensures in
    let one : to_z w64 (of_z w64 c.in_ok-one.one) ≡ c.in_ok-one.one = search (rules, to_z-of_z) in
    let two : to_z w64 (of_z w64 c.in_ok-two.two) ≡ c.in_ok-two.two = search (rules, to_z-of_z) in
    let three : to_z w64 (of_z w64 c.in_ok-three.three) ≡ c.in_ok-three.three = search (rules, to_z-of_z) in
    IfSome_then c.sum_with-4.result c.sum_with-4.ensures (λ all is.
    near_parts c.args.flank (plain (if_some few.first)) (plain (if_some few.second)) (plain (if_some few.third))
    (plain (if_some few.fourth)) (plain (few_edges few)) (plain_point whole c.args.q.point)
    (is_low c.args.flank (plain_ray whole c.args.ray)) start c.in_ok-one.one c.in_ok-two.two c.in_ok-three.three
    all (to_z w64 (of_z w64 none)) (to_z w64 (of_z w64 c.in_ok-one.one))
    (to_z w64 (of_z w64 c.in_ok-two.two)) (to_z w64 (of_z w64 c.in_ok-three.three))
    (mapped_parts (plain_edge whole g.C.EdgeCount.counts) (if_some few.first) (if_some few.second)
    (if_some few.third) (if_some few.fourth))
    z one two three c.in_ok-one.ensures c.in_ok-two.ensures c.in_ok-three.ensures is)
