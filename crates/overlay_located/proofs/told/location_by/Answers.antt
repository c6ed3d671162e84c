-- Both lowest sectors, and those next above the four edges, tell the location.
use Rattle.std.proofs.Common.{◌≡◌, not, ◌||◌, List, ◌++◌, sym, ap, subst, ◌∙◌, rules}
use Rattle.std.proofs.Common.{w64, to_z, of_z, to_z-of_z}
use Rattle.overlay_geom.specs.Edges.{CountedEdge}
use Rattle.overlay_geom.specs.Plane.{in_plane}
use Rattle.overlay_geom.specs.Rules.{is_filled}
use Rattle.overlay_order.specs.Content.{plain_edge, plain_edges}
use Rattle.overlay_located.specs.Few.{if_some}
use Rattle.overlay_sectors.specs.Located.{LiesIn}
use Rattle.overlay_located.specs.Queries.{plain_query, SeesRays}
use Rattle.overlay_located.proofs.QuerySums.{mapped_parts, in_first, in_second, in_third, in_fourth}
use Rattle.overlay_located.proofs.ToldSeen.{sees_on, located_by_told}
use Rattle.overlay_located.proofs.told.location_by.Goals as goal

pub returns : goal.returns
returns g c = λ es content told.
    let plain = plain_edges g.I.IntNumber.whole g.C.EdgeCount.counts in
    let q = plain_query g.I.IntNumber.whole g.C.EdgeCount.counts c.args.q in
    let filled = is_filled c.args.fill_rule in
    let p = in_plane q.point in
    let few = c.args.q.through in
    let one = plain (if_some few.first) in
    let two = plain (if_some few.second) in
    let three = plain (if_some few.third) in
    let four = plain (if_some few.fourth) in
    let parts : q.through ≡ one ++ (two ++ (three ++ four)) =
    mapped_parts (plain_edge g.I.IntNumber.whole g.C.EdgeCount.counts) (if_some few.first) (if_some few.second)
    (if_some few.third) (if_some few.fourth) in
    let none = c.nothing-none.result in
    let lowest = c.with-lowest.result in
    let both = c.with-seen.result in
    let a = c.in_ok-one.one in
    let b = c.in_ok-two.two in
    let d = c.in_ok-three.three in
    let all = c.in_ok-all.all in
    let left : to_z w64 (of_z w64 c.in_ok-left.left) ≡ c.in_ok-left.left = search (rules, to_z-of_z) in
    let right : to_z w64 (of_z w64 c.in_ok-right.right) ≡ c.in_ok-right.right = search (rules, to_z-of_z) in
    subst (LiesIn filled es p) (sym c.location.ensures)
    (located_by_told filled es q told c.requires g.I.IntNumber.limit content.held none lowest both all
    c.in_ok-left.left c.in_ok-right.right
    c.in_ok-left.ensures c.in_ok-right.ensures c.nothing-none.ensures
    (c.with-lowest.ensures.filled ∙ ap (λ t. t || none.filled) (c.fills.ensures ∙ ap filled left))
    (c.with-lowest.ensures.empty ∙ ap (λ t. not t || none.empty) (c.fills.ensures ∙ ap filled left))
    (c.with-seen.ensures.filled ∙ ap (λ t. t || lowest.filled) (c.fills-2.ensures ∙ ap filled right))
    (c.with-seen.ensures.empty ∙ ap (λ t. not t || lowest.empty) (c.fills-2.ensures ∙ ap filled right))
    (subst (λ (rs : List CountedEdge). SeesRays filled es p rs both all) (sym parts)
    (sees_on filled es p one (two ++ (three ++ four)) both a all
    (c.in_ok-one.ensures es told (in_first one two three four q.through parts))
    (sees_on filled es p two (three ++ four) a b all
    (c.in_ok-two.ensures es told (in_second one two three four q.through parts))
    (sees_on filled es p three four b d all
    (c.in_ok-three.ensures es told (in_third one two three four q.through parts))
    (c.in_ok-all.ensures es told (in_fourth one two three four q.through parts)))))))
