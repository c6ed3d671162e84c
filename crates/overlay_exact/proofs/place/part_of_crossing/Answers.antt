-- The distances to the other edge's line, and across its direction, make the part.
use Rattle.std.proofs.Common.{◌≡◌, rules}
use Rattle.overlay_geom.specs.Resolved.{plain_edge}
use Rattle.overlay_plane.specs.CutPoints.{to_line, across}
use Rattle.overlay_plane.proofs.WholeOnEdges.{forward_from_test}
use Rattle.overlay_exact.proofs.CrossingParts.{crossing_is_part, shares_at}
use Rattle.overlay_exact.proofs.place.part_of_crossing.Goals as goal

pub invariant_of-result : goal.invariant_of-result
invariant_of-result g c =
    let e = plain_edge g.I.IntNumber.whole c.args.e in
    let f = plain_edge g.I.IntNumber.whole c.args.f in
    let n : g.I.Wide.WideIntNumber.whole c.magnitude.result ≡ to_line e f = search rules in
    let d : g.I.Wide.WideIntNumber.whole c.magnitude-2.result ≡ across e f = search rules in
    let part = crossing_is_part e f _ _ c.requires.back n d in
    record { begun = part.begun; within = part.within; positive = part.positive }

pub returns : goal.returns
returns g c =
    let e = plain_edge g.I.IntNumber.whole c.args.e in
    let f = plain_edge g.I.IntNumber.whole c.args.f in
    let n : g.I.Wide.WideIntNumber.whole c.magnitude.result ≡ to_line e f = search rules in
    let d : g.I.Wide.WideIntNumber.whole c.magnitude-2.result ≡ across e f = search rules in
    shares_at e f (forward_from_test e c.requires.one.forward) (forward_from_test f c.requires.other.forward)
    c.requires.forth c.requires.back _ _ n d
