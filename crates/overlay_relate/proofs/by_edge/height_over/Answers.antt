-- Over or under both ends the heights tell, and between them the cross product.
use Rattle.std.proofs.Common.{int_lt, sym, ◌∙◌}
use Rattle.std.proofs.lemmas.Bool.{and_parts, false≢true}
use Rattle.overlay_geom.specs.Points.{plain_point}
use Rattle.overlay_geom.specs.Resolved.{plain_edge}
use Rattle.overlay_plane.proofs.Tests.{lt_from_test}
use Rattle.overlay_relate.proofs.ByEdge.{off_above, off_below, below_above, none_below, below_by_sign, on_by_sign}
use Rattle.overlay_relate.proofs.ByEdge.{in_range_between}
use Rattle.overlay_relate.proofs.OnEdges.{side-whole}
use Rattle.overlay_relate.proofs.by_edge.height_over.Goals as goal

pub returns-then-is_over_both-clause-on : goal.returns-then-is_over_both-clause-on
returns-then-is_over_both-clause-on g c =
    let e = plain_edge g.I.IntNumber.whole c.args.e.now in
    let v = plain_point g.I.IntNumber.whole c.args.p in
    let both = and_parts (int_lt e.a.y v.y) (int_lt e.b.y v.y) (sym c.is_over_both.ensures ∙ c.if-is_over_both.true)
    in (
      λ t. absurd (false≢true t),
      λ on. absurd (off_above e v (lt_from_test e.a.y v.y both.0) (lt_from_test e.b.y v.y both.1) on),
    )

pub returns-then-is_over_both-clause-above : goal.returns-then-is_over_both-clause-above
returns-then-is_over_both-clause-above g c =
    let e = plain_edge g.I.IntNumber.whole c.args.e.now in
    let v = plain_point g.I.IntNumber.whole c.args.p in
    let both = and_parts (int_lt e.a.y v.y) (int_lt e.b.y v.y) (sym c.is_over_both.ensures ∙ c.if-is_over_both.true) in
    below_above e v c.requires.from (lt_from_test e.a.y v.y both.0) (lt_from_test e.b.y v.y both.1)

pub returns-then-is_under_both-clause-on : goal.returns-then-is_under_both-clause-on
returns-then-is_under_both-clause-on g c =
    let e = plain_edge g.I.IntNumber.whole c.args.e.now in
    let v = plain_point g.I.IntNumber.whole c.args.p in
    let both = and_parts (int_lt v.y e.a.y) (int_lt v.y e.b.y) (sym c.is_under_both.ensures ∙ c.if-is_under_both.true)
    in (
      λ t. absurd (false≢true t),
      λ on. absurd (off_below e v (lt_from_test v.y e.a.y both.0) (lt_from_test v.y e.b.y both.1) on),
    )

pub returns-then-is_under_both-clause-above : goal.returns-then-is_under_both-clause-above
returns-then-is_under_both-clause-above g c =
    let e = plain_edge g.I.IntNumber.whole c.args.e.now in
    let v = plain_point g.I.IntNumber.whole c.args.p in
    let both = and_parts (int_lt v.y e.a.y) (int_lt v.y e.b.y) (sym c.is_under_both.ensures ∙ c.if-is_under_both.true)
    in
    none_below e v c.requires.from (lt_from_test v.y e.a.y both.0) (lt_from_test v.y e.b.y both.1)

pub returns-clause-on : goal.returns-clause-on
returns-clause-on g c =
    let e = plain_edge g.I.IntNumber.whole c.args.e.now in
    let v = plain_point g.I.IntNumber.whole c.args.p in
    let z = g.I.Wide.WideIntNumber.whole c.cross_at.result in
    let told = on_by_sign e v c.requires.from c.requires.to (sym c.is_over_both.ensures ∙ c.if-is_over_both.false)
    (sym c.is_under_both.ensures ∙ c.if-is_under_both.false) z (c.cross_at.ensures.value ∙ sym (side-whole e v)) in
    rw c.sign.ensures told

pub returns-clause-above : goal.returns-clause-above
returns-clause-above g c =
    let e = plain_edge g.I.IntNumber.whole c.args.e.now in
    let v = plain_point g.I.IntNumber.whole c.args.p in
    let z = g.I.Wide.WideIntNumber.whole c.cross_at.result in
    rw c.sign.ensures
    (below_by_sign e v c.requires.from z (c.cross_at.ensures.value ∙ sym (side-whole e v)))

pub cross_at-requires-clause-q : goal.cross_at-requires-clause-q
cross_at-requires-clause-q g c =
    let e = plain_edge g.I.IntNumber.whole c.args.e.now in
    let v = plain_point g.I.IntNumber.whole c.args.p in
    in_range_between e v c.requires.from c.requires.to (sym c.is_over_both.ensures ∙ c.if-is_over_both.false)
    (sym c.is_under_both.ensures ∙ c.if-is_under_both.false) g.I.IntNumber.limit c.requires.edge.a_in_range
    c.requires.edge.b_in_range
