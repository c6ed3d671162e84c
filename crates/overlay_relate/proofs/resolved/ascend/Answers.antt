-- The next edge comes after the one before it, or not.
use Rattle.std.proofs.Common.{◌≡◌, ◌-◌, refl, sym, ap, ◌∙◌, subst, arith}
use Rattle.std.specs.Ordering.{is_lt}
use Rattle.std.proofs.lemmas.Bool.{false≢true}
use Rattle.std.proofs.lemmas.List.{length-map, take_all}
use Rattle.overlay_geom.specs.Edges.{ends_of}
use Rattle.overlay_geom.specs.Plane.{edge_lt}
use Rattle.overlay_geom.proofs.Mapped.{read_mapped}
use Rattle.overlay_order.specs.Content.{plain_edge, IsAscending}
use Rattle.overlay_order.specs.Counts.{boolean_counts}
use Rattle.overlay_parts.proofs.EdgeOrder.{edge_cmp-is_less}
use Rattle.overlay_relate.specs.Resolved.{edges_once}
use Rattle.overlay_relate.proofs.ApartInOrder.{ascending_more, not_ascending}
use Rattle.overlay_relate.proofs.resolved.ascend.Goals as goal

pub returns-then-not-is_lt : goal.returns-then-not-is_lt
returns-then-not-is_lt g c =
    let plain = plain_edge g.I.IntNumber.whole boolean_counts in
    let edges = c.args.edges.now in
    let i = c.loop-i.i in
    let e = c.index-edges-i.result in
    let f = c.index-edges-i-in-loop-i.result in
    let told : c.is_lt.result ≡ edge_lt (ends_of (plain e)) (ends_of (plain f)) =
    c.is_lt.ensures ∙ ap is_lt c.compare_edges.ensures ∙ edge_cmp-is_less (plain e) (plain f) in
    let some = c.loop-i.auto.i in (
      λ t. absurd (false≢true t),
      λ ascending. absurd (not_ascending (edges_once g.I.IntNumber.whole edges) i (plain e) (plain f)
          (omega (arith, some))
          (rw length-map c.loop-i-test.true)
          (λ d. read_mapped plain edges (i - 1) e d (omega (arith, c.loop-i-test.true)) c.index-edges-i.is)
          (λ d. read_mapped plain edges i f d c.loop-i-test.true c.index-edges-i-in-loop-i.is)
          (sym told ∙ c.if-not-is_lt.true) ascending),
    )

pub loop-i-preserved : goal.loop-i-preserved
loop-i-preserved g c =
    let plain = plain_edge g.I.IntNumber.whole boolean_counts in
    let edges = c.args.edges.now in
    let i = c.loop-i.i in
    let e = c.index-edges-i.result in
    let f = c.index-edges-i-in-loop-i.result in
    let told : c.is_lt.result ≡ edge_lt (ends_of (plain e)) (ends_of (plain f)) =
    c.is_lt.ensures ∙ ap is_lt c.compare_edges.ensures ∙ edge_cmp-is_less (plain e) (plain f) in
    let some = c.loop-i.auto.i in
    ascending_more (edges_once g.I.IntNumber.whole edges) i (plain e) (plain f) (omega (arith, some))
    (rw length-map c.loop-i-test.true)
    (λ d. read_mapped plain edges (i - 1) e d (omega (arith, c.loop-i-test.true)) c.index-edges-i.is)
    (λ d. read_mapped plain edges i f d c.loop-i-test.true c.index-edges-i-in-loop-i.is)
    (sym told ∙ c.if-not-is_lt.false) c.loop-i.invariant

pub returns : goal.returns
returns g c =
    let ks = edges_once g.I.IntNumber.whole c.args.edges.now in (
      λ t. subst IsAscending (take_all c.loop-i.i ks (rw length-map (let past = c.loop-i-test.false in omega arith)))
          c.loop-i.invariant,
      λ ascending. refl,
    )
