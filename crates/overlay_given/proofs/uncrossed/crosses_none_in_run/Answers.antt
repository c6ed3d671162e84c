-- A further block without an edge that is crossed. The loop ends at an edge that starts no further left than the right
-- end of the edge at place i.
use Rattle.std.proofs.Common.{◌≡◌, false, ◌≤ℤ◌, int_lt, sym, subst, arith}
use Rattle.std.proofs.lemmas.List.{length-map}
use Rattle.overlay_geom.proofs.Mapped.{All-mapped_at}
use Rattle.overlay_order.specs.Content.{plain_edge, plain_edges, IsHeld}
use Rattle.overlay_order.specs.declared.edge.CountedEdge.{CountedEdge}
use Rattle.overlay_pairs.proofs.Entries.{one_entry, placed_in_mapped}
use Rattle.overlay_given.proofs.HeightBlocks.{at_most}
use Rattle.overlay_given.proofs.UncrossedEdges.{crosses_none_further, none_behind_run}
use Rattle.overlay_given.proofs.uncrossed.crosses_none_in_run.Goals as goal

pub loop-j-init : goal.loop-j-init
loop-j-init g c = (omega arith, λ k e f past less at_e at_f. absurd (omega (arith, past, less)))

pub uncrossed_end-requires-clause-one : goal.uncrossed_end-requires-clause-one
uncrossed_end-requires-clause-one g c =
    All-mapped_at (IsHeld g.I.IntNumber.limit) (plain_edge g.I.IntNumber.whole g.C.EdgeCount.counts) c.args.edges.now
    c.args.i c.index-edges-i.result c.requires.within c.index-edges-i.is c.requires.held

pub loop-j-preserved : goal.loop-j-preserved
loop-j-preserved g c =
    let plain = plain_edge g.I.IntNumber.whole g.C.EdgeCount.counts in
    let es = plain_edges g.I.IntNumber.whole g.C.EdgeCount.counts c.args.edges.now in
    let past = c.loop-j.invariant.0 in
    let further = (c.in-Some.ensures).further in (
      omega (arith, past, further),
      crosses_none_further es c.args.i c.loop-j.j c.in-Some.end (plain c.index-edges-i.result)
          (placed_in_mapped plain c.args.edges.now c.args.i c.index-edges-i.result c.requires.within
          c.index-edges-i.is)
          c.loop-j.invariant.1 (c.in-Some.ensures).none,
    )

pub returns-in_default-clause-some : goal.returns-in_default-clause-some
returns-in_default-clause-some g c = λ is.
    let plain = plain_edge g.I.IntNumber.whole g.C.EdgeCount.counts in
    let some = c.uncrossed_end.ensures.some c.in_default.is in
    let past = c.loop-j.invariant.0 in
    let from = some.2 in (
      some.0,
      plain c.index-edges-i.result,
      some.1,
      omega (arith, past, from),
      placed_in_mapped plain c.args.edges.now c.args.i c.index-edges-i.result c.requires.within c.index-edges-i.is,
      some.4,
      some.5,
    )

pub returns-else-is_less-clause-none : goal.returns-else-is_less-clause-none
returns-else-is_less-clause-none g c = λ is.
    let whole = g.I.IntNumber.whole in
    let plain = plain_edge whole g.C.EdgeCount.counts in
    let edges = c.args.edges.now in
    let es = plain_edges whole g.C.EdgeCount.counts edges in
    let j = c.loop-j.j in
    let e = c.index-edges-i.result in
    let f = c.index-edges-j.result in
    let at_e = placed_in_mapped plain edges c.args.i e c.requires.within c.index-edges-i.is in
    let at_f = placed_in_mapped plain edges j f c.loop-j-test.true c.index-edges-j.is in
    none_behind_run g.I.IntNumber.limit es c.requires.held c.requires.ascending c.args.i j c.loop-j.invariant.0
    (λ u v at_u at_v. subst (λ k. k.b.x ≤ℤ v.a.x) (one_entry es c.args.i (plain e) u at_e at_u)
    (subst (λ k. whole e.b.x ≤ℤ k.a.x) (one_entry es j (plain f) v at_f at_v)
    (at_most (whole f.a.x) (whole e.b.x)
    (subst (λ (k : CountedEdge g.row.I.Denot g.row.C.Denot). int_lt (whole k.a.x) (whole e.b.x) ≡ false)
    (sym c.index-edges-j.is) (sym c.if-is_less.ensures))))) c.loop-j.invariant.1

pub returns-after-loop-j-clause-none : goal.returns-after-loop-j-clause-none
returns-after-loop-j-clause-none g c = λ is.
    let plain = plain_edge g.I.IntNumber.whole g.C.EdgeCount.counts in
    let es = plain_edges g.I.IntNumber.whole g.C.EdgeCount.counts c.args.edges.now in
    let past = c.loop-j-test.false in
    let l = length-map c.args.edges.now plain in
    none_behind_run g.I.IntNumber.limit es c.requires.held c.requires.ascending c.args.i c.loop-j.j
    c.loop-j.invariant.0 (λ u v at_u at_v. absurd (let less = at_v.0 in omega (arith, less, past, l)))
    c.loop-j.invariant.1
