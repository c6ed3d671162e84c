-- A loop over the edges that are not far from the edge: it crosses none of them, or the answer is no.
use Rattle.std.proofs.Common.{get_or, take, sym, subst, ◌∙◌, arith}
use Rattle.std.proofs.lemmas.List.{take_all, take_more}
use Rattle.overlay_geom.proofs.Mapped.{All-mapped_at}
use Rattle.overlay_order.specs.Content.{plain_edge, plain_edges, IsHeld}
use Rattle.overlay_pairs.proofs.Entries.{placed_in_mapped}
use Rattle.overlay_given.proofs.NearTests.{FailsAt, edges_cross, fails_at_none, fails_at_more, near_at}
use Rattle.overlay_given.proofs.UncrossedEdges.{none_behind}
use Rattle.overlay_given.proofs.uncrossed.crosses_none.Goals as goal

pub loop-k-init : goal.loop-k-init
loop-k-init g c = fails_at_none edges_cross
    (plain_edges g.I.IntNumber.whole g.C.EdgeCount.counts c.args.edges.now) c.args.i

pub offset_bounds-edges-j : goal.offset_bounds-edges-j
offset_bounds-edges-j g c =
    let later = near_at g.I.IntNumber.whole g.C.EdgeCount.counts c.args.edges.now c.args.i c.args.near.now
    c.requires.within c.requires.near c.loop-k.k c.loop-k-test.true in
    let less = later.1 in
    omega (arith, less)

pub bounds-edges-j : goal.bounds-edges-j
bounds-edges-j g c =
    let later = near_at g.I.IntNumber.whole g.C.EdgeCount.counts c.args.edges.now c.args.i c.args.near.now
    c.requires.within c.requires.near c.loop-k.k c.loop-k-test.true in
    later.1

pub cross-requires-clause-one : goal.cross-requires-clause-one
cross-requires-clause-one g c =
    All-mapped_at (IsHeld g.I.IntNumber.limit) (plain_edge g.I.IntNumber.whole g.C.EdgeCount.counts) c.args.edges.now
    c.args.i c.index-edges-i.result c.requires.within c.index-edges-i.is c.requires.held

pub cross-requires-clause-other : goal.cross-requires-clause-other
cross-requires-clause-other g c =
    let later = near_at g.I.IntNumber.whole g.C.EdgeCount.counts c.args.edges.now c.args.i c.args.near.now
    c.requires.within c.requires.near c.loop-k.k c.loop-k-test.true in
    All-mapped_at (IsHeld g.I.IntNumber.limit) (plain_edge g.I.IntNumber.whole g.C.EdgeCount.counts) c.args.edges.now
    (get_or c.args.near.now c.loop-k.k 0) c.index-edges-j.result later.1 c.index-edges-j.is c.requires.held

pub loop-k-preserved : goal.loop-k-preserved
loop-k-preserved g c =
    let plain = plain_edge g.I.IntNumber.whole g.C.EdgeCount.counts in
    let es = plain_edges g.I.IntNumber.whole g.C.EdgeCount.counts c.args.edges.now in
    let j = get_or c.args.near.now c.loop-k.k 0 in
    let later = near_at g.I.IntNumber.whole g.C.EdgeCount.counts c.args.edges.now c.args.i c.args.near.now
    c.requires.within c.requires.near c.loop-k.k c.loop-k-test.true in
    subst (FailsAt edges_cross es c.args.i)
    (sym (take_more c.args.near.now c.loop-k.k 0 c.loop-k-test.true))
    (fails_at_more edges_cross es c.args.i (plain c.index-edges-i.result)
    (placed_in_mapped plain c.args.edges.now c.args.i c.index-edges-i.result c.requires.within c.index-edges-i.is)
    (take c.loop-k.k c.args.near.now) j (plain c.index-edges-j.result)
    (placed_in_mapped plain c.args.edges.now j c.index-edges-j.result later.1 c.index-edges-j.is)
    (sym c.cross.ensures ∙ c.if-cross.false) c.loop-k.invariant)

pub returns-then-cross-clause-some : goal.returns-then-cross-clause-some
returns-then-cross-clause-some g c = λ is.
    let plain = plain_edge g.I.IntNumber.whole g.C.EdgeCount.counts in
    let j = get_or c.args.near.now c.loop-k.k 0 in
    let later = near_at g.I.IntNumber.whole g.C.EdgeCount.counts c.args.edges.now c.args.i c.args.near.now
    c.requires.within c.requires.near c.loop-k.k c.loop-k-test.true in
    let behind = later.0 in (
      j,
      plain c.index-edges-i.result,
      plain c.index-edges-j.result,
      omega (arith, behind),
      placed_in_mapped plain c.args.edges.now c.args.i c.index-edges-i.result c.requires.within c.index-edges-i.is,
      placed_in_mapped plain c.args.edges.now j c.index-edges-j.result later.1 c.index-edges-j.is,
      sym c.cross.ensures ∙ c.if-cross.true,
    )

pub returns-clause-none : goal.returns-clause-none
returns-clause-none g c = λ is.
    let es = plain_edges g.I.IntNumber.whole g.C.EdgeCount.counts c.args.edges.now in
    none_behind g.I.IntNumber.limit es c.requires.held c.args.i c.args.near.now c.requires.near
    (subst (FailsAt edges_cross es c.args.i)
    (take_all c.loop-k.k c.args.near.now c.loop-k-test.false) c.loop-k.invariant)
