-- The heights do not overlap with the edge's, or the edges are tested one by one.
use Rattle.std.proofs.Common.{sym, subst, ◌∙◌, arith}
use Rattle.std.proofs.lemmas.List.{length-map}
use Rattle.overlay_geom.specs.Edges.{ends_of}
use Rattle.overlay_geom.proofs.Mapped.{All-mapped_at}
use Rattle.overlay_order.specs.Content.{plain_edge, plain_edges, IsHeld}
use Rattle.overlay_pairs.proofs.Entries.{placed_in_mapped}
use Rattle.overlay_given.specs.Heights.{LiesBetween}
use Rattle.overlay_given.specs.declared.heights.Heights.{Heights}
use Rattle.overlay_given.proofs.HeightBlocks.{apart_uncrossed}
use Rattle.overlay_given.proofs.UncrossedEdges.{crosses_none_more}
use Rattle.overlay_given.proofs.uncrossed.crosses_some_of.Goals as goal

pub are_apart-requires : goal.are_apart-requires
are_apart-requires g c =
    let l = length-map c.args.edges.now (plain_edge g.I.IntNumber.whole g.C.EdgeCount.counts) in
    let within = c.requires.within in
    let count = c.requires.heights.count in
    omega (arith, l, within, count)

pub returns-then-are_apart-clause-none : goal.returns-then-are_apart-clause-none
returns-then-are_apart-clause-none g c = λ is.
    let plain = plain_edge g.I.IntNumber.whole g.C.EdgeCount.counts in
    let es = plain_edges g.I.IntNumber.whole g.C.EdgeCount.counts c.args.edges.now in
    apart_uncrossed g.I.IntNumber.whole es (plain c.args.e.now) c.args.own c.args.heights.now c.args.from c.args.to
    c.requires.own c.requires.heights (c.are_apart.ensures c.if-are_apart.true)

pub loop-k-init : goal.loop-k-init
loop-k-init g c = (omega arith, λ k f past less at_f. absurd (omega (arith, past, less)))

pub bounds-heights-k : goal.bounds-heights-k
bounds-heights-k g c =
    let l = length-map c.args.edges.now (plain_edge g.I.IntNumber.whole g.C.EdgeCount.counts) in
    let less = c.loop-k-test.true in
    let within = c.requires.within in
    let count = c.requires.heights.count in
    omega (arith, l, less, within, count)

pub crosses_between-requires-clause-other : goal.crosses_between-requires-clause-other
crosses_between-requires-clause-other g c =
    let less = c.loop-k-test.true in
    let within = c.requires.within in
    All-mapped_at (IsHeld g.I.IntNumber.limit) (plain_edge g.I.IntNumber.whole g.C.EdgeCount.counts) c.args.edges.now
    c.loop-k.k c.index-edges-k.result (omega (arith, less, within)) c.index-edges-k.is c.requires.held

pub crosses_between-requires-clause-others : goal.crosses_between-requires-clause-others
crosses_between-requires-clause-others g c =
    let whole = g.I.IntNumber.whole in
    let plain = plain_edge whole g.C.EdgeCount.counts in
    let edges = c.args.edges.now in
    let f = c.index-edges-k.result in
    let l = length-map edges plain in
    let less = c.loop-k-test.true in
    let within = c.requires.within in
    let count = c.requires.heights.count in
    subst (λ (h : Heights g.row.I.Denot). LiesBetween (ends_of (plain f)) (whole h.low) (whole h.high))
    (sym c.index-heights-k.is)
    (c.requires.heights.lie c.loop-k.k c.index-heights-k.result (plain f) (omega (arith, l, less, within, count))
    (placed_in_mapped plain edges c.loop-k.k f (omega (arith, less, within)) c.index-edges-k.is))

pub loop-k-preserved : goal.loop-k-preserved
loop-k-preserved g c =
    let plain = plain_edge g.I.IntNumber.whole g.C.EdgeCount.counts in
    let es = plain_edges g.I.IntNumber.whole g.C.EdgeCount.counts c.args.edges.now in
    let less = c.loop-k-test.true in
    let within = c.requires.within in
    let past = c.loop-k.invariant.0 in (
      omega (arith, past),
      crosses_none_more es (plain c.args.e.now) c.args.from c.loop-k.k (plain c.index-edges-k.result)
          (placed_in_mapped plain c.args.edges.now c.loop-k.k c.index-edges-k.result (omega (arith, less, within))
          c.index-edges-k.is)
          (sym c.crosses_between.ensures ∙ c.if-crosses_between.false) c.loop-k.invariant.1,
    )

pub returns-then-crosses_between-clause-some : goal.returns-then-crosses_between-clause-some
returns-then-crosses_between-clause-some g c = λ is.
    let plain = plain_edge g.I.IntNumber.whole g.C.EdgeCount.counts in
    let less = c.loop-k-test.true in
    let within = c.requires.within in (
      c.loop-k.k,
      plain c.index-edges-k.result,
      c.loop-k.invariant.0,
      less,
      placed_in_mapped plain c.args.edges.now c.loop-k.k c.index-edges-k.result (omega (arith, less, within))
          c.index-edges-k.is,
      sym c.crosses_between.ensures ∙ c.if-crosses_between.true,
    )

pub returns-clause-none : goal.returns-clause-none
returns-clause-none g c = λ is k f past less at_f.
    let ended = c.loop-k-test.false in
    c.loop-k.invariant.1 k f past (omega (arith, less, ended)) at_f
