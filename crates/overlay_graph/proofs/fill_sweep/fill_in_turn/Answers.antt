-- A further edge: the conditions of the calls, what is told where it passes, and what is known where it does not.
use Rattle.std.proofs.Common.{◌≡◌, ℕ, ◌+◌, ◌<◌, ◌≤◌, List, map, length, take, get_or, All, sym, ap}
use Rattle.std.proofs.Common.{◌∙◌, subst, arith}
use Rattle.std.specs.List.Sorted.{IsPermutation}
use Rattle.std.proofs.lemmas.List.{length-map, length-set}
use Rattle.std.proofs.lemmas.Simd.{map-map}
use Rattle.std.proofs.lemmas.List.Elements.{All-contains}
use Rattle.overlay_geom.specs.Edges.{CountedEdge}
use Rattle.overlay_geom.specs.Numbered.{Numbered}
use Rattle.overlay_geom.specs.Rules.{fill_bits}
use Rattle.overlay_geom.proofs.Mapped.{read_mapped}
use Rattle.overlay_geom.proofs.Numbered.{numbered_shuffled, told_more, all_told, told_by_function}
use Rattle.overlay_scan.specs.Sweeps.{IsSwept}
use Rattle.overlay_order.specs.Content.{plain_edge, plain_edges}
use Rattle.overlay_graph.specs.Starts.{edge_at, edges_at, numbered_at, wound_entries}
use Rattle.overlay_graph.proofs.FillsTold.{some_told, passed_more, none_told}
use Rattle.overlay_graph.proofs.PlacedEdges.{numbered_within, placed_at}
use Rattle.overlay_graph.proofs.Sweepable.{starts_permuted, bits_shuffled, by_start_sweepable}
use Rattle.overlay_graph.proofs.SweptFills.{swept_on, swept_for_next}
use Rattle.overlay_graph.proofs.fill_sweep.fill_in_turn.Goals as goal

-- the edge at a place, with the place
abbrev numbered_edge : List CountedEdge → ℕ → Numbered CountedEdge
numbered_edge es k = record { item = edge_at es k; place = k }

-- without their places they are the edges at the places
items_at : (es : List CountedEdge) (places : List ℕ) →
    map (λ (n : Numbered CountedEdge). n.item) (numbered_at es places) ≡ edges_at es places
items_at es places = map-map (λ (n : Numbered CountedEdge). n.item) (numbered_edge es) places

pub next_fill-requires-clause-edges : goal.next_fill-requires-clause-edges
next_fill-requires-clause-edges g c =
    let es = plain_edges g.I.IntNumber.whole g.C.EdgeCount.counts c.args.edges.now in
    let places = c.args.starting.now in
    let limit = g.I.IntNumber.limit in
    by_start_sweepable limit es c.requires.content c.requires.ascending c.requires.settled c.requires.balanced
    (numbered_at es places) c.requires.starts (edges_at es places) (items_at es places)

pub next_fill-requires-clause-places : goal.next_fill-requires-clause-places
next_fill-requires-clause-places g c =
    let es = plain_edges g.I.IntNumber.whole g.C.EdgeCount.counts c.args.edges.now in
    subst (λ n. All (λ k. k < n) c.args.starting.now)
    (length-map c.args.edges.now (plain_edge g.I.IntNumber.whole g.C.EdgeCount.counts))
    (numbered_within es c.args.starting.now c.requires.starts.permutation)

pub next_fill-requires-clause-swept : goal.next_fill-requires-clause-swept
next_fill-requires-clause-swept g c =
    let es = plain_edges g.I.IntNumber.whole g.C.EdgeCount.counts c.args.edges.now in
    let places = c.args.starting.now in
    let limit = g.I.IntNumber.limit in
    let fs = edges_at es places in
    let i = c.loop-i.i in
    let within : i < length places = c.loop-i-test.true in
    let lt : i < length fs = rw length-map within in
    λ e is. swept_for_next limit fs i e lt is (g.S.Scan.content c.loop-i.scan) c.loop-i.invariant.1

pub next_fill-requires-clause-before : goal.next_fill-requires-clause-before
next_fill-requires-clause-before g c = c.loop-i.invariant.3

pub bounds-fills-starting : goal.bounds-fills-starting
bounds-fills-starting g c =
    let es = plain_edges g.I.IntNumber.whole g.C.EdgeCount.counts c.args.edges.now in
    let places = c.args.starting.now in
    let i = c.loop-i.i in
    let less : get_or places i 0 < length es = numbered_within es places c.requires.starts.permutation i 0
    c.loop-i-test.true in
    let mapped = length-map c.args.edges.now (plain_edge g.I.IntNumber.whole g.C.EdgeCount.counts) in
    let sides = c.loop-i.invariant.0 in
    omega arith

pub loop-i-preserved : goal.loop-i-preserved
loop-i-preserved g c =
    let es = plain_edges g.I.IntNumber.whole g.C.EdgeCount.counts c.args.edges.now in
    let places = c.args.starting.now in
    let fs = edges_at es places in
    let ns = numbered_at es places in
    let limit = g.I.IntNumber.limit in
    let by = c.requires.starts in
    let sweepable = by_start_sweepable limit es c.requires.content c.requires.ascending c.requires.settled
    c.requires.balanced ns by fs (items_at es places) in
    let i = c.loop-i.i in
    let within : i < length places = c.loop-i-test.true in
    let lt : i < length fs = rw length-map within in
    let k = get_or places i 0 in
    let e = edge_at es k in
    let is : get_or fs i e ≡ e = read_mapped (edge_at es) places i k e within (placed_at places i within) in
    let n = numbered_edge es k in
    let here : get_or ns i n ≡ n = read_mapped (numbered_edge es) places i k n within (placed_at places i within) in
    let t = g.S.Scan.content c.next_fill.new.scan in
    let swept : IsSwept limit e.a.x (take (i + 1) (wound_entries fs)) t = c.in_ok-fill.ensures.swept e is in
    let told : c.in_ok-fill.fill ≡ fill_bits c.args.rule fs e = c.in_ok-fill.ensures.fill e is in (
      length-set c.loop-i.fills k c.in_ok-fill.fill ∙ c.loop-i.invariant.0,
      swept_on limit fs sweepable i e lt is t swept,
      told_more (λ f m. m ≡ fill_bits c.args.rule fs f) 0 es ns (numbered_shuffled es ns by.permutation)
          c.loop-i.fills
          (c.loop-i.invariant.0 ∙ sym (length-map c.args.edges.now
          (plain_edge g.I.IntNumber.whole g.C.EdgeCount.counts))) i n
          (rw length-map within) here c.in_ok-fill.fill told
          c.loop-i.invariant.2,
      c.in_ok-fill.ensures.above,
      passed_more (g.T.FillTest.passing c.args.test) c.args.rule es fs
          (subst (IsPermutation es) (items_at es places) (starts_permuted es ns by)) i e lt is
          (ap (g.T.FillTest.passing c.args.test) (sym told) ∙ sym c.passes.ensures ∙ c.if-passes.false)
          c.loop-i.invariant.4,
    )

pub returns-then-passes-clause-told : goal.returns-then-passes-clause-told
returns-then-passes-clause-told g c =
    let es = plain_edges g.I.IntNumber.whole g.C.EdgeCount.counts c.args.edges.now in
    let places = c.args.starting.now in
    let fs = edges_at es places in
    let ns = numbered_at es places in
    let by = c.requires.starts in
    let i = c.loop-i.i in
    let within : i < length places = c.loop-i-test.true in
    let lt : i < length fs = rw length-map within in
    let k = get_or places i 0 in
    let e = edge_at es k in
    let is : get_or fs i e ≡ e = read_mapped (edge_at es) places i k e within (placed_at places i within) in
    let told : c.in_ok-fill.fill ≡ fill_bits c.args.rule fs e = c.in_ok-fill.ensures.fill e is in
    some_told (g.T.FillTest.passing c.args.test) c.args.rule es fs
    (subst (IsPermutation es) (items_at es places) (starts_permuted es ns by)) i e lt is
    (ap (g.T.FillTest.passing c.args.test) (sym told) ∙ sym c.passes.ensures ∙ c.if-passes.true)

pub returns : goal.returns
returns g c = record {
  told = let es = plain_edges g.I.IntNumber.whole g.C.EdgeCount.counts c.args.edges.now in
      let places = c.args.starting.now in
      let fs = edges_at es places in
      let ns = numbered_at es places in
      let by = c.requires.starts in
      let i = c.loop-i.i in
      let up = c.loop-i.auto.i-end in
      let test = c.loop-i-test.false in
      let past : length fs ≤ i = let l = length-map places (edge_at es) in omega arith in
      none_told (g.T.FillTest.passing c.args.test) c.args.rule es fs
      (subst (IsPermutation es) (items_at es places) (starts_permuted es ns by)) i past c.loop-i.invariant.4;
  filled = λ no. let es = plain_edges g.I.IntNumber.whole g.C.EdgeCount.counts c.args.edges.now in
      let places = c.args.starting.now in
      let fs = edges_at es places in
      let ns = numbered_at es places in
      let by = c.requires.starts in
      let i = c.loop-i.i in
      let fills = c.loop-i.fills in
      let up = c.loop-i.auto.i-end in
      let test = c.loop-i-test.false in
      let sides = c.loop-i.invariant.0
      ∙ sym (length-map c.args.edges.now (plain_edge g.I.IntNumber.whole g.C.EdgeCount.counts)) in
      let past : length ns ≤ i = let l = length-map places (numbered_edge es) in omega arith in
      told_by_function (fill_bits c.args.rule es) es fills sides
      (λ k x y lt. all_told (λ f m. m ≡ fill_bits c.args.rule fs f) 0 es ns (numbered_shuffled es ns by.permutation)
      fills
      sides i past c.loop-i.invariant.2 k x y lt
      ∙ bits_shuffled es fs (subst (IsPermutation es) (items_at es places) (starts_permuted es ns by)) c.args.rule
      (get_or es k x));
}
