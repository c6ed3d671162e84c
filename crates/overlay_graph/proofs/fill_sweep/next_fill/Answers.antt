-- The next edge is inserted above the edges under it, if it is not vertical.
use Rattle.std.proofs.Common.{◌≡◌, ◌+◌, ◌<◌, ◌+ℤ◌, int_lt, length, take, get_or, sym, ap, ap₂, ◌∙◌, subst, arith, ℤ}
use Rattle.std.proofs.lemmas.List.{length-map, get_or_default}
use Rattle.overlay_geom.specs.Edges.{CountedEdge, ends_of, subj_of, clip_of}
use Rattle.overlay_geom.specs.Plane.{midpoint}
use Rattle.overlay_geom.specs.Rules.{fill_bits}
use Rattle.overlay_geom.proofs.Comparisons.{is_lt-int_cmp}
use Rattle.overlay_geom.proofs.WindingSums.{subj_weighed, clip_weighed, winding_by-light}
use Rattle.overlay_scan.specs.Sweeps.{IsSwept}
use Rattle.overlay_scan.proofs.LinesFit.{line_fits}
use Rattle.overlay_order.specs.Content.{plain_edge}
use Rattle.overlay_graph.specs.Starts.{plain_starts, windings_above, wound_entries}
use Rattle.overlay_graph.specs.declared.windings.Windings.{Windings}
use Rattle.overlay_graph.proofs.PlacedEdges.{placed_read}
use Rattle.overlay_graph.proofs.SideBits.{bits_between_windings}
use Rattle.overlay_graph.proofs.SweptFills.{is_over, meets, fresh, swept_with, swept_past}
use Rattle.overlay_graph.proofs.fill_sweep.next_fill.Goals as goal
use Rattle.overlay_graph.proofs.fill_sweep.next_fill.Goals.{then-is_lt+in-Ok, else-is_lt}

abbrev wind : ℤ → ℤ → Windings
wind v w = record { subj = v; clip = w }

pub beyond-requires-clause-subj : goal.beyond-requires-clause-subj
beyond-requires-clause-subj g c =
    let start = plain_edge g.I.IntNumber.whole g.C.EdgeCount.counts in
    let fs = plain_starts g.I.IntNumber.whole g.C.EdgeCount.counts c.args.edges.now c.args.starting.now in
    let e = start c.index-edges-starting.result in
    let is : get_or fs c.args.i e ≡ e = placed_read start c.args.edges.now c.args.starting.now c.args.i
    c.index-edges-starting.result c.requires.within c.requires.places c.index-edges-starting.is in
    winding_by-light subj_of subj_weighed fs (midpoint (ends_of e)) 2147483648 c.windings_below-below.result.subj
    c.requires.edges.content.light (ap (λ (v : Windings). v.subj) (c.windings_below-below.ensures.below e is))

pub beyond-requires-clause-clip : goal.beyond-requires-clause-clip
beyond-requires-clause-clip g c =
    let start = plain_edge g.I.IntNumber.whole g.C.EdgeCount.counts in
    let fs = plain_starts g.I.IntNumber.whole g.C.EdgeCount.counts c.args.edges.now c.args.starting.now in
    let e = start c.index-edges-starting.result in
    let is : get_or fs c.args.i e ≡ e = placed_read start c.args.edges.now c.args.starting.now c.args.i
    c.index-edges-starting.result c.requires.within c.requires.places c.index-edges-starting.is in
    winding_by-light clip_of clip_weighed fs (midpoint (ends_of e)) 2147483648 c.windings_below-below.result.clip
    c.requires.edges.content.light (ap (λ (v : Windings). v.clip) (c.windings_below-below.ensures.below e is))

pub insert-requires : goal.insert-requires
insert-requires g c =
    let start = plain_edge g.I.IntNumber.whole g.C.EdgeCount.counts in
    let limit = g.I.IntNumber.limit in
    let fs = plain_starts g.I.IntNumber.whole g.C.EdgeCount.counts c.args.edges.now c.args.starting.now in
    let i = c.args.i in
    let e = start c.index-edges-starting.result in
    let lt : i < length fs = rw length-map c.requires.within in
    let is : get_or fs i e ≡ e = placed_read start c.args.edges.now c.args.starting.now i
    c.index-edges-starting.result c.requires.within c.requires.places c.index-edges-starting.is in
    let t = g.S.Scan.content c.windings_below-below.new.scan in
    let swept = c.windings_below-below.ensures.swept e is in
    let test : c.is_lt.result ≡ int_lt e.a.x e.b.x = rw (c.is_lt.ensures, c.compare.ensures)
    (is_lt-int_cmp e.a.x e.b.x) in (
      line_fits _ _ g.met.I.IntNumber.small.align_bound g.met.I.IntNumber.small.size_bound,
      (
        swept.state,
        (
          swept.moves,
          (
            is_over limit fs c.requires.edges i e lt is (sym test ∙ c.if-is_lt.true),
            (meets limit fs c.requires.edges i e lt is t swept, fresh limit fs c.requires.edges i e lt is t swept),
          ),
        ),
      ),
    )

pub returns-clause-swept : goal.returns-clause-swept
returns-clause-swept g c = λ f here.
    let start = plain_edge g.I.IntNumber.whole g.C.EdgeCount.counts in
    let limit = g.I.IntNumber.limit in
    let fs = plain_starts g.I.IntNumber.whole g.C.EdgeCount.counts c.args.edges.now c.args.starting.now in
    let i = c.args.i in
    let e = start c.index-edges-starting.result in
    let lt : i < length fs = rw length-map c.requires.within in
    let is : get_or fs i e ≡ e = placed_read start c.args.edges.now c.args.starting.now i
    c.index-edges-starting.result c.requires.within c.requires.places c.index-edges-starting.is in
    let t = g.S.Scan.content c.windings_below-below.new.scan in
    let swept = c.windings_below-below.ensures.swept e is in
    let below = c.windings_below-below.ensures.below e is in
    let test : c.is_lt.result ≡ int_lt e.a.x e.b.x = rw (c.is_lt.ensures, c.compare.ensures)
    (is_lt-int_cmp e.a.x e.b.x) in
    let above = c.beyond.result in
    let subj = c.beyond.ensures.subj ∙ ap (λ (v : Windings). v.subj +ℤ e.counts.subj) below in
    let clip = c.beyond.ensures.clip ∙ ap (λ (v : Windings). v.clip +ℤ e.counts.clip) below in
    subst (λ (h : CountedEdge). IsSwept limit h.a.x (take (i + 1) (wound_entries fs))
    (g.S.Scan.content c.if-is_lt.scan)) (sym is ∙ get_or_default fs i e f lt ∙ here)
    (elim c.if-is_lt.branch [
      | then-is_lt+in-Ok w ↦ subst (λ k. IsSwept limit e.a.x (take (i + 1) (wound_entries fs))
          (g.S.Scan.content k)) (sym w.scan-is)
          (swept_with limit fs c.requires.edges i e lt is t swept (sym test ∙ w.if-is_lt.true) above subj clip
          (g.S.Scan.content w.insert.new.self)
          w.in-Ok.ensures.ok w.in-Ok.ensures.reached w.in-Ok.ensures.state)
      | else-is_lt w ↦ subst (λ k. IsSwept limit e.a.x (take (i + 1) (wound_entries fs)) (g.S.Scan.content k))
          (sym w.scan-is)
          (swept_past limit fs c.requires.edges i e lt is t swept (sym test ∙ w.if-is_lt.false))
    ])

pub returns-clause-above : goal.returns-clause-above
returns-clause-above g c = λ k f on here.
    let start = plain_edge g.I.IntNumber.whole g.C.EdgeCount.counts in
    let limit = g.I.IntNumber.limit in
    let fs = plain_starts g.I.IntNumber.whole g.C.EdgeCount.counts c.args.edges.now c.args.starting.now in
    let i = c.args.i in
    let e = start c.index-edges-starting.result in
    let lt : i < length fs = rw length-map c.requires.within in
    let is : get_or fs i e ≡ e = placed_read start c.args.edges.now c.args.starting.now i
    c.index-edges-starting.result c.requires.within c.requires.places c.index-edges-starting.is in
    let below = c.windings_below-below.ensures.below e is in
    let same : k ≡ i = omega (arith, on) in
    let subj = c.beyond.ensures.subj ∙ ap (λ (v : Windings). v.subj +ℤ e.counts.subj) below in
    let clip = c.beyond.ensures.clip ∙ ap (λ (v : Windings). v.clip +ℤ e.counts.clip) below in
    subst (λ (h : CountedEdge). c.beyond.result ≡ windings_above fs h)
    (sym is ∙ get_or_default fs i e f lt ∙ subst (λ n. get_or fs n f ≡ f) same here) (ap₂ wind subj clip)

pub returns-clause-fill : goal.returns-clause-fill
returns-clause-fill g c = λ f here.
    let start = plain_edge g.I.IntNumber.whole g.C.EdgeCount.counts in
    let limit = g.I.IntNumber.limit in
    let fs = plain_starts g.I.IntNumber.whole g.C.EdgeCount.counts c.args.edges.now c.args.starting.now in
    let i = c.args.i in
    let e = start c.index-edges-starting.result in
    let lt : i < length fs = rw length-map c.requires.within in
    let is : get_or fs i e ≡ e = placed_read start c.args.edges.now c.args.starting.now i
    c.index-edges-starting.result c.requires.within c.requires.places c.index-edges-starting.is in
    let below = c.windings_below-below.ensures.below e is in
    subst (λ (h : CountedEdge). c.bits_between.result ≡ fill_bits c.args.rule fs h)
    (sym is ∙ get_or_default fs i e f lt ∙ here)
    (bits_between_windings c.args.rule fs e c.bits_between.result c.windings_below-below.result.subj
    c.windings_below-below.result.clip c.beyond.result.subj c.beyond.result.clip
    (ap (λ (v : Windings). v.subj) below) (ap (λ (v : Windings). v.clip) below) c.beyond.ensures.subj
    c.beyond.ensures.clip c.bits_between.ensures)
