-- If the edge before starts in the same point, its windings are used; otherwise the look-up gives them.
use Rattle.std.proofs.Common.{◌≡◌, ◌+◌, ◌-◌, ◌<◌, ℤ, pos, length, take, get_or, true, refl, sym, ap, ap₂, ◌∙◌}
use Rattle.std.proofs.Common.{subst, arith}
use Rattle.std.proofs.lemmas.List.{length-map, get_or_default}
use Rattle.overlay_geom.specs.Edges.{CountedEdge, subj_of, clip_of}
use Rattle.overlay_geom.specs.Plane.{point_eq}
use Rattle.overlay_geom.proofs.Orders.{point_eq-same}
use Rattle.overlay_scan.specs.Sweeps.{IsSwept}
use Rattle.overlay_scan.proofs.LinesFit.{line_fits}
use Rattle.overlay_scan.proofs.SweptEntries.{moved}
use Rattle.overlay_order.specs.Content.{plain_edge}
use Rattle.overlay_graph.specs.Starts.{plain_starts, windings_below, wound_entries}
use Rattle.overlay_graph.specs.declared.windings.Windings.{Windings}
use Rattle.overlay_graph.proofs.PlacedEdges.{placed_read}
use Rattle.overlay_graph.proofs.StartsTogether.{winding_between}
use Rattle.overlay_graph.proofs.SweptFills.{is_asked, meets, subj_looked_up, clip_looked_up}
use Rattle.overlay_graph.proofs.fill_sweep.windings_below.Goals as goal

abbrev wind : ℤ → ℤ → Windings
wind v w = record { subj = v; clip = w }

pub returns-then-is_same-clause-below : goal.returns-then-is_same-clause-below
returns-then-is_same-clause-below g c = λ e is.
    let start = plain_edge g.I.IntNumber.whole g.C.EdgeCount.counts in
    let fs = plain_starts g.I.IntNumber.whole g.C.EdgeCount.counts c.args.edges.now c.args.starting.now in
    let i = c.args.i in
    let some = c.if-i-gt0.true in
    let n = start c.index-edges-starting.result in
    let p = start c.index-edges-starting-then-i-gt0.result in
    let lt : i < length fs = rw length-map c.requires.within in
    let at_n : get_or fs i n ≡ n = placed_read start c.args.edges.now c.args.starting.now i
    c.index-edges-starting.result c.requires.within c.requires.places c.index-edges-starting.is in
    let short = c.requires.within in
    let at_p : get_or fs (i - 1) p ≡ p = placed_read start c.args.edges.now c.args.starting.now (i - 1)
    c.index-edges-starting-then-i-gt0.result (omega arith) c.requires.places c.index-edges-starting-then-i-gt0.is in
    let on : i - 1 + 1 ≡ i = omega arith in
    let same : n ≡ e = sym at_n ∙ get_or_default fs i n e lt ∙ is in
    let met : point_eq p.a n.a ≡ true =
    rw c.index-edges-starting-then-i-gt0.is (sym c.is_same.ensures ∙ c.if-is_same.true) in
    let together : p.a ≡ e.a = point_eq-same p.a n.a met ∙ ap (λ (k : CountedEdge). k.a) same in
    let next : get_or fs (i - 1 + 1) e ≡ e = subst (λ m. get_or fs m e ≡ e) (sym on) is in
    let within : i - 1 + 1 < length fs = omega arith in
    c.requires.before (i - 1) p on at_p
    ∙ sym (ap₂ wind
    (winding_between subj_of fs c.requires.edges.subj c.requires.edges.order (i - 1) p e within at_p next together)
    (winding_between clip_of fs c.requires.edges.clip c.requires.edges.order (i - 1) p e within at_p next together))

pub first_less-requires : goal.first_less-requires
first_less-requires g c =
    let start = plain_edge g.I.IntNumber.whole g.C.EdgeCount.counts in
    let limit = g.I.IntNumber.limit in
    let fs = plain_starts g.I.IntNumber.whole g.C.EdgeCount.counts c.args.edges.now c.args.starting.now in
    let i = c.args.i in
    let e = start c.index-edges-starting.result in
    let lt : i < length fs = rw length-map c.requires.within in
    let is : get_or fs i e ≡ e = placed_read start c.args.edges.now c.args.starting.now i
    c.index-edges-starting.result c.requires.within c.requires.places c.index-edges-starting.is in
    let s = g.S.Scan.content c.args.scan.now in
    let swept = c.requires.swept e is in (
      line_fits _ _ g.met.I.IntNumber.small.align_bound g.met.I.IntNumber.small.size_bound,
      (
        swept.state,
        (
          swept.moves,
          (
            is_asked limit fs c.requires.edges i e lt is,
            meets limit fs c.requires.edges i e lt is s swept,
          ),
        ),
      ),
    )

pub returns-clause-swept : goal.returns-clause-swept
returns-clause-swept g c = λ f here.
    let start = plain_edge g.I.IntNumber.whole g.C.EdgeCount.counts in
    let limit = g.I.IntNumber.limit in
    let fs = plain_starts g.I.IntNumber.whole g.C.EdgeCount.counts c.args.edges.now c.args.starting.now in
    let i = c.args.i in
    let e = start c.index-edges-starting.result in
    let lt : i < length fs = rw length-map c.requires.within in
    let is : get_or fs i e ≡ e = placed_read start c.args.edges.now c.args.starting.now i
    c.index-edges-starting.result c.requires.within c.requires.places c.index-edges-starting.is in
    let s = g.S.Scan.content c.args.scan.now in
    let t = g.S.Scan.content c.first_less.new.self in
    subst (λ (h : CountedEdge). IsSwept limit h.a.x (take i (wound_entries fs)) t)
    (sym is ∙ get_or_default fs i e f lt ∙ here)
    (moved limit e.a.x (take i (wound_entries fs)) s (c.requires.swept e is) t c.first_less.ensures.content
    c.first_less.ensures.state)

pub returns-clause-below : goal.returns-clause-below
returns-clause-below g c = λ f here.
    let start = plain_edge g.I.IntNumber.whole g.C.EdgeCount.counts in
    let limit = g.I.IntNumber.limit in
    let fs = plain_starts g.I.IntNumber.whole g.C.EdgeCount.counts c.args.edges.now c.args.starting.now in
    let i = c.args.i in
    let e = start c.index-edges-starting.result in
    let lt : i < length fs = rw length-map c.requires.within in
    let is : get_or fs i e ≡ e = placed_read start c.args.edges.now c.args.starting.now i
    c.index-edges-starting.result c.requires.within c.requires.places c.index-edges-starting.is in
    let s = g.S.Scan.content c.args.scan.now in
    let swept = c.requires.swept e is in
    let outside : Windings = record { subj = pos 0; clip = pos 0 } in
    subst (λ (h : CountedEdge). c.first_less.result ≡ windings_below fs h)
    (sym is ∙ get_or_default fs i e f lt ∙ here)
    (c.first_less.ensures.value
    ∙ ap₂ wind (subj_looked_up limit fs c.requires.edges i e lt is s swept outside refl)
    (clip_looked_up limit fs c.requires.edges i e lt is s swept outside refl))
