-- A further edge: it shares no height, or its place is added. The loop ends where an edge starts right, or at `to`.
use Rattle.std.proofs.Common.{◌≡◌, ◌+◌, ◌<◌, ◌<ℤ◌, length, get_or, refl, sym, ap, ◌∙◌, subst, arith}
use Rattle.std.proofs.lemmas.Bool.{false≢true}
use Rattle.std.proofs.lemmas.List.{length-map}
use Rattle.overlay_geom.proofs.Comparisons.{Decides-int_lt}
use Rattle.overlay_order.specs.Content.{plain_edge, plain_edges}
use Rattle.overlay_order.specs.declared.edge.CountedEdge.{CountedEdge}
use Rattle.overlay_pairs.specs.Extents.{plain_extent}
use Rattle.overlay_pairs.specs.Places.{IsAt}
use Rattle.overlay_pairs.specs.Near.{AreNearHeights}
use Rattle.overlay_pairs.proofs.Entries.{one_entry, placed_in_mapped}
use Rattle.overlay_pairs.proofs.NearEdges.{heights_near}
use Rattle.overlay_pairs.proofs.Searches.{height_apart, height_shared, heights_none}
use Rattle.overlay_pairs.proofs.near.take_by_heights.Goals as goal
use Rattle.overlay_pairs.proofs.near.take_by_heights.Goals.{then-not-misses_heights+in_ok-push}
use Rattle.overlay_pairs.proofs.near.take_by_heights.Goals.{else-not-misses_heights}

pub loop-j-init : goal.loop-j-init
loop-j-init g c = (
  omega arith,
  (let ordered = c.requires.ordered in omega (arith, ordered)),
  subst (AreNearHeights (plain_edges g.I.IntNumber.whole g.C.EdgeCount.counts c.args.edges.now)
      (plain_extent g.I.IntNumber.whole c.extent_of-of.result) c.args.from c.args.from) (sym c.requires.empty)
      (heights_none (plain_edges g.I.IntNumber.whole g.C.EdgeCount.counts c.args.edges.now)
      (plain_extent g.I.IntNumber.whole c.extent_of-of.result) c.args.from),
)

pub loop-j-preserved : goal.loop-j-preserved
loop-j-preserved g c =
    let plain = plain_edge g.I.IntNumber.whole g.C.EdgeCount.counts in
    let es = plain_edges g.I.IntNumber.whole g.C.EdgeCount.counts c.args.edges.now in
    let s = plain_extent g.I.IntNumber.whole c.extent_of-of.result in
    let j = c.loop-j.j in
    let e = c.index-edges-j-in-loop-j.result in
    let past = c.loop-j.invariant.0 in
    let less = c.loop-j-test.true in
    let inside : j < length c.args.edges.now = (let within = c.requires.within in omega (arith, less, within)) in
    let at_e = placed_in_mapped plain c.args.edges.now j e inside c.index-edges-j-in-loop-j.is in
    let js = c.loop-j.near.items in (
      omega (arith, past),
      omega (arith, less),
      elim c.if-not-misses_heights.branch [
        | then-not-misses_heights+in_ok-push w ↦ subst (AreNearHeights es s c.args.from (j + 1))
            (sym (ap (λ v. v.items) w.near-is ∙ w.in_ok-push.ensures.items))
            (height_shared es s c.args.from j (plain e) at_e past js c.loop-j.invariant.2
            (λ apart. false≢true (w.if-not-misses_heights.ensures.1 apart)))
        | else-not-misses_heights w ↦ subst (AreNearHeights es s c.args.from (j + 1))
            (sym (ap (λ v. v.items) w.near-is))
            (height_apart es s c.args.from j (plain e) at_e past js c.loop-j.invariant.2
            (w.if-not-misses_heights.ensures.0 refl))
      ],
    )

pub returns-else-not-is_less : goal.returns-else-not-is_less
returns-else-not-is_less g c = record {
  ok = let whole = g.I.IntNumber.whole in
      let plain = plain_edge whole g.C.EdgeCount.counts in
      let edges = c.args.edges.now in
      let es = plain_edges whole g.C.EdgeCount.counts edges in
      let x = whole c.args.e.now.b.x in
      let j = c.loop-j.j in
      let f = c.index-edges-j.result in
      let less = c.loop-j-test.true in
      let inside : j < length edges = (let within = c.requires.within in omega (arith, less, within)) in
      let at_f = placed_in_mapped plain edges j f inside c.index-edges-j.is in
      heights_near es c.args.from j (plain c.args.e.now) g.I.IntNumber.limit c.requires.held c.requires.one
      c.requires.ascending
      record {
        ordered = c.loop-j.invariant.0;
        within = (let l = length-map edges plain in omega (arith, l, inside));
        right = λ h at_h. subst (λ k. x <ℤ k.a.x) (one_entry es j (plain f) h at_f at_h)
            (subst (λ (k : CountedEdge g.row.I.Denot g.row.C.Denot). x <ℤ whole k.a.x) (sym c.index-edges-j.is)
            ((Decides-int_lt x (whole (get_or edges j f).a.x)).0 (sym c.if-not-is_less.ensures)));
      }
      (plain_extent whole c.extent_of-of.result) c.loop-j.near.items c.extent_of-of.ensures c.loop-j.invariant.2;
}

pub returns-after-loop-j : goal.returns-after-loop-j
returns-after-loop-j g c = record {
  ok = let whole = g.I.IntNumber.whole in
      let plain = plain_edge whole g.C.EdgeCount.counts in
      let es = plain_edges whole g.C.EdgeCount.counts c.args.edges.now in
      let x = whole c.args.e.now.b.x in
      let j = c.loop-j.j in
      let up_to = c.loop-j.invariant.1 in
      let past = c.loop-j-test.false in
      let same : c.args.to ≡ j = omega (arith, past, up_to) in
      heights_near es c.args.from j (plain c.args.e.now) g.I.IntNumber.limit c.requires.held c.requires.one
      c.requires.ascending
      record {
        ordered = c.loop-j.invariant.0;
        within = (let l = length-map c.args.edges.now plain in let within = c.requires.within in
            omega (arith, l, up_to, within));
        right = subst (λ n. (f : _) → IsAt es n f → x <ℤ f.a.x) same c.requires.right;
      }
      (plain_extent whole c.extent_of-of.result) c.loop-j.near.items c.extent_of-of.ensures c.loop-j.invariant.2;
}
