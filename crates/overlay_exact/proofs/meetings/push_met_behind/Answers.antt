-- A loop over the edges behind one, as long as they start up to its end: each adds its meeting points.
use Rattle.std.proofs.Common.{◌≡◌, ◌≢◌, ◌+◌, ◌<◌, ◌≤◌, ◌<ℤ◌, length, sym, ◌∙◌, subst, arith}
use Rattle.std.proofs.lemmas.List.{length-map}
use Rattle.overlay_geom.specs.Edges.{CountedEdge, ends_of}
use Rattle.overlay_geom.specs.Resolved.{plain_edge as plain_ends, IsLongEdge}
use Rattle.overlay_geom.proofs.Mapped.{All-mapped_at}
use Rattle.overlay_geom.proofs.Signs.{linear}
use Rattle.overlay_order.specs.Content.{plain_edge, plain_edges, IsHeld}
use Rattle.overlay_pairs.proofs.Entries.{one_entry, placed_in_mapped}
use Rattle.overlay_exact.specs.AllMet.{AreMetBefore}
use Rattle.overlay_exact.specs.Along.{plain_mets, AddsMet}
use Rattle.overlay_exact.proofs.GatheredMet.{adds_alike, gathered_more, gathered_past_itself, long_of_held}
use Rattle.overlay_exact.proofs.PassedEdges.{forward_held, gathers_behind}
use Rattle.overlay_exact.proofs.meetings.push_met_behind.Goals as goal

pub loop-j-init : goal.loop-j-init
loop-j-init g c =
    let within = c.requires.within in (
      omega arith,
      omega (arith, within),
      λ e at. gathered_past_itself (plain_edges g.I.IntNumber.whole g.C.EdgeCount.counts c.args.edges.now) c.args.i e
          (plain_mets g.I.Wide.WideIntNumber.whole c.args.met.now.items) (c.requires.before e at),
    )

pub push_met-requires-clause-one : goal.push_met-requires-clause-one
push_met-requires-clause-one g c =
    let limit = g.I.IntNumber.limit in
    let plain = plain_edge g.I.IntNumber.whole g.C.EdgeCount.counts in
    subst (IsLongEdge limit) (sym c.ends_of-e.ensures)
    (long_of_held limit (plain c.index-edges-i.result)
    (All-mapped_at (IsHeld limit) plain c.args.edges.now c.args.i c.index-edges-i.result c.requires.within
    c.index-edges-i.is c.requires.held))

pub push_met-requires-clause-other : goal.push_met-requires-clause-other
push_met-requires-clause-other g c =
    let limit = g.I.IntNumber.limit in
    let plain = plain_edge g.I.IntNumber.whole g.C.EdgeCount.counts in
    subst (IsLongEdge limit) (sym c.ends_of.ensures)
    (long_of_held limit (plain c.index-edges-j-in-loop-j.result)
    (All-mapped_at (IsHeld limit) plain c.args.edges.now c.loop-j.j c.index-edges-j-in-loop-j.result c.loop-j-test.true
    c.index-edges-j-in-loop-j.is c.requires.held))

pub loop-j-preserved : goal.loop-j-preserved
loop-j-preserved g c =
    let whole = g.I.Wide.WideIntNumber.whole in
    let plain = plain_edge g.I.IntNumber.whole g.C.EdgeCount.counts in
    let es = plain_edges g.I.IntNumber.whole g.C.EdgeCount.counts c.args.edges.now in
    let i = c.args.i in
    let j = c.loop-j.j in
    let x = c.index-edges-i.result in
    let y = c.index-edges-j-in-loop-j.result in
    let old = plain_mets whole c.loop-j.met.items in
    let new = plain_mets whole c.push_met.new.met.items in
    let behind = c.loop-j.invariant.0 in
    let within = c.loop-j-test.true in (
      omega (arith, behind),
      omega (arith, within),
      λ e at.
          let here = placed_in_mapped plain c.args.edges.now i x c.requires.within c.index-edges-i.is in
          let there = placed_in_mapped plain c.args.edges.now j y within c.index-edges-j-in-loop-j.is in
          let adds : AddsMet (ends_of (plain x)) (ends_of (plain y)) j old new =
          adds_alike (plain_ends g.I.IntNumber.whole c.ends_of-e.result) (ends_of (plain x))
          (plain_ends g.I.IntNumber.whole c.ends_of.result) (ends_of (plain y)) j old new c.ends_of-e.ensures
          c.ends_of.ensures c.in_ok-push_met.ensures.ok in
          let apart : j ≢ i = (λ same. absurd (omega (arith, behind, same))) in
          gathered_more es i e j (plain y) there apart old new (c.loop-j.invariant.2 e at)
          (subst (λ (f : CountedEdge). AddsMet (ends_of f) (ends_of (plain y)) j old new)
          (one_entry es i (plain x) e here at) adds),
    )

pub returns-else-reaches : goal.returns-else-reaches
returns-else-reaches g c =
    let whole = g.I.Wide.WideIntNumber.whole in
    let plain = plain_edge g.I.IntNumber.whole g.C.EdgeCount.counts in
    let es = plain_edges g.I.IntNumber.whole g.C.EdgeCount.counts c.args.edges.now in
    let i = c.args.i in
    let j = c.loop-j.j in
    let x = c.index-edges-i-in-loop-j.result in
    let y = c.index-edges-j.result in
    let met = plain_mets whole c.loop-j.met.items in
    let l = length-map c.args.edges.now plain in
    let within = c.loop-j-test.true in
    let here = placed_in_mapped plain c.args.edges.now i x c.requires.within c.index-edges-i-in-loop-j.is in
    let there = placed_in_mapped plain c.args.edges.now j y within c.index-edges-j.is in
    let test = sym c.reaches.ensures ∙ c.if-reaches.false in
    let left : (plain x).b.x <ℤ (plain y).a.x = grind (linear, test) in
    record {
      ok = λ e at. subst (λ n. AreMetBefore es n i e met) l
          (gathers_behind es i j (length es) e met c.requires.ascending
          (forward_held g.I.IntNumber.limit es c.requires.held) at (omega (arith, l, within)) (omega arith)
          (λ f at_f. subst (λ (d : CountedEdge). d.b.x <ℤ f.a.x) (one_entry es i (plain x) e here at)
          (subst (λ (h : CountedEdge). (plain x).b.x <ℤ h.a.x) (one_entry es j (plain y) f there at_f) left))
          (c.loop-j.invariant.2 e at));
    }

pub returns-after-loop-j : goal.returns-after-loop-j
returns-after-loop-j g c =
    let ended = c.loop-j-test.false in
    let up = c.loop-j.invariant.1 in
    record {
      ok = λ e at. subst (λ n. AreMetBefore (plain_edges g.I.IntNumber.whole g.C.EdgeCount.counts c.args.edges.now) n
          c.args.i e (plain_mets g.I.Wide.WideIntNumber.whole c.loop-j.met.items)) (omega (arith, ended, up))
          (c.loop-j.invariant.2 e at);
    }
