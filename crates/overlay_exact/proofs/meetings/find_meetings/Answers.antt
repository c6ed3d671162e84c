-- A loop over the edges: the meeting points of each are joined to those of the edges before it.
use Rattle.std.proofs.Common.{◌≡◌, ◌++◌, map, refl, sym, ap, ◌∙◌, subst, arith}
use Rattle.std.proofs.lemmas.List.{length-map, map-append}
use Rattle.overlay_geom.specs.Edges.{CountedEdge}
use Rattle.overlay_order.specs.Content.{plain_edge, plain_edges}
use Rattle.overlay_pairs.proofs.Entries.{one_entry, placed_in_mapped}
use Rattle.overlay_exact.specs.AllMet.{AreMetByStarts}
use Rattle.overlay_exact.specs.Along.{plain_met, plain_mets}
use Rattle.overlay_exact.specs.Passed.{plain_passed, ArePassed}
use Rattle.overlay_exact.proofs.MetByStarts.{entry_at, starts_joined}
use Rattle.overlay_exact.proofs.PassedEdges.{passed_dropped, passed_on}
use Rattle.overlay_exact.proofs.meetings.find_meetings.Goals as goal

pub find_met-requires-clause-passed : goal.find_met-requires-clause-passed
find_met-requires-clause-passed g c = λ e at.
    let whole = g.I.IntNumber.whole in
    let plain = plain_edge whole g.C.EdgeCount.counts in
    let es = plain_edges whole g.C.EdgeCount.counts c.args.edges.now in
    let i = c.loop-i.i in
    let x = c.index-edges-i.result in
    let here = placed_in_mapped plain c.args.edges.now i x c.loop-i-test.true c.index-edges-i.is in
    subst (λ (f : CountedEdge). ArePassed es i f.a.x (map (plain_passed whole) c.deref.result.now))
    (one_entry es i (plain x) e here at)
    (subst (λ xs. ArePassed es i (plain x).a.x (map (plain_passed whole) xs)) (sym c.deref.ensures.value)
    (passed_dropped whole es i (plain x).a.x c.loop-i.passed.items c.drop_left.new.passed.items c.drop_left.ensures
    (c.loop-i.invariant.passed (plain x) here)))

pub loop-i-preserved : goal.loop-i-preserved
loop-i-preserved g c =
    let whole = g.I.Wide.WideIntNumber.whole in
    let plain = plain_edge g.I.IntNumber.whole g.C.EdgeCount.counts in
    let es = plain_edges g.I.IntNumber.whole g.C.EdgeCount.counts c.args.edges.now in
    let i = c.loop-i.i in
    let l = length-map c.args.edges.now plain in
    let within = c.loop-i-test.true in
    let own = c.find_met.new.met.items in
    let old = c.loop-i.met.items in
    let new = c.extend_from_slice.new.self.items in
    let at = entry_at es i (omega (arith, l, within)) in
    let joined : new ≡ old ++ own =
    c.in_ok-extend_from_slice.ensures.items ∙ ap (λ ms. old ++ ms) c.deref-in-loop-i.ensures.value in
    let x = c.index-edges-i.result in
    let here = placed_in_mapped plain c.args.edges.now i x within c.index-edges-i.is in
    let kept = passed_dropped g.I.IntNumber.whole es i (plain x).a.x c.loop-i.passed.items
    c.drop_left.new.passed.items c.drop_left.ensures (c.loop-i.invariant.passed (plain x) here) in
    record {
      met = starts_joined es i c.loop-i.starts.items (plain_mets whole old) c.loop-i.invariant.met at.0 at.1
          (plain_mets whole own) (c.in_ok-find_met.ensures.ok at.0 at.1) c.push-in-loop-i.new.self.items
          (plain_mets whole new) c.len.result (ap (plain_mets whole) joined ∙ map-append (plain_met whole) old own)
          (c.len.ensures ∙ c.extend_from_slice.new.self.ok.0 ∙ sym (length-map new (plain_met whole)))
          c.in_ok-push-2.ensures.items;
      passed = passed_on g.I.IntNumber.whole es i (plain x) here c.requires.ascending c.drop_left.new.passed.items
          c.push-in-loop-i-2.new.self.items (record { place = i; right = x.b.x }) refl
          c.in_ok-push-3.ensures.items kept;
    }

pub returns : goal.returns
returns g c =
    let ended = c.loop-i-test.false in
    let within = c.loop-i.auto.i-end in
    record {
      ok = subst (λ n. AreMetByStarts (plain_edges g.I.IntNumber.whole g.C.EdgeCount.counts c.args.edges.now) n
          c.loop-i.starts.items (plain_mets g.I.Wide.WideIntNumber.whole c.loop-i.met.items)) (omega arith)
          c.loop-i.invariant.met;
    }
