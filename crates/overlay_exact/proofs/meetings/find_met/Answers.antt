-- The gathered points are sorted.
use Rattle.std.proofs.Common.{length, sym, subst}
use Rattle.std.proofs.lemmas.List.{length-map}
use Rattle.std.proofs.lemmas.List.Elements.{All-contains}
use Rattle.std.proofs.lemmas.List.Sorted.{IsPermutation-map}
use Rattle.overlay_geom.specs.Edges.{ends_of}
use Rattle.overlay_order.specs.Content.{plain_edge, plain_edges, IsHeld}
use Rattle.overlay_exact.specs.AllMet.{AreMetBefore}
use Rattle.overlay_exact.specs.Along.{plain_met, plain_mets}
use Rattle.overlay_exact.proofs.GatheredMet.{gathered_shuffled}
use Rattle.overlay_exact.proofs.meetings.find_met.Goals as goal

pub returns : goal.returns
returns g c =
    let whole = g.I.Wide.WideIntNumber.whole in
    let plain = plain_edge g.I.IntNumber.whole g.C.EdgeCount.counts in
    let es = plain_edges g.I.IntNumber.whole g.C.EdgeCount.counts c.args.edges.now in
    let i = c.args.i in
    let old = c.push_met_behind.new.met.items in
    let new = c.sort_along.new.met.items in
    record {
      ok = λ e at.
          let held = All-contains (IsHeld g.I.IntNumber.limit) es e c.requires.held (i, at.0, at.1) in
          record {
            all = gathered_shuffled es i e (length es) (plain_mets whole old) (plain_mets whole new)
                (IsPermutation-map (plain_met whole) old new c.sort_along.ensures.permutation)
                (subst (λ n. AreMetBefore es n i e (plain_mets whole old)) (sym (length-map c.args.edges.now plain))
                (c.in_ok-push_met_behind.ensures.ok e at));
            order = c.in_ok-sort_along.ensures.order (ends_of e) held.forward;
          };
    }
