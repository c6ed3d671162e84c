-- Those that have begun and have not ended are live at the start of the edge, and at that of the next.
use Rattle.std.proofs.Common.{◌≡◌, map, subst}
use Rattle.overlay_geom.specs.Edges.{CountedEdge}
use Rattle.overlay_order.specs.Content.{plain_edge, plain_edges}
use Rattle.overlay_pairs.specs.Places.{IsAt}
use Rattle.overlay_pairs.proofs.Entries.{one_entry, placed_in_mapped}
use Rattle.overlay_exact.specs.PointWindings.{AreLive, TellWindings}
use Rattle.overlay_exact.proofs.LiveEdges.{live_dropped, live_at, live_on}
use Rattle.overlay_exact.proofs.point_windings.live_at_start.Goals as goal

pub push_begun-requires-clause-live : goal.push_begun-requires-clause-live
push_begun-requires-clause-live g c =
    let plain = plain_edge g.I.IntNumber.whole g.C.EdgeCount.counts in
    c.requires.live (plain c.index-edges-i.result)
    (placed_in_mapped plain c.args.edges.now c.args.i c.index-edges-i.result c.requires.place c.index-edges-i.is)

pub returns : goal.returns
returns g c =
    let limit = g.I.IntNumber.limit in
    let plain = plain_edge g.I.IntNumber.whole g.C.EdgeCount.counts in
    let es = plain_edges g.I.IntNumber.whole g.C.EdgeCount.counts c.args.edges.now in
    let e = plain c.index-edges-i.result in
    let at = placed_in_mapped plain c.args.edges.now c.args.i c.index-edges-i.result c.requires.place
    c.index-edges-i.is in
    let n = c.in_ok-next.next in
    let kept = map plain c.drop_ended.new.live.items in
    let live : AreLive limit es n e.a.x kept = live_dropped plain limit es n e.a.x c.push_begun.new.live.items
    c.drop_ended.new.live.items c.drop_ended.ensures c.in_ok-next.ensures.live in
    record {
      within = c.in_ok-next.ensures.within;
      live = live_on limit es c.args.i n e kept c.requires.ascending at live;
      windings = λ f at_f. subst (λ (d : CountedEdge). TellWindings limit es d.a kept)
          (one_entry es c.args.i e f at at_f)
          (live_at limit es c.args.i n e kept c.requires.ascending at live c.in_ok-next.ensures.right);
    }
