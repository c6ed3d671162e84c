-- The next edge stands behind those before it.
use Rattle.std.proofs.Common.{◌+◌, map, sym, ap, ◌∙◌, subst, ◌∷◌, [], arith}
use Rattle.std.proofs.lemmas.List.{map-append}
use Rattle.overlay_geom.proofs.Mapped.{All-mapped_at}
use Rattle.overlay_order.specs.Content.{plain_edge, IsHeld}
use Rattle.overlay_pairs.proofs.Entries.{placed_in_mapped}
use Rattle.overlay_exact.specs.PointWindings.{AreLive}
use Rattle.overlay_exact.proofs.LiveEdges.{live_more}
use Rattle.overlay_exact.proofs.point_windings.push_begun.Goals as goal

pub loop-end-preserved : goal.loop-end-preserved
loop-end-preserved g c =
    let limit = g.I.IntNumber.limit in
    let x = g.I.IntNumber.whole c.args.x in
    let plain = plain_edge g.I.IntNumber.whole g.C.EdgeCount.counts in
    let es = c.args.edges.now in
    let end = c.loop-end.end in
    let live = c.loop-end.live.items in
    let f = c.index-edges-end-in-loop-end.result in
    let within = c.loop-end-test.true in
    let is = c.index-edges-end-in-loop-end.is in
    record {
      within = omega (arith, within);
      live = subst (AreLive limit (map plain es) (end + 1) x)
          (sym (ap (map plain) c.in_ok-push.ensures.items ∙ map-append plain live (f ∷ [])))
          (live_more limit (map plain es) end x (map plain live) (plain f)
          (placed_in_mapped plain es end f within is)
          (All-mapped_at (IsHeld limit) plain es end f within is c.requires.held) c.loop-end.invariant.live);
    }
