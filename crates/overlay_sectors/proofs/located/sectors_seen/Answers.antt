-- The lowest sectors come first, and then those next above each edge that leads from the point.
use Rattle.std.proofs.Common.{◌<◌, length, map, rules}
use Rattle.overlay_geom.specs.Plane.{in_plane}
use Rattle.overlay_geom.specs.Points.{plain_point}
use Rattle.overlay_geom.specs.Rules.{is_filled}
use Rattle.overlay_order.specs.Content.{plain_edge, plain_edges, IsHeld}
use Rattle.overlay_relate.proofs.Forms.{all_at}
use Rattle.overlay_sectors.proofs.PlacedForms.{placed_form}
use Rattle.overlay_sectors.proofs.SeenSectors.{seen_lowest_by, seen_more, seen_ended}
use Rattle.overlay_sectors.proofs.SkippedNear.{seen_passed}
use Rattle.overlay_sectors.proofs.located.sectors_seen.Goals as goal

pub loop-at-init : goal.loop-at-init
loop-at-init g c =
    let asked = c.args.asked.now in
    let whole = g.I.IntNumber.whole in
    let es = plain_edges whole g.C.EdgeCount.counts (map g.E.EdgeForm.meant asked.shape.edges.now) in
    let p = in_plane (plain_point whole asked.p) in
    seen_lowest_by (is_filled asked.fill_rule) es p _ _ _ _ _ c.nothing-none.ensures c.fills_sector-left.ensures
    c.fills_sector-right.ensures c.with-lowest.ensures.filled c.with-lowest.ensures.empty c.with-seen.ensures.filled
    c.with-seen.ensures.empty

pub loop-at-preserved-then-at-next : goal.loop-at-preserved-then-at-next
loop-at-preserved-then-at-next g c =
    let asked = c.args.asked.now in
    let whole = g.I.IntNumber.whole in
    let es = plain_edges whole g.C.EdgeCount.counts (map g.E.EdgeForm.meant asked.shape.edges.now) in
    seen_passed (is_filled asked.fill_rule) es (plain_point whole asked.p) c.loop-at.at c.passed_from-next.result
    c.loop-at.seen (c.passed_from-next.ensures es c.requires.blocked) c.loop-at.invariant

pub seen_above-above-requires-clause-edge : goal.seen_above-above-requires-clause-edge
seen_above-above-requires-clause-edge g c =
    let asked = c.args.asked.now in
    all_at (IsHeld g.I.IntNumber.limit) (plain_edge g.I.IntNumber.whole g.C.EdgeCount.counts) g.E.EdgeForm.meant
    asked.shape.edges.now c.loop-at.at c.index-edges-at.result c.edge-e.result (search rules) c.index-edges-at.is
    c.edge-e.ensures c.requires.content.held

pub seen_above-seen-requires-clause-edge : goal.seen_above-seen-requires-clause-edge
seen_above-seen-requires-clause-edge g c =
    let asked = c.args.asked.now in
    all_at (IsHeld g.I.IntNumber.limit) (plain_edge g.I.IntNumber.whole g.C.EdgeCount.counts) g.E.EdgeForm.meant
    asked.shape.edges.now c.loop-at.at c.index-edges-at.result c.edge-e.result (search rules) c.index-edges-at.is
    c.edge-e.ensures c.requires.content.held

pub loop-at-preserved : goal.loop-at-preserved
loop-at-preserved g c =
    let asked = c.args.asked.now in
    let whole = g.I.IntNumber.whole in
    let plain = plain_edge whole g.C.EdgeCount.counts in
    let es = plain_edges whole g.C.EdgeCount.counts (map g.E.EdgeForm.meant asked.shape.edges.now) in
    let p = in_plane (plain_point whole asked.p) in
    let lt : c.loop-at.at < length asked.shape.edges.now = search rules in
    seen_more (is_filled asked.fill_rule) es p c.loop-at.at (plain c.edge-e.result)
    (placed_form plain g.E.EdgeForm.meant asked.shape.edges.now c.loop-at.at c.index-edges-at.result c.edge-e.result lt
    c.index-edges-at.is c.edge-e.ensures)
    c.loop-at.seen c.seen_above-above.result c.seen_above-seen.result
    (record { ray = c.seen_above-above.ensures.ray; other = c.seen_above-above.ensures.other })
    (record { ray = c.seen_above-seen.ensures.ray; other = c.seen_above-seen.ensures.other })
    c.loop-at.invariant

pub returns : goal.returns
returns g c =
    let asked = c.args.asked.now in
    let whole = g.I.IntNumber.whole in
    let es = plain_edges whole g.C.EdgeCount.counts (map g.E.EdgeForm.meant asked.shape.edges.now) in
    seen_ended (is_filled asked.fill_rule) es (in_plane (plain_point whole asked.p)) c.loop-at.at
    (length asked.shape.edges.now) c.loop-at.seen (search rules) c.loop-at.invariant
