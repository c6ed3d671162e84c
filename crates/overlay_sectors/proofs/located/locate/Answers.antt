-- The sectors that were found tell the location.
use Rattle.std.proofs.Common.{sym, subst, map, ◌∙◌}
use Rattle.std.proofs.lemmas.List.{length-map}
use Rattle.overlay_geom.specs.Plane.{in_plane}
use Rattle.overlay_geom.specs.Points.{plain_point}
use Rattle.overlay_geom.specs.Rules.{is_filled}
use Rattle.overlay_order.specs.Content.{plain_edge, plain_edges}
use Rattle.overlay_sectors.specs.Located.{LiesIn}
use Rattle.overlay_sectors.specs.Seen.{IsSeenUpTo}
use Rattle.overlay_sectors.proofs.SeenSectors.{located_by_seen, content_leads_right}
use Rattle.overlay_sectors.proofs.located.locate.Goals as goal

pub returns : goal.returns
returns g c =
    let whole = g.I.IntNumber.whole in
    let plain = plain_edge whole g.C.EdgeCount.counts in
    let es = plain_edges whole g.C.EdgeCount.counts (map g.E.EdgeForm.meant c.args.shape.now.edges.now) in
    let p = in_plane (plain_point whole c.args.p) in
    let filled = is_filled c.args.fill_rule in
    subst (LiesIn filled es p) (sym c.location.ensures)
    (located_by_seen filled es p c.sectors_seen.result
    (subst (λ n. IsSeenUpTo filled es p n c.sectors_seen.result)
    (sym (length-map (map g.E.EdgeForm.meant c.args.shape.now.edges.now) plain
    ∙ length-map c.args.shape.now.edges.now g.E.EdgeForm.meant))
    c.sectors_seen.ensures)
    (content_leads_right g.I.IntNumber.limit es c.requires.content.held))
