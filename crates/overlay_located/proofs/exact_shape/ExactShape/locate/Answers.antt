-- What is told of the edges is told of the paths that give them.
use Rattle.std.proofs.Common.{map, sym, ap, subst, ◌∙◌}
use Rattle.std.proofs.lemmas.List.{map-id}
use Rattle.overlay_geom.specs.Plane.{in_plane}
use Rattle.overlay_geom.specs.Points.{plain_point}
use Rattle.overlay_geom.specs.Rules.{is_filled}
use Rattle.overlay_plane.specs.Carried.{edges_in}
use Rattle.overlay_order.specs.Content.{plain_edges}
use Rattle.overlay_order.specs.Counts.{boolean_counts}
use Rattle.overlay_relate.specs.Blocks.{plain_blocks}
use Rattle.overlay_sectors.specs.Blocks.{AreBlocked}
use Rattle.overlay_sectors.specs.Located.{LiesIn}
use Rattle.overlay_located.proofs.ToldShapes.{tells_location}
use Rattle.overlay_located.proofs.exact_shape.ExactShape.locate.Goals as goal

pub locate-requires-clause-blocked : goal.locate-requires-clause-blocked
locate-requires-clause-blocked g c =
    let whole = g.I.IntNumber.whole in
    let shape = c.self.inside in
    let plain = plain_edges whole boolean_counts in
    let es = plain c.edges.result.now in
    subst (λ fs. AreBlocked (plain fs) (plain_blocks whole (map (λ b. b) c.deref.result.now))
    (plain_blocks whole (map (λ b. b) c.deref-2.result.now))) (sym (map-id c.edges.result.now))
    (subst (λ bs. AreBlocked es (plain_blocks whole bs) (plain_blocks whole (map (λ b. b) c.deref-2.result.now)))
    (sym (map-id c.deref.result.now ∙ c.deref.ensures.value))
    (subst (λ gs. AreBlocked es (plain_blocks whole shape.blocks.items) (plain_blocks whole gs))
    (sym (map-id c.deref-2.result.now ∙ c.deref-2.ensures.value))
    (subst (λ fs. AreBlocked fs (plain_blocks whole shape.blocks.items) (plain_blocks whole shape.groups.items))
    (sym (c.edges.ensures.plain ∙ ap edges_in c.content.ensures.edges)) c.self.invariant)))

pub returns : goal.returns
returns g c =
    let whole = g.I.IntNumber.whole in
    let p = in_plane (plain_point whole c.args.point) in
    let shape = c.self.inside in
    tells_location c.args.self.now p c.locate.result
    (subst (λ s. LiesIn (is_filled s.fill_rule) s.edges p c.locate.result) c.self.view_is
    (subst (λ es. LiesIn (is_filled shape.fill_rule) es p c.locate.result)
    (c.edges.ensures.plain ∙ ap edges_in c.content.ensures.edges)
    (subst (λ fs. LiesIn (is_filled shape.fill_rule) (plain_edges whole boolean_counts fs) p c.locate.result)
    (map-id c.edges.result.now) c.locate.ensures)))
