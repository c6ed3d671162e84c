-- One line more.
use Rattle.std.proofs.Common.{◌∷◌, ◌++◌, [], map, take, ap, sym, ◌∙◌}
use Rattle.std.proofs.lemmas.List.{map-append}
use Rattle.overlay_geom.proofs.Mapped.{mapped_more, mapped_whole}
use Rattle.overlay_order.specs.Content.{plain_edge, plain_edges, IsHeld}
use Rattle.overlay_relate.proofs.Forms.{all_at}
use Rattle.overlay_located.specs.Slabs.{plain_line, plain_lines}
use Rattle.overlay_located.proofs.heights.lines_of.Goals as goal

pub invariant_of-push : goal.invariant_of-push
invariant_of-push g c = record {
  held = all_at (IsHeld g.I.IntNumber.limit) (plain_edge g.I.IntNumber.whole g.C.EdgeCount.counts) g.E.EdgeForm.meant
      c.args.edges.now c.loop-e.e-index c.e-item.result c.edge-edge.result c.loop-e-test.true c.e-item.is
      c.edge-edge.ensures c.requires;
}

pub loop-e-preserved : goal.loop-e-preserved
loop-e-preserved g c =
    let whole = g.I.IntNumber.whole in
    let counts = g.C.EdgeCount.counts in
    let plain = plain_edge whole counts in
    let front = map g.E.EdgeForm.meant (take c.loop-e.e-index c.args.edges.now) in
    let e = c.edge-edge.result in
    ap (plain_lines whole counts) c.in_ok-push.ensures.items
    ∙ map-append (plain_line whole counts) c.loop-e.lines.items (_ ∷ [])
    ∙ ap (λ es. es ++ plain e ∷ []) c.loop-e.invariant
    ∙ ap (λ d. plain_edges whole counts front ++ plain d ∷ []) c.edge-edge.ensures
    ∙ sym (ap (plain_edges whole counts) (mapped_more g.E.EdgeForm.meant c.args.edges.now c.loop-e.e-index
    c.e-item.result c.loop-e-test.true c.e-item.is)
    ∙ map-append plain front (g.E.EdgeForm.meant c.e-item.result ∷ []))

pub returns : goal.returns
returns g c =
    let plain = plain_edges g.I.IntNumber.whole g.C.EdgeCount.counts in
    c.loop-e.invariant
    ∙ ap plain (mapped_whole g.E.EdgeForm.meant c.args.edges.now c.loop-e.e-index c.loop-e-test.false)
