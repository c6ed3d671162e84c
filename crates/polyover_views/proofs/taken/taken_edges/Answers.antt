-- One edge more is taken out of its form.
use Rattle.std.proofs.Common.{◌++◌, ◌∷◌, [], map, take, get_or, ap, ap₂, sym, ◌∙◌}
use Rattle.std.proofs.lemmas.List.{map-append, take_more, take_all}
use Rattle.polyover_views.proofs.taken.taken_edges.Goals as goal

pub loop-edge-preserved : goal.loop-edge-preserved
loop-edge-preserved g c =
    let meant = g.E.FormOf.meant in
    let held = c.args.held.now in
    let i = c.loop-edge.edge-index in
    let item = c.edge-item.result in
    c.in_ok-push.ensures.items
    ∙ ap₂ (λ xs x. xs ++ x ∷ []) c.loop-edge.invariant (c.value.ensures ∙ ap meant c.edge-item.is)
    ∙ sym (map-append meant (take i held) (get_or held i item ∷ []))
    ∙ ap (map meant) (sym (take_more held i item c.loop-edge-test.true))

pub returns : goal.returns
returns g c = c.loop-edge.invariant
    ∙ ap (map g.E.FormOf.meant) (take_all c.loop-edge.edge-index c.args.held.now c.loop-edge-test.false)
