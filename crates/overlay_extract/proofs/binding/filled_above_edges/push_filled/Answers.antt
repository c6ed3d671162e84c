-- One more step, filled above or not.
use Rattle.std.proofs.Common.{◌++◌, ◌∷◌, [], map, take, sym, ap, ap₂, ◌∙◌}
use Rattle.std.proofs.lemmas.List.{map-append, append_assoc}
use Rattle.overlay_geom.proofs.Mapped.{All-mapped_at, mapped_more}
use Rattle.overlay_walk.specs.Steps.{plain_step, filled_hand, IsLong}
use Rattle.overlay_walk.specs.WalkEdges.{numbered_entry, numbered_entries}
use Rattle.overlay_extract.specs.WalkEntries.{filled_entries}
use Rattle.overlay_extract.proofs.FilledEntries.{filled_more, filled_same}
use Rattle.overlay_extract.proofs.binding.filled_above_edges.push_filled.Goals as goal
use Rattle.overlay_extract.proofs.binding.filled_above_edges.push_filled.Goals.{then-is_filled_above+in_ok-push}
use Rattle.overlay_extract.proofs.binding.filled_above_edges.push_filled.Goals.{else-is_filled_above}

pub edge_along-requires : goal.edge_along-requires
edge_along-requires g c =
    All-mapped_at (IsLong g.I.IntNumber.limit) (plain_step g.I.IntNumber.whole) c.args.walk.now c.loop-step.step-index
    c.step-item.result
    c.loop-step-test.true c.step-item.is c.requires

pub loop-step-preserved : goal.loop-step-preserved
loop-step-preserved g c =
    let whole = g.I.IntNumber.whole in
    let filled = filled_hand c.args.direction in
    let old = numbered_entries whole c.args.edges.now.items in
    let ss = map (plain_step whole) (take c.loop-step.step-index c.args.walk.now) in
    let s = plain_step whole c.step-item.result in
    let more = ap (filled_entries filled c.args.index)
    (mapped_more (plain_step whole) c.args.walk.now c.loop-step.step-index c.step-item.result c.loop-step-test.true
    c.step-item.is) in
    elim c.if-is_filled_above.branch [
      | then-is_filled_above+in_ok-push w ↦
          ap (λ (v : _). numbered_entries whole v.items) w.edges-is
          ∙ ap (numbered_entries whole) w.in_ok-push.ensures.items
          ∙ map-append (numbered_entry whole) c.loop-step.edges.items (w.edge_along.result ∷ [])
          ∙ ap₂ (λ es e. es ++ e ∷ []) c.loop-step.invariant w.edge_along.ensures
          ∙ append_assoc old (filled_entries filled c.args.index ss) _
          ∙ ap (λ es. old ++ es) (sym (more ∙ filled_more filled c.args.index ss s (sym c.is_filled_above.ensures
          ∙ w.if-is_filled_above.true)))
      | else-is_filled_above w ↦
          ap (λ (v : _). numbered_entries whole v.items) w.edges-is ∙ c.loop-step.invariant
          ∙ ap (λ es. old ++ es) (sym (more ∙ filled_same filled c.args.index ss s (sym c.is_filled_above.ensures
          ∙ w.if-is_filled_above.false)))
    ]
