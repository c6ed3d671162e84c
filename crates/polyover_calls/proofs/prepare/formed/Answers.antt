-- One value more is in its form.
use Rattle.std.proofs.Common.{◌++◌, ◌∷◌, [], map, ap, ap₂, sym, ◌∙◌}
use Rattle.std.proofs.lemmas.List.{map-append, take_more, take_all}
use Rattle.polyover_calls.proofs.prepare.formed.Goals as goal

pub loop-value-preserved : goal.loop-value-preserved
loop-value-preserved g c =
    let meant = g.F.FormOf.meant in
    let values = c.args.values.now in
    let i = c.loop-value.value-index in
    ap (map meant) c.in_ok-push.ensures.items ∙ map-append meant c.loop-value.forms.items (c.form.result ∷ [])
    ∙ ap₂ (λ xs x. xs ++ x ∷ []) c.loop-value.invariant (c.form.ensures ∙ c.value-item.is)
    ∙ sym (take_more values i c.value-item.result c.loop-value-test.true)

pub returns-clause-formed : goal.returns-clause-formed
returns-clause-formed g c = c.loop-value.invariant
    ∙ take_all c.loop-value.value-index c.args.values.now c.loop-value-test.false
