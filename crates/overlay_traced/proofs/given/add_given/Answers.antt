-- The edge is held behind those before it.
use Rattle.std.proofs.Common.{◌≡◌, suc, ◌+◌, ◌∷◌, ◌++◌, drop, map, sym, ap, ◌∙◌, append_assoc, arith}
use Rattle.std.proofs.lemmas.List.{drop_more}
use Rattle.overlay_traced.specs.Given.{held_edge, held_from, plain_given}
use Rattle.overlay_traced.proofs.given.add_given.Goals as goal

pub loop-number-preserved : goal.loop-number-preserved
loop-number-preserved g c =
    let whole = g.I.IntNumber.whole in
    let edges = c.args.edges.now in
    let n = c.loop-number.number in
    let e = c.index-edges-number.result in
    let given = g.D.GivenData.given in
    let more = map (plain_given whole) (drop (n + 1) edges) in
    let rest = held_from given (n + 1) more in
    let on : suc n ≡ n + 1 = Prim.omega (arith) in
    let left : drop n edges ≡ e ∷ drop (n + 1) edges = drop_more edges n e c.loop-number-test.true
    ∙ ap (λ x. x ∷ drop (n + 1) edges) (sym c.index-edges-number.is) in
    ap (λ es. es ++ rest) c.in_ok-push_given.ensures.held
    ∙ append_assoc c.loop-number.content (held_edge given n (plain_given whole e)) rest
    ∙ ap (λ k. c.loop-number.content ++ (held_edge given n (plain_given whole e) ++ held_from given k more)) (sym on)
    ∙ ap (λ ds. c.loop-number.content ++ held_from given n (map (plain_given whole) ds)) (sym left)
    ∙ c.loop-number.invariant
