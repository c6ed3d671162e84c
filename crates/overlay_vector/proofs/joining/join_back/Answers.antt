-- The last edge is taken off and joined, or can not be joined.
use Rattle.std.proofs.Common.{◌≡◌, [], ◌∷◌, ◌++◌, ◌+◌, ◌-◌, map, take, length, refl, sym, ap, subst, ◌∙◌, arith}
use Rattle.std.proofs.lemmas.Bool.{false≢true}
use Rattle.overlay_geom.proofs.Mapped.{All-mapped_at}
use Rattle.overlay_vector.specs.DataVectors.{plain_data_vector, plain_data_vectors}
use Rattle.overlay_vector.specs.Joining.{IsInRange, IsAppended}
use Rattle.overlay_vector.proofs.EndsOff.{last_off}
use Rattle.overlay_vector.proofs.JoinedContours.{AreBack, back_first, back_further, appended_behind}
use Rattle.overlay_vector.proofs.joining.join_back.Goals as goal

pub loop-path-init : goal.loop-path-init
loop-path-init g c = back_first g.D.PartialEq.eq g.I.IntNumber.limit
    (plain_data_vectors g.I.IntNumber.whole c.args.path.now.items) (plain_data_vector g.I.IntNumber.whole c.args.vector)
    c.requires.inside c.requires.in_range c.requires.vector

pub are_joinable-requires-clause-first : goal.are_joinable-requires-clause-first
are_joinable-requires-clause-first g c =
    All-mapped_at (IsInRange g.I.IntNumber.limit) (plain_data_vector g.I.IntNumber.whole) _ _ _
    (omega (arith, c.loop-path.path.ok.0)) c.index-last.ensures c.loop-path.invariant.in_range

pub returns-then-not-are_joinable : goal.returns-then-not-are_joinable
returns-then-not-are_joinable g c =
    let plain = plain_data_vector g.I.IntNumber.whole in
    let eq = g.D.PartialEq.eq in
    let limit = g.I.IntNumber.limit in
    let xs = c.loop-path.path.items in
    let k = c.len-in-loop-path.result - 1 in
    let long : length xs ≡ k + 1 = omega (arith, c.loop-path.path.ok.0) in
    let vs = map plain c.args.path.now.items in
    let v = plain c.args.vector in
    let l = plain c.index-last.result.now in
    let w = plain c.loop-path.vector in
    let same = last_off plain xs k c.index-last.result.now long c.index-last.ensures in
    subst (λ ws. IsAppended eq limit vs v (ws ++ w ∷ [])) (sym same)
    (appended_behind eq limit vs v (map plain (take k xs)) l w
    (subst (λ ws. AreBack eq limit vs v ws w) same c.loop-path.invariant)
    (λ can. false≢true (c.if-not-are_joinable.ensures.1 can)))

pub loop-path-preserved : goal.loop-path-preserved
loop-path-preserved g c =
    let plain = plain_data_vector g.I.IntNumber.whole in
    let eq = g.D.PartialEq.eq in
    let limit = g.I.IntNumber.limit in
    let xs = c.loop-path.path.items in
    let k = c.len-in-loop-path.result - 1 in
    let long : length xs ≡ k + 1 = omega (arith, c.loop-path.path.ok.0) in
    let shorter : c.loop-path.path.len - 1 ≡ k = omega (arith, c.loop-path.path.ok.0) in
    let vs = map plain c.args.path.now.items in
    let v = plain c.args.vector in
    let l = plain c.index-last.result.now in
    let w = plain c.loop-path.vector in
    let same = last_off plain xs k c.index-last.result.now long c.index-last.ensures in
    let in_range = All-mapped_at (IsInRange limit) plain xs k c.index-last.result.now (omega (arith, long))
    c.index-last.ensures c.loop-path.invariant.in_range in
    subst (λ ws. AreBack eq limit vs v (map plain ws) (plain c.join-vector.result))
    (sym (c.pop.ensures.rest ∙ ap (λ n. take n xs) shorter))
    (subst (AreBack eq limit vs v (map plain (take k xs))) (sym c.join-vector.ensures)
    (back_further eq limit vs v (map plain (take k xs)) l w
    (subst (λ ws. AreBack eq limit vs v ws w) same c.loop-path.invariant) (c.if-not-are_joinable.ensures.0 refl)
    in_range))
