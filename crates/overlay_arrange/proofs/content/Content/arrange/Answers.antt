-- A split content is arranged, and a refusal of its rounds is a refusal to arrange it.
use Rattle.std.proofs.Common.{◌≡◌, ◌⊎◌, ⊎_elim, refl, subst}
use Rattle.std.specs.Prelude.{Result, Err, IfErr}
use Rattle.overlay_geom.specs.declared.error.OverlayError.{OverlayError}
use Rattle.overlay_geom.specs.declared.error.OverlayError.TheVariants.{Memory, NotSettled, TooManyEdges, Failed}
use Rattle.overlay_geom.specs.declared.solver.Solver.TheVariants.{Rounds, Snapping}
use Rattle.overlay_arrange.proofs.ArrangedLists.{arranged_answer, arranged_carrying, refused_answer}
use Rattle.overlay_arrange.proofs.content.Content.arrange.Goals as goal

pub returns-in-Rounds-clause-arranged : goal.returns-in-Rounds-clause-arranged
returns-in-Rounds-clause-arranged g c = rw c.in-Rounds.is
    (arranged_answer g.I.IntNumber.limit Rounds c.split.result _ _ c.split.ensures.before c.split.ensures.split)

pub returns-in-Rounds-clause-carried : goal.returns-in-Rounds-clause-carried
returns-in-Rounds-clause-carried g c = rw c.in-Rounds.is
    (arranged_carrying g.C.EdgeCount.merges g.C.EdgeCount.splits g.C.EdgeCount.reverses g.I.IntNumber.limit Rounds
    c.split.result _ _ c.split.ensures.before c.split.ensures.carried)

pub returns-in-Rounds-clause-err : goal.returns-in-Rounds-clause-err
returns-in-Rounds-clause-err g c =
    let split = c.split.ensures in
    rw c.in-Rounds.is (refused_answer g.I.IntNumber.limit Rounds c.split.result _ c.split.ensures.before
    (λ refused. (refl, split.not_settled refused)) split.too_many split.usable)

pub returns-in-Snapping-clause-arranged : goal.returns-in-Snapping-clause-arranged
returns-in-Snapping-clause-arranged g c = rw c.in-Snapping.is
    (arranged_answer g.I.IntNumber.limit Snapping c.snap.result _ _ c.snap.ensures.before c.snap.ensures.split)

pub returns-in-Snapping-clause-carried : goal.returns-in-Snapping-clause-carried
returns-in-Snapping-clause-carried g c = rw c.in-Snapping.is
    (arranged_carrying g.C.EdgeCount.merges g.C.EdgeCount.splits g.C.EdgeCount.reverses g.I.IntNumber.limit Snapping
    c.snap.result _ _ c.snap.ensures.before c.snap.ensures.carried)

-- an answer that is refused for memory or weight alone has one of these two errors
refused_with : {T : Type 0} (answer : Result T OverlayError) (e : OverlayError) →
    IfErr answer (λ f. (f ≡ Memory) ⊎ (f ≡ TooManyEdges)) → answer ≡ Err e → (e ≡ Memory) ⊎ (e ≡ TooManyEdges)
refused_with answer e only is = subst (λ r. IfErr r (λ f. (f ≡ Memory) ⊎ (f ≡ TooManyEdges))) is only

pub returns-in-Snapping-clause-err : goal.returns-in-Snapping-clause-err
returns-in-Snapping-clause-err g c =
    let snap = c.snap.ensures in
    rw c.in-Snapping.is (refused_answer g.I.IntNumber.limit Snapping c.snap.result _ c.snap.ensures.before
    (λ refused. ⊎_elim (λ (is : NotSettled ≡ Memory). absurd (cc)) (λ (is : NotSettled ≡ TooManyEdges). absurd (cc))
    (refused_with c.snap.result NotSettled snap.only refused))
    snap.too_many
    (λ failed. ⊎_elim (λ (is : Failed ≡ Memory). absurd (cc)) (λ (is : Failed ≡ TooManyEdges). absurd (cc))
    (refused_with c.snap.result Failed snap.only failed)))
