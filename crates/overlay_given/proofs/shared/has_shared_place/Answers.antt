-- Where no edge has a shared place, there is none.
use Rattle.std.proofs.Common.{◌≡◌, ⊎_elim, ◌+◌, ◌-◌, ◌<◌, ◌≤◌, sym, ◌∙◌, subst, arith}
use Rattle.std.proofs.lemmas.Bool.{false≢true}
use Rattle.std.proofs.Math.Nat.{eq-or-lt_of_le}
use Rattle.overlay_exact.specs.Along.{plain_mets}
use Rattle.overlay_given.specs.Places.{SharesOn}
use Rattle.overlay_given.proofs.shared.has_shared_place.Goals as goal

pub loop-end-init : goal.loop-end-init
loop-end-init g c = record { some = omega arith; none = λ i less share. omega (arith, less) }

pub loop-end-preserved : goal.loop-end-preserved
loop-end-preserved g c =
    let ms = plain_mets g.W.WideIntNumber.whole c.args.met.now in
    let end = c.loop-end.end in
    let some = c.loop-end.invariant.some in
    record {
      some = omega (arith, some);
      none = λ i less share. ⊎_elim
          (λ (same : i + 1 ≡ end). false≢true (sym c.if-shares_on.false ∙ c.shares_on.ensures.1
          (subst (SharesOn c.args.starts.now ms c.args.places.now)
          (let is : i ≡ end - 1 = omega (arith, same) in is) share)))
          (λ (early : i + 1 < end). c.loop-end.invariant.none i early share)
          (eq-or-lt_of_le (let le : i + 1 ≤ end = omega (arith, less) in le));
    }

pub returns : goal.returns
returns g c = (
  λ t. absurd (false≢true t),
  λ some.
      let all = c.loop-end-test.false in
      let within = some.1.on.end_at.0 in
      absurd (c.loop-end.invariant.none some.0 (omega (arith, all, within)) some.1),
)
