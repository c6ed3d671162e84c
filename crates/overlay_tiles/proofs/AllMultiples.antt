-- Multiples of a step: what they leave of a number, and which one is the next above it.
use Rattle.std.proofs.Common.{◌≡◌, ℤ, pos, neg_ℤ, ◌+ℤ◌, ◌-ℤ◌, ◌*ℤ◌, ◌<ℤ◌, ◌≤ℤ◌, ◌∙◌, ap}
use Rattle.std.proofs.lemmas.Int.{by_lt_z}
use Rattle.std.specs.Prelude.{Option, Some, None}
use Rattle.overlay_geom.proofs.Identities.{solve, number, ◌⊕◌, ◌⊗◌, ◌⊖◌, ⊝◌, ◌≗◌}
use Rattle.overlay_geom.proofs.Signs.{linear, mul-le, lt_of_mul-lt}
use Rattle.overlay_tiles.specs.Multiples.{IsRemainder, IsWayToNext, IsMultipleAfter, IsFirstMultiple}
use Rattle.overlay_tiles.specs.Spans.{Span}

-- ---- what is left of a number

-- a number below the step is left whole
pub remainder_below : (n w : ℤ) → pos 0 ≤ℤ n → n <ℤ w → IsRemainder n w n
remainder_below n w low high = record {
  multiple = pos 0;
  is = solve 2 (λ n w. n ≗ number (pos 0) ⊗ w ⊕ n) tt n w;
  low = low;
  high = high;
}

-- of one below twice the step the step is taken away
pub remainder_once : (n w : ℤ) → w ≤ℤ n → (n -ℤ w) <ℤ w → IsRemainder n w (n -ℤ w)
remainder_once n w low high = record {
  multiple = pos 1;
  is = solve 2 (λ n w. n ≗ number (pos 1) ⊗ w ⊕ (n ⊖ w)) tt n w;
  low = omega linear;
  high = high;
}

-- what twice the step leaves, where that is below the step
pub remainder_of_two : (n w rest : ℤ) → IsRemainder n (w +ℤ w) rest → rest <ℤ w → IsRemainder n w rest
remainder_of_two n w rest left high = record {
  multiple = left.multiple +ℤ left.multiple;
  is = left.is ∙ solve 3 (λ m w r. m ⊗ (w ⊕ w) ⊕ r ≗ (m ⊕ m) ⊗ w ⊕ r) tt left.multiple w rest;
  low = left.low;
  high = high;
}

-- and less the step, where it is not
pub remainder_of_two_less : (n w rest : ℤ) → IsRemainder n (w +ℤ w) rest → w ≤ℤ rest → IsRemainder n w (rest -ℤ w)
remainder_of_two_less n w rest left low = record {
  multiple = left.multiple +ℤ left.multiple +ℤ pos 1;
  is = left.is ∙ solve 3 (λ m w r. m ⊗ (w ⊕ w) ⊕ r ≗ (m ⊕ m ⊕ number (pos 1)) ⊗ w ⊕ (r ⊖ w)) tt left.multiple w rest;
  low = omega linear;
  high = let high = left.high in
      omega linear;
}

-- ---- the way to the next multiple

-- above what is not negative it is what is missing to the step
pub way_above : (w at rest : ℤ) → IsRemainder at w rest → IsWayToNext w at (w -ℤ rest)
way_above w at rest left = record {
  multiple = left.multiple +ℤ pos 1;
  is = ap (λ z. z +ℤ (w -ℤ rest)) left.is
      ∙ solve 3 (λ m w r. m ⊗ w ⊕ r ⊕ (w ⊖ r) ≗ (m ⊕ number (pos 1)) ⊗ w) tt left.multiple w rest;
  low = let high = left.high in
      omega linear;
  high = let low = left.low in
      omega linear;
}

-- above a negative number it is what is left of it without its sign
pub way_below : (w at rest : ℤ) → IsRemainder (neg_ℤ at) w rest → pos 0 <ℤ rest → IsWayToNext w at rest
way_below w at rest left some =
    let is = left.is in
    let turned = solve 2 (λ m w. ⊝ (m ⊗ w) ≗ (⊝ m) ⊗ w) tt left.multiple w in
    let high = left.high in
    record { multiple = neg_ℤ left.multiple; is = omega linear; low = some; high = omega linear }

-- or the step, where nothing is left
pub way_at : (w at rest : ℤ) → IsRemainder (neg_ℤ at) w rest → rest ≤ℤ pos 0 → IsWayToNext w at w
way_at w at rest left none =
    let is = left.is in
    let turned = solve 2 (λ m w. w ⊖ (m ⊗ w) ≗ (number (pos 1) ⊖ m) ⊗ w) tt left.multiple w in
    let low = left.low in
    let high = left.high in
    record { multiple = pos 1 -ℤ left.multiple; is = omega linear; low = omega linear; high = omega linear }

-- ---- multiples in order

-- of two multiples the greater one is a step or more above the smaller one
pub a_step_apart : (w m n : ℤ) → pos 0 <ℤ w → (m *ℤ w) <ℤ (n *ℤ w) → (m *ℤ w +ℤ w) ≤ℤ (n *ℤ w)
a_step_apart w m n some less =
    let left = solve 2 (λ m w. m ⊗ w ≗ w ⊗ m) tt m w in
    let right = solve 2 (λ n w. n ⊗ w ≗ w ⊗ n) tt n w in
    let below : m <ℤ n = lt_of_mul-lt w m n some (omega linear) in
    let far = mul-le w (m +ℤ pos 1) n (omega linear) (omega linear) in
    let spread = solve 2 (λ m w. w ⊗ (m ⊕ number (pos 1)) ≗ m ⊗ w ⊕ w) tt m w in
    omega linear

-- no multiple lies strictly between a number and the next one above it
pub none_before : (w at way y m : ℤ) → pos 0 <ℤ w → IsWayToNext w at way → y ≡ m *ℤ w → at <ℤ y → (at +ℤ way) ≤ℤ y
none_before w at way y m some next is above = by_lt_z y (at +ℤ way) (λ less. absurd (against less)) (λ le. le)
  where
    against : y <ℤ (at +ℤ way) → ⊥
    against less =
        let there = next.is in
        let high = next.high in
        let apart = a_step_apart w m next.multiple some (omega linear) in
        omega linear

-- the multiple at the end of the way is the first one in the span, or there is none
pub first_multiple_found : {I : Type 0} (whole : I → ℤ) (w : ℤ) (s : Span) (way : ℤ) (found : Option I) → pos 0 <ℤ w →
    IsWayToNext w s.least way → IsMultipleAfter whole (s.least +ℤ way) s.greatest found →
    IsFirstMultiple whole w s found
first_multiple_found whole w s way (Some place) some next after =
    let is = after.0 in
    let within = after.1 in
    let low = next.low in
    let there = next.is in
    record {
      is = record {
        multiple = next.multiple;
        is = is ∙ there;
        above = omega linear;
        below = omega linear;
      };
      least = λ y at. let before = none_before w s.least way y at.multiple some next at.is at.above in
          omega linear;
    }
first_multiple_found whole w s way None some next after = λ z at.
    let before = none_before w s.least way z at.multiple some next at.is at.above in
    let below = at.below in
    omega linear
