-- Multiples of a step, one after another, as they are found.
use Rattle.std.specs.Prelude.{◌≡◌, ℤ, pos, ◌+ℤ◌, ◌*ℤ◌, ◌<ℤ◌, ◌≤ℤ◌, Option, Some, None}
use Rattle.overlay_tiles.specs.Grids.{IsGridMultiple}
use Rattle.overlay_tiles.specs.Spans.{Span}

-- the rest is what a multiple of the step leaves of the number, from 0 to below the step
pub record IsRemainder (number step rest : ℤ) : Type 0 where
  pub multiple : ℤ
  pub is : number ≡ multiple *ℤ step +ℤ rest
  pub low : pos 0 ≤ℤ rest
  pub high : rest <ℤ step

-- the way leads from the number to the next multiple above it
pub record IsWayToNext (step at way : ℤ) : Type 0 where
  pub multiple : ℤ
  pub is : at +ℤ way ≡ multiple *ℤ step
  pub low : pos 0 <ℤ way
  pub high : way ≤ℤ step

-- the multiple is this number, where that is below the end; else there is none
abbrev pub IsMultipleAfter : {I : Type 0} → (I → ℤ) → ℤ → ℤ → Option I → Type 0
IsMultipleAfter whole z end (Some multiple) = (whole multiple ≡ z) × (z <ℤ end)
IsMultipleAfter whole z end None = end ≤ℤ z

-- the least of the multiples of the step strictly between the ends of the span
pub record IsLeastMultiple (step : ℤ) (s : Span) (z : ℤ) : Type 0 where
  pub is : IsGridMultiple step s z
  pub least : (y : ℤ) → IsGridMultiple step s y → z ≤ℤ y

-- the first multiple strictly between the ends of the span, if there is one
abbrev pub IsFirstMultiple : {I : Type 0} → (I → ℤ) → ℤ → Span → Option I → Type 0
IsFirstMultiple whole step s (Some multiple) = IsLeastMultiple step s (whole multiple)
IsFirstMultiple whole step s None = (z : ℤ) → ¬ (IsGridMultiple step s z)
