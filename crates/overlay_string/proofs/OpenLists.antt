-- The entries that are not marked, before a place and after it.
use Rattle.std.proofs.Common.{◌≡◌, ℕ, zero, suc, ◌<◌, Bool, true, false, cond, List, [], ◌∷◌, ◌++◌, length}
use Rattle.std.proofs.Common.{get_or, refl, ap, arith}
use Rattle.std.proofs.lemmas.Bool.{both_ways}
use Rattle.std.specs.Prelude.{set}
use Rattle.overlay_string.specs.OpenPlaces.{open_before, open_behind}
use Rattle.overlay_walk.specs.Steps.{unmarked}

module _ {X : Type 0} (d : X) where
  -- an entry that is not marked stands between those before it and those behind it
  pub open_there : (xs : List X) (ms : List Bool) (i : ℕ) → length ms ≡ length xs → i < length xs →
      get_or ms i true ≡ false → unmarked xs ms ≡ open_before xs ms i ++ get_or xs i d ∷ open_behind xs ms i
  open_there [] ms i same within clear = absurd (omega arith)
  open_there (y ∷ xs) [] i same within clear = absurd (omega arith)
  open_there (y ∷ xs) (true ∷ ms) zero same within clear = absurd (both_ways true clear refl)
  open_there (y ∷ xs) (false ∷ ms) zero same within clear = refl
  open_there (y ∷ xs) (true ∷ ms) (suc i) same within clear =
      open_there xs ms i (omega arith) (omega arith) clear
  open_there (y ∷ xs) (false ∷ ms) (suc i) same within clear =
      ap (λ zs. y ∷ zs) (open_there xs ms i (omega arith) (omega arith) clear)

  -- once it is marked, they are left
  pub taken_there : (xs : List X) (ms : List Bool) (i : ℕ) → length ms ≡ length xs → i < length xs
      → unmarked xs (set ms i true) ≡ open_before xs ms i ++ open_behind xs ms i
  taken_there [] ms i same within = absurd (omega arith)
  taken_there (y ∷ xs) [] i same within = absurd (omega arith)
  taken_there (y ∷ xs) (m ∷ ms) zero same within = refl
  taken_there (y ∷ xs) (true ∷ ms) (suc i) same within = taken_there xs ms i (omega arith) (omega arith)
  taken_there (y ∷ xs) (false ∷ ms) (suc i) same within =
      ap (λ zs. y ∷ zs) (taken_there xs ms i (omega arith) (omega arith))

  -- what is seen with one entry more
  pub one_more_open : (xs : List X) (ms : List Bool) (i : ℕ) → length ms ≡ length xs → i < length xs
      → open_before xs ms (suc i) ≡ open_before xs ms i ++ cond (get_or ms i true) [] (get_or xs i d ∷ [])
  one_more_open [] ms i same within = absurd (omega arith)
  one_more_open (y ∷ xs) [] i same within = absurd (omega arith)
  one_more_open (y ∷ xs) (true ∷ ms) zero same within = refl
  one_more_open (y ∷ xs) (false ∷ ms) zero same within = refl
  one_more_open (y ∷ xs) (true ∷ ms) (suc i) same within =
      one_more_open xs ms i (omega arith) (omega arith)
  one_more_open (y ∷ xs) (false ∷ ms) (suc i) same within =
      ap (λ zs. y ∷ zs) (one_more_open xs ms i (omega arith) (omega arith))

-- and with all
pub all_open : {X : Type 0} (xs : List X) (ms : List Bool) (i : ℕ) → length ms ≡ length xs → ¬ (i < length xs)
    → open_before xs ms i ≡ unmarked xs ms
all_open [] ms zero same past = refl
all_open [] ms (suc i) same past = refl
all_open (y ∷ xs) [] i same past = absurd (omega arith)
all_open (y ∷ xs) (m ∷ ms) zero same past = absurd (past (omega arith))
all_open (y ∷ xs) (true ∷ ms) (suc i) same past = all_open xs ms i (omega arith) (λ h. past (omega arith))
all_open (y ∷ xs) (false ∷ ms) (suc i) same past =
    ap (λ zs. y ∷ zs) (all_open xs ms i (omega arith) (λ h. past (omega arith)))

-- where none is open before a place, none is with a mark more
pub none_still : {X : Type 0} (xs : List X) (ms : List Bool) (n i : ℕ) → open_before xs ms n ≡ [] →
    open_before xs (set ms i true) n ≡ []
none_still [] ms zero i none = refl
none_still [] ms (suc n) i none = refl
none_still (y ∷ xs) [] n i none = none
none_still (y ∷ xs) (m ∷ ms) zero i none = refl
none_still (y ∷ xs) (false ∷ ms) (suc n) i none = let some = ap length none in absurd (omega arith)
none_still (y ∷ xs) (true ∷ ms) (suc n) zero none = none
none_still (y ∷ xs) (true ∷ ms) (suc n) (suc i) none = none_still xs ms n i none
