-- The entries that are not marked, by their places.
use Rattle.std.proofs.Common.{◌≡◌, ⊎_elim, ℕ, zero, suc, ◌-◌, ◌<◌, Bool, true, false, cond, List, [], ◌∷◌, ◌++◌, length}
use Rattle.std.proofs.Common.{map, take, get_or, refl, ap, ◌∙◌, subst, arith}
use Rattle.std.specs.Prelude.{All, Contains, replicate, set}
use Rattle.std.proofs.lemmas.Bool.{both_ways}
use Rattle.std.proofs.lemmas.List.{length-set}
use Rattle.std.proofs.lemmas.List.Elements.{All-weaker, All-contains_itself}
use Rattle.overlay_geom.proofs.Entries.{Contains-head, Contains-later, Contains-cases}
use Rattle.overlay_order.proofs.TakenItems.{filled_up}
use Rattle.overlay_walk.specs.Places.{is_open}
use Rattle.overlay_walk.specs.Steps.{unmarked}

-- mapped entries are marked alike
pub unmarked-map : {X Y : Type 0} (f : X → Y) (xs : List X) (ms : List Bool) →
    map f (unmarked xs ms) ≡ unmarked (map f xs) ms
unmarked-map f [] ms = refl
unmarked-map f (x ∷ xs) [] = refl
unmarked-map {X} {Y} f (x ∷ xs) (m ∷ ms) = by m (unmarked-map f xs ms)
  where
    by : (t : Bool) → map f (unmarked xs ms) ≡ unmarked (map f xs) ms →
        map f (cond t (unmarked xs ms) (x ∷ unmarked xs ms)) ≡ cond t (unmarked (map f xs) ms)
        (f x ∷ unmarked (map f xs) ms)
    by true e = e
    by false e = ap (λ ys. f x ∷ ys) e

-- where no mark is set, nothing is left out
pub unmarked-none : {X : Type 0} (xs : List X) (n : ℕ) → unmarked xs (replicate n false) ≡ xs
unmarked-none [] n = refl
unmarked-none (x ∷ xs) zero = refl
unmarked-none (x ∷ xs) (suc n) = ap (λ ys. x ∷ ys) (unmarked-none xs n)

-- the item at an open place is not marked
pub unmarked_at : {X : Type 0} (xs : List X) (ms : List Bool) (d : X) (k : ℕ) → length ms ≡ length xs → k < length xs →
    is_open ms k ≡ true → Contains (unmarked xs ms) (get_or xs k d)
unmarked_at [] ms d k same h at = absurd (elim h [ ])
unmarked_at (x ∷ xs) [] d k same h at = absurd (omega arith)
unmarked_at (x ∷ xs) (true ∷ ms) d zero same h at = absurd (both_ways false refl at)
unmarked_at (x ∷ xs) (false ∷ ms) d zero same h at = Contains-head x (unmarked xs ms)
unmarked_at (x ∷ xs) (true ∷ ms) d (suc k) same h at = unmarked_at xs ms d k (omega arith) (omega arith) at
unmarked_at (x ∷ xs) (false ∷ ms) d (suc k) same h at = Contains-later x (unmarked xs ms) (get_or xs k d)
    (unmarked_at xs ms d k (omega arith) (omega arith) at)

-- an open place, at which an entry stands
pub record IsOpenAt {X : Type 0} (xs : List X) (ms : List Bool) (d x : X) (k : ℕ) : Type 0 where
  pub below : k < length xs
  pub untaken : is_open ms k ≡ true
  pub is : get_or xs k d ≡ x

-- the item is at an open place one further on
later : {X : Type 0} (y : X) (xs : List X) (m : Bool) (ms : List Bool) (d x : X) → (k : ℕ) × IsOpenAt xs ms d x k →
    (k : ℕ) × IsOpenAt (y ∷ xs) (m ∷ ms) d x k
later y xs m ms d x (k, h) = (suc k, record { below = let b = h.below in omega arith; untaken = h.untaken; is = h.is })

-- an item that is not marked is at an open place
pub place_of_unmarked : {X : Type 0} (xs : List X) (ms : List Bool) (d x : X) → length ms ≡ length xs →
    Contains (unmarked xs ms) x → (k : ℕ) × IsOpenAt xs ms d x k
place_of_unmarked [] ms d x same c = absurd (elim c.1 [ ])
place_of_unmarked (y ∷ xs) [] d x same c = absurd (omega arith)
place_of_unmarked (y ∷ xs) (true ∷ ms) d x same c = later y xs true ms d x (place_of_unmarked xs ms d x (omega arith) c)
place_of_unmarked (y ∷ xs) (false ∷ ms) d x same c = ⊎_elim
    (λ is. (zero, record { below = omega arith; untaken = refl; is = is }))
    (λ on. later y xs false ms d x (place_of_unmarked xs ms d x (omega arith) on))
    (Contains-cases y (unmarked xs ms) x c)

-- where no place is open, nothing is left
pub unmarked-all : {X : Type 0} (xs : List X) (ms : List Bool) → length ms ≡ length xs →
    ((k : ℕ) → k < length xs → is_open ms k ≡ false) → unmarked xs ms ≡ []
unmarked-all [] ms same none = refl
unmarked-all (x ∷ xs) [] same none = absurd (omega arith)
unmarked-all (x ∷ xs) (true ∷ ms) same none = unmarked-all xs ms (omega arith) (λ k h. none (suc k) (omega arith))
unmarked-all (x ∷ xs) (false ∷ ms) same none = absurd (both_ways true (none zero (omega arith)) refl)

-- marks that were cleared and filled up with false leave nothing out
pub unmarked-cleared : {X : Type 0} (xs : List X) (cleared ms : List Bool) (n m : ℕ) → m ≡ 0 → cleared ≡ [] →
    ms ≡ take n cleared ++ replicate (n - m) false → unmarked xs ms ≡ xs
unmarked-cleared xs cleared ms n m few none filled = ap (unmarked xs) (filled ∙ filled_up n m cleared few none)
    ∙ unmarked-none xs n

-- a fact of all entries holds of those that are not marked
pub unmarked_hold : {X : Type 0} (P : X → Type 0) (xs : List X) (ms : List Bool) → length ms ≡ length xs → All P xs →
    All P (unmarked xs ms)
unmarked_hold {X} P xs ms same all = All-weaker (Contains (unmarked xs ms)) P holds (unmarked xs ms)
    (All-contains_itself (unmarked xs ms))
  where
    holds : (x : X) → Contains (unmarked xs ms) x → P x
    holds x c = let at = place_of_unmarked xs ms x x same c in subst P (at.1).is (all at.0 x (at.1).below)

-- a mark more leaves out no fewer
pub marked_is_open : (ms : List Bool) (i k : ℕ) → is_open (set ms i true) k ≡ true → is_open ms k ≡ true
marked_is_open [] i k e = e
marked_is_open (m ∷ ms) zero zero e = absurd (both_ways false refl e)
marked_is_open (m ∷ ms) zero (suc k) e = e
marked_is_open (m ∷ ms) (suc i) zero e = e
marked_is_open (m ∷ ms) (suc i) (suc k) e = marked_is_open ms i k e

pub unmarked-fewer : {X : Type 0} (xs : List X) (ms : List Bool) (i : ℕ) → length ms ≡ length xs →
    All (Contains (unmarked xs ms)) (unmarked xs (set ms i true))
unmarked-fewer {X} xs ms i same = All-weaker (Contains (unmarked xs (set ms i true))) (Contains (unmarked xs ms)) stays
    (unmarked xs (set ms i true)) (All-contains_itself (unmarked xs (set ms i true)))
  where
    stays : (x : X) → Contains (unmarked xs (set ms i true)) x → Contains (unmarked xs ms) x
    stays x c =
        let at = place_of_unmarked xs (set ms i true) x x (length-set ms i true ∙ same) c in
        subst (λ y. Contains (unmarked xs ms) y) (at.1).is
        (unmarked_at xs ms x at.0 same (at.1).below (marked_is_open ms i at.0 (at.1).untaken))
