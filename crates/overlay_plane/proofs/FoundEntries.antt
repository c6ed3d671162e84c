-- A search through a list finds an entry that passes its test, or nothing where none passes.
use Rattle.std.proofs.Common.{◌≡◌, ⊎_elim, Bool, true, false, cond, List, [], ◌∷◌, Contains, refl, subst}
use Rattle.std.specs.Prelude.{Option, Some, None, find}
use Rattle.overlay_plane.proofs.LaterEntries.{Contains-cases}
use Rattle.overlay_plane.proofs.Totals.{Contains-head, Contains-later}

-- the answer of a search: an entry that passes, or nothing where none does
abbrev pub IsFound : {X : Type 0} → (X → Bool) → List X → Option X → Type 0
IsFound {X} test xs None = (x : X) → Contains xs x → test x ≡ false
IsFound test xs (Some x) = Contains xs x × (test x ≡ true)

-- the result of a search is such an answer
pub found_by : {X : Type 0} (test : X → Bool) (xs : List X) → IsFound test xs (find test xs)
found_by test [] = λ x c. elim c.1 [ ]
found_by {X} test (y ∷ ys) = by (test y) refl (find test ys) (found_by test ys)
  where
    by : (t : Bool) → test y ≡ t → (o : Option X) → IsFound test ys o → IsFound test (y ∷ ys) (cond t (Some y) o)
    by true e o h = (Contains-head y ys, e)
    by false e None h = λ x c. ⊎_elim (λ is. subst (λ w. test w ≡ false) is e) (h x) (Contains-cases y ys x c)
    by false e (Some x) h = (Contains-later y ys x h.0, h.1)
