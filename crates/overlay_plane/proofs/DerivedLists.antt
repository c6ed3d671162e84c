-- Lists of edges with their values: shuffled and merged by runs, and given part by part.
use Rattle.std.proofs.Common.{List, [], ◌∷◌, ◌++◌, Contains, sym, subst, append_assoc}
use Rattle.std.proofs.lemmas.List.{append-nil}
use Rattle.overlay_plane.specs.DerivedData.{AreGiven, none, next}
use Rattle.overlay_plane.proofs.Totals.{Contains-head, Contains-later}

module _ {X Y : Type 0} (gives : X → List Y → Type 0) where
  -- one entry gives one part
  pub given_one : (x : X) (part : List Y) → gives x part → AreGiven gives (x ∷ []) part
  given_one x part given = subst (AreGiven gives (x ∷ [])) (append-nil part) (next given none)

  -- the entries of two lists are those of both together
  pub given_both : {xs ys : List X} {us vs : List Y} → AreGiven gives xs us → AreGiven gives ys vs →
      AreGiven gives (xs ++ ys) (us ++ vs)
  given_both none later = later
  given_both {ys} {vs} (next {x} {xs} {part} {rest} given more) later =
      subst (AreGiven gives (x ∷ xs ++ ys)) (sym (append_assoc part rest vs)) (next given (given_both more later))

-- where each entry gives a part in another sense too, so does the list
pub given_weaker : {X Y : Type 0} (gives grants : X → List Y → Type 0) {xs : List X} {ys : List Y} →
    ((x : X) (part : List Y) → Contains xs x → gives x part → grants x part) → AreGiven gives xs ys →
    AreGiven grants xs ys
given_weaker gives grants each none = none
given_weaker gives grants each (next {x} {xs} {part} {rest} given more) =
    next (each x part (Contains-head x xs) given)
    (given_weaker gives grants (λ y ps at_y. each y ps (Contains-later x xs y at_y)) more)
