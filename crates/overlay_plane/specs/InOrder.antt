-- Insertion sort of lists.
use Rattle.std.specs.Prelude.{Bool, cond, List, [], ◌∷◌}

-- x inserted before the first entry that it is lower than
abbrev pub inserted : {X : Type 0} → (X → X → Bool) → X → List X → List X
inserted lower x [] = x ∷ []
inserted lower x (y ∷ ys) = cond (lower x y) (x ∷ y ∷ ys) (y ∷ inserted lower x ys)

-- the entries, inserted one after another
abbrev pub in_order : {X : Type 0} → (X → X → Bool) → List X → List X
in_order lower [] = []
in_order lower (x ∷ xs) = inserted lower x (in_order lower xs)
