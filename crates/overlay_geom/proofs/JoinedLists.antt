-- Joined lists in a loop: their length, also after a cut, and the element at a place.
use Rattle.std.proofs.Common.{◌≡◌, ℕ, ◌+◌, ◌<◌, List, [], ◌∷◌, ◌++◌, length, take, get_or, min, flat_map, Some, refl}
use Rattle.std.proofs.Common.{sym, ◌∙◌, ap, ap₂, arith}
use Rattle.std.specs.List.{slice_get}
use Rattle.std.proofs.lemmas.List.{take_more, append-nil, length-append, length-take, get_or-take}
use Rattle.std.proofs.lemmas.List.Concat.{get_or-flat_map}
use Rattle.std.proofs.lemmas.List.Folds.{length-flat_map-take}
use Rattle.std.proofs.lemmas.Grind.{flat_map-append}
use Rattle.std.proofs.lemmas.Option.{slice_get_read, get_or_from_slice_get}

-- a length that is cut, with one more part, and cut again
pub cut_more : (m n k : ℕ) → min (min m n + k) m ≡ min m (n + k)
cut_more m n k = omega arith

-- lists joined, with one more
pub joined_push : {X Y : Type 0} (f : X → List Y) (xs : List X) (x : X) →
    flat_map f (xs ++ x ∷ []) ≡ flat_map f xs ++ f x
joined_push f xs x = flat_map-append f xs (x ∷ []) ∙ ap (λ ys. flat_map f xs ++ ys) (append-nil (f x))

module _ {X Y : Type 0} (f : X → List Y) (xs : List X) (i : ℕ) (x : X) (within : i < length xs)
    (is : x ≡ get_or xs i x) where
  -- the first lists joined, with one more
  pub joined_more : flat_map f (take (i + 1) xs) ≡ flat_map f (take i xs) ++ f x
  joined_more = ap (flat_map f) (take_more xs i x within ∙ ap (λ y. take i xs ++ y ∷ []) (sym is))
      ∙ joined_push f (take i xs) x

  -- the joined lists are longer by that list
  pub length-joined_more : length (flat_map f (take (i + 1) xs)) ≡ length (flat_map f (take i xs)) + length (f x)
  length-joined_more = ap length joined_more ∙ length-append (flat_map f (take i xs)) (f x)

  -- cut, they are longer by the part that fits
  pub length-cut_more : (m n k r : ℕ) → n ≡ length (take m (flat_map f (take i xs))) → k ≡ length (f x) →
      r ≡ min (n + k) m → r ≡ length (take m (flat_map f (take (i + 1) xs)))
  length-cut_more m n k r before one sum =
      let front = length (flat_map f (take i xs)) in
      sum ∙ ap₂ (λ a b. min (a + b) m) (before ∙ length-take m (flat_map f (take i xs))) one
      ∙ cut_more m front (length (f x)) ∙ ap (min m) (sym length-joined_more)
      ∙ sym (length-take m (flat_map f (take (i + 1) xs)))

  -- an element of one of the lists stands behind the lists before it
  pub slice_get-joined : (j : ℕ) (y : Y) → j < length (f x) → y ≡ get_or (f x) j y →
      slice_get (flat_map f xs) (length (flat_map f (take i xs)) + j) ≡ Some y
  slice_get-joined j y inside at =
      let same : get_or xs i x ≡ x = sym is in
      let fits = length-flat_map-take f xs i x within in
      let long : j < length (f (get_or xs i x)) = rw same inside in
      slice_get_read (flat_map f xs) (length (flat_map f xs)) (length (flat_map f (take i xs)) + j) y refl
      (omega (arith, fits, long))
      (at ∙ ap (λ z. get_or (f z) j y) is ∙ sym (get_or-flat_map f xs i j x y within long))

-- a place in the front of a list is one of the list
pub within_cut : {X : Type 0} (m : ℕ) (xs : List X) (i : ℕ) → i < length (take m xs) → i < length xs
within_cut m xs i within = let long = length-take m xs in omega arith

-- the place has equal elements in both
pub slice_get-cut : {X : Type 0} (m : ℕ) (xs : List X) (i : ℕ) (x : X) → i < length (take m xs) →
    slice_get xs i ≡ Some x → slice_get (take m xs) i ≡ Some x
slice_get-cut m xs i x within read =
    let long = length-take m xs in
    let inside : i < m = omega arith in
    slice_get_read (take m xs) (length (take m xs)) i x refl within (sym (get_or_from_slice_get xs i x x read)
    ∙ sym (get_or-take m xs i x inside))
