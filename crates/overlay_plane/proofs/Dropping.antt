-- A closed walk that leaves out a point between whose neighbours the way straight on counts as much.
use Rattle.std.proofs.Common.{◌≡◌, ℕ, zero, suc, ◌+◌, ◌-◌, ◌*◌, ◌%◌, ◌<◌, ◌≤◌, ℤ, pos, ◌+ℤ◌, List, [], ⊎_elim, ◌∷◌}
use Rattle.std.proofs.Common.{◌++◌, length, get_or, take, drop, drop-cons, length-append, length-drop, refl, sym, ap}
use Rattle.std.proofs.Common.{ap₂, subst, ◌∙◌, arith}
use Rattle.std.specs.List.{remove}
use Rattle.std.proofs.Math.ListN.{get_or-append}
use Rattle.std.proofs.Math.Nat.{mod-eq_of_lt}
use Rattle.std.proofs.lemmas.Bool.{cases_lt}
use Rattle.std.proofs.lemmas.List.{length-take, get_or-append_right, get_or-drop, get_or-take, take-append-drop}
use Rattle.std.proofs.lemmas.Nat.{mod-mul-add}
use Rattle.overlay_geom.specs.Plane.{Point}
use Rattle.overlay_geom.specs.Thinned.{point_round}
use Rattle.overlay_geom.proofs.Signs.{linear}
use Rattle.overlay_plane.proofs.Walks.{around, last_from, around-rotated, around-past}

-- the point that is read past a list's end
abbrev pub origin : Point
origin = record { x = pos 0; y = pos 0 }

-- once round a list is the same place
mod_once_round : (i n : ℕ) → i < n → (n + i) % n ≡ i
mod_once_round i n h = let e : n + i ≡ 1 * n + i = omega arith in ap (λ m. m % n) e ∙ mod-mul-add 1 n i h

-- the list from the place after k on, up to the place before it
abbrev pub others_from : List Point → ℕ → List Point
others_from ps k = drop (suc k) ps ++ take k ps

-- the list begins with the point after place k
pub others-first : (ps : List Point) (k : ℕ) → k < length ps → 2 ≤ length ps →
    get_or (others_from ps k) 0 origin ≡ point_round ps (k + 1)
others-first ps k within two = ⊎_elim later wrapped (cases_lt (suc k) (length ps))
  where
    later : suc k < length ps → get_or (others_from ps k) 0 origin ≡ point_round ps (k + 1)
    later more = get_or-append (drop (suc k) ps) (take k ps) origin 0 (let l = length-drop (suc k) ps in omega arith)
        ∙ get_or-drop (suc k) ps 0 origin
        ∙ ap (λ m. get_or ps m origin) (let e : suc k + 0 ≡ k + 1 = omega arith in
        let lt : k + 1 < length ps = omega arith in e ∙ sym (mod-eq_of_lt lt))

    wrapped : length ps ≤ suc k → get_or (others_from ps k) 0 origin ≡ point_round ps (k + 1)
    wrapped last = get_or-append_right (drop (suc k) ps) (take k ps) 0 0 origin (let l = length-drop (suc k) ps in
        omega arith) (omega arith)
        ∙ get_or-take k ps 0 origin (omega arith)
        ∙ ap (λ m. get_or ps m origin) (let e : k + 1 ≡ length ps + 0 = omega arith in
        sym (ap (λ m. m % length ps) e ∙ mod_once_round 0 (length ps) (omega arith)))

-- the list ends with the point before place k
pub others-last : (ps : List Point) (k : ℕ) → k < length ps → 2 ≤ length ps →
    get_or (others_from ps k) (length ps - 2) origin ≡ point_round ps (k + length ps - 1)
others-last ps zero within two =
    let l = length-drop 1 ps in
    let e : 1 + (length ps - 2) ≡ 0 + length ps - 1 = omega arith in
    let lt : 0 + length ps - 1 < length ps = omega arith in
    get_or-append (drop 1 ps) (take 0 ps) origin (length ps - 2) (omega arith)
    ∙ get_or-drop 1 ps (length ps - 2) origin
    ∙ ap (λ m. get_or ps m origin) (e ∙ sym (mod-eq_of_lt lt))
others-last ps (suc j) within two =
    let at : length ps - 2 - (length ps - suc (suc j)) ≡ j = omega arith in
    let e : suc j + length ps - 1 ≡ length ps + j = omega arith in
    get_or-append_right (drop (suc (suc j)) ps) (take (suc j) ps) (length ps - suc (suc j)) (length ps - 2) origin
    (length-drop (suc (suc j)) ps) (omega arith)
    ∙ ap (λ m. get_or (take (suc j) ps) m origin) at
    ∙ get_or-take (suc j) ps j origin (omega arith)
    ∙ ap (λ m. get_or ps m origin) (sym (ap (λ m. m % length ps) e ∙ mod_once_round j (length ps) (omega arith)))

-- the last point of a list stands at the place before its end
pub last_from-place : (z : Point) (zs : List Point) (d : Point) → last_from z zs ≡ get_or (z ∷ zs) (length zs) d
last_from-place z [] d = refl
last_from-place z (y ∷ zs) d = last_from-place y zs d

module _ (f : Point → Point → ℤ) where
  -- from u by v to w the walk counts as much as straight from u to w
  abbrev pub CountsAlike : Point → Point → Point → Type 0
  CountsAlike u v w = f u v +ℤ f v w ≡ f u w

  -- a list is its front before a place, the point there, and the rest
  around-from_place : (ps : List Point) (k : ℕ) → k < length ps →
      around f ps ≡ around f (get_or ps k origin ∷ others_from ps k)
  around-from_place ps k within =
      ap (around f) (sym (take-append-drop k ps) ∙ ap (λ zs. take k ps ++ zs) (drop-cons ps k origin within))
      ∙ around-rotated f (get_or ps k origin ∷ drop (suc k) ps) (take k ps)

  -- a closed walk may leave out the point at the head where that holds of its neighbours
  around-tail : (v : Point) (zs : List Point) → 1 ≤ length zs → CountsAlike (get_or zs (length zs - 1) origin) v
      (get_or zs 0 origin) →
      around f (v ∷ zs) ≡ around f zs
  around-tail v [] some alike = absurd (omega arith)
  around-tail v (z ∷ zs) some alike = around-past f v z zs
      (subst (λ (u : Point). CountsAlike u v z)
      (sym (last_from-place z zs origin ∙ ap (λ m. get_or (z ∷ zs) m origin) at)) alike)
    where
      at : length zs ≡ length (z ∷ zs) - 1
      at = omega arith

  -- the point at any place may be left out
  pub around-remove : (ps : List Point) (k : ℕ) → k < length ps →
      CountsAlike (point_round ps (k + length ps - 1)) (point_round ps k) (point_round ps (k + 1)) →
      around f (remove ps k) ≡ around f ps
  around-remove [] k within alike = absurd (omega arith)
  around-remove (v ∷ []) zero within alike = omega linear
  around-remove (v ∷ []) (suc k) within alike = absurd (omega arith)
  around-remove (v ∷ w ∷ vs) k within alike = longer (v ∷ w ∷ vs) (omega arith) within alike
    where
      longer : (ps : List Point) → 2 ≤ length ps → k < length ps →
          CountsAlike (point_round ps (k + length ps - 1)) (point_round ps k) (point_round ps (k + 1)) →
          around f (remove ps k) ≡ around f ps
      longer ps two within alike =
          let dropped = length-drop (suc k) ps in
          let taken = length-take k ps in
          let joined = length-append (drop (suc k) ps) (take k ps) in
          let count : length (others_from ps k) - 1 ≡ length ps - 2 = omega arith in
          let last : get_or (others_from ps k) (length (others_from ps k) - 1) origin ≡ point_round ps
          (k + length ps - 1) = ap (λ m. get_or (others_from ps k) m origin) count ∙ others-last ps k within two in
          let here : get_or ps k origin ≡ point_round ps k = ap (λ m. get_or ps m origin) (sym (mod-eq_of_lt within)) in
          let first = others-first ps k within two in
          around-rotated f (drop (suc k) ps) (take k ps)
          ∙ sym (around-tail (get_or ps k origin) (others_from ps k) (omega arith)
          (ap₂ (λ a b. a +ℤ b) (ap₂ f last here) (ap₂ f here first) ∙ alike ∙ sym (ap₂ f last first)))
          ∙ sym (around-from_place ps k within)
