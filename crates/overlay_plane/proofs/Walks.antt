-- Numbers given to each two neighbouring points of a walk, summed along an open walk, and round a closed walk.
use Rattle.std.proofs.Common.{◌≡◌, ℤ, pos, ◌+ℤ◌, List, [], ◌∷◌, ◌++◌, append_assoc, refl, sym, ap, ap₂, ◌∙◌}
use Rattle.std.proofs.lemmas.List.{append-nil}
use lib.IntN.{+ℤ_idr, +ℤ_comm, +ℤ_assoc}
use Rattle.overlay_geom.specs.Plane.{Point, Step, steps_between, steps_through, steps_of, total}
use Rattle.overlay_geom.proofs.Signs.{linear}
use Rattle.overlay_plane.proofs.JoinedLists.{total-append}

-- the last of the points, u where there is none
abbrev pub last_from : Point → List Point → Point
last_from u [] = u
last_from u (v ∷ vs) = last_from v vs

module _ (f : Point → Point → ℤ) where
  -- from u through the points in order
  abbrev pub along : Point → List Point → ℤ
  along u [] = pos 0
  along u (v ∷ vs) = f u v +ℤ along v vs

  -- round a closed list of points
  abbrev pub around : List Point → ℤ
  around [] = pos 0
  around (p ∷ ps) = along p (ps ++ p ∷ [])

  -- a walk is the part up to a point, and the part from it on
  pub along-parts : (u : Point) (xs : List Point) (v : Point) (ys : List Point) →
      along u (xs ++ v ∷ ys) ≡ along u (xs ++ v ∷ []) +ℤ along v ys
  along-parts u [] v ys = ap (λ z. z +ℤ along v ys) (sym (+ℤ_idr (f u v)))
  along-parts u (x ∷ xs) v ys = ap (λ z. f u x +ℤ z) (along-parts x xs v ys)
      ∙ sym (+ℤ_assoc (f u x) (along x (xs ++ v ∷ [])) (along v ys))

  -- a closed walk may begin at any of its points
  pub around-rotated : (xs ys : List Point) → around (ys ++ xs) ≡ around (xs ++ ys)
  around-rotated [] ys = ap around (append-nil ys)
  around-rotated (x ∷ xs) [] = ap around (sym (append-nil (x ∷ xs)))
  around-rotated (x ∷ xs) (y ∷ ys) = parts y ys x xs
      ∙ +ℤ_comm (along y (ys ++ x ∷ [])) (along x (xs ++ y ∷ []))
      ∙ sym (parts x xs y ys)
    where
      parts : (p : Point) (ps : List Point) (q : Point) (qs : List Point) →
          along p ((ps ++ q ∷ qs) ++ p ∷ []) ≡ along p (ps ++ q ∷ []) +ℤ along q (qs ++ p ∷ [])
      parts p ps q qs = ap (along p) (append_assoc ps (q ∷ qs) (p ∷ [])) ∙ along-parts p ps q (qs ++ p ∷ [])

  -- a walk to a further point adds the last two
  pub along-last : (u : Point) (xs : List Point) (v : Point) → along u (xs ++ v ∷ []) ≡ along u xs +ℤ f
      (last_from u xs) v
  along-last u [] v = +ℤ_comm (f u v) (pos 0)
  along-last u (x ∷ xs) v = ap (λ z. f u x +ℤ z) (along-last x xs v)
      ∙ sym (+ℤ_assoc (f u x) (along x xs) (f (last_from x xs) v))

  -- a closed walk may leave out its first point where the way straight past it counts as much
  pub around-past : (v z : Point) (zs : List Point) → f (last_from z zs) v +ℤ f v z ≡ f (last_from z zs) z →
      around (v ∷ z ∷ zs) ≡ around (z ∷ zs)
  around-past v z zs e =
      let to_v = along-last z zs v in
      let to_z = along-last z zs z in
      omega linear

-- numbers that add up between any two points add up along a walk
module _ (count : Step → ℤ) (f : Point → Point → ℤ) (between : (u v : Point) →
    total count (steps_between u v) ≡ f u v) where
  -- from u through the points
  pub total-through : (u : Point) (vs : List Point) → total count (steps_through u vs) ≡ along f u vs
  total-through u [] = refl
  total-through u (v ∷ vs) = total-append count (steps_between u v) (steps_through v vs)
      ∙ ap₂ (λ a b. a +ℤ b) (between u v) (total-through v vs)

  -- they add up round a closed list
  pub total-around : (ps : List Point) → total count (steps_of ps) ≡ around f ps
  total-around [] = refl
  total-around (p ∷ ps) = total-through p (ps ++ p ∷ [])
