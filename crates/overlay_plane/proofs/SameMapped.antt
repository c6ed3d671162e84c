-- Two lists in one order, of which each entry stands for one of the other, are mapped to one list where entries that
-- stand for each other are mapped alike.
use Rattle.std.proofs.Common.{◌≡◌, inl, inr, List, [], ◌∷◌, map, Contains, refl, sym, subst, ap, ◌∙◌}
use Rattle.overlay_geom.proofs.Entries.{Contains-head, Contains-later}
use Rattle.overlay_plane.proofs.LaterEntries.{Each, Contains-cases}

module _ {X Y : Type 0} (In : X → Type 0) (R S : X → X → Type 0) (f : X → Y)
    (turned : (x y : X) → S x y → S y x)
    (to_same : (x y z : X) → In x → In y → In z → R x z → S y z → R x y)
    (one_way : (x y : X) → R x y → ¬ (R y x))
    (apart : (x y : X) → R x y → ¬ (S x y))
    (alike : (x y : X) → S x y → f x ≡ f y) where
  -- an entry of the list that x stands for
  abbrev StandsIn : List X → X → Type 0
  StandsIn ys x = (y : X) × Contains ys y × S x y

  -- each entry of the first list stands for one of the second
  abbrev pub Stand : List X → List X → Type 0
  Stand xs ys = (x : X) → Contains xs x → StandsIn ys x

  -- all entries are among these
  abbrev pub AreIn : List X → Type 0
  AreIn xs = (x : X) → Contains xs x → In x

  -- the first entries stand for each other
  same_first : (x y : X) (xs ys : List X) → AreIn (x ∷ xs) → AreIn (y ∷ ys) → Each R (x ∷ xs) → Each R (y ∷ ys) →
      StandsIn (y ∷ ys) x → StandsIn (x ∷ xs) y → S x y
  same_first x y xs ys in_x in_y up_x up_y (z, has_z, same) (w, has_w, back) =
      elim (Contains-cases y ys z has_z) [
        | inl is ↦ subst (S x) (sym is) same
        | inr later ↦ elim (Contains-cases x xs w has_w) [
          | inl is ↦ turned y x (subst (S y) (sym is) back)
          | inr later_w ↦ absurd (one_way x y
              (to_same x y w (in_x x (Contains-head x xs)) (in_y y (Contains-head y ys)) (in_x w has_w)
              (up_x.0 w later_w) back)
              (to_same y x z (in_y y (Contains-head y ys)) (in_x x (Contains-head x xs)) (in_y z has_z)
              (up_y.0 z later) same))
        ]
      ]

  -- and the later ones for later ones
  stand_later : (x y : X) (xs ys : List X) → AreIn (x ∷ xs) → AreIn (y ∷ ys) → Each R (x ∷ xs) → S x y →
      Stand (x ∷ xs) (y ∷ ys) → Stand xs ys
  stand_later x y xs ys in_x in_y up same stand u has =
      by (stand u (Contains-later x xs u has))
    where
      by : StandsIn (y ∷ ys) u → StandsIn ys u
      by (z, has_z, of_u) =
          elim (Contains-cases y ys z has_z) [
            | inl is ↦ absurd (apart x y
                (to_same x y u (in_x x (Contains-head x xs)) (in_y y (Contains-head y ys))
                (in_x u (Contains-later x xs u has)) (up.0 u has) (turned u y (subst (S u) (sym is) of_u)))
                same)
            | inr later ↦ (z, later, of_u)
          ]

  -- so they are mapped to one list
  pub same_mapped : (xs ys : List X) → AreIn xs → AreIn ys → Each R xs → Each R ys → Stand xs ys → Stand ys xs →
      map f xs ≡ map f ys
  same_mapped [] [] in_x in_y up_x up_y forth back = refl
  same_mapped [] (y ∷ ys) in_x in_y up_x up_y forth back = elim (back y (Contains-head y ys)).1.1 [ ]
  same_mapped (x ∷ xs) [] in_x in_y up_x up_y forth back = elim (forth x (Contains-head x xs)).1.1 [ ]
  same_mapped (x ∷ xs) (y ∷ ys) in_x in_y up_x up_y forth back =
      ap (λ v. v ∷ map f xs) (alike x y same) ∙ ap (λ vs. f y ∷ vs) (same_mapped xs ys
      (λ u c. in_x u (Contains-later x xs u c)) (λ u c. in_y u (Contains-later y ys u c)) up_x.1 up_y.1
      (stand_later x y xs ys in_x in_y up_x same forth)
      (stand_later y x ys xs in_y in_x up_y (turned x y same) back))
    where
      same : S x y
      same = same_first x y xs ys in_x in_y up_x up_y (forth x (Contains-head x xs)) (back y (Contains-head y ys))
