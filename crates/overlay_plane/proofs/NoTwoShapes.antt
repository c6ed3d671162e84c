-- Of shapes that each wind once or zero times round a point, and together once or zero times, no two wind round it.
use Rattle.std.proofs.Common.{◌≡◌, ◌⊎◌, inl, inr, ⊎_elim, ℤ, pos, negsuc, ◌-ℤ◌, ◌≤ℤ◌, List, [], ◌∷◌, Contains}
use Rattle.std.proofs.Common.{refl, ap, ◌∙◌, subst}
use Rattle.std.specs.List.{flat_map}
use Rattle.std.proofs.lemmas.List.Elements.{All-contains}
use Rattle.overlay_geom.specs.Plane.{Point, steps_of, winding, total}
use Rattle.overlay_geom.proofs.Signs.{linear}
use Rattle.overlay_plane.specs.Turn.{Hand}
use Rattle.overlay_plane.specs.Turn.Hand.{left, right}
use Rattle.overlay_plane.specs.ContourWindings.{once_round}
use Rattle.overlay_plane.specs.ShapesAlone.{WindsOnceOrNot, NoTwoWindRoundOnePoint}
use Rattle.overlay_plane.proofs.AlongLines.{winding_part}
use Rattle.overlay_plane.proofs.BetweenEdges.{at_most_zero, each_zero}
use Rattle.overlay_plane.proofs.JoinedLists.{total-flat_map}
use Rattle.overlay_plane.proofs.LaterEntries.{Each, Each-weaker, AllPairs-from_each}
use Rattle.overlay_plane.proofs.Totals.{Contains-head, Contains-later, total-sub, total-zero}

-- a number that is -1 or 0
abbrev IsMinusOneOrNot : ℤ → Type 0
IsMinusOneOrNot z = (z ≡ negsuc 0) ⊎ (z ≡ pos 0)

-- it is at most 0
not_more : (z : ℤ) → IsMinusOneOrNot z → z ≤ℤ pos 0
not_more z (inl is) = omega linear
not_more z (inr is) = omega linear

module _ {X : Type 0} (f : X → ℤ) where
  -- of numbers -1 and 0 that sum to -1 or 0 no two are -1
  one_of_them : (xs : List X) → ((x : X) → Contains xs x → IsMinusOneOrNot (f x)) → IsMinusOneOrNot (total f xs) →
      Each (λ x y. (f x ≡ pos 0) ⊎ (f y ≡ pos 0)) xs
  one_of_them [] each sum = tt
  one_of_them (x ∷ xs) each sum = ⊎_elim
      (λ is. let none = rest_none is in (
        (λ y c. inr (each_zero f xs (λ z d. not_more (f z) (later z d)) none y c)),
        one_of_them xs later (inr none),
      ))
      (λ is. (
        (λ y c. inl is),
        one_of_them xs later (⊎_elim (λ whole. inl (omega linear)) (λ whole. inr (omega linear)) sum),
      ))
      (each x (Contains-head x xs))
    where
      later : (y : X) → Contains xs y → IsMinusOneOrNot (f y)
      later y c = each y (Contains-later x xs y c)

      rest_none : f x ≡ negsuc 0 → total f xs ≡ pos 0
      rest_none is =
          let low = at_most_zero f xs (λ z d. not_more (f z) (later z d)) in
          ⊎_elim (λ whole. omega linear) (λ whole. omega linear) sum

-- the law, for numbers of either sign
no_two : (filled : Hand) {X : Type 0} (f : X → ℤ) (xs : List X) →
    ((x : X) → Contains xs x → (f x ≡ once_round filled) ⊎ (f x ≡ pos 0)) →
    (total f xs ≡ once_round filled) ⊎ (total f xs ≡ pos 0) → Each (λ x y. (f x ≡ pos 0) ⊎ (f y ≡ pos 0)) xs
no_two right f xs each sum = one_of_them f xs each sum
no_two left {X} f xs each sum = Each-weaker (λ x y. (against x ≡ pos 0) ⊎ (against y ≡ pos 0))
    (λ x y. (f x ≡ pos 0) ⊎ (f y ≡ pos 0)) xs
    (λ x y c d none. ⊎_elim (λ is. inl (omega linear)) (λ is. inr (omega linear)) none)
    (one_of_them against xs
    (λ x c. ⊎_elim (λ is. inl (omega linear)) (λ is. inr (omega linear)) (each x c))
    (let both = total_against in ⊎_elim (λ is. inl (omega linear)) (λ is. inr (omega linear)) sum))
  where
    against : X → ℤ
    against x = pos 0 -ℤ f x

    total_against : total against xs ≡ pos 0 -ℤ total f xs
    total_against = total-sub (λ x. pos 0) f xs ∙ ap (λ z. z -ℤ total f xs) (total-zero (λ (x : X). pos 0) xs
        (λ x c. refl))

pub no_two_wind_round_one_point : NoTwoWindRoundOnePoint
no_two_wind_round_one_point filled shapes each p sum =
    AllPairs-from_each (λ s t. (winding (flat_map steps_of s) p ≡ pos 0) ⊎ (winding (flat_map steps_of t) p ≡ pos 0))
    shapes
    (no_two filled (λ (shape : List (List Point)). winding (flat_map steps_of shape) p) shapes
    (λ shape c. All-contains (λ s. WindsOnceOrNot filled (flat_map steps_of s)) shapes shape each c p)
    (subst (λ z. (z ≡ once_round filled) ⊎ (z ≡ pos 0))
    (total-flat_map (winding_part p) (flat_map steps_of) shapes) sum))
