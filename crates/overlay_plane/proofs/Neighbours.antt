-- Neighbours in a list in order: each step of a chain leads from the value of an entry to that of its neighbour.
use Rattle.std.proofs.Common.{◌≡◌, ◌⊎◌, inl, inr, List, [], ◌∷◌, map, Contains, subst, arith}
use Rattle.std.proofs.lemmas.List.Elements.{Contains-append_cases}
use Rattle.overlay_geom.specs.Plane.{Point, Step, steps_between, steps_through}
use Rattle.overlay_plane.proofs.ChainStops.{step_between}
use Rattle.overlay_plane.proofs.LaterEntries.{Contains-cases, Each}
use Rattle.overlay_plane.proofs.Totals.{Contains-head, Contains-later}

module _ {X : Type 0} (R : X → X → Type 0) where
  -- two entries in order, and each entry is up to the first or after the second
  pub record AreNeighbours (xs : List X) (y z : X) : Type 0 where
    pub first : Contains xs y
    pub second : Contains xs z
    pub in_order : R y z
    pub beyond : (x : X) → Contains xs x → R x y ⊎ R z x

  -- the step leads from the point of an entry to that of its neighbour, a different point
  pub record IsStepOfNeighbours (f : X → Point) (xs : List X) (s : Step) : Type 0 where
    pub y : X
    pub z : X
    pub neighbours : AreNeighbours xs y z
    pub is : record { from = f y; to = f z } ≡ s
    pub differ : ¬ (f y ≡ f z)

  module _ (itself : (x : X) → R x x) where
    -- the first two entries are neighbours
    first_neighbours : (x y : X) (ys : List X) → Each R (x ∷ y ∷ ys) → AreNeighbours (x ∷ y ∷ ys) x y
    first_neighbours x y ys h = record {
      first = Contains-head x (y ∷ ys);
      second = Contains-later x (y ∷ ys) y (Contains-head y ys);
      in_order = h.0 y (Contains-head y ys);
      beyond = beyond;
    }
      where
        beyond : (z : X) → Contains (x ∷ y ∷ ys) z → R z x ⊎ R y z
        beyond z has = elim (Contains-cases x (y ∷ ys) z has) [
          | inl is ↦ inl (subst (λ w. R w x) is (itself x))
          | inr later ↦ elim (Contains-cases y ys z later) [
            | inl is ↦ inr (subst (R y) is (itself y))
            | inr rest ↦ inr (h.1.0 z rest)
          ]
        ]

    -- neighbours among later entries are neighbours among all
    later_neighbours : (x : X) (xs : List X) (y z : X) → Each R (x ∷ xs) → AreNeighbours xs y z →
        AreNeighbours (x ∷ xs) y z
    later_neighbours x xs y z h n = record {
      first = Contains-later x xs y n.first;
      second = Contains-later x xs z n.second;
      in_order = n.in_order;
      beyond = beyond;
    }
      where
        beyond : (w : X) → Contains (x ∷ xs) w → R w y ⊎ R z w
        beyond w has = elim (Contains-cases x xs w has) [
          | inl is ↦ inl (subst (λ u. R u y) is (h.0 y n.first))
          | inr later ↦ n.beyond w later
        ]

    -- each step of a chain leads from the point of an entry to that of its neighbour
    pub step_of_neighbours : (f : X → Point) (x : X) (xs : List X) → Each R (x ∷ xs) → (s : Step) →
        Contains (steps_through (f x) (map f xs)) s →
        IsStepOfNeighbours f (x ∷ xs) s
    step_of_neighbours f x [] h s has = absurd (omega (arith, has.1))
    step_of_neighbours f x (y ∷ ys) h s has =
        elim (Contains-append_cases (steps_between (f x) (f y)) (steps_through (f y) (map f ys)) s has) [
          | inl first ↦
              let is = step_between (f x) (f y) s first in
              record { y = x; z = y; neighbours = first_neighbours x y ys h; is = is.0; differ = is.1 }
          | inr later ↦
              let found = step_of_neighbours f y ys h.1 s later in
              record {
                y = found.y;
                z = found.z;
                neighbours = later_neighbours x (y ∷ ys) found.y found.z h found.neighbours;
                is = found.is;
                differ = found.differ;
              }
        ]
