-- A sum over a list without equal edges, of numbers that are 0 but for some of its entries, is a sum over these.
use Rattle.std.proofs.Common.{◌≡◌, ⊎_elim, Bool, true, false, cond, ℤ, pos, ◌+ℤ◌, List, [], ◌∷◌, Contains, refl, sym}
use Rattle.std.proofs.Common.{ap, ◌∙◌, subst}
use Rattle.std.proofs.lemmas.Bool.{cases_Bool}
use lib.IntN.{+ℤ_idl, +ℤ_idr}
use Rattle.overlay_geom.specs.Edges.{CountedEdge, ends_of}
use Rattle.overlay_geom.specs.Plane.{edge_eq, total}
use Rattle.overlay_geom.proofs.Orders.{edge_eq-flip}
use Rattle.overlay_plane.specs.Regions.{HasDistinctEnds}
use Rattle.overlay_plane.proofs.LaterEntries.{Contains-cases, Each}
use Rattle.overlay_plane.proofs.SingleEntries.{single_total}
use Rattle.overlay_plane.proofs.Totals.{Contains-head, Contains-later, total-same, total-zero, total-add}

-- the numbers of f, with 0 for the edges equal to g
abbrev pub without : (CountedEdge → ℤ) → CountedEdge → CountedEdge → ℤ
without f g h = cond (edge_eq (ends_of h) (ends_of g)) (pos 0) (f h)

-- a number is split by a test
split : (t : Bool) (z : ℤ) → z ≡ cond t z (pos 0) +ℤ cond t (pos 0) z
split true z = sym (+ℤ_idr z)
split false z = sym (+ℤ_idl z)

module _ (es : List CountedEdge) (distinct : HasDistinctEnds es) where
  -- one entry is taken out
  pub picked_one : (f : CountedEdge → ℤ) (g : CountedEdge) → Contains es g →
      total f es ≡ f g +ℤ total (without f g) es
  picked_one f g c =
      total-same f (λ h. cond (edge_eq (ends_of h) (ends_of g)) (f h) (pos 0) +ℤ without f g h) es
      (λ h at. split (edge_eq (ends_of h) (ends_of g)) (f h))
      ∙ total-add (λ h. cond (edge_eq (ends_of h) (ends_of g)) (f h) (pos 0)) (without f g) es
      ∙ ap (λ z. z +ℤ total (without f g) es) (single_total es distinct f g c)

  module _ {X : Type 0} (at : X → CountedEdge) where
    -- the entries picked are different
    abbrev pub Differ : X → X → Type 0
    Differ x y = edge_eq (ends_of (at x)) (ends_of (at y)) ≡ false

    -- an edge that is not picked
    abbrev pub IsNotPicked : List X → CountedEdge → Type 0
    IsNotPicked xs h = (x : X) → Contains xs x → edge_eq (ends_of h) (ends_of (at x)) ≡ false

    pub picked_total : (xs : List X) (f : CountedEdge → ℤ) → ((x : X) → Contains xs x → Contains es (at x)) →
        Each Differ xs → ((h : CountedEdge) → Contains es h → IsNotPicked xs h → f h ≡ pos 0) →
        total f es ≡ total (λ x. f (at x)) xs
    picked_total [] f among differ none = total-zero f es (λ h c. none h c (λ x in_none. elim in_none.1 [ ]))
    picked_total (x ∷ xs) f among differ none =
        picked_one f (at x) (among x (Contains-head x xs))
        ∙ ap (λ z. f (at x) +ℤ z)
        (picked_total xs (without f (at x)) (λ y c. among y (Contains-later x xs y c)) differ.1 none_left
        ∙ total-same (λ y. without f (at x) (at y)) (λ y. f (at y)) xs
        (λ y c. ap (λ t. cond t (pos 0) (f (at y)))
        (edge_eq-flip (ends_of (at x)) (ends_of (at y)) (differ.0 y c))))
      where
        none_left : (h : CountedEdge) → Contains es h → IsNotPicked xs h → without f (at x) h ≡ pos 0
        none_left h c not_picked = ⊎_elim
            (λ (same : edge_eq (ends_of h) (ends_of (at x)) ≡ true). ap (λ t. cond t (pos 0) (f h)) same)
            (λ (other : edge_eq (ends_of h) (ends_of (at x)) ≡ false). ap (λ t. cond t (pos 0) (f h)) other
            ∙ none h c (λ y at_y. ⊎_elim
            (λ (is : x ≡ y). subst (λ z. edge_eq (ends_of h) (ends_of (at z)) ≡ false) is other)
            (λ later. not_picked y later) (Contains-cases x xs y at_y)))
            (cases_Bool (edge_eq (ends_of h) (ends_of (at x))))
