-- Counts are balanced exactly where as many steps enter each end of an edge as leave it.
use Rattle.std.proofs.Common.{◌≡◌, ℕ, ◌+◌, ◌<◌, Bool, true, false, cond, ◌||◌, ℤ, pos, ◌+ℤ◌, ◌-ℤ◌, ◌*ℤ◌, List, []}
use Rattle.std.proofs.Common.{◌∷◌, map, take, get_or, length, inl, inr, refl, sym, ap, ap₂, ◌∙◌, subst, arith}
use Rattle.std.specs.List.{Contains}
use Rattle.std.proofs.lemmas.Bool.{false≢true}
use Rattle.std.proofs.lemmas.Int.{ints}
use Rattle.std.proofs.lemmas.List.{take-map}
use Rattle.std.proofs.lemmas.List.Sums.{sum_by-take-le}
use Rattle.overlay_geom.specs.Edges.{CountedEdge, ends_of, weight}
use Rattle.overlay_geom.specs.Numbers.{Within}
use Rattle.overlay_geom.specs.Plane.{Point, point_eq, total}
use Rattle.overlay_geom.proofs.Entries.{Contains-head, Contains-later, Contains-cases}
use Rattle.overlay_geom.proofs.Identities.{solve, number, ◌⊕◌, ◌⊖◌, ◌⊗◌, ◌≗◌}
use Rattle.overlay_geom.proofs.Orders.{point_eq-same, point_eq-of_same}
use Rattle.overlay_geom.proofs.Totals.{total-more, total-within}
use Rattle.overlay_geom.proofs.Weights.{edge_weight}
use Rattle.overlay_geom.proofs.WindingSums.{IsWeighed}
use Rattle.overlay_plane.specs.EdgeLists.{IsBalanced}
use Rattle.overlay_plane.proofs.Totals.{total-same, total-zero}
use Rattle.overlay_vector.specs.Entering.{entering, entering_along}

-- ---- how far from 0 the sums are

counted_or_not : (b : Bool) (n : ℕ) (z : ℤ) → Within n z → Within n (cond b z (pos 0))
counted_or_not true n z h = h
counted_or_not false n z h = record { low = omega (arith, ints); high = omega (arith, ints) }

along_within : (s t : Bool) (n : ℕ) (z : ℤ) → Within n z → Within n (cond s z (pos 0) -ℤ cond t z (pos 0))
along_within true true n z h = record { low = omega (arith, ints); high = omega (arith, ints) }
along_within true false n z h = record { low = omega (arith, ints); high = omega (arith, ints) }
along_within false true n z h = record { low = omega (arith, ints); high = omega (arith, ints) }
along_within false false n z h = record { low = omega (arith, ints); high = omega (arith, ints) }

module _ (count : CountedEdge → ℤ) (weighed : IsWeighed count) where
  entering_within : (es : List CountedEdge) (p : Point) → Within (weight es) (entering count es p)
  entering_within es p = total-within (entering_along count p) edge_weight
      (λ e. along_within (point_eq e.b p) (point_eq e.a p) (edge_weight e) (count e) (weighed.within e)) es

  -- at the front of a light list
  pub entering_front : {X : Type 0} (h : X → CountedEdge) (xs : List X) (i : ℕ) (p : Point) (m : ℕ) (w : ℤ) →
      weight (map h xs) < m → w ≡ entering count (map h (take i xs)) p → Within m w
  entering_front h xs i p m w light e =
      let part = sum_by-take-le edge_weight (map h xs) i in
      let lighter : weight (map h (take i xs)) < m = rw (← take-map h i xs) (omega arith) in
      let within = entering_within (map h (take i xs)) p in
      record { low = omega (arith, ints); high = omega (arith, ints) }

-- with one edge more
pub entering_more : {X : Type 0} (count : CountedEdge → ℤ) (h : X → CountedEdge) (xs : List X) (i : ℕ) (x : X)
    (p : Point) (old new : ℤ) → i < length xs → x ≡ get_or xs i x → old ≡ entering count (map h (take i xs)) p →
    new ≡ old +ℤ entering_along count p (h x) → new ≡ entering count (map h (take (i + 1) xs)) p
entering_more count h xs i x p old new lt is so_far one_more =
    one_more ∙ ap (λ y. y +ℤ entering_along count p (h x)) so_far
    ∙ sym (total-more (entering_along count p) h xs i x lt is)

-- ---- balance

-- 1 at the point, and 0 elsewhere
abbrev here : Point → Point → ℤ
here p q = cond (point_eq q p) (pos 1) (pos 0)

abbrev among : List Point → Point → Bool
among [] q = false
among (p ∷ ps) q = point_eq q p || among ps q

-- the numbers of these points, and 0 elsewhere
abbrev only : (Point → ℤ) → List Point → Point → ℤ
only g ps q = cond (among ps q) (g q) (pos 0)

abbrev ends_in : List CountedEdge → List Point
ends_in [] = []
ends_in (e ∷ es) = e.a ∷ e.b ∷ ends_in es

one_at : (c : ℤ) (s t : Bool) → c *ℤ (cond s (pos 1) (pos 0) -ℤ cond t (pos 1) (pos 0)) ≡ cond s c (pos 0) -ℤ cond t c
    (pos 0)
one_at c true true = solve 1 (λ c. c ⊗ (number (pos 1) ⊖ number (pos 1)) ≗ c ⊖ c) tt c
one_at c true false = solve 1 (λ c. c ⊗ (number (pos 1) ⊖ number (pos 0)) ≗ c ⊖ number (pos 0)) tt c
one_at c false true = solve 1 (λ c. c ⊗ (number (pos 0) ⊖ number (pos 1)) ≗ number (pos 0) ⊖ c) tt c
one_at c false false = solve 1 (λ c. c ⊗ (number (pos 0) ⊖ number (pos 0)) ≗ number (pos 0) ⊖ number (pos 0)) tt c

at_once : (t : Bool) (z : ℤ) → z ≡ cond t z (pos 0) +ℤ cond t (pos 0) z *ℤ pos 1
at_once true z = solve 1 (λ z. z ≗ z ⊕ number (pos 0) ⊗ number (pos 1)) tt z
at_once false z = solve 1 (λ z. z ≗ number (pos 0) ⊕ z ⊗ number (pos 1)) tt z

-- with one point more
only_more : (g : Point → ℤ) (p : Point) (ps : List Point) (q : Point) →
    only g (p ∷ ps) q ≡ only g ps q +ℤ cond (among ps p) (pos 0) (g p) *ℤ here p q
only_more g p ps q = by (point_eq q p) refl
  where
    by : (t : Bool) → point_eq q p ≡ t → cond (t || among ps q) (g q) (pos 0)
        ≡ cond (among ps q) (g q) (pos 0) +ℤ cond (among ps p) (pos 0) (g p) *ℤ cond t (pos 1) (pos 0)
    by true same =
        subst (λ r. g q ≡ cond (among ps q) (g q) (pos 0) +ℤ cond (among ps r) (pos 0) (g r) *ℤ pos 1)
        (point_eq-same q p same) (at_once (among ps q) (g q))
    by false apart = solve 2 (λ a k. a ≗ a ⊕ k ⊗ number (pos 0)) tt (cond (among ps q) (g q) (pos 0))
        (cond (among ps p) (pos 0) (g p))

or_true : (a b : Bool) → b ≡ true → (a || b) ≡ true
or_true true b h = refl
or_true false b h = h

first_true : (a b : Bool) → a ≡ true → (a || b) ≡ true
first_true true b h = refl
first_true false b h = absurd (false≢true h)

-- the ends of an edge are among those of all
ends_among : (es : List CountedEdge) (e : CountedEdge) → Contains es e →
    (among (ends_in es) e.a ≡ true) × (among (ends_in es) e.b ≡ true)
ends_among [] e c = absurd (let h = c.1 in omega arith)
ends_among (x ∷ xs) e c = elim (Contains-cases x xs e c) [
  | inl same ↦ (
    first_true (point_eq e.a x.a) _ (point_eq-of_same e.a x.a (ap (λ (y : CountedEdge). y.a) (sym same))),
    or_true (point_eq e.b x.a) _
        (first_true (point_eq e.b x.b) _ (point_eq-of_same e.b x.b (ap (λ (y : CountedEdge). y.b) (sym same)))),
  )
  | inr later ↦ (
    or_true (point_eq e.a x.a) _ (or_true (point_eq e.a x.b) _ (ends_among xs e later).0),
    or_true (point_eq e.b x.a) _ (or_true (point_eq e.b x.b) _ (ends_among xs e later).1),
  )
]

module _ (count : CountedEdge → ℤ) where
  -- what an edge rises by, where g gives the points their numbers
  abbrev rise : (Point → ℤ) → CountedEdge → ℤ
  rise g e = count e *ℤ (g e.b -ℤ g e.a)

  -- a multiple of h adds as much of what the edges rise by
  rises : (g h : Point → ℤ) (k : ℤ) (es : List CountedEdge) →
      total (rise (λ q. g q +ℤ k *ℤ h q)) es ≡ total (rise g) es +ℤ k *ℤ total (rise h) es
  rises g h k [] = solve 1 (λ k. number (pos 0) ≗ number (pos 0) ⊕ k ⊗ number (pos 0)) tt k
  rises g h k (e ∷ es) =
      ap (λ z. count e *ℤ ((g e.b +ℤ k *ℤ h e.b) -ℤ (g e.a +ℤ k *ℤ h e.a)) +ℤ z) (rises g h k es)
      ∙ solve 8 (λ c gb ga hb ha k u v. c ⊗ ((gb ⊕ k ⊗ hb) ⊖ (ga ⊕ k ⊗ ha)) ⊕ (u ⊕ k ⊗ v)
      ≗ (c ⊗ (gb ⊖ ga) ⊕ u) ⊕ k ⊗ (c ⊗ (hb ⊖ ha) ⊕ v)) tt (count e) (g e.b) (g e.a) (h e.b) (h e.a) k
      (total (rise g) es) (total (rise h) es)

  module _ (es : List CountedEdge) where
    -- by 1 at a point the edges rise by as many steps as enter it, less those that leave
    rise_here : (p : Point) → total (rise (here p)) es ≡ entering count es p
    rise_here p = total-same (rise (here p)) (entering_along count p) es
        (λ e c. one_at (count e) (point_eq e.b p) (point_eq e.a p))

    -- balanced counts enter each point as often as they leave it
    pub entering_none : IsBalanced ends_of count es → (p : Point) → entering count es p ≡ pos 0
    entering_none balanced p = sym (rise_here p) ∙ balanced (here p)

    one_point_more : (g : Point → ℤ) (p : Point) (ps : List Point) → entering count es p ≡ pos 0 →
        total (rise (only g ps)) es ≡ pos 0 → total (rise (only g (p ∷ ps))) es ≡ pos 0
    one_point_more g p ps none so_far =
        let k = cond (among ps p) (pos 0) (g p) in
        total-same (rise (only g (p ∷ ps))) (rise (λ q. only g ps q +ℤ k *ℤ here p q)) es
        (λ e c. ap₂ (λ b a. count e *ℤ (b -ℤ a)) (only_more g p ps e.b) (only_more g p ps e.a))
        ∙ rises (only g ps) (here p) k es
        ∙ ap₂ (λ u v. u +ℤ k *ℤ v) so_far (rise_here p ∙ none)
        ∙ solve 1 (λ k. number (pos 0) ⊕ k ⊗ number (pos 0) ≗ number (pos 0)) tt k

    -- as many steps enter both ends of the edge as leave it
    abbrev pub IsSettledAtEnds : CountedEdge → Type 0
    IsSettledAtEnds e = (entering count es e.a ≡ pos 0) × (entering count es e.b ≡ pos 0)

    none_risen : (g : Point → ℤ) (xs : List CountedEdge) → ((e : CountedEdge) → Contains xs e → IsSettledAtEnds e) →
        total (rise (only g (ends_in xs))) es ≡ pos 0
    none_risen g [] h = total-zero (rise (λ q. pos 0)) es
        (λ e c. solve 1 (λ c. c ⊗ (number (pos 0) ⊖ number (pos 0)) ≗ number (pos 0)) tt (count e))
    none_risen g (x ∷ xs) h =
        one_point_more g x.a (x.b ∷ ends_in xs) (h x (Contains-head x xs)).0
        (one_point_more g x.b (ends_in xs) (h x (Contains-head x xs)).1
        (none_risen g xs (λ e c. h e (Contains-later x xs e c))))

    -- where as many enter each end as leave it, the counts are balanced
    pub balanced_by_ends : ((e : CountedEdge) → Contains es e → IsSettledAtEnds e) → IsBalanced ends_of count es
    balanced_by_ends h g =
        total-same (rise g) (rise (only g (ends_in es))) es
        (λ e c. let both = ends_among es e c in
        ap₂ (λ s t. count e *ℤ (cond s (g e.b) (pos 0) -ℤ cond t (g e.a) (pos 0))) (sym both.1) (sym both.0))
        ∙ none_risen g es h
