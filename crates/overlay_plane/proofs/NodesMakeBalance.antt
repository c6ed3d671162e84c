-- A list is balanced where, at every point, the starting and the ending counts have equal sums. A number given to each
-- point is a sum of numbers given to single points. For a single point, the edges rise by the counts that end there,
-- minus those that start there.
use Rattle.std.proofs.Common.{◌≡◌, ◌⊎◌, inl, inr, ⊎_elim, Bool, true, false, cond, ℤ, pos, ◌+ℤ◌, ◌-ℤ◌, ◌*ℤ◌, List, []}
use Rattle.std.proofs.Common.{◌∷◌, ◌++◌, map, Contains, refl, sym, ap, ap₂, ◌∙◌, arith}
use Rattle.std.proofs.lemmas.List.Elements.{Contains-append_left, Contains-append_right}
use Rattle.std.proofs.lemmas.Bool.{false≢true}
use Rattle.overlay_geom.specs.Plane.{Point, point_eq, total}
use Rattle.overlay_geom.specs.Edges.{CountedEdge, ends_of}
use Rattle.overlay_geom.proofs.Entries.{Contains-cases}
use Rattle.overlay_geom.proofs.Identities.{solve, number, ◌⊕◌, ◌⊖◌, ◌⊗◌, ◌≗◌}
use Rattle.overlay_geom.proofs.Orders.{point_eq-same, point_eq-of_same}
use Rattle.overlay_plane.specs.EdgeLists.{IsBalanced}
use Rattle.overlay_plane.specs.Nodes.{total_starting, total_ending, NodesMakeBalance}
use Rattle.overlay_plane.proofs.Entries.{Contains-map}
use Rattle.overlay_plane.proofs.JoinedLists.{total-times}
use Rattle.overlay_plane.proofs.Totals.{total-same, total-zero, total-add, total-sub}

-- the rise of a number given to each point along an edge, times its count
abbrev rise : (CountedEdge → ℤ) → (Point → ℤ) → CountedEdge → ℤ
rise count g e = count e *ℤ (g e.b -ℤ g e.a)

-- the number at one point alone
abbrev at_point : Point → (Point → ℤ) → Point → ℤ
at_point v g u = cond (point_eq u v) (g v) (pos 0)

-- the number at all points but one
abbrev elsewhere : Point → (Point → ℤ) → Point → ℤ
elsewhere v g u = cond (point_eq u v) (pos 0) (g u)

-- a number at each point is that at one point alone, and that at all others
in_two : (v : Point) (g : Point → ℤ) (u : Point) → g u ≡ at_point v g u +ℤ elsewhere v g u
in_two v g u = by (point_eq u v) refl
  where
    by : (t : Bool) → point_eq u v ≡ t → g u ≡ cond t (g v) (pos 0) +ℤ cond t (pos 0) (g u)
    by true same = ap g (point_eq-same u v same) ∙ solve 1 (λ z. z ≗ z ⊕ number (pos 0)) tt (g v)
    by false other = solve 1 (λ z. z ≗ number (pos 0) ⊕ z) tt (g u)

-- the number is nothing at this point, or the point is among those
abbrev IsNothingOutside : List Point → (Point → ℤ) → Point → Type 0
IsNothingOutside vs g u = (g u ≡ pos 0) ⊎ Contains vs u

-- elsewhere than at the first point, it is nothing outside the others
one_less : (v : Point) (vs : List Point) (g : Point → ℤ) (u : Point) → IsNothingOutside (v ∷ vs) g u →
    IsNothingOutside vs (elsewhere v g) u
one_less v vs g u outside = by (point_eq u v) refl outside
  where
    by : (t : Bool) → point_eq u v ≡ t → IsNothingOutside (v ∷ vs) g u → (cond t (pos 0) (g u) ≡ pos 0) ⊎ Contains vs u
    by true same known = inl refl
    by false other (inl nothing) = inl nothing
    by false other (inr held) = ⊎_elim (λ is. absurd (false≢true (sym other ∙ point_eq-of_same u v (sym is)))) inr
        (Contains-cases v vs u held)

-- the two ends of an edge
abbrev start_of : CountedEdge → Point
start_of e = e.a

abbrev end_of : CountedEdge → Point
end_of e = e.b

module _ (count : CountedEdge → ℤ) (es : List CountedEdge) (node : (v : Point) →
    total_ending count es v ≡ total_starting count es v) where
  -- a number at one point alone rises by the counts that end there, minus those that start there: by 0
  at_one_point : (v : Point) (g : Point → ℤ) → total (rise count (at_point v g)) es ≡ pos 0
  at_one_point v g =
      total-same (rise count (at_point v g))
      (λ e. g v *ℤ (cond (point_eq e.b v) (count e) (pos 0) -ℤ cond (point_eq e.a v) (count e) (pos 0))) es
      (λ e c. one_edge (point_eq e.b v) (point_eq e.a v) (count e) (g v))
      ∙ total-times (g v) (λ e. cond (point_eq e.b v) (count e) (pos 0) -ℤ cond (point_eq e.a v) (count e) (pos 0)) es
      ∙ ap (λ z. g v *ℤ z) (total-sub (λ e. cond (point_eq e.b v) (count e) (pos 0))
      (λ e. cond (point_eq e.a v) (count e) (pos 0)) es)
      ∙ ap (λ z. g v *ℤ (z -ℤ total_starting count es v)) (node v)
      ∙ solve 2 (λ k t. k ⊗ (t ⊖ t) ≗ number (pos 0)) tt (g v) (total_starting count es v)
    where
      one_edge : (s t : Bool) (c k : ℤ) →
          c *ℤ (cond s k (pos 0) -ℤ cond t k (pos 0)) ≡ k *ℤ (cond s c (pos 0) -ℤ cond t c (pos 0))
      one_edge true true c k = solve 2 (λ c k. c ⊗ (k ⊖ k) ≗ k ⊗ (c ⊖ c)) tt c k
      one_edge true false c k = solve 2 (λ c k. c ⊗ (k ⊖ number (pos 0)) ≗ k ⊗ (c ⊖ number (pos 0))) tt c k
      one_edge false true c k = solve 2 (λ c k. c ⊗ (number (pos 0) ⊖ k) ≗ k ⊗ (number (pos 0) ⊖ c)) tt c k
      one_edge false false c k = solve 2
          (λ c k. c ⊗ (number (pos 0) ⊖ number (pos 0)) ≗ k ⊗ (number (pos 0) ⊖ number (pos 0))) tt c k

  -- the rise of a number is that of its part at one point, plus that of its part elsewhere
  rises_in_two : (v : Point) (g : Point → ℤ) → total (rise count g) es ≡ total (rise count (elsewhere v g)) es
  rises_in_two v g =
      total-same (rise count g) (λ e. rise count (at_point v g) e +ℤ rise count (elsewhere v g) e) es
      (λ e c. ap₂ (λ y z. count e *ℤ (y -ℤ z)) (in_two v g e.b) (in_two v g e.a)
      ∙ solve 5 (λ c p q r s. c ⊗ ((p ⊕ q) ⊖ (r ⊕ s)) ≗ c ⊗ (p ⊖ r) ⊕ c ⊗ (q ⊖ s)) tt (count e) (at_point v g e.b)
      (elsewhere v g e.b) (at_point v g e.a) (elsewhere v g e.a))
      ∙ total-add (rise count (at_point v g)) (rise count (elsewhere v g)) es
      ∙ ap (λ z. z +ℤ total (rise count (elsewhere v g)) es) (at_one_point v g)
      ∙ solve 1 (λ z. number (pos 0) ⊕ z ≗ z) tt (total (rise count (elsewhere v g)) es)

  -- a number that is nothing at every end but at some points rises by nothing
  with_points : (vs : List Point) (g : Point → ℤ) →
      ((e : CountedEdge) → Contains es e → IsNothingOutside vs g e.a × IsNothingOutside vs g e.b) →
      total (rise count g) es ≡ pos 0
  with_points [] g known = total-zero (rise count g) es
      (λ e c. ap₂ (λ y z. count e *ℤ (y -ℤ z)) (nothing_at e.b (known e c).1) (nothing_at e.a (known e c).0)
      ∙ solve 1 (λ c. c ⊗ (number (pos 0) ⊖ number (pos 0)) ≗ number (pos 0)) tt (count e))
    where
      nothing_at : (u : Point) → IsNothingOutside [] g u → g u ≡ pos 0
      nothing_at u (inl nothing) = nothing
      nothing_at u (inr (k, h, e)) = absurd (omega arith)
  with_points (v ∷ vs) g known = rises_in_two v g
      ∙ with_points vs (elsewhere v g) (λ e c. (one_less v vs g e.a (known e c).0, one_less v vs g e.b (known e c).1))

  -- every end of the edges is among their ends
  pub balanced : IsBalanced ends_of count es
  balanced g = with_points (map start_of es ++ map end_of es) g (λ e c. (
    inr (Contains-append_left (map start_of es) (map end_of es) e.a (Contains-map start_of es e c)),
    inr (Contains-append_right (map start_of es) (map end_of es) e.b (Contains-map end_of es e c)),
  ))

-- the law of nodes
pub nodes_make_balance : NodesMakeBalance
nodes_make_balance = balanced
