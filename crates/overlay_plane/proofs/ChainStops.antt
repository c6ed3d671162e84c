-- The steps of a chain through points in order: each leads from a point to a larger point, with none of the points
-- between.
use Rattle.std.proofs.Common.{◌≡◌, inl, inr, Bool, true, false, cond, List, [], ◌∷◌, refl, sym, ap, ◌∙◌, subst, arith}
use Rattle.std.proofs.Common.{Contains}
use Rattle.std.proofs.lemmas.List.Elements.{Contains-append_cases}
use Rattle.overlay_geom.specs.Plane.{Point, Step, Edge, point_eq, edge_of, steps_between, steps_through}
use Rattle.overlay_geom.specs.Settled.{MeetInEnds}
use Rattle.overlay_geom.proofs.Orders.{Decides-point_eq}
use Rattle.overlay_geom.proofs.PointOrder.{IsBefore, IsUpTo, Decides-point_lt, by_order, up_to_both, before_unless_same}
use Rattle.overlay_geom.proofs.PointOrder.{not_before_up_to, up_to_itself}
use Rattle.overlay_geom.proofs.OneLine.{meet_in_ends_exchanged, apart_meet_in_ends}
use Rattle.std.proofs.lemmas.Bool.Decides.{not_from_Decides}
use Rattle.overlay_plane.proofs.LaterEntries.{Contains-cases, Each}
use Rattle.overlay_plane.proofs.Totals.{Contains-head, Contains-later}

-- ---- links

-- the edge leads from one of the points to a larger one, with none of them between
pub record IsLink (vs : List Point) (g : Edge) : Type 0 where
  pub forward : IsBefore g.a g.b
  pub from : Contains vs g.a
  pub to : Contains vs g.b
  pub clear : (v : Point) → Contains vs v → IsBefore g.a v → IsBefore v g.b → ⊥

-- the edge of a step to a larger point
edge_of_forward : (a q : Point) → IsBefore a q → edge_of (record { from = a; to = q }) ≡ record { a = a; b = q }
edge_of_forward a q before = ap (λ t. cond t (record { a = a; b = q }) (record { a = q; b = a }))
    ((Decides-point_lt a q).1 before)

-- the step between two points, where there is one, is between different ones
pub step_between : (a q : Point) (s : Step) → Contains (steps_between a q) s →
    (record { from = a; to = q } ≡ s) × ¬ (a ≡ q)
step_between a q s has = by (point_eq a q) refl has
  where
    by : (t : Bool) → point_eq a q ≡ t → Contains (cond t [] (record { from = a; to = q } ∷ [])) s →
        (record { from = a; to = q } ≡ s) × ¬ (a ≡ q)
    by true same has = absurd (omega (arith, has.1))
    by false other has =
        elim (Contains-cases (record { from = a; to = q }) [] s has) [
          | inl is ↦ (is, not_from_Decides (point_eq a q) (Decides-point_eq a q) other)
          | inr none ↦ absurd (omega (arith, none.1))
        ]

-- the first step of a chain through points in order is a link
first_link : (a q : Point) (qs : List Point) → Each IsUpTo (a ∷ q ∷ qs) → IsBefore a q →
    IsLink (a ∷ q ∷ qs) (record { a = a; b = q })
first_link a q qs rises before = record {
  forward = before;
  from = Contains-head a (q ∷ qs);
  to = Contains-later a (q ∷ qs) q (Contains-head q qs);
  clear = clear;
}
  where
    -- the points after the second are not smaller than it
    beyond : (v : Point) → Contains qs v → IsBefore v q → ⊥
    beyond v has less = not_before_up_to v q less (rises.1.0 v has)

    later : (v : Point) → Contains (q ∷ qs) v → IsBefore v q → ⊥
    later v has less = elim (Contains-cases q qs v has) [
      | inl is ↦ not_before_up_to q q (subst (λ w. IsBefore w q) (sym is) less) (up_to_itself q)
      | inr has_later ↦ beyond v has_later less
    ]

    clear : (v : Point) → Contains (a ∷ q ∷ qs) v → IsBefore a v → IsBefore v q → ⊥
    clear v has more less = elim (Contains-cases a (q ∷ qs) v has) [
      | inl is ↦ not_before_up_to a a (subst (λ w. IsBefore a w) (sym is) more) (up_to_itself a)
      | inr has_later ↦ later v has_later less
    ]

-- a link of later points is a link of all
later_link : (a : Point) (vs : List Point) (g : Edge) → Each IsUpTo (a ∷ vs) → IsLink vs g → IsLink (a ∷ vs) g
later_link a vs g rises link = record {
  forward = link.forward;
  from = Contains-later a vs g.a link.from;
  to = Contains-later a vs g.b link.to;
  clear = clear;
}
  where
    clear : (v : Point) → Contains (a ∷ vs) v → IsBefore g.a v → IsBefore v g.b → ⊥
    clear v has more less = elim (Contains-cases a vs v has) [
      | inl is ↦ not_before_up_to g.a a (subst (λ w. IsBefore g.a w) (sym is) more) (rises.0 g.a link.from)
      | inr has_later ↦ link.clear v has_later more less
    ]

-- each step of a chain through points in order walks on a link
pub links_of_chain : (a : Point) (vs : List Point) → Each IsUpTo (a ∷ vs) →
    (s : Step) → Contains (steps_through a vs) s → IsLink (a ∷ vs) (edge_of s)
links_of_chain a [] rises s has = absurd (omega (arith, has.1))
links_of_chain a (q ∷ qs) rises s has =
    elim (Contains-append_cases (steps_between a q) (steps_through q qs) s has) [
      | inl first ↦
          let is = step_between a q s first in
          let before = before_unless_same a q (rises.0 q (Contains-head q qs)) is.1 in
          subst (IsLink (a ∷ q ∷ qs)) (sym (edge_of_forward a q before) ∙ ap edge_of is.0)
          (first_link a q qs rises before)
      | inr later ↦ later_link a (q ∷ qs) (edge_of s) rises (links_of_chain q qs rises.1 s later)
    ]

-- ---- two links

-- two edges are equal or meet in ends alone, if neither has an end strictly between those of the other
pub clear_edges_meet_in_ends : (g h : Edge) → IsBefore g.a g.b → IsBefore h.a h.b →
    ¬ (IsBefore g.a h.a × IsBefore h.a g.b) →
    ¬ (IsBefore g.a h.b × IsBefore h.b g.b) → ¬ (IsBefore h.a g.a × IsBefore g.a h.b) →
    ¬ (IsBefore h.a g.b × IsBefore g.b h.b) → ¬ (g ≡ h) → MeetInEnds g h
clear_edges_meet_in_ends g h g_forward h_forward a_out b_out a_in b_in other =
    by_order g.b h.a
    (λ apart. apart_meet_in_ends g h g_forward h_forward apart)
    (λ begins. by_order h.b g.a
    (λ apart. meet_in_ends_exchanged g h (apart_meet_in_ends h g h_forward g_forward apart))
    (λ back. absurd (other (λ i. record { a = same_a begins back i; b = same_b begins back i }))))
  where
    same_a : IsBefore h.a g.b → IsBefore g.a h.b → g.a ≡ h.a
    same_a begins back =
        by_order h.a g.a
        (λ low. by_order g.a h.a (λ high. up_to_both g.a h.a high low) (λ less. absurd (a_in (less, back))))
        (λ less. absurd (a_out (less, begins)))

    same_b : IsBefore h.a g.b → IsBefore g.a h.b → g.b ≡ h.b
    same_b begins back =
        by_order h.b g.b
        (λ low. by_order g.b h.b (λ high. up_to_both g.b h.b high low) (λ less. absurd (b_out (back, less))))
        (λ less. absurd (b_in (begins, less)))
