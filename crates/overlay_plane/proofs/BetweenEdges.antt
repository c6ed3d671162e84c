-- The edges under an edge at an x-coordinate: those under a lower edge, that edge, and those between the two. If none
-- between counts, the winding below the upper edge is the winding above the lower.
use Rattle.std.proofs.Common.{◌≡◌, Bool, true, false, cond, not, ◌&&◌, ℤ, pos, ◌+ℤ◌, ◌≤ℤ◌, List, [], ◌∷◌}
use Rattle.std.proofs.Common.{Contains, refl, sym, ap, ap₂, ◌∙◌, subst, ⊎_elim}
use Rattle.std.proofs.lemmas.Bool.{both_ways, and_parts, and_from, false_from_ne_true}
use lib.IntN.{+ℤ_idr}
use Rattle.overlay_geom.specs.Plane.{Edge, edge_eq, total}
use Rattle.overlay_geom.specs.Edges.{CountedEdge, ends_of, winding_below, winding_above}
use Rattle.overlay_geom.proofs.Signs.{linear}
use Rattle.overlay_geom.proofs.Orders.{edge_eq-same}
use Rattle.overlay_plane.specs.Heights.{covers, is_under}
use Rattle.overlay_plane.specs.Nodes.{IsBalancedArrangement}
use Rattle.overlay_plane.specs.Regions.{HasDistinctEnds, total_taken}
use Rattle.overlay_plane.specs.Windings.{total_under}
use Rattle.overlay_plane.proofs.LaterEntries.{Contains-cases}
use Rattle.overlay_plane.proofs.Sides.{one_winding_along_a_side}
use Rattle.overlay_plane.proofs.SingleEntries.{single_total}
use Rattle.overlay_plane.proofs.Totals.{Contains-head, Contains-later, total-same, total-add, total-zero}
use Rattle.overlay_plane.proofs.Under.{under_irreflexive, under_transitive}

-- ---- sums of numbers that are not above 0

pub at_most_zero : {X : Type 0} (f : X → ℤ) (xs : List X) → ((x : X) → Contains xs x → f x ≤ℤ pos 0) →
    total f xs ≤ℤ pos 0
at_most_zero f [] h = omega linear
at_most_zero f (x ∷ xs) h =
    let first = h x (Contains-head x xs) in
    let rest = at_most_zero f xs (λ y c. h y (Contains-later x xs y c)) in
    omega linear

-- where they add up to 0, each is 0
pub each_zero : {X : Type 0} (f : X → ℤ) (xs : List X) → ((x : X) → Contains xs x → f x ≤ℤ pos 0) →
    total f xs ≡ pos 0 → (x : X) → Contains xs x → f x ≡ pos 0
each_zero f [] h none x c = elim c.1 [ ]
each_zero f (y ∷ ys) h none x c =
    let first = h y (Contains-head y ys) in
    let rest = at_most_zero f ys (λ z d. h z (Contains-later y ys z d)) in
    ⊎_elim
    (λ is. subst (λ z. f z ≡ pos 0) is (omega linear))
    (λ later. each_zero f ys (λ z d. h z (Contains-later y ys z d)) (omega linear) x later)
    (Contains-cases y ys x c)

-- ---- two edges over an x-coordinate

-- entries taken by a are taken by b or by s, which share none, or by a alone
parted : (a b s : Bool) (c : ℤ) → (b ≡ true → a ≡ true) → (s ≡ true → a ≡ true) → (s ≡ true → b ≡ false) →
    cond a c (pos 0) ≡ (cond b c (pos 0) +ℤ cond s c (pos 0)) +ℤ cond (a && not b && not s) c (pos 0)
parted true true true c p q r = let no = r refl in cc
parted true true false c p q r = omega linear
parted true false true c p q r = omega linear
parted true false false c p q r = omega linear
parted false true s c p q r = let no = p refl in cc
parted false false true c p q r = let no = q refl in cc
parted false false false c p q r = refl

module _ (es : List CountedEdge) (e g : CountedEdge) (at_e : Contains es e) (at_g : Contains es g) (x : ℤ)
    (over_e : covers (ends_of e) x (pos 1) ≡ true) (over_g : covers (ends_of g) x (pos 1) ≡ true)
    (lower : is_under (ends_of g) (ends_of e) x (pos 1) ≡ true) where
  -- f covers the x-coordinate under h
  abbrev pub is_there_under : CountedEdge → CountedEdge → Bool
  is_there_under h f = covers (ends_of f) x (pos 1) && is_under (ends_of f) (ends_of h) x (pos 1)

  -- f is between g and e
  abbrev pub is_between : CountedEdge → Bool
  is_between f = is_there_under e f && not (is_there_under g f) && not (edge_eq (ends_of f) (ends_of g))

  -- the edges under e
  pub parted_under : (count : CountedEdge → ℤ) (f : CountedEdge) → cond (is_there_under e f) (count f) (pos 0) ≡
      (cond (is_there_under g f) (count f) (pos 0) +ℤ cond (edge_eq (ends_of f) (ends_of g)) (count f) (pos 0)) +ℤ
      cond (is_between f) (count f) (pos 0)
  parted_under count f = parted (is_there_under e f) (is_there_under g f) (edge_eq (ends_of f) (ends_of g)) (count f)
      (λ t. let both = and_parts (covers (ends_of f) x (pos 1)) (is_under (ends_of f) (ends_of g) x (pos 1)) t in
      and_from (covers (ends_of f) x (pos 1)) (is_under (ends_of f) (ends_of e) x (pos 1)) both.0
      (under_transitive (ends_of f) (ends_of g) (ends_of e) x (pos 1) (record { lt = tt }) both.0 over_g over_e both.1
      lower))
      (λ same. subst (λ (k : Edge). (covers k x (pos 1) && is_under k (ends_of e) x (pos 1)) ≡ true)
      (sym (edge_eq-same (ends_of f) (ends_of g) same))
      (and_from (covers (ends_of g) x (pos 1)) (is_under (ends_of g) (ends_of e) x (pos 1)) over_g lower))
      (λ same. false_from_ne_true (is_there_under g f)
      (λ t. both_ways (is_under (ends_of g) (ends_of g) x (pos 1)) (under_irreflexive (ends_of g) x (pos 1))
      (subst (λ (k : Edge). is_under k (ends_of g) x (pos 1) ≡ true) (edge_eq-same (ends_of f) (ends_of g) same)
      (and_parts (covers (ends_of f) x (pos 1)) (is_under (ends_of f) (ends_of g) x (pos 1)) t).1)))

  -- the sums are those under g, of g, and between
  pub under_parted : (count : CountedEdge → ℤ) → HasDistinctEnds es →
      total_under ends_of count es (ends_of e) x (pos 1) ≡
      (total_under ends_of count es (ends_of g) x (pos 1) +ℤ count g) +ℤ total_taken is_between count es
  under_parted count distinct =
      total-same (λ f. cond (is_there_under e f) (count f) (pos 0))
      (λ f. (cond (is_there_under g f) (count f) (pos 0) +ℤ cond (edge_eq (ends_of f) (ends_of g)) (count f) (pos 0))
      +ℤ cond (is_between f) (count f) (pos 0)) es (λ f c. parted_under count f)
      ∙ total-add (λ f. cond (is_there_under g f) (count f) (pos 0)
      +ℤ cond (edge_eq (ends_of f) (ends_of g)) (count f) (pos 0)) (λ f. cond (is_between f) (count f) (pos 0)) es
      ∙ ap (λ z. z +ℤ total_taken is_between count es)
      (total-add (λ f. cond (is_there_under g f) (count f) (pos 0))
      (λ f. cond (edge_eq (ends_of f) (ends_of g)) (count f) (pos 0)) es
      ∙ ap (λ z. total_under ends_of count es (ends_of g) x (pos 1) +ℤ z) (single_total es distinct count g at_g))

  module _ (count : CountedEdge → ℤ) (arranged : IsBalancedArrangement count es) where
    -- where nothing between counts, the winding below e is that above g
    pub below_is_above : ((f : CountedEdge) → Contains es f → is_between f ≡ true → count f ≡ pos 0) →
        winding_below count es e ≡ winding_above count es g
    below_is_above nothing =
        sym (one_winding_along_a_side es count arranged.planar.forward arranged.planar.settled arranged.balanced e at_e
        x (pos 1) (record { lt = tt }) over_e)
        ∙ under_parted count arranged.planar.distinct
        ∙ ap₂ (λ a b. (a +ℤ count g) +ℤ b)
        (one_winding_along_a_side es count arranged.planar.forward arranged.planar.settled arranged.balanced g at_g
        x (pos 1) (record { lt = tt }) over_g)
        (total-zero (λ f. cond (is_between f) (count f) (pos 0)) es (λ f c. by f c (is_between f) refl))
        ∙ +ℤ_idr (winding_above count es g)
      where
        by : (f : CountedEdge) → Contains es f → (t : Bool) → is_between f ≡ t → cond t (count f) (pos 0) ≡ pos 0
        by f c true is = nothing f c is
        by f c false is = refl
