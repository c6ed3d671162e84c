-- The number found below a walk is unique: its anchor, the next edge below it and the walk with this edge are
-- determined. So an island has at most one hole round it.
use Rattle.std.proofs.Common.{◌≡◌, ℕ, zero, suc, true, false, List, [], ◌∷◌, All, AllPairs, Contains, Option, refl, sym}
use Rattle.std.proofs.Common.{◌∙◌, ap}
use Rattle.std.proofs.Common.{subst}
use Rattle.std.specs.Prelude.{Some, None, slice_index_or}
use Rattle.std.specs.List.{slice_get, flat_map}
use Rattle.std.proofs.lemmas.Bool.{both_ways}
use Rattle.std.proofs.lemmas.Option.{none-some, get_or_from_slice_get}
use Rattle.overlay_geom.specs.Plane.{Step, edge_of, edge_eq}
use Rattle.overlay_geom.specs.Settled.{IsSettledBy}
use Rattle.overlay_geom.proofs.Orders.{edge_eq-itself}
use Rattle.overlay_plane.specs.Anchors.{IsAnchor, IsNextBelow, HasEachEdgeOnce, is_below_anchor}
use Rattle.overlay_plane.specs.Binding.{filled_above_edges, all_filled_above, HasNoneBelow, HasNextAt, IsFoundBelow}
use Rattle.overlay_plane.specs.Binding.IsFoundBelow.{nothing, direct, through}
use Rattle.overlay_plane.specs.BoundContours.{walks_in}
use Rattle.overlay_plane.specs.Contours.{IsContour, all_steps}
use Rattle.overlay_plane.specs.Islands.{IsHoleRound, hole_places}
use Rattle.overlay_plane.specs.KeptContours.{CanBeBound}
use Rattle.overlay_plane.specs.RoledContours.{Contour}
use Rattle.overlay_plane.specs.Turn.{Hand, other_hand}
use Rattle.overlay_plane.proofs.Entries.{Contains-flat_map}
use Rattle.overlay_plane.proofs.KeptWalks.{Each-second, Each-across}
use Rattle.overlay_plane.proofs.LaterEntries.{Each, Each-from_all_pairs}
use Rattle.overlay_plane.proofs.PlacesOfContours.{Contains-place}
use Rattle.std.proofs.lemmas.Option.{same_Some}
use Rattle.overlay_plane.proofs.WalkedEdges.{one_anchor, one_next_edge}

-- the entry at a place is one
pub same_at : {X : Type 0} (xs : List X) (i : ℕ) (x y : X) → slice_get xs i ≡ Some x → slice_get xs i ≡ Some y → x ≡ y
same_at xs i x y at_x at_y = sym (get_or_from_slice_get xs i x x at_x) ∙ get_or_from_slice_get xs i y x at_y

-- an entry is given at one place, if the joined entries of the items have each entry once
one_place : {X Y : Type 0} (R : Y → Y → Type 0) (f : X → List Y) (xs : List X) → Each R (flat_map f xs) → (v : Y) →
    ¬ (R v v) →
    (j k : ℕ) (x y : X) → slice_get xs j ≡ Some x → slice_get xs k ≡ Some y → Contains (f x) v → Contains (f y) v →
    j ≡ k
one_place R f [] each v apart j k x y at_x at_y c d = absurd (none-some x at_x)
one_place R f (z ∷ zs) each v apart zero zero x y at_x at_y c d = refl
one_place R f (z ∷ zs) each v apart zero (suc k) x y at_x at_y c d = absurd (apart
    (Each-across R (f z) (flat_map f zs) each v v (subst (λ w. Contains (f w) v) (sym (same_Some z x at_x)) c)
    (Contains-flat_map f zs y v (Contains-place zs k y at_y) d)))
one_place R f (z ∷ zs) each v apart (suc j) zero x y at_x at_y c d = absurd (apart
    (Each-across R (f z) (flat_map f zs) each v v (subst (λ w. Contains (f w) v) (sym (same_Some z y at_y)) d)
    (Contains-flat_map f zs x v (Contains-place zs j x at_x) c)))
one_place R f (z ∷ zs) each v apart (suc j) (suc k) x y at_x at_y c d = ap suc
    (one_place R f zs (Each-second R (f z) (flat_map f zs) each) v apart j k x y at_x at_y c d)

module _ (hand : Hand) (walks : List (List Step)) (contours : All IsContour walks) (single : All HasEachEdgeOnce walks)
    (distinct : AllPairs (λ e f. edge_eq e f ≡ false) (all_filled_above hand walks))
    (settled : IsSettledBy edge_of (all_steps walks)) where
  -- the walk that has the next edge stands at one place
  one_next : (i j k : ℕ) → HasNextAt hand walks i j → HasNextAt hand walks i k → j ≡ k
  one_next i j k first second =
      one_place (λ e f. edge_eq e f ≡ false) (filled_above_edges hand) walks
      (Each-from_all_pairs (λ e f. edge_eq e f ≡ false) (all_filled_above hand walks) distinct)
      first.is_next.edge (λ apart. both_ways (edge_eq first.is_next.edge first.is_next.edge) apart
      (edge_eq-itself first.is_next.edge)) j k first.next second.next first.next_at second.next_at first.is_next.has
      (subst (Contains (filled_above_edges hand second.next)) (sym edges) second.is_next.has)
    where
      walk : first.walk ≡ second.walk
      walk = same_at walks i first.walk second.walk first.at second.at

      at : Contains walks second.walk
      at = Contains-place walks i second.walk second.at

      anchors : first.is_next.anchor ≡ second.is_next.anchor
      anchors = one_anchor walks contours single settled second.walk at first.is_next.anchor
          second.is_next.anchor (subst (λ w. IsAnchor w first.is_next.anchor) walk first.is_next.anchored)
          second.is_next.anchored

      edges : first.is_next.edge ≡ second.is_next.edge
      edges = one_next_edge walks contours single settled second.walk at hand second.is_next.anchor
          second.is_next.anchored first.is_next.edge second.is_next.edge
          (subst (λ a. IsNextBelow (all_filled_above hand walks) a first.is_next.edge) anchors first.is_next.next_below)
          second.is_next.next_below

  -- nothing is found where no edge is below
  none_and_next : (i j : ℕ) (w : List Step) → slice_get walks i ≡ Some w → HasNoneBelow hand walks w →
      ¬ (HasNextAt hand walks i j)
  none_and_next i j w at below next =
      let walk = same_at walks i next.walk w next.at at in
      let there = Contains-place walks i w at in
      let anchors = one_anchor walks contours single settled w there next.is_next.anchor
      below.anchor (subst (λ v. IsAnchor v next.is_next.anchor) walk next.is_next.anchored) below.anchored in
      both_ways (is_below_anchor below.anchor next.is_next.edge)
      (below.none next.is_next.edge next.is_next.next_below.among)
      (subst (λ a. is_below_anchor a next.is_next.edge ≡ true) anchors next.is_next.next_below.below)

  module _ (known : List (Option ℕ)) where
    -- two next walks are equal
    known_alike : (i j k : ℕ) (m n : Option ℕ) → HasNextAt hand walks i j → HasNextAt hand walks i k →
        slice_index_or known j None ≡ m → slice_index_or known k None ≡ n → m ≡ n
    known_alike i j k m n next next' is is' =
        sym is ∙ ap (λ p. slice_index_or known p None) (one_next i j k next next') ∙ is'

    -- the number found is unique
    pub one_found : (i : ℕ) (f g : Option ℕ) → IsFoundBelow hand walks known i f → IsFoundBelow hand walks known i g →
        f ≡ g
    one_found i _ _ (nothing w at none) (nothing v at' none') = refl
    one_found i _ _ (nothing w at none) (direct {j = k} next is) = absurd (none_and_next i k w at none next)
    one_found i _ _ (nothing w at none) (through {j = k} next un rest) = absurd (none_and_next i k w at none next)
    one_found i _ _ (direct {j = j} next is) (nothing v at' none') = absurd (none_and_next i j v at' none' next)
    one_found i _ _ (direct {j = j} {n = m} next is) (direct {j = k} {n = n} next' is') =
        known_alike i j k (Some m) (Some n) next next' is is'
    one_found i _ _ (direct {j = j} {n = m} next is) (through {j = k} next' un' rest') =
        absurd (none-some m (known_alike i k j None (Some m) next' next un' is))
    one_found i _ _ (through {j = j} next un rest) (nothing v at' none') = absurd (none_and_next i j v at' none' next)
    one_found i _ _ (through {j = j} next un rest) (direct {j = k} {n = n} next' is') =
        absurd (none-some n (known_alike i j k None (Some n) next next' un is'))
    one_found i _ _ (through {j = j} {found = f} next un rest) (through {j = k} {found = g} next' un' rest') =
        one_found j f g rest (subst (λ p. IsFoundBelow hand walks known p g) (one_next i k j next' next) rest')

module _ (filled : Hand) (cs : List Contour) (can : CanBeBound filled (walks_in cs)) where
  one_round : (i : ℕ) (f g : Option ℕ) → IsHoleRound filled cs i f → IsHoleRound filled cs i g → f ≡ g
  one_round = one_found (other_hand filled) (walks_in cs) can.contours can.single can.distinct_below can.settled
      (hole_places 0 cs)

  -- at most one hole is round an island
  pub one_hole_round : (i k m : ℕ) → IsHoleRound filled cs i (Some k) → IsHoleRound filled cs i (Some m) → k ≡ m
  one_hole_round i k m first second = same_Some k m (one_round i (Some k) (Some m) first second)

  -- a number and none are not both found
  pub hole_and_none : (i k : ℕ) → IsHoleRound filled cs i (Some k) → ¬ (IsHoleRound filled cs i None)
  hole_and_none i k hole none = none-some k (one_round i None (Some k) none hole)
