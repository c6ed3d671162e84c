-- Tests that can be computed on given walks, and what they tell: that a walk is a contour, and that different edges
-- meet in ends alone.
use Rattle.std.specs.Prelude.{ℕ, ◌+◌, ◌%◌, nat_lt, pos, int_le, int_lt}
use Rattle.std.proofs.Common.{◌≡◌, ◌⊎◌, inl, inr, ℤ, zero, suc, Bool, true, false, not, ◌&&◌, ◌||◌, ◌<◌, ◌≤ℤ◌, ◌<ℤ◌}
use Rattle.std.proofs.Common.{refl, ap, sym, ◌∙◌, arith}
use Rattle.std.proofs.Common.{List, [], ◌∷◌, length, All, AllPairs}
use Rattle.std.specs.Bool.{Decides}
use Rattle.std.specs.List.{list_all}
use Rattle.std.proofs.lemmas.Bool.{and_parts, or_cases, both_ways}
use Rattle.std.proofs.lemmas.Bool.Decides.{Decides-and, Decides-or, Decides-ltb, Decides-below_and, not_from_Decides}
use Rattle.std.proofs.lemmas.Int.{ints}
use Rattle.std.proofs.lemmas.List.Elements.{All-contains}
use Rattle.std.proofs.lemmas.List.Kept.{AllPairs-cons}
use Rattle.std.proofs.lemmas.List.Sums.{AllPass-from_list_all}
use Rattle.std.proofs.lemmas.Nat.{mod_below}
use Rattle.overlay_geom.specs.Plane.{Step, Edge, point_eq, point_lt, step_eq, edge_eq, edge_of, cross_at, steps_of}
use Rattle.overlay_geom.specs.Plane.{points_of}
use Rattle.overlay_geom.specs.Placed.{IsBeside, IsAcross, share_end}
use Rattle.overlay_geom.specs.Settled.{MeetInEnds, IsSettledBy}
use Rattle.overlay_geom.proofs.Beside.{beside_meet_in_ends}
use Rattle.overlay_geom.proofs.Comparisons.{Decides-int_lt}
use Rattle.overlay_geom.proofs.Crossing.{sharing_meet_in_ends}
use Rattle.overlay_geom.proofs.Meeting.{Decides-share_end}
use Rattle.overlay_geom.proofs.OneLine.{meet_in_ends_exchanged, apart_meet_in_ends}
use Rattle.overlay_geom.proofs.Orders.{Decides-point_eq}
use Rattle.overlay_geom.proofs.PointOrder.{IsBefore, Decides-point_lt, by_order}
use Rattle.overlay_plane.specs.Contours.{IsContour}
use Rattle.overlay_plane.specs.Turn.{step_round, no_step}
use Rattle.overlay_plane.proofs.ItemsRound.{item_round-within, item_round-next}

-- ---- lists

-- what a test of one item tells holds of each item where each one passes
told_of_all : {X : Type 0} (p : X → Bool) (P : X → Type 0) → ((x : X) → p x ≡ true → P x) → (xs : List X)
    → list_all p xs ≡ true → All P xs
told_of_all p P tells xs passed = λ k d within. tells _ (AllPass-from_list_all p xs passed k d within)

-- each item passes with each later one
abbrev all_pairs : {X : Type 0} → (X → X → Bool) → List X → Bool
all_pairs r [] = true
all_pairs r (x ∷ xs) = list_all (r x) xs && all_pairs r xs

-- what a test of two items tells holds of any two where each two pass
told_of_pairs : {X : Type 0} (r : X → X → Bool) (R : X → X → Type 0) → ((x y : X) → r x y ≡ true → R x y) →
    (xs : List X)
    → all_pairs r xs ≡ true → AllPairs R xs
told_of_pairs r R tells [] passed = λ i j d before within. absurd (omega arith)
told_of_pairs r R tells (x ∷ xs) passed =
    let parts = and_parts (list_all (r x) xs) (all_pairs r xs) passed in
    AllPairs-cons R x xs (told_of_all (r x) (R x) (tells x) xs parts.0) (told_of_pairs r R tells xs parts.1)

-- a test fails where its negation passes
failed : (b : Bool) → not b ≡ true → b ≡ false
failed true passed = sym passed
failed false passed = refl

-- no two items are found equal
abbrev is_distinct : {X : Type 0} → (X → X → Bool) → List X → Bool
is_distinct eq xs = all_pairs (λ x y. not (eq x y)) xs

told_distinct : {X : Type 0} (eq : X → X → Bool) (xs : List X) → is_distinct eq xs ≡ true →
    AllPairs (λ x y. eq x y ≡ false) xs
told_distinct eq xs passed = told_of_pairs (λ x y. not (eq x y)) (λ x y. eq x y ≡ false)
    (λ x y apart. failed (eq x y) apart) xs passed

-- ---- contours

-- below the number each one passes
abbrev all_below : (ℕ → Bool) → ℕ → Bool
all_below p zero = true
all_below p (suc n) = p n && all_below p n

-- the walk's k-th step leads to where the next one begins
abbrev does_lead_on : List Step → ℕ → Bool
does_lead_on walk k = point_eq (step_round walk (k + 1)).from (step_round walk k).to

-- three steps or more, no two of them equal, each of which leads to where the next one begins
abbrev pub is_closed : List Step → Bool
is_closed walk = nat_lt 2 (length walk) && (all_below (does_lead_on walk) (length walk) && is_distinct step_eq walk)

-- such a walk is a contour where it is the walk of its points
pub told_contour : (walk : List Step) → is_closed walk ≡ true → steps_of (points_of walk) ≡ walk → IsContour walk
told_contour walk passed whole = record {
  three = omega (arith, three);
  leads_on = leads_on;
  once = told_distinct step_eq walk others.1;
  whole = whole;
}
  where
    parts : (nat_lt 2 (length walk) ≡ true)
        × ((all_below (does_lead_on walk) (length walk) && is_distinct step_eq walk) ≡ true)
    parts = and_parts (nat_lt 2 (length walk)) (all_below (does_lead_on walk) (length walk) && is_distinct step_eq walk)
        passed

    others : (all_below (does_lead_on walk) (length walk) ≡ true) × (is_distinct step_eq walk ≡ true)
    others = and_parts (all_below (does_lead_on walk) (length walk)) (is_distinct step_eq walk) parts.1

    three : 2 < length walk
    three = (Decides-ltb 2 (length walk)).0 parts.0

    within : (k : ℕ) → k < length walk → (step_round walk (k + 1)).from ≡ (step_round walk k).to
    within = (Decides-below_and (does_lead_on walk) (λ k. (step_round walk (k + 1)).from ≡ (step_round walk k).to)
        (all_below (does_lead_on walk))
        (λ k. Decides-point_eq (step_round walk (k + 1)).from (step_round walk k).to) refl (λ n. refl) (length walk)).0
        others.0

    leads_on : (k : ℕ) → (step_round walk (k + 1)).from ≡ (step_round walk k).to
    leads_on k =
        ap (λ (s : Step). s.from) (sym (item_round-next walk no_step k))
        ∙ within (k % length walk) (mod_below k (length walk) (omega (arith, three)))
        ∙ ap (λ (s : Step). s.to) (item_round-within walk no_step k)

-- ---- edges that meet in ends alone

-- the test tells whether the first number is at most the second
Decides-int_le : (x y : ℤ) → Decides (int_le x y) (x ≤ℤ y)
Decides-int_le x y = (λ h. grind (arith, ints), λ h. grind (arith, ints))

-- e ends where f begins, or before
abbrev is_apart : Edge → Edge → Bool
is_apart e f = not (point_lt f.a e.b)

-- f lies strictly on one side of e's line
abbrev is_beside : Edge → Edge → Bool
is_beside e f =
    (int_lt (pos 0) (cross_at e.a e.b f.a) && int_lt (pos 0) (cross_at e.a e.b f.b))
    || (int_lt (cross_at e.a e.b f.a) (pos 0) && int_lt (cross_at e.a e.b f.b) (pos 0))

Decides-is_beside : (e f : Edge) → Decides (is_beside e f) (IsBeside e f)
Decides-is_beside e f =
    let at_a = cross_at e.a e.b f.a in
    let at_b = cross_at e.a e.b f.b in
    Decides-or _ _
    (Decides-and _ _ (Decides-int_lt (pos 0) at_a) (Decides-int_lt (pos 0) at_b))
    (Decides-and _ _ (Decides-int_lt at_a (pos 0)) (Decides-int_lt at_b (pos 0)))

-- f goes from one side of e's line to the other, or to or from the line itself
abbrev is_across : Edge → Edge → Bool
is_across e f =
    (int_le (cross_at e.a e.b f.a) (pos 0) && int_le (pos 0) (cross_at e.a e.b f.b) && int_lt (cross_at e.a e.b f.a)
    (cross_at e.a e.b f.b))
    || (int_le (cross_at e.a e.b f.b) (pos 0) && int_le (pos 0) (cross_at e.a e.b f.a) && int_lt (cross_at e.a e.b f.b)
    (cross_at e.a e.b f.a))

told_across : (e f : Edge) → is_across e f ≡ true → IsAcross e f
told_across e f passed = elim (or_cases _ _ passed) [
  | inl up ↦ inl (in_order at_a at_b up)
  | inr down ↦ inr (in_order at_b at_a down)
]
  where
    at_a : ℤ
    at_a = cross_at e.a e.b f.a

    at_b : ℤ
    at_b = cross_at e.a e.b f.b

    in_order : (low high : ℤ) → (int_le low (pos 0) && int_le (pos 0) high && int_lt low high) ≡ true
        → (low ≤ℤ pos 0) × (pos 0 ≤ℤ high) × (low <ℤ high)
    in_order low high all =
        let parts = (Decides-and _ _ (Decides-and _ _ (Decides-int_le low (pos 0)) (Decides-int_le (pos 0) high))
        (Decides-int_lt low high)).0 all in
        (parts.0.0, parts.0.1, parts.1)

-- the two lead forward, and one ends before the other, or lies beside it, or they share an end and are on different
-- lines
abbrev do_meet_in_ends : Edge → Edge → Bool
do_meet_in_ends e f =
    (point_lt e.a e.b && point_lt f.a f.b)
    && (is_apart e f || (is_apart f e || (is_beside e f || (is_beside f e || (is_across e f && share_end e f)))))

told_apart : (e f : Edge) → IsBefore e.a e.b → IsBefore f.a f.b → is_apart e f ≡ true → MeetInEnds e f
told_apart e f e_forward f_forward passed =
    by_order e.b f.a
    (λ before. apart_meet_in_ends e f e_forward f_forward before)
    (λ begins. absurd (not_from_Decides (point_lt f.a e.b) (Decides-point_lt f.a e.b)
    (failed (point_lt f.a e.b) passed) begins))

told_meet : (e f : Edge) → do_meet_in_ends e f ≡ true → MeetInEnds e f
told_meet e f passed = by_way (or_cases _ _ parts.1)
  where
    parts : ((point_lt e.a e.b && point_lt f.a f.b) ≡ true)
        × ((is_apart e f || (is_apart f e || (is_beside e f || (is_beside f e || (is_across e f && share_end e f)))))
        ≡ true)
    parts = and_parts _ _ passed

    forward : IsBefore e.a e.b × IsBefore f.a f.b
    forward = (Decides-and _ _ (Decides-point_lt e.a e.b) (Decides-point_lt f.a f.b)).0 parts.0

    by_end : (is_across e f && share_end e f) ≡ true → MeetInEnds e f
    by_end both =
        let parts = and_parts (is_across e f) (share_end e f) both in
        let shared = (Decides-share_end e f).0 parts.1 in
        sharing_meet_in_ends e f shared.0 (told_across e f parts.0) shared.1.0 shared.1.1

    by_side : (is_beside e f ≡ true) ⊎ ((is_beside f e || (is_across e f && share_end e f)) ≡ true) → MeetInEnds e f
    by_side (inl beside) = beside_meet_in_ends e f forward.1 ((Decides-is_beside e f).0 beside)
    by_side (inr other) = elim (or_cases (is_beside f e) (is_across e f && share_end e f) other) [
      | inl beside ↦ meet_in_ends_exchanged e f (beside_meet_in_ends f e forward.0 ((Decides-is_beside f e).0 beside))
      | inr both ↦ by_end both
    ]

    by_way : (is_apart e f ≡ true)
        ⊎ ((is_apart f e || (is_beside e f || (is_beside f e || (is_across e f && share_end e f)))) ≡ true)
        → MeetInEnds e f
    by_way (inl before) = told_apart e f forward.0 forward.1 before
    by_way (inr other) = elim (or_cases (is_apart f e)
        (is_beside e f || (is_beside f e || (is_across e f && share_end e f))) other) [
          | inl after ↦ meet_in_ends_exchanged e f (told_apart f e forward.1 forward.0 after)
          | inr side ↦ by_side (or_cases (is_beside e f) (is_beside f e || (is_across e f && share_end e f)) side)
        ]

-- the edges of two steps are equal, or meet in ends alone
abbrev are_settled : Step → Step → Bool
are_settled s t = edge_eq (edge_of s) (edge_of t) || do_meet_in_ends (edge_of s) (edge_of t)

-- any two do
abbrev pub is_settled : List Step → Bool
is_settled ss = list_all (λ s. list_all (are_settled s) ss) ss

-- such a list is settled
pub told_settled : (ss : List Step) → is_settled ss ≡ true → IsSettledBy edge_of ss
told_settled ss passed s t has_s has_t other =
    let with_s : All (λ u. list_all (are_settled u) ss ≡ true) ss = AllPass-from_list_all
    (λ u. list_all (are_settled u) ss) ss passed in
    let of_s : list_all (are_settled s) ss ≡ true = All-contains (λ u. list_all (are_settled u) ss ≡ true) ss s
    with_s has_s in
    let with_t : All (λ u. are_settled s u ≡ true) ss = AllPass-from_list_all (are_settled s) ss of_s in
    let of_both : are_settled s t ≡ true = All-contains (λ u. are_settled s u ≡ true) ss t with_t has_t in
    elim (or_cases (edge_eq (edge_of s) (edge_of t)) (do_meet_in_ends (edge_of s) (edge_of t)) of_both) [
      | inl same ↦ absurd (both_ways (edge_eq (edge_of s) (edge_of t)) other same)
      | inr meet ↦ told_meet (edge_of s) (edge_of t) meet
    ]
