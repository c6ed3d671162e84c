-- Changed edges at their places: an unchanged edge is compared only with the changed edges behind it.
use Rattle.std.proofs.Common.{◌≡◌, ◌⊎◌, ⊎_elim, inl, inr, ℕ, ◌+◌, ◌<◌, ◌≤◌, Bool, true, false, nat_lt, List, [], ◌∷◌}
use Rattle.std.proofs.Common.{◌++◌, All, AllPairs, Contains, length, get_or, refl, sym, ◌∙◌, subst, arith}
use Rattle.std.specs.List.Sorted.{IsPartitionedBy, IsPartitionPoint}
use Rattle.std.proofs.lemmas.Bool.{cases_lt}
use Rattle.std.proofs.lemmas.List.{get_or_append_left, get_or_default, get_or_push, length_push}
use Rattle.std.proofs.Math.Nat.{eq-or-lt_of_le}
use Rattle.overlay_geom.specs.Edges.{CountedEdge}
use Rattle.overlay_geom.proofs.Entries.{some_entry}
use Rattle.overlay_order.specs.Content.{IsAscending, IsHeld}
use Rattle.overlay_pairs.specs.Changed.{AreChangesOf, ArePlacesAt, IsFirstFrom, StandAt}
use Rattle.overlay_pairs.specs.Places.{IsAt}
use Rattle.overlay_pairs.specs.Near.{AreNear, AreNearBehind}
use Rattle.overlay_pairs.specs.Settle.{AreSettled}
use Rattle.overlay_pairs.proofs.ChangedEdges.{comes}
use Rattle.overlay_pairs.proofs.Entries.{one_entry}

-- ---- places

-- the place comes before i
abbrev pub is_before : ℕ → ℕ → Bool
is_before i p = nat_lt p i

module _ (i : ℕ) (places : List ℕ) where
  -- ascending places do in their front alone
  pub before-parted : AllPairs (λ j k. j < k) places → IsPartitionedBy (is_before i) places
  before-parted up j k d le within less = ⊎_elim
      (λ (same : j ≡ k). subst (λ n. is_before i (get_or places n d) ≡ true) (sym same) less)
      (λ (earlier : j < k). let further = up j k d earlier within in grind (arith, further, less))
      (eq-or-lt_of_le le)

  -- where that front ends, the first place from i on stands
  pub first_from : (k : ℕ) → k ≤ length places →
      IsPartitionPoint (λ p. is_before i p ≡ true) (λ p. is_before i p ≡ false) places k → IsFirstFrom places i k
  first_from k within point = record {
    within = within;
    earlier = λ m j less at_j. let small = point.0 m i (omega arith) less in
        let is = get_or_default places m j i at_j.0 in let same = at_j.1 in grind (arith, small, is, same);
    later = λ m j from at_j. let large = point.1 m i from at_j.0 in
        let is = get_or_default places m j i at_j.0 in let same = at_j.1 in grind (arith, large, is, same);
  }

-- a fact of the edge at a place holds of each edge there
pub near_of_edge : (es : List CountedEdge) (i : ℕ) (e : CountedEdge) (js : List ℕ) → IsAt es i e →
    AreNearBehind es e (i + 1) js → AreNear es i js
near_of_edge es i e js at_e near f at_f =
    subst (λ (g : CountedEdge). AreNearBehind es g (i + 1) js) (one_entry es i e f at_e at_f) near

-- ---- edges at places

-- cs are the edges of the list at the first k places
pub record StandUpTo (es : List CountedEdge) (places : List ℕ) (k : ℕ) (cs : List CountedEdge) : Type 0 where
  pub count : length cs ≡ k
  pub at : (m i : ℕ) (c : CountedEdge) → IsAt places m i → IsAt cs m c → IsAt es i c

module _ (es : List CountedEdge) (places : List ℕ) where
  -- at first none stands
  pub none_stand : StandUpTo es places 0 []
  none_stand = record { count = refl; at = λ k i c at_i at_c. absurd (omega (arith, at_c.0)) }

  -- one more stands at its place
  pub stand_more : (k i : ℕ) (cs : List CountedEdge) (c : CountedEdge) → IsAt places k i → IsAt es i c →
      StandUpTo es places k cs → StandUpTo es places (k + 1) (cs ++ c ∷ [])
  stand_more k i cs c at_i at_c so_far = record {
    count = (let l = length_push cs c in let count = so_far.count in omega (arith, l, count));
    at = λ m j d at_j at_d. ⊎_elim
        (λ (last : m ≡ k).
        let j_is : i ≡ j = one_entry places k i j at_i (subst (λ n. IsAt places n j) last at_j) in
        let d_is : c ≡ d = sym (get_or_push cs c d m (so_far.count ∙ sym last)) ∙ at_d.1 in
        subst (λ n. IsAt es n d) j_is (subst (IsAt es i) d_is at_c))
        (λ (before : m < k).
        let inside : m < length cs = (let count = so_far.count in omega (arith, count, before)) in
        so_far.at m j d at_j (inside, sym (get_or_append_left cs (c ∷ []) d m inside) ∙ at_d.1))
        (eq-or-lt_of_le (let l = length_push cs c in let count = so_far.count in let less = at_d.0 in
        let le : m ≤ k = omega (arith, l, count, less) in le));
  }

  -- all of them do
  pub all_stand : (k : ℕ) (cs : List CountedEdge) → k ≡ length places → StandUpTo es places k cs → StandAt es places cs
  all_stand k cs all so_far = record { count = so_far.count ∙ all; at = so_far.at }

module _ (es : List CountedEdge) (places : List ℕ) (cs : List CountedEdge) (changes : AreChangesOf es places cs) where
  -- an edge that is changed stands at its place
  placed : (k : ℕ) (c : CountedEdge) → IsAt cs k c → IsAt places k (get_or places k 0) × IsAt es (get_or places k 0) c
  placed k c at_c =
      let inside : k < length places = (let count = changes.stand.count in omega (arith, count, at_c.0)) in
      let at_place : IsAt places k (get_or places k 0) =
      (inside, get_or_default places k (get_or places k 0) 0 inside) in
      (at_place, changes.stand.at k (get_or places k 0) c at_place at_c)

  -- the changed edges are held
  pub changes_held : (limit : ℕ) → All (IsHeld limit) es → All (IsHeld limit) cs
  changes_held limit held k d inside =
      let c = get_or cs k d in
      let there = placed k c (inside, get_or_default cs k c d inside) in
      subst (IsHeld limit) there.1.1 (held (get_or places k 0) c there.1.0)

  -- the changed edges ascend
  pub changes_ascend : IsAscending es → IsAscending cs
  changes_ascend up i j d less inside =
      let e = get_or cs i d in
      let f = get_or cs j d in
      let one = placed i e ((omega (arith, less, inside)), get_or_default cs i e d (omega (arith, less, inside))) in
      let other = placed j f (inside, get_or_default cs j f d inside) in
      comes es up (get_or places i 0) (get_or places j 0) e f (changes.ascending i j 0 less other.0.0) one.1 other.1

  -- ---- the changed edges behind a place

  module _ (i k : ℕ) (first : IsFirstFrom places i k) where
    -- a later place stands from k on
    from_k : (j m : ℕ) → i < j → IsAt places m j → k ≤ m
    from_k j m less at_j = ⊎_elim
        (λ (before : m < k). let small = first.earlier m j before at_j in absurd (omega (arith, small, less)))
        (λ (from : k ≤ m). from) (cases_lt m k)

    -- where the place at k is not i, none is
    none_here : ¬ (IsAt places k i) → ¬ (Contains places i)
    none_here apart has = ⊎_elim
        (λ (before : has.0 < k). let small = first.earlier has.0 i before (has.1, has.2) in
        absurd (omega (arith, small)))
        (λ (from : k ≤ has.0). ⊎_elim
        (λ (same : k ≡ has.0). apart (subst (λ n. IsAt places n i) (sym same) (has.1, has.2)))
        (λ (less : k < has.0).
        let inside : k < length places = omega (arith, less, has.1) in
        let j = get_or places k i in
        let from_i = first.later k j (omega arith) (inside, get_or_default places k j i inside) in
        let up = changes.ascending k has.0 i less has.1 in
        let is = has.2 in absurd (omega (arith, up, from_i, is)))
        (eq-or-lt_of_le from)) (cases_lt has.0 k)

    module _ (e : CountedEdge) (at_e : IsAt es i e) (apart : ¬ (IsAt places k i)) where
      -- of a later edge the place is changed, or it is met in ends alone
      changed_or_settled : (j : ℕ) (f : CountedEdge) → i < j → IsAt es j f → Contains places j ⊎ AreSettled e f
      changed_or_settled j f less at_f = ⊎_elim (λ has. absurd (none_here apart has)) (λ other. other)
          (changes.all i j e f less at_e at_f)

      -- where no changed edge is left, the edge meets all later ones in ends alone
      pub none_left : length places ≤ k → AreNearBehind es e (i + 1) []
      none_left past = record {
        within = λ j has. absurd (omega (arith, has.1));
        all = λ j f from at_f. ⊎_elim
            (λ has. let behind = from_k j has.0 (omega (arith, from)) (has.1, has.2) in
            absurd (omega (arith, behind, past, has.1)))
            (λ settled. inr settled) (changed_or_settled j f (omega (arith, from)) at_f);
      }

      -- else those that it may meet elsewhere are at the places of the changed ones from k on
      pub changed_near : (ks js : List ℕ) → AreNearBehind cs e k ks → ArePlacesAt places ks js →
          AreNearBehind es e (i + 1) js
      changed_near ks js near put = record { within = within; all = all }
        where
          within : (j : ℕ) → Contains js j → (i + 1 ≤ j) × (j < length es)
          within j has =
              let n = has.0 in
              let inside : n < length ks = (let count = put.count in omega (arith, count, has.1)) in
              let m = get_or ks n 0 in
              let at_m : IsAt ks n m = (inside, get_or_default ks n m 0 inside) in
              let found = near.within m (n, at_m.0, at_m.1) in
              let c = some_entry cs m found.1 in
              let d = get_or cs m c in
              let there = placed m d (found.1, get_or_default cs m d c found.1) in
              let p = get_or places m 0 in
              let is : p ≡ j = one_entry js n p j (put.at n m p at_m there.0) (has.1, has.2) in
              let from = first.later m p found.0 there.0 in
              let other : ¬ (i ≡ j) = (λ (same : i ≡ j). none_here apart
              (subst (Contains places) (is ∙ sym same) (m, there.0.0, there.0.1))) in
              let inside_es = there.1.0 in (
                ⊎_elim (λ (same : i ≡ j). absurd (other same)) (λ (less : i < j). omega (arith, less))
                    (eq-or-lt_of_le (let le : i ≤ j = omega (arith, from, is) in le)),
                omega (arith, inside_es, is),
              )

          all : (j : ℕ) (f : CountedEdge) → i + 1 ≤ j → IsAt es j f → Contains js j ⊎ AreSettled e f
          all j f from at_f = ⊎_elim
              (λ has. let m = has.0 in
              let at_j : IsAt places m j = (has.1, has.2) in
              let inside : m < length cs = (let count = changes.stand.count in omega (arith, count, has.1)) in
              let c = get_or cs m f in
              let at_c : IsAt cs m c = (inside, get_or_default cs m c f inside) in
              let is : c ≡ f = one_entry es j c f (changes.stand.at m j c at_j at_c) at_f in
              ⊎_elim
              (λ found. let there = put.at found.0 m j (found.1, found.2) at_j in inl (found.0, there.0, there.1))
              (λ settled. inr settled)
              (near.all m f (from_k j m (omega (arith, from)) at_j) (subst (IsAt cs m) is at_c)))
              (λ settled. inr settled) (changed_or_settled j f (omega (arith, from)) at_f)

  -- the numbers found are those of places
  pub numbers_within : (e : CountedEdge) (k : ℕ) (ks : List ℕ) → AreNearBehind cs e k ks →
      All (λ m. m < length places) ks
  numbers_within e k ks near n d inside =
      let m = get_or ks n d in
      let found = near.within m (n, inside, get_or_default ks n m d inside) in
      let count = changes.stand.count in
      let less = found.1 in omega (arith, count, less)
