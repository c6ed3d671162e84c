-- Counted edges in order meet in ends alone, at whatever different places they stand, exactly where each comes before
-- the later ones, and they are settled.
use Rattle.std.proofs.Common.{◌≡◌, ⊎_elim, ℕ, ◌+◌, ◌-◌, ◌<◌, ◌≤◌, true, false, List, [], ◌∷◌, ◌++◌}
use Rattle.std.proofs.Common.{length, take, get_or, sym, ap, ◌∙◌, subst, arith}
use Rattle.std.specs.List.{All}
use Rattle.std.proofs.lemmas.Bool.{both_ways}
use Rattle.std.proofs.lemmas.List.{take_more, length-take-le, get_or-take}
use Rattle.std.proofs.lemmas.List.Elements.{All-contains, Contains-get_or}
use Rattle.std.proofs.lemmas.List.Quantifiers.{all_pairs_push}
use Rattle.std.proofs.Math.Nat.{eq-or-lt_of_le}
use Rattle.overlay_geom.specs.Edges.{CountedEdge, ends_of, all_ends}
use Rattle.overlay_geom.specs.Plane.{Edge, edge_eq, edge_lt}
use Rattle.overlay_geom.specs.Resolved.{AreApart, IsLongEdge}
use Rattle.overlay_geom.specs.Settled.{MeetInEnds, IsSettled}
use Rattle.overlay_geom.proofs.Mapped.{AllPairs-map, AllPairs-unmap}
use Rattle.overlay_geom.proofs.Orders.{lt_or_eq, edge_eq-from_lt, edge_lt-trans}
use Rattle.overlay_plane.proofs.Entries.{all_of_entries, Contains-map}
use Rattle.overlay_order.specs.Content.{IsAscending, IsHeld}
use Rattle.overlay_parts.specs.EdgeOrder.{IsInOrder}
use Rattle.overlay_relate.proofs.ApartEdges.{LeadForward, stand_once, settled_apart}

module _ (ks : List CountedEdge) (forward : LeadForward (all_ends ks)) (apart : AreApart (all_ends ks)) where
  pub apart_ascend : IsInOrder ks → IsAscending ks
  apart_ascend order i j d l m =
      let differ = AllPairs-unmap (λ (e f : Edge). edge_eq e f ≡ false) ends_of ks
      (stand_once (all_ends ks) forward apart) i j d l m in
      ⊎_elim (λ less. less)
      (λ same. absurd (both_ways (edge_eq (ends_of (get_or ks i d)) (ends_of (get_or ks j d))) differ same))
      (lt_or_eq (ends_of (get_or ks i d)) (ends_of (get_or ks j d)) (order i j d l m))

  pub apart_settled : IsSettled ks
  apart_settled e f c d differ = settled_apart (all_ends ks) forward apart (ends_of e) (ends_of f)
      (Contains-map ends_of ks e c) (Contains-map ends_of ks f d) differ

pub settled_ascending_apart : (ks : List CountedEdge) → IsAscending ks → IsSettled ks → AreApart (all_ends ks)
settled_ascending_apart ks ascending settled = AllPairs-map MeetInEnds ends_of ks (λ i j d l m.
    settled (get_or ks i d) (get_or ks j d) (Contains-get_or ks i d (omega (arith, l, m))) (Contains-get_or ks j d m)
    (edge_eq-from_lt (ends_of (get_or ks i d)) (ends_of (get_or ks j d)) (ascending i j d l m)))

-- edges that are long lead forward, and a builder may hold them
pub long_forward : (limit : ℕ) (es : List Edge) → All (IsLongEdge limit) es → LeadForward es
long_forward limit es long i d l = (long i d l).forward

pub long_held : (limit : ℕ) (ks : List CountedEdge) → All (IsLongEdge limit) (all_ends ks) → All (IsHeld limit) ks
long_held limit ks long = all_of_entries (IsHeld limit) ks (λ k c.
    let one = All-contains (IsLongEdge limit) (all_ends ks) (ends_of k) long (Contains-map ends_of ks k c) in
    record { forward = one.forward; a_in_range = one.a_in_range; b_in_range = one.b_in_range })

-- ---- edges one after the other

module _ (ks : List CountedEdge) (i : ℕ) (e f : CountedEdge) (some : 0 < i) (within : i < length ks)
    (at_e : (d : CountedEdge) → get_or ks (i - 1) d ≡ e) (at_f : (d : CountedEdge) → get_or ks i d ≡ f) where
  -- one more may come after those so far
  pub ascending_more : edge_lt (ends_of e) (ends_of f) ≡ true → IsAscending (take i ks) → IsAscending (take (i + 1) ks)
  ascending_more less ascending = subst IsAscending
      (sym (take_more ks i f within ∙ ap (λ k. take i ks ++ k ∷ []) (at_f f)))
      (all_pairs_push (λ (k l : CountedEdge). edge_lt (ends_of k) (ends_of l) ≡ true) (take i ks) f ascending
      (λ j d lt. by j d (omega (arith, lt, taken))))
    where
      taken : length (take i ks) ≡ i
      taken = length-take-le i ks (omega (arith, within))

      last : (d : CountedEdge) → get_or (take i ks) (i - 1) d ≡ e
      last d = get_or-take i ks (i - 1) d (omega (arith, some)) ∙ at_e d

      by : (j : ℕ) (d : CountedEdge) → j < i → edge_lt (ends_of (get_or (take i ks) j d)) (ends_of f) ≡ true
      by j d lt = ⊎_elim
          (λ same. subst (λ n. edge_lt (ends_of (get_or (take i ks) n d)) (ends_of f) ≡ true) (sym same)
          (subst (λ (k : CountedEdge). edge_lt (ends_of k) (ends_of f) ≡ true) (sym (last d)) less))
          (λ before. edge_lt-trans (ends_of (get_or (take i ks) j d)) (ends_of e) (ends_of f)
          (subst (λ (k : CountedEdge). edge_lt (ends_of (get_or (take i ks) j d)) (ends_of k) ≡ true) (last d)
          (ascending j (i - 1) d before (omega (arith, taken, some)))) less)
          (eq-or-lt_of_le (let le : j ≤ i - 1 = omega (arith, lt) in le))

  pub not_ascending : edge_lt (ends_of e) (ends_of f) ≡ false → ¬ (IsAscending ks)
  not_ascending fails ascending = both_ways (edge_lt (ends_of e) (ends_of f)) fails
      (subst (λ (k : CountedEdge). edge_lt (ends_of k) (ends_of f) ≡ true) (at_e e)
      (subst (λ (k : CountedEdge). edge_lt (ends_of (get_or ks (i - 1) e)) (ends_of k) ≡ true) (at_f e)
      (ascending (i - 1) i e (omega (arith, some)) within)))
