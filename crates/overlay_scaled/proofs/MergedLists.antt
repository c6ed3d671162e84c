-- Each list has a merged list: the joined edges that count, in ascending order, each once.
use Rattle.std.proofs.Common.{◌≡◌, ◌⊎◌, inl, inr, ⊎_elim, Bool, true, false, not, List, map, Contains, refl, sym, ap}
use Rattle.std.proofs.Common.{◌∙◌, subst}
use Rattle.std.specs.List.{filter}
use Rattle.std.proofs.lemmas.Bool.{both_ways}
use Rattle.overlay_geom.specs.Edges.{CountedEdge, ends_of, counts_nothing}
use Rattle.overlay_geom.specs.Merged.{IsMerged, joined_edge}
use Rattle.overlay_geom.specs.Plane.{edge_lt}
use Rattle.overlay_geom.proofs.Orders.{edge_lt-itself, edge_lt-trans, lt_or_eq, edge_eq-same}
use Rattle.overlay_plane.proofs.EachOnce.{each_once, once_entry, once_each, once_ascends, IsLower}
use Rattle.overlay_plane.proofs.Entries.{Contains-filter, Contains-from_filter, Contains-map, Contains-from_map}
use Rattle.overlay_plane.proofs.Entries.{all_of_entries}
use Rattle.overlay_plane.proofs.LaterEntries.{AllPairs-from_each}

-- the order of counted edges: that of their ends
abbrev lower : CountedEdge → CountedEdge → Bool
lower e f = edge_lt (ends_of e) (ends_of f)

module _ (old : List CountedEdge) where
  -- the joined edge between the ends of an edge
  abbrev joined : CountedEdge → CountedEdge
  joined e = joined_edge old (ends_of e)

  abbrev counts : CountedEdge → Bool
  counts e = not (counts_nothing e)

  -- the joined edges that count
  abbrev counted : List CountedEdge
  counted = filter counts (map joined old)

  -- in order, each once
  abbrev pub merged_of : List CountedEdge
  merged_of = each_once lower counted

  of_joined : (e : CountedEdge) → Contains merged_of e → (e ≡ joined e) × (counts_nothing e ≡ false)
  of_joined e c =
      let kept = Contains-from_filter counts (map joined old) e (once_entry lower counted e c) in
      let from = Contains-from_map joined old e kept.0 in
      (subst (λ (g : CountedEdge). g ≡ joined g) from.2 refl, by (counts_nothing e) kept.1)
    where
      by : (t : Bool) → not t ≡ true → t ≡ false
      by true h = sym h
      by false h = refl

  complete : (e : CountedEdge) → Contains old e →
      (counts_nothing (joined e) ≡ true) ⊎ Contains merged_of (joined e)
  complete e c = by (counts_nothing (joined e)) refl
    where
      there : counts_nothing (joined e) ≡ false → Contains merged_of (joined e)
      there some =
          let kept = once_each lower (λ g. edge_lt-itself (ends_of g)) counted (joined e)
          (Contains-filter counts (map joined old) (joined e) (Contains-map joined old e c) (ap not some)) in
          let same = ⊎_elim (λ less. absurd (both_ways (lower (joined e) kept.0) kept.2.0 less)) (λ eq. eq)
          (lt_or_eq (ends_of (joined e)) (ends_of kept.0) kept.2.1) in
          subst (Contains merged_of) ((of_joined kept.0 kept.1).0
          ∙ ap (joined_edge old) (sym (edge_eq-same (ends_of (joined e)) (ends_of kept.0) same))) kept.1

      by : (t : Bool) → counts_nothing (joined e) ≡ t →
          (counts_nothing (joined e) ≡ true) ⊎ Contains merged_of (joined e)
      by true is = inl is
      by false is = inr (there is)

  pub is_merged : IsMerged old merged_of
  is_merged = record {
    ascending = AllPairs-from_each (IsLower lower) merged_of
        (once_ascends lower (λ e f g. edge_lt-trans (ends_of e) (ends_of f) (ends_of g)) counted);
    joined = all_of_entries (λ e. (e ≡ joined e) × (counts_nothing e ≡ false)) merged_of of_joined;
    complete = all_of_entries (λ e. (counts_nothing (joined e) ≡ true) ⊎ Contains merged_of (joined e)) old complete;
  }
