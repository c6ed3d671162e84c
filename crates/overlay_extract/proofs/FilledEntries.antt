-- The filled-above edges of the first walks.
use Rattle.std.proofs.Common.{◌≡◌, ℕ, ◌+◌, ◌<◌, true, false, List, [], ◌∷◌, ◌++◌, cond, length, map, take, get_or}
use Rattle.std.proofs.Common.{Contains, refl, sym, ap, ap₂, ◌∙◌, subst, append-nil}
use Rattle.std.specs.List.{All, AllPairs, filter, slice_get}
use Rattle.std.specs.Prelude.{Some}
use Rattle.std.specs.List.Sorted.{IsPermutation}
use Rattle.std.proofs.lemmas.Grind.{flat_map-append}
use Rattle.std.proofs.lemmas.List.{map-append, take_more}
use Rattle.std.proofs.lemmas.List.Elements.{All-append, filter-append}
use Rattle.std.proofs.lemmas.List.Sorted.{All-permutation, Contains-permutation, IsPermutation-map}
use Rattle.overlay_geom.specs.Plane.{Step, Edge, edge_of, edge_eq}
use Rattle.overlay_geom.proofs.Mapped.{AllPairs-unmap}
use Rattle.overlay_geom.proofs.Orders.{edge_eq-exchanged}
use Rattle.overlay_plane.specs.Contours.{is_filled_above}
use Rattle.overlay_plane.specs.Binding.{filled_above_edges, all_filled_above}
use Rattle.overlay_plane.specs.Turn.{Hand}
use Rattle.overlay_plane.proofs.Entries.{all_of_entries, Contains-from_map}
use Rattle.overlay_plane.proofs.ShuffledPairs.{pairs_shuffled}
use Rattle.overlay_scan.specs.Scan.{Entry}
use Rattle.overlay_scan.specs.Sweeps.{IsByStart}
use Rattle.overlay_extract.specs.WalkEntries.{filled_entries, IsFilledEntry, AreFilledEntries}

-- one more step, which is filled above
pub filled_more : (filled : Hand) (n : ℕ) (ss : List Step) (s : Step) → is_filled_above filled s ≡ true →
    filled_entries filled n (ss ++ s ∷ []) ≡ filled_entries filled n ss ++ record { edge = edge_of s; value = n } ∷ []
filled_more filled n ss s is =
    let at : Edge → Entry ℕ = λ e. record { edge = e; value = n } in
    let kept = filter-append (is_filled_above filled) ss (s ∷ [])
    ∙ ap (λ t. filter (is_filled_above filled) ss ++ cond t (s ∷ []) []) is in
    ap (λ us. map at (map edge_of us)) kept
    ∙ ap (map at) (map-append edge_of (filter (is_filled_above filled) ss) (s ∷ []))
    ∙ map-append at (filled_above_edges filled ss) (edge_of s ∷ [])

-- or which is not
pub filled_same : (filled : Hand) (n : ℕ) (ss : List Step) (s : Step) → is_filled_above filled s ≡ false →
    filled_entries filled n (ss ++ s ∷ []) ≡ filled_entries filled n ss
filled_same filled n ss s is =
    let at : Edge → Entry ℕ = λ e. record { edge = e; value = n } in
    ap (λ us. map at (map edge_of us)) (filter-append (is_filled_above filled) ss (s ∷ [])
    ∙ ap (λ t. filter (is_filled_above filled) ss ++ cond t (s ∷ []) []) is
    ∙ append-nil (filter (is_filled_above filled) ss))

-- the edges of a walk's entries
edges_of_entries : (n : ℕ) (es : List Edge) →
    map (λ (f : Entry ℕ). f.edge) (map (λ e. record { edge = e; value = n }) es) ≡ es
edges_of_entries n [] = refl
edges_of_entries n (e ∷ es) = ap (λ fs. e ∷ fs) (edges_of_entries n es)

module _ (filled : Hand) (walks : List (List Step)) where
  -- the entries are those of the first i walks
  pub record HaveFilled (i : ℕ) (fs : List (Entry ℕ)) : Type 0 where
    pub edges : map (λ f. f.edge) fs ≡ all_filled_above filled (take i walks)
    pub from : All (IsFilledEntry filled walks) fs

  -- the entries of the next walk are added
  pub filled_added : (i : ℕ) (fs : List (Entry ℕ)) (w : List Step) → HaveFilled i fs → i < length walks →
      get_or walks i w ≡ w → slice_get walks i ≡ Some w →
      HaveFilled (i + 1) (fs ++ filled_entries filled i w)
  filled_added i fs w have lt is at = record {
    edges = map-append (λ f. f.edge) fs (filled_entries filled i w)
        ∙ ap₂ (λ us vs. us ++ vs) have.edges (edges_of_entries i (filled_above_edges filled w)
        ∙ sym (append-nil (filled_above_edges filled w)))
        ∙ sym (flat_map-append (filled_above_edges filled) (take i walks) (w ∷ []))
        ∙ ap (all_filled_above filled) (ap (λ v. take i walks ++ v ∷ []) (sym is) ∙ sym (take_more walks i w lt));
    from = All-append (IsFilledEntry filled walks) fs (filled_entries filled i w) have.from
        (all_of_entries (IsFilledEntry filled walks) (filled_entries filled i w) (λ f c.
        let found = Contains-from_map (λ (e : Edge). record { edge = e; value = i })
        (filled_above_edges filled w) f c in
        subst (IsFilledEntry filled walks) found.2 (record { walk = w; at = at; has = found.1 })));
  }

  -- all of them, sorted
  pub filled_sorted : (fs gs : List (Entry ℕ)) → map (λ f. f.edge) fs ≡ all_filled_above filled walks →
      All (IsFilledEntry filled walks) fs →
      AllPairs (λ e f. edge_eq e f ≡ false) (all_filled_above filled walks) → IsPermutation fs gs → IsByStart gs →
      AreFilledEntries filled walks gs
  filled_sorted fs gs edges from distinct moved order = record {
    from = All-permutation (IsFilledEntry filled walks) fs gs moved from;
    all = λ e c. Contains-permutation (map (λ f. f.edge) fs) (map (λ f. f.edge) gs) e mapped
        (subst (λ es. Contains es e) (sym edges) c);
    distinct = AllPairs-unmap (λ e f. edge_eq e f ≡ false) (λ f. f.edge) gs differ;
    order = order;
  }
    where
      mapped : IsPermutation (map (λ (f : Entry ℕ). f.edge) fs) (map (λ f. f.edge) gs)
      mapped = IsPermutation-map (λ f. f.edge) fs gs moved

      differ : AllPairs (λ e f. edge_eq e f ≡ false) (map (λ (f : Entry ℕ). f.edge) gs)
      differ = pairs_shuffled edge_eq edge_eq-exchanged (map (λ f. f.edge) fs) (map (λ f. f.edge) gs) mapped
          (subst (AllPairs (λ e f. edge_eq e f ≡ false)) (sym edges) distinct)
