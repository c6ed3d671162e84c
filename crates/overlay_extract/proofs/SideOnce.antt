-- No step stands twice among the filled sides, and each leads from one point to another.
use Rattle.std.proofs.Common.{◌≡◌, ⊎_elim, Bool, true, false, cond, ℤ, List, [], ◌∷◌, ◌++◌, All, Contains}
use Rattle.std.proofs.Common.{sym, ap, ◌∙◌, subst}
use Rattle.std.specs.List.{flat_map}
use Rattle.std.proofs.lemmas.Bool.{both_ways, false_from_ne_true}
use Rattle.std.proofs.lemmas.List.Elements.{Contains-append_cases}
use Rattle.overlay_geom.specs.Plane.{Step, edge_of, edge_eq, step_eq}
use Rattle.overlay_geom.specs.Edges.{CountedEdge, ends_of, winding_below, winding_above}
use Rattle.overlay_geom.proofs.Entries.{Contains-head, Contains-later, Contains-cases}
use Rattle.overlay_geom.proofs.Orders.{edge_eq-from_ends}
use Rattle.overlay_plane.specs.BesideOrbits.{HasEachOnce}
use Rattle.overlay_plane.specs.Nodes.{IsBalancedArrangement}
use Rattle.overlay_plane.specs.SelectedSteps.{step_with_left}
use Rattle.overlay_plane.proofs.AtNodes.{same_steps}
use Rattle.overlay_plane.proofs.Entries.{all_of_entries, Contains-from_flat_map}
use Rattle.overlay_plane.proofs.LaterEntries.{Each, Each-from_all_pairs, AllPairs-from_each}
use Rattle.overlay_plane.proofs.ShuffledSteps.{Differ}
use Rattle.overlay_extract.specs.ClosedWalks.{HasLength}
use Rattle.overlay_extract.specs.FilledSides.{sides_of, filled_sides}
use Rattle.overlay_extract.proofs.SideLists.{sides_listed, listed_edge}
use Rattle.overlay_extract.proofs.SideSpokes.{ends_apart, long}

-- two lists in one, where each of the first differs from each of the second
Each-together : (xs ys : List Step) → Each Differ xs → ((s t : Step) → Contains xs s → Contains ys t → Differ s t) →
    Each Differ ys → Each Differ (xs ++ ys)
Each-together [] ys first across second = second
Each-together (x ∷ xs) ys first across second = (
  λ t c. ⊎_elim (λ here. first.0 t here) (λ there. across x t (Contains-head x xs) there)
      (Contains-append_cases xs ys t c),
  Each-together xs ys first.1 (λ s t c d. across s t (Contains-later x xs s c) d) second,
)

module _ (fills : ℤ → Bool) (count : CountedEdge → ℤ) (es : List CountedEdge)
    (arranged : IsBalancedArrangement count es) where
  -- the two sides of one edge
  two_sides : (e : CountedEdge) → Contains es e → (a b : Bool) →
      Each Differ (cond a (step_with_left true (ends_of e) ∷ []) []
      ++ cond b (step_with_left false (ends_of e) ∷ []) [])
  two_sides e at false false = tt
  two_sides e at false true = ((λ z c. absurd (elim c.1 [ ])), tt)
  two_sides e at true false = ((λ z c. absurd (elim c.1 [ ])), tt)
  two_sides e at true true = (
    (λ z c. ⊎_elim (λ is. subst (Differ (step_with_left true (ends_of e))) is apart) (λ none. absurd (elim none.1 [ ]))
        (Contains-cases (step_with_left false (ends_of e)) [] z c)),
    ((λ z c. absurd (elim c.1 [ ])), tt),
  )
    where
      apart : Differ (step_with_left true (ends_of e)) (step_with_left false (ends_of e))
      apart = false_from_ne_true (step_eq (step_with_left true (ends_of e)) (step_with_left false (ends_of e)))
          (λ same. ends_apart count es arranged e at
          (ap (λ (s : Step). s.from) (same_steps (step_with_left true (ends_of e)) (step_with_left false (ends_of e))
          same)))

  -- edges with the same ends
  equal_edges : (e f : CountedEdge) → ends_of e ≡ ends_of f → edge_eq (ends_of e) (ends_of f) ≡ true
  equal_edges e f same = edge_eq-from_ends (ends_of e) (ends_of f) (λ i. (same i).a) (λ i. (same i).b)

  -- the sides of the edges of a part of the list
  part_once : (fs : List CountedEdge) → ((f : CountedEdge) → Contains fs f → Contains es f) →
      Each (λ e f. edge_eq (ends_of e) (ends_of f) ≡ false) fs → Each Differ (flat_map (sides_of fills count es) fs)
  part_once [] inside h = tt
  part_once (e ∷ fs) inside h = Each-together (sides_of fills count es e) (flat_map (sides_of fills count es) fs)
      (two_sides e here (fills (winding_above count es e)) (fills (winding_below count es e))) across
      (part_once fs (λ f c. inside f (Contains-later e fs f c)) h.1)
    where
      here : Contains es e
      here = inside e (Contains-head e fs)

      across : (s t : Step) → Contains (sides_of fills count es e) s →
          Contains (flat_map (sides_of fills count es) fs) t → Differ s t
      across s t c d =
          let own = Contains-from_flat_map (sides_of fills count es) fs t d in
          false_from_ne_true (step_eq s t) (λ same. both_ways (edge_eq (ends_of e) (ends_of own.0)) (h.0 own.0 own.1)
          (equal_edges e own.0 (sym (listed_edge fills count es arranged e here s c)
          ∙ ap edge_of (same_steps s t same)
          ∙ listed_edge fills count es arranged own.0 (inside own.0 (Contains-later e fs own.0 own.1)) t own.2)))

  -- no side stands twice
  pub filled_sides_once : HasEachOnce (filled_sides fills count es)
  filled_sides_once = AllPairs-from_each Differ (filled_sides fills count es) (part_once es (λ f c. c)
      (Each-from_all_pairs (λ e f. edge_eq (ends_of e) (ends_of f) ≡ false) es arranged.planar.distinct))

  -- each leads from one point to another
  pub filled_sides_long : All HasLength (filled_sides fills count es)
  filled_sides_long = all_of_entries HasLength (filled_sides fills count es) (λ s c.
      let side = (sides_listed fills count es arranged).sides s c in
      long count es arranged s.to side.edge s side.along)
