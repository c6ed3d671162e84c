-- The edges from a place on that an edge may meet elsewhere than in ends: those of its run that share a height with it,
-- or those whose boxes a search finds.
use Rattle.std.proofs.Common.{◌≡◌, ◌⊎◌, ⊎_elim, inl, inr, ℕ, ◌<◌, ◌≤◌, ◌<ℤ◌, List, All, Contains, length}
use Rattle.std.proofs.Common.{get_or, ap, ◌∙◌, subst, arith}
use Rattle.std.specs.List.Sorted.{IsPermutation}
use Rattle.std.proofs.lemmas.Bool.{cases_lt}
use Rattle.std.proofs.lemmas.List.{get_or_default}
use Rattle.overlay_geom.specs.Edges.{CountedEdge}
use Rattle.overlay_order.specs.Content.{IsAscending, IsHeld}
use Rattle.overlay_pairs.specs.Bundles.{IsPassed}
use Rattle.overlay_pairs.specs.Extents.{Extent, extent_of, extents_of, IsApart, ShareNoHeight}
use Rattle.overlay_pairs.specs.Places.{IsAt, IsRunEnd}
use Rattle.overlay_pairs.specs.Near.{run_of, AreNearBehind, AreNearHeights, IsFar, IsSearchedBy, IsSearchedTo}
use Rattle.overlay_pairs.specs.Settle.{AreSettled}
use Rattle.overlay_pairs.proofs.FarEdges.{settled_where_far}
use Rattle.overlay_pairs.proofs.PlacedExtents.{extent_there, item_there}
use Rattle.overlay_pairs.proofs.SettledLists.{right_from}

module _ (es : List CountedEdge) (first end : ℕ) (e : CountedEdge) (limit : ℕ) (held : All (IsHeld limit) es)
    (e_held : IsHeld limit e) (up : IsAscending es) (run : IsRunEnd es e.b.x first end) where
  -- an edge from the end of its run on starts right of its end
  right_of_run : (j : ℕ) (f : CountedEdge) → end ≤ j → IsAt es j f → e.b.x <ℤ f.a.x
  right_of_run j f past at_f =
      let next = get_or es end e in
      let inside : end < length es = omega (arith, past, at_f.0) in
      let right = run.right next (inside, get_or_default es end next e inside) in
      let further = right_from e es end j e up past at_f.0 right in
      subst (λ (h : CountedEdge). e.b.x <ℤ h.a.x) (get_or_default es j e f at_f.0 ∙ at_f.1) further

  -- an edge far from it meets it in ends alone
  settled : (j : ℕ) (f : CountedEdge) → IsAt es j f → IsFar e f → AreSettled e f
  settled j f at_f far = settled_where_far limit e f e_held (subst (IsHeld limit) at_f.1 (held j f at_f.0)) far

  -- the edges of its run that share a height with it are all
  pub heights_near : (s : Extent) (js : List ℕ) → s ≡ extent_of e first → AreNearHeights es s first end js →
      AreNearBehind es e first js
  heights_near s js is found = record {
    within = λ j has. let within = found.within j has in (within.0, omega (arith, within.1, run.within));
    all = λ j f past at_f. ⊎_elim
        (λ (inside : j < end). ⊎_elim (λ has. inl has)
        (λ apart. inr (settled j f at_f (inr (subst (λ t. ShareNoHeight t (extent_of f j)) is apart))))
        (found.all j f past inside at_f))
        (λ (behind : end ≤ j). inr (settled j f at_f (inl (right_of_run j f behind at_f)))) (cases_lt j end);
  }

  -- a search for boxes that do not lie apart from that of its run finds them, where those passed over are of edges that
  -- it meets in ends alone
  pub searched_by : (IsPassed : Extent → Type 0) (ss : List Extent) (js : List ℕ) → IsPermutation (extents_of es) ss →
      ((j : ℕ) (f : CountedEdge) → first ≤ j → IsAt es j f → IsPassed (extent_of f j) → AreSettled e f) →
      IsSearchedBy IsPassed ss (run_of e first end) (length ss) js → AreNearBehind es e first js
  searched_by IsPassed ss js moved settles searched = record { within = within; all = all }
    where
      within : (j : ℕ) → Contains js j → (first ≤ j) × (j < length es)
      within j has =
          let found = searched.from j has in
          let edge = item_there extent_of es ss moved found.place found.extent found.at in
          let begins : edge.0 ≡ j = ap (λ (s : Extent). s.first) edge.3 ∙ found.is in
          let last : edge.0 ≡ found.extent.last = ap (λ (s : Extent). s.last) edge.3 in
          let inside = edge.2.0 in (
            ⊎_elim
                (λ (before : j < first). absurd (found.near (inr (inr (inr (omega (arith, begins, last, before)))))))
                (λ (past : first ≤ j). past) (cases_lt j first),
            omega (arith, begins, inside),
          )

      all : (j : ℕ) (f : CountedEdge) → first ≤ j → IsAt es j f → Contains js j ⊎ AreSettled e f
      all j f past at_f =
          let has = extent_there extent_of es ss moved j f at_f in
          ⊎_elim (λ passed. inr (settles j f past at_f passed)) (λ there. inl there)
          (searched.all has.0 (extent_of f j) has.1 (has.1, has.2))

  -- an edge whose box lies apart from that of its run
  settled_apart : (j : ℕ) (f : CountedEdge) → first ≤ j → IsAt es j f → IsApart (run_of e first end) (extent_of f j) →
      AreSettled e f
  settled_apart j f past at_f apart = settled j f at_f (far apart)
    where
      far : IsApart (run_of e first end) (extent_of f j) → IsFar e f
      far (inl under) = inr (inl under)
      far (inr (inl above)) = inr (inr above)
      far (inr (inr (inl behind))) = inl (right_of_run j f (omega (arith, behind)) at_f)
      far (inr (inr (inr before))) = absurd (omega (arith, past, before))

  -- a search that passes over boxes that lie apart
  pub searched_near : (ss : List Extent) (js : List ℕ) → IsPermutation (extents_of es) ss →
      IsSearchedTo ss (run_of e first end) (length ss) js → AreNearBehind es e first js
  searched_near ss js moved searched = searched_by (IsApart (run_of e first end)) ss js moved settled_apart searched

  -- a search that also passes over boxes of edges in bundles beside the edge
  pub searched_beside : (ss : List Extent) (js : List ℕ) → IsPermutation (extents_of es) ss →
      IsSearchedBy (IsPassed es e (run_of e first end)) ss (run_of e first end) (length ss) js →
      AreNearBehind es e first js
  searched_beside ss js moved searched =
      searched_by (IsPassed es e (run_of e first end)) ss js moved (λ j f past at_f passed.
      ⊎_elim (λ apart. settled_apart j f past at_f apart)
      (λ (beside : (g : CountedEdge) → IsAt es j g → AreSettled e g). beside f at_f) passed) searched
