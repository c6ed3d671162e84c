-- Edges that are below no sector add nothing to its winding, and tell of no sector.
use Rattle.std.proofs.Common.{◌≡◌, ℕ, zero, suc, ◌+◌, ◌-◌, ◌<◌, ◌≤◌, Bool, false, cond, ℤ, pos, ◌+ℤ◌}
use Rattle.std.proofs.Common.{List, [], ◌∷◌, ◌++◌, length, take, get_or, sym, ap, ap₂, ◌∙◌, subst, arith}
use Rattle.std.proofs.lemmas.Bool.{both_ways}
use Rattle.std.proofs.lemmas.List.{take_more, take_all, get_or_default}
use lib.IntN.{+ℤ_idr}
use Rattle.overlay_geom.specs.Edges.{CountedEdge, ends_of, subj_of}
use Rattle.overlay_geom.specs.Plane.{Point, Edge, in_plane}
use Rattle.overlay_geom.proofs.Totals.{total-append}
use Rattle.overlay_pairs.specs.Places.{IsAt}
use Rattle.overlay_sectors.specs.Blocks.{AreAside}
use Rattle.overlay_sectors.specs.Sectors.{is_below_near, winding_near, leads_from}
use Rattle.overlay_sectors.specs.Seen.{IsSeenUpTo}
use Rattle.overlay_sectors.specs.declared.flank.Flank.{Flank}
use Rattle.overlay_sectors.specs.declared.seen.Seen.{Seen}

-- by whether a number is less than another
by_lt : {P : Type 0} (a b : ℕ) → (a < b → P) → (b ≤ a → P) → P
by_lt a zero f g = g (omega arith)
by_lt zero (suc b) f g = f (omega arith)
by_lt (suc a) (suc b) f g = by_lt a b (λ lt. f (omega (arith, lt))) (λ ge. g (omega (arith, ge)))

-- an edge, where none stands
abbrev no_edge : CountedEdge
no_edge = record {
  a = record { x = pos 0; y = pos 0 };
  b = record { x = pos 0; y = pos 0 };
  counts = record { subj = pos 0; clip = pos 0; along = false; against = false };
}

module _ (h : Flank) (v : Point) (low : Edge → Bool) (es : List CountedEdge) where
  abbrev counted : CountedEdge → ℤ
  counted e = cond (is_below_near h (ends_of e) (in_plane v) (low (ends_of e))) (subj_of e) (pos 0)

  -- one edge more
  pub near_next : (i : ℕ) (e : CountedEdge) (t : Bool) (old new : ℤ) → IsAt es i e →
      is_below_near h (ends_of e) (in_plane v) (low (ends_of e)) ≡ t →
      old ≡ winding_near h subj_of (take i es) (in_plane v) low → new ≡ old +ℤ cond t (subj_of e) (pos 0) →
      new ≡ winding_near h subj_of (take (i + 1) es) (in_plane v) low
  near_next i e t old new at test so_far one =
      one
      ∙ ap₂ (λ y z. y +ℤ z) so_far (sym (ap (λ b. cond b (subj_of e) (pos 0)) test))
      ∙ ap (λ z. winding_near h subj_of (take i es) (in_plane v) low +ℤ z) (sym (+ℤ_idr (counted e)))
      ∙ sym (ap (λ fs. winding_near h subj_of fs (in_plane v) low)
      (take_more es i e at.0 ∙ ap (λ f. take i es ++ f ∷ []) at.1)
      ∙ total-append counted (take i es) (e ∷ []))

  -- edges that are aside
  pub near_skipped : (i k : ℕ) (w : ℤ) → w ≡ winding_near h subj_of (take i es) (in_plane v) low →
      AreAside es v i (i + k) → w ≡ winding_near h subj_of (take (i + k) es) (in_plane v) low
  near_skipped i zero w is aside =
      let same : i + zero ≡ i = omega arith in
      subst (λ m. w ≡ winding_near h subj_of (take m es) (in_plane v) low) (sym same) is
  near_skipped i (suc k) w is aside =
      let so_far = near_skipped i k w is (λ n d from to. aside n d from (omega (arith, to))) in
      let on : i + suc k ≡ (i + k) + 1 = omega arith in
      subst (λ m. w ≡ winding_near h subj_of (take m es) (in_plane v) low) (sym on)
      (by_lt (i + k) (length es)
      (λ (lt : (i + k) < length es).
      near_next (i + k) (get_or es (i + k) no_edge) false w w
      (lt, get_or_default es (i + k) (get_or es (i + k) no_edge) no_edge lt)
      ((aside (i + k) no_edge (omega arith) (omega arith) lt).not_below h
      (low (ends_of (get_or es (i + k) no_edge)))) so_far (sym (+ℤ_idr w)))
      (λ (ge : length es ≤ (i + k)).
      so_far ∙ ap (λ fs. winding_near h subj_of fs (in_plane v) low)
      (take_all (i + k) es ge ∙ sym (take_all ((i + k) + 1) es (omega (arith, ge))))))

  pub near_passed : (i j : ℕ) (w : ℤ) → i < j → w ≡ winding_near h subj_of (take i es) (in_plane v) low →
      AreAside es v i j → w ≡ winding_near h subj_of (take j es) (in_plane v) low
  near_passed i j w lt is aside =
      let on : i + (j - i) ≡ j = omega (arith, lt) in
      subst (λ m. w ≡ winding_near h subj_of (take m es) (in_plane v) low) on
      (near_skipped i (j - i) w is (subst (λ m. AreAside es v i m) (sym on) aside))

-- no sector was left out
pub seen_passed : (filled : ℤ → Bool) (es : List CountedEdge) (v : Point) (i j : ℕ) (s : Seen) →
    AreAside es v i j → IsSeenUpTo filled es (in_plane v) i s → IsSeenUpTo filled es (in_plane v) j s
seen_passed filled es v i j s aside seen = record {
  right = seen.right;
  lowest = seen.lowest;
  rays = λ h k e lt at leads. by_lt k i
      (λ (before : k < i). seen.rays h k e before at leads)
      (λ (from : i ≤ k). absurd (both_ways (leads_from h (ends_of e) (in_plane v))
      (subst (λ (f : CountedEdge). leads_from h (ends_of f) (in_plane v) ≡ false) at.1
      ((aside k e from lt at.0).not_from h)) leads));
}
