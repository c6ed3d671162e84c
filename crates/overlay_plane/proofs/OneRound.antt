-- A solver takes one round of each list: the whole points through which it leads an edge are determined by where other
-- edges meet it, or by the hot points whose pixels it meets.
use Rattle.std.proofs.Common.{◌≡◌, ◌⊎◌, inl, inr, Bool, true, false, List, [], ◌∷◌, ◌++◌, map, Contains, refl, sym, ap}
use Rattle.std.proofs.Common.{flat_map, subst, ◌∙◌}
use Rattle.std.specs.Bool.{⊤}
use Rattle.std.proofs.lemmas.Bool.{both_ways}
use Rattle.std.proofs.lemmas.List.Elements.{All-contains}
use Rattle.overlay_geom.specs.Plane.{Point, PlanePoint, SamePlace, IsOn, steps_through}
use Rattle.overlay_geom.specs.Edges.{CountedEdge, ends_of}
use Rattle.overlay_geom.specs.Merged.{IsMerged}
use Rattle.overlay_geom.specs.Rounding.{nearest_point, IsRounding}
use Rattle.overlay_geom.proofs.Entries.{Contains-head, Contains-later}
use Rattle.overlay_geom.proofs.MergedOnce.{IsMerged-unique}
use Rattle.overlay_geom.proofs.PointOrder.{IsBefore}
use Rattle.overlay_geom.proofs.Signs.{linear}
use Rattle.overlay_plane.specs.Cutting.{pieces_through, piece_along}
use Rattle.overlay_plane.specs.EdgeLists.{IsForwardBy}
use Rattle.overlay_plane.specs.Meetings.{MeetsAnother, MeetInWholePoints}
use Rattle.overlay_plane.specs.Rounds.{Round, IsRound, IsCutAt, IsSmaller, whole_cuts, pieces_of}
use Rattle.overlay_plane.specs.Snaps.{IsHot, IsSnap, IsSnappedAt}
use Rattle.overlay_plane.proofs.Entries.{Contains-from_any, flat_map-same}
use Rattle.overlay_plane.proofs.LaterEntries.{Each-from_all_pairs}
use Rattle.overlay_plane.proofs.PlaceOrder.{IsUpToPlace, place_of_smaller, place_of_same, rounded_alike}
use Rattle.overlay_plane.proofs.SameMapped.{same_mapped}
use Rattle.overlay_plane.proofs.SmallerPoints.{is_smaller, Decides-is_smaller, smaller-irreflexive, smaller-transitive}
use Rattle.overlay_plane.proofs.SmallerPoints.{same_place-from_tie, same_place-trans}
use Rattle.overlay_plane.proofs.SnapPieces.{snap_leads_forward}
use Rattle.overlay_plane.proofs.WholePlaces.{rounded_whole}

-- ---- smaller points

-- a point is not smaller than one at its place
smaller_apart : (p q : PlanePoint) → IsSmaller p q → ¬ (SamePlace p q)
smaller_apart p q (inl lt) same = let level = same.0 in omega linear
smaller_apart p q (inr (level, lt)) same = let high = same.1 in omega linear

-- of two points one alone is smaller
smaller_one_way : (p q : PlanePoint) → IsSmaller p q → ¬ (IsSmaller q p)
smaller_one_way p q there back = both_ways (is_smaller p p) (smaller-irreflexive p)
    (smaller-transitive p q p ((Decides-is_smaller p q).1 there) ((Decides-is_smaller q p).1 back))

-- a place is a place the other way round
same_place-turned : (p q : PlanePoint) → SamePlace p q → SamePlace q p
same_place-turned p q (same_x, same_y) = (sym same_x, sym same_y)

-- p is smaller than q, or q is up to it
smaller_or_up : (p q : PlanePoint) → IsSmaller p q ⊎ IsUpToPlace q p
smaller_or_up p q = by (is_smaller p q) (is_smaller q p) refl refl
  where
    by : (s t : Bool) → is_smaller p q ≡ s → is_smaller q p ≡ t → IsSmaller p q ⊎ IsUpToPlace q p
    by true t here there = inl ((Decides-is_smaller p q).0 here)
    by false true here there = inr (place_of_smaller q p ((Decides-is_smaller q p).0 there))
    by false false here there = inr (place_of_same q p (same_place-from_tie q p there here))

-- what is smaller than a point is smaller than all at its place
smaller_to_same : (p q r : PlanePoint) → IsSmaller p r → SamePlace q r → IsSmaller p q
smaller_to_same p q r smaller same = by (is_smaller p q) (is_smaller q p) refl refl
  where
    by : (s t : Bool) → is_smaller p q ≡ s → is_smaller q p ≡ t → IsSmaller p q
    by true t here there = (Decides-is_smaller p q).0 here
    by false true here there = absurd (smaller_apart q r ((Decides-is_smaller q r).0
        (smaller-transitive q p r there ((Decides-is_smaller p r).1 smaller))) same)
    by false false here there = absurd (smaller_apart p r smaller
        (same_place-trans p q r (same_place-from_tie p q here there) same))

-- ---- cuts

-- where two lists of points cut one edge, a rounding takes them to the same whole points
pub cut_alike : (whole_at : PlanePoint → Point) → IsRounding whole_at → (es : List CountedEdge) (e : CountedEdge)
    (ps qs : List PlanePoint) → IsCutAt es e ps → IsCutAt es e qs → map whole_at ps ≡ map whole_at qs
cut_alike whole_at rounding es e ps qs a b =
    same_mapped (λ p. ⊤) IsSmaller SamePlace whole_at same_place-turned (λ p q r i j k. smaller_to_same p q r)
    smaller_one_way smaller_apart rounding.one ps qs (λ p c. tt) (λ p c. tt)
    (Each-from_all_pairs IsSmaller ps a.ascending) (Each-from_all_pairs IsSmaller qs b.ascending)
    (stand ps qs a b) (stand qs ps b a)
  where
    stand : (ps qs : List PlanePoint) → IsCutAt es e ps → IsCutAt es e qs → (p : PlanePoint) → Contains ps p →
        (q : PlanePoint) × Contains qs q × SamePlace p q
    stand ps qs a b p has = Contains-from_any (SamePlace p) qs
        (b.every p (All-contains (MeetsAnother es e) ps p a.only has))

-- ---- pixels

module _ (e : CountedEdge) (before : IsBefore e.a e.b) where
  -- p is smaller than q, in another pixel
  abbrev IsEarlier : PlanePoint → PlanePoint → Type 0
  IsEarlier p q = IsSmaller p q × (¬ (nearest_point p ≡ nearest_point q))

  -- what is so before a point of the edge is so before all in its pixel
  earlier_to_same : (p q r : PlanePoint) → IsOn (ends_of e) p → IsOn (ends_of e) q → IsOn (ends_of e) r →
      IsEarlier p r → nearest_point q ≡ nearest_point r → IsEarlier p q
  earlier_to_same p q r on_p on_q on_r (smaller, other) same = (
    by (smaller_or_up p q),
    (λ one. other (one ∙ same)),
  )
    where
      by : IsSmaller p q ⊎ IsUpToPlace q p → IsSmaller p q
      by (inl first) = first
      by (inr up) = absurd (other (sym (rounded_alike (ends_of e) before q p r on_q on_p on_r up
          (place_of_smaller p r smaller) same) ∙ same))

  -- where two lists of points stand for the hot points whose pixels the edge meets, these are in one order
  pub snapped_alike : (es : List CountedEdge) (ps qs : List PlanePoint) → IsSnappedAt es e ps → IsSnappedAt es e qs →
      map nearest_point ps ≡ map nearest_point qs
  snapped_alike es ps qs a b =
      same_mapped (IsOn (ends_of e)) IsEarlier (λ p q. nearest_point p ≡ nearest_point q) nearest_point
      (λ p q same. sym same) earlier_to_same (λ p q there back. smaller_one_way p q there.0 back.0)
      (λ p q there same. there.1 same) (λ p q same. same) ps qs
      (λ p has. All-contains (IsOn (ends_of e)) ps p a.on has)
      (λ p has. All-contains (IsOn (ends_of e)) qs p b.on has)
      (Each-from_all_pairs IsEarlier ps (λ i j d u v. (a.ascending i j d u v, a.apart i j d u v)))
      (Each-from_all_pairs IsEarlier qs (λ i j d u v. (b.ascending i j d u v, b.apart i j d u v)))
      (stand ps qs a b) (stand qs ps b a)
    where
      stand : (ps qs : List PlanePoint) → IsSnappedAt es e ps → IsSnappedAt es e qs → (p : PlanePoint) →
          Contains ps p → (q : PlanePoint) × Contains qs q × (nearest_point p ≡ nearest_point q)
      stand ps qs a b p has =
          let found = Contains-from_any (λ q. nearest_point q ≡ nearest_point p) qs
          (b.every p (All-contains (IsOn (ends_of e)) ps p a.on has)
          (All-contains (λ p. IsHot es (nearest_point p)) ps p a.hot has)) in
          (found.0, found.1, sym found.2)

-- ---- rounds

-- what takes each entry to the same maps a list to the same list
mapped_same : {X Y : Type 0} (f g : X → Y) (xs : List X) → ((x : X) → Contains xs x → f x ≡ g x) → map f xs ≡ map g xs
mapped_same f g [] h = refl
mapped_same f g (x ∷ xs) h = ap (λ v. v ∷ map f xs) (h x (Contains-head x xs))
    ∙ ap (λ vs. g x ∷ vs) (mapped_same f g xs (λ y c. h y (Contains-later x xs y c)))

-- rounds that merge one list and lead each edge through the same whole points leave the same pieces
same_pieces : (old : List CountedEdge) (r s : Round) → IsMerged old r.edges → IsMerged old s.edges →
    ((e : CountedEdge) → Contains r.edges e → whole_cuts r e ≡ whole_cuts s e) → pieces_of r ≡ pieces_of s
same_pieces old r s merged merged' same =
    flat_map-same (pieces_through (whole_cuts r)) (pieces_through (whole_cuts s)) r.edges
    (λ e has. ap (λ vs. map (piece_along e) (steps_through e.a (vs ++ e.b ∷ []))) (same e has))
    ∙ ap (λ es. flat_map (pieces_through (whole_cuts s)) es) (IsMerged-unique old r.edges s.edges merged merged')

module _ (old : List CountedEdge) (r s : Round) where
  -- the edge is cut alike in both
  cut_in : IsRound old r → IsRound old s → (e : CountedEdge) → Contains r.edges e →
      IsCutAt r.edges e (r.cuts e) × IsCutAt r.edges e (s.cuts e)
  cut_in a b e has = (
    All-contains (λ g. IsCutAt r.edges g (r.cuts g)) r.edges e a.cut has,
    subst (λ es. IsCutAt es e (s.cuts e)) (sym same)
        (All-contains (λ g. IsCutAt s.edges g (s.cuts g)) s.edges e b.cut (subst (λ es. Contains es e) same has)),
  )
    where
      same : r.edges ≡ s.edges
      same = IsMerged-unique old r.edges s.edges a.merged b.merged

  -- two cutting rounds that round alike leave the same pieces
  pub one_round : IsRound old r → IsRound old s → ((p : PlanePoint) → r.whole_at p ≡ s.whole_at p) →
      pieces_of r ≡ pieces_of s
  one_round a b alike = same_pieces old r s a.merged b.merged (λ e has. let both = cut_in a b e has in
      cut_alike r.whole_at a.rounding r.edges e (r.cuts e) (s.cuts e) both.0 both.1
      ∙ mapped_same r.whole_at s.whole_at (s.cuts e) (λ p c. alike p))

  -- so do two of edges that meet in whole points alone, however they round
  pub one_whole_round : MeetInWholePoints r.edges → IsRound old r → IsRound old s → pieces_of r ≡ pieces_of s
  one_whole_round whole a b = same_pieces old r s a.merged b.merged (λ e has. let both = cut_in a b e has in
      cut_alike r.whole_at a.rounding r.edges e (r.cuts e) (s.cuts e) both.0 both.1
      ∙ mapped_same r.whole_at s.whole_at (s.cuts e) (λ p c.
      let meets = All-contains (MeetsAnother r.edges e) (s.cuts e) p both.1.only c in
      let at = whole e meets.0 p has meets.1 meets.3 in
      rounded_whole r.whole_at at.0 p a.rounding at.1 ∙ sym (rounded_whole s.whole_at at.0 p b.rounding at.1)))

  -- and two snaps
  pub one_snap : IsForwardBy ends_of old → IsSnap old r → IsSnap old s → pieces_of r ≡ pieces_of s
  one_snap forward a b = same_pieces old r s a.merged b.merged (λ e has.
      mapped_same r.whole_at nearest_point (r.cuts e) (λ p c. a.rounding p)
      ∙ snapped_alike e (snap_leads_forward old r forward a e has) r.edges (r.cuts e) (s.cuts e)
      (All-contains (λ g. IsSnappedAt r.edges g (r.cuts g)) r.edges e a.cut has)
      (subst (λ es. IsSnappedAt es e (s.cuts e)) (sym same)
      (All-contains (λ g. IsSnappedAt s.edges g (s.cuts g)) s.edges e b.cut (subst (λ es. Contains es e) same has)))
      ∙ sym (mapped_same s.whole_at nearest_point (s.cuts e) (λ p c. b.rounding p)))
    where
      same : r.edges ≡ s.edges
      same = IsMerged-unique old r.edges s.edges a.merged b.merged
