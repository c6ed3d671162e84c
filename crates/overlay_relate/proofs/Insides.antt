-- Whether it is inside above an edge of a resolved contour, from the greatest edge under it, and at a point, from the
-- greatest edge below it.
use Rattle.std.proofs.Common.{◌≡◌, ◌⊎◌, ⊎_elim, inl, inr, Bool, true, false, not, cond, ℤ, pos, negsuc, ◌+ℤ◌, ◌<ℤ◌}
use Rattle.std.proofs.Common.{List, [], ◌∷◌, map, Contains, refl, sym, ap, ap₂, ◌∙◌, subst, arith}
use Rattle.std.specs.List.{AllPairs}
use Rattle.std.proofs.lemmas.Int.{ints}
use Rattle.std.proofs.lemmas.List.Elements.{All-contains}
use Rattle.overlay_geom.specs.Plane.{PlanePoint, Step, Edge, edge_eq, edge_of, steps_of, is_strictly_below, is_forward}
use Rattle.overlay_geom.specs.Plane.{midpoint, point_lt}
use Rattle.overlay_geom.specs.Edges.{CountedEdge, ends_of, subj_of, subject_edge, winding_by, winding_below}
use Rattle.overlay_geom.specs.Edges.{winding_above}
use Rattle.overlay_geom.specs.Settled.{MeetInEnds, IsSettledBy}
use Rattle.overlay_geom.proofs.Orders.{edge_eq-itself}
use Rattle.overlay_plane.specs.GreatestBelow.{IsGreatestBelow}
use Rattle.overlay_plane.specs.Heights.{covers, is_under}
use Rattle.overlay_plane.specs.Nodes.{IsBalancedArrangement}
use Rattle.overlay_plane.specs.Regions.{HasDistinctEnds}
use Rattle.overlay_plane.proofs.Entries.{all_of_entries, Contains-map, Contains-from_map}
use Rattle.overlay_plane.proofs.GreatestBelow.{winding_above_the_greatest_below}
use Rattle.overlay_plane.proofs.JoinedLists.{total-map}
use Rattle.overlay_plane.proofs.KeepingBalance.{added_contours_are_balanced}
use Rattle.overlay_plane.proofs.NextUnder.{IsGreatestUnderIn, above_the_greatest_under, nothing_under}
use Rattle.overlay_plane.proofs.SingleEntries.{one_entry}
use Rattle.overlay_relate.specs.Locations.{is_odd, odd_below}
use Rattle.overlay_relate.specs.Sweeps.{AreOfContour, inside_above}
use Rattle.overlay_relate.proofs.ApartEdges.{StandOnce, stand_once, settled_apart}
use Rattle.overlay_relate.proofs.Parities.{odd_winding}
use Rattle.overlay_geom.proofs.Mapped.{AllPairs-unmap}

-- the edges of steps, as they are counted
ends_are : (ss : List Step) → map ends_of (map subject_edge ss) ≡ map edge_of ss
ends_are [] = refl
ends_are (s ∷ ss) = ap (λ es. edge_of s ∷ es) (ends_are ss)

-- 1 more, or 1 less, turns the parity
odd_turned : (forward : Bool) (w : ℤ) → is_odd (w +ℤ cond forward (pos 1) (negsuc 0)) ≡ not (is_odd w)
odd_turned true w = grind (arith, ints)
odd_turned false w = grind (arith, ints)

module _ (es : List Edge) (of : AreOfContour es) where
  -- any two edges meet in ends alone
  apart : AllPairs MeetInEnds es
  apart = subst (AllPairs MeetInEnds) (sym of.is) of.resolved

  -- no edge stands twice
  pub distinct : StandOnce es
  distinct = stand_once es of.forward apart

  -- two different edges meet in ends alone
  pub settled : IsSettledBy (λ e. e) es
  settled = settled_apart es of.forward apart

  -- the edges as they are counted
  abbrev counted : List CountedEdge
  counted = map subject_edge (steps_of of.contour)

  ends : map ends_of counted ≡ es
  ends = ends_are (steps_of of.contour) ∙ sym of.is

  of_counted : (k : CountedEdge) → Contains counted k → Contains es (ends_of k)
  of_counted k c = subst (λ fs. Contains fs (ends_of k)) ends (Contains-map ends_of counted k c)

  counted_of : (e : Edge) → Contains es e → (k : CountedEdge) × Contains counted k × (ends_of k ≡ e)
  counted_of e c = Contains-from_map ends_of counted e (subst (λ fs. Contains fs e) (sym ends) c)

  counted_distinct : HasDistinctEnds counted
  counted_distinct = AllPairs-unmap (λ e f. edge_eq e f ≡ false) ends_of counted
      (subst (AllPairs (λ e f. edge_eq e f ≡ false)) (sym ends) distinct)

  -- they are balanced
  arrangement : IsBalancedArrangement subj_of counted
  arrangement = record {
    planar = record {
      forward = all_of_entries (λ k. point_lt k.a k.b ≡ true) counted
          (λ k c. All-contains (λ e. point_lt e.a e.b ≡ true) es (ends_of k) of.forward (of_counted k c));
      settled = λ k l c d differ. settled (ends_of k) (ends_of l) (of_counted k c) (of_counted l d) differ;
      distinct = counted_distinct;
    };
    balanced = (added_contours_are_balanced.subject of.contour).subj;
  }

  -- the winding tells how many edges are below
  odd_is : (p : PlanePoint) → odd_below es p ≡ is_odd (winding_by subj_of counted p)
  odd_is p = ap (λ fs. odd_below fs p) of.is ∙ sym (odd_winding (steps_of of.contour) p)
      ∙ ap is_odd (sym (total-map (λ k. cond (is_strictly_below (ends_of k) p) (subj_of k) (pos 0)) subject_edge
      (steps_of of.contour)))

  -- above an edge it is inside where it is not below
  turned : (k : CountedEdge) → Contains counted k → is_odd (winding_above subj_of counted k) ≡ not
      (is_odd (winding_below subj_of counted k))
  turned k c =
      let found = Contains-from_map subject_edge (steps_of of.contour) k c in
      ap (λ (l : CountedEdge). is_odd (winding_below subj_of counted k +ℤ subj_of l)) (sym found.2)
      ∙ odd_turned (is_forward found.0) (winding_below subj_of counted k)

  above_is : (k : CountedEdge) → Contains counted k → is_odd (winding_above subj_of counted k) ≡ inside_above es
      (ends_of k)
  above_is k c = turned k c ∙ ap not (sym (odd_is (midpoint (ends_of k))))

  -- an entry with the same ends is the one
  one : (k l : CountedEdge) → Contains counted k → Contains counted l → ends_of k ≡ ends_of l → k ≡ l
  one k l c d same = one_entry counted counted_distinct k l c d (subst (λ (e : Edge). edge_eq (ends_of k) e ≡ true) same
      (edge_eq-itself (ends_of k)))

  -- ---- above an edge

  module _ (e : Edge) (c : Contains es e) (x d : ℤ) (positive : pos 0 <ℤ d) (over : covers e x d ≡ true) where
    -- where no edge is under it
    pub inside_above_none : ((f : Edge) → Contains es f → covers f x d ≡ true → is_under f e x d ≡ false) →
        inside_above es e ≡ true
    inside_above_none none =
        let k = counted_of e c in
        let below = nothing_under subj_of counted arrangement k.0 k.1 x d positive
        (subst (λ (f : Edge). covers f x d ≡ true) (sym k.2) over)
        (λ f at over_f. subst (λ (g : Edge). is_under (ends_of f) g x d ≡ false) (sym k.2)
        (none (ends_of f) (of_counted f at) over_f)) in
        subst (λ (f : Edge). inside_above es f ≡ true) k.2 (ap not (odd_is (midpoint (ends_of k.0)) ∙ ap is_odd below))

    -- from the greatest edge under it
    pub inside_above_next : (g : Edge) → Contains es g → covers g x d ≡ true → is_under g e x d ≡ true →
        ((f : Edge) → Contains es f → covers f x d ≡ true → is_under f e x d ≡ true →
        (f ≡ g) ⊎ (is_under f g x d ≡ true)) →
        inside_above es e ≡ not (inside_above es g)
    inside_above_next g at_g over_g under greatest =
        let k = counted_of e c in
        let l = counted_of g at_g in
        let next : IsGreatestUnderIn counted (ends_of k.0) x d l.0 = record {
          entry = l.1;
          over = subst (λ (f : Edge). covers f x d ≡ true) (sym l.2) over_g;
          under = ap₂ (λ h f. is_under h f x d) l.2 k.2 ∙ under;
          greatest = λ f at over_f below. ⊎_elim
              (λ same. inl (one f l.0 at l.1 (same ∙ sym l.2)))
              (λ lower. inr (subst (λ (h : Edge). is_under (ends_of f) h x d ≡ true) (sym l.2) lower))
              (greatest (ends_of f) (of_counted f at) over_f
              (subst (λ (h : Edge). is_under (ends_of f) h x d ≡ true) k.2 below));
        } in
        let below = above_the_greatest_under subj_of counted arrangement k.0 k.1 x d positive
        (subst (λ (f : Edge). covers f x d ≡ true) (sym k.2) over) l.0 next in
        ap (inside_above es) (sym k.2)
        ∙ ap not (odd_is (midpoint (ends_of k.0)) ∙ ap is_odd below ∙ above_is l.0 l.1)
        ∙ ap (λ (f : Edge). not (inside_above es f)) l.2

  -- ---- at a point

  -- where no edge is below it
  pub even_where_none : (p : PlanePoint) → ((f : Edge) → Contains es f → is_strictly_below f p ≡ false) →
      odd_below es p ≡ false
  even_where_none p none = odd_is p
      ∙ ap is_odd (winding_above_the_greatest_below.none subj_of counted p (λ f c. none (ends_of f) (of_counted f c)))

  -- from the greatest edge below it
  pub odd_where_next : (p : PlanePoint) (g : Edge) → Contains es g → is_strictly_below g p ≡ true →
      ((f : Edge) → Contains es f → is_strictly_below f p ≡ true → (f ≡ g) ⊎ (is_under f g p.x p.d ≡ true)) →
      odd_below es p ≡ inside_above es g
  odd_where_next p g c below greatest =
      let l = counted_of g c in
      let next : IsGreatestBelow counted p l.0 = record {
        entry = l.1;
        below = subst (λ (f : Edge). is_strictly_below f p ≡ true) (sym l.2) below;
        greatest = λ f at low. ⊎_elim
            (λ same. inl (one f l.0 at l.1 (same ∙ sym l.2)))
            (λ lower. inr (subst (λ (h : Edge). is_under (ends_of f) h p.x p.d ≡ true) (sym l.2) lower))
            (greatest (ends_of f) (of_counted f at) low);
      } in
      odd_is p ∙ ap is_odd (winding_above_the_greatest_below.above subj_of counted arrangement p l.0 next)
      ∙ above_is l.0 l.1 ∙ ap (inside_above es) l.2
