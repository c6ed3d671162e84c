-- The edges that bound the shape of an arrangement tell where points lie in it: an odd number of them are strictly
-- below a point exactly where the shape fills the winding there.
use Rattle.std.proofs.Common.{◌≡◌, Bool, true, false, cond, ℤ, pos, negsuc, ◌+ℤ◌, ◌-ℤ◌, List, [], ◌∷◌, refl, sym, ap}
use Rattle.std.proofs.Common.{◌∙◌, subst, arith}
use Rattle.std.specs.List.{filter}
use Rattle.std.proofs.lemmas.Int.{ints}
use Rattle.overlay_geom.specs.Plane.{PlanePoint, is_strictly_below, total_below}
use Rattle.overlay_geom.specs.Edges.{CountedEdge, ends_of, all_ends, subj_of}
use Rattle.overlay_plane.specs.Predicates.{fills_at, fills_above, fills_below, IsFillable}
use Rattle.overlay_plane.specs.Regions.{one_if}
use Rattle.overlay_plane.proofs.RegionBelow.{region_from_selected_signs}
use Rattle.overlay_relate.specs.Bounded.{boundary_of, LiesSo}
use Rattle.overlay_relate.specs.Locations.{differ, is_odd, odd_below, IsLocated, IsLocatedBy}
use Rattle.overlay_relate.specs.declared.location.PointLocation.{PointLocation}

-- ---- parities

odd_one_if : (t : Bool) → is_odd (one_if t) ≡ t
odd_one_if true = refl
odd_one_if false = refl

-- an edge of which one side is filled turns the parity where it is strictly below, and any other keeps it
turned : (s : Bool) (w : ℤ) → is_odd (cond s (pos 1) (pos 0) +ℤ w) ≡ differ s (is_odd w)
turned true w = grind (arith, ints)
turned false w = grind (arith, ints)

turned_back : (s : Bool) (w : ℤ) → is_odd (cond s (negsuc 0) (pos 0) +ℤ w) ≡ differ s (is_odd w)
turned_back true w = grind (arith, ints)
turned_back false w = grind (arith, ints)

kept : (s : Bool) (w : ℤ) → is_odd (cond s (pos 0) (pos 0) +ℤ w) ≡ is_odd w
kept true w = grind (arith, ints)
kept false w = grind (arith, ints)

module _ (p : PlanePoint) where
  abbrev below : CountedEdge → Bool
  below e = is_strictly_below (ends_of e) p

  one_more : (e : CountedEdge) (fs : List CountedEdge) (a b : Bool) (w : ℤ) → is_odd w ≡ odd_below (all_ends fs) p →
      is_odd (cond (below e) (one_if a -ℤ one_if b) (pos 0) +ℤ w) ≡ odd_below
      (all_ends (cond (differ a b) (e ∷ fs) fs)) p
  one_more e fs true true w is = kept (below e) w ∙ is
  one_more e fs true false w is = turned (below e) w ∙ ap (differ (below e)) is
  one_more e fs false true w is = turned_back (below e) w ∙ ap (differ (below e)) is
  one_more e fs false false w is = kept (below e) w ∙ is

  -- the signs of the sides, summed, are odd where an odd number of edges with one such side are strictly below
  odd_signs : (above under : CountedEdge → Bool) (es : List CountedEdge) →
      is_odd (total_below ends_of (λ e. one_if (above e) -ℤ one_if (under e)) es p) ≡ odd_below
      (all_ends (filter (λ e. differ (above e) (under e)) es)) p
  odd_signs above under [] = refl
  odd_signs above under (e ∷ es) = one_more e (filter (λ f. differ (above f) (under f)) es) (above e) (under e)
      (total_below ends_of (λ f. one_if (above f) -ℤ one_if (under f)) es p) (odd_signs above under es)

-- ---- the shape

module _ (filled : ℤ → Bool) (es : List CountedEdge) (fillable : IsFillable filled es) (p : PlanePoint) where
  odd_where_filled : odd_below (boundary_of filled es) p ≡ fills_at filled es subj_of p
  odd_where_filled = sym (odd_signs p (fills_above filled es subj_of) (fills_below filled es subj_of) es)
      ∙ ap is_odd (region_from_selected_signs (λ s c. filled s) subj_of subj_of es (record {
        planar = fillable.planar;
        subj_balanced = fillable.balanced.subj;
        clip_balanced = fillable.balanced.subj;
        none = fillable.none;
      }) p)
      ∙ odd_one_if (fills_at filled es subj_of p)

-- so a point that lies so by the edges of the boundary lies so in the shape
pub lies_so : (boundary : List _) (p : PlanePoint) (l : PointLocation) → IsLocatedBy boundary p l → LiesSo boundary p l
lies_so boundary p l at filled es bounds =
    subst (λ t. IsLocated (boundary_of filled es) t p l) (odd_where_filled filled es bounds.fillable p)
    (subst (λ b. IsLocatedBy b p l) bounds.are at)
