-- Near p each point, on an edge or not, has the winding of a sector.
use Rattle.std.proofs.Common.{◌≡◌, ⊎_elim, Bool, true, false, cond, ◌&&◌, ◌||◌, ℕ, ℤ, pos, ◌*ℤ◌, ◌<ℤ◌}
use Rattle.std.proofs.Common.{int_lt, List, Contains, refl, ap, ◌∙◌}
use Rattle.std.specs.Prelude.{Option, Some, None}
use Rattle.std.specs.Ordering.{int_eq}
use Rattle.std.proofs.lemmas.Bool.{and_parts, and_from, both_ways}
use Rattle.overlay_geom.specs.Edges.{CountedEdge, ends_of, winding_by}
use Rattle.overlay_geom.specs.Plane.{PlanePoint, Edge, side, in_plane}
use Rattle.overlay_plane.proofs.Tests.{lt_from_test, le_from_test, test_from_lt, test_from_le, same_tests}
use Rattle.overlay_plane.proofs.Totals.{total-same}
use Rattle.overlay_relate.specs.Closures.{AreWithinPart}
use Rattle.overlay_relate.proofs.NearPoints.{size}
use Rattle.overlay_sectors.specs.Sectors.{spans_beside, far_end, leads_from, is_low, is_below_near, winding_near}
use Rattle.overlay_sectors.specs.Sectors.{IsSector}
use Rattle.overlay_sectors.specs.declared.flank.Flank.{Flank}
use Rattle.overlay_sectors.proofs.NearSectors.{IsOnFlank, near_winding}
use Rattle.overlay_sectors.proofs.TopRays.{IsRay, ray_of, IsTopRay, is_ray_below, some_top, not_lower, leads_up}
use Rattle.overlay_sectors.proofs.TopRays.{below_with}

-- only of edges that lead from p it matters whether they are low
pub same_if_ray : (s t u v w : Bool) → ((s && u) ≡ true → v ≡ w) → (s && (t || (u && v))) ≡ (s && (t || (u && w)))
same_if_ray true true u v w same = refl
same_if_ray true false true v w same = same refl
same_if_ray true false false v w same = refl
same_if_ray false t u v w same = refl

pub same_near : (h : Flank) (count : CountedEdge → ℤ) (es : List CountedEdge) (p : PlanePoint)
    (one other : Edge → Bool) →
    ((e : CountedEdge) → Contains es e → leads_from h (ends_of e) p ≡ true → one (ends_of e) ≡ other (ends_of e)) →
    winding_near h count es p one ≡ winding_near h count es p other
same_near h count es p one other same = total-same
    (λ e. cond (is_below_near h (ends_of e) p (one (ends_of e))) (count e) (pos 0))
    (λ e. cond (is_below_near h (ends_of e) p (other (ends_of e))) (count e) (pos 0)) es
    (λ e c. ap (λ t. cond t (count e) (pos 0))
    (same_if_ray (spans_beside h (ends_of e) p) (int_lt (pos 0) (side (ends_of e) p))
    (int_eq (side (ends_of e) p) (pos 0)) (one (ends_of e)) (other (ends_of e)) (same e c)))

-- a sector with this winding
pub record WindsAsSector (h : Flank) (es : List CountedEdge) (p q : PlanePoint) : Type 0 where
  pub sector : Option Edge
  pub is : IsSector h es p sector
  pub winds : (count : CountedEdge → ℤ) → winding_by count es q ≡ winding_near h count es p (is_low h sector)

module _ (n : ℕ) (p q : PlanePoint) (near : AreWithinPart n q p) (h : Flank) (on : IsOnFlank h p q)
    (es : List CountedEdge) (fits : (e : CountedEdge) → Contains es e → (size (ends_of e) *ℤ p.d) <ℤ pos n) where
  -- none of the edges that lead from p is below q
  lowest : ((f : CountedEdge) → Contains es f → is_ray_below h p q (ends_of f) ≡ false) → WindsAsSector h es p q
  lowest none = record {
    sector = None;
    is = tt;
    winds = λ count. near_winding n p q near h on count es fits
        ∙ same_near h count es p (λ f. int_lt (pos 0) (side f q)) (is_low h None)
        (λ e c ray. by (leads_from h (ends_of e) p) (int_lt (pos 0) (side (ends_of e) q)) ray (none e c));
  }
    where
      by : (s t : Bool) → s ≡ true → (s && t) ≡ false → t ≡ false
      by true t is not_both = not_both
      by false t is not_both = absurd (both_ways false refl is)

  -- one is the topmost
  next_above : (e : CountedEdge) → IsTopRay h p q es e → WindsAsSector h es p q
  next_above e at = record {
    sector = Some (ends_of e);
    is = (e, at.entry, refl, leads);
    winds = λ count. near_winding n p q near h on count es fits
        ∙ same_near h count es p (λ f. int_lt (pos 0) (side f q)) (is_low h (Some (ends_of e))) same;
  }
    where
      parts : (leads_from h (ends_of e) p ≡ true) × (int_lt (pos 0) (side (ends_of e) q) ≡ true)
      parts = and_parts (leads_from h (ends_of e) p) (int_lt (pos 0) (side (ends_of e) q)) at.below

      leads : leads_from h (ends_of e) p ≡ true
      leads = parts.0

      spans : spans_beside h (ends_of e) p ≡ true
      spans = (and_parts (spans_beside h (ends_of e) p) (int_eq (side (ends_of e) p) (pos 0)) leads).0

      ray : IsRay h (ends_of e) p
      ray = ray_of h (ends_of e) p leads

      same : (f : CountedEdge) → Contains es f → leads_from h (ends_of f) p ≡ true →
          int_lt (pos 0) (side (ends_of f) q) ≡ is_low h (Some (ends_of e)) (ends_of f)
      same f c leads_f =
          let ray_f = ray_of h (ends_of f) p leads_f in
          same_tests (int_lt (pos 0) (side (ends_of f) q)) (is_low h (Some (ends_of e)) (ends_of f))
          (λ t. test_from_le (pos 0) (side (ends_of f) (in_plane (far_end h (ends_of e))))
          (not_lower p (ends_of f) (ends_of e) ray_f.level ray.level ray.wide h spans
          (at.top f c (and_from (leads_from h (ends_of f) p) (int_lt (pos 0) (side (ends_of f) q)) leads_f t))))
          (λ t. test_from_lt (pos 0) (side (ends_of f) q)
          (below_with p q h on (ends_of f) (ends_of e) ray_f.level ray.level ray_f.wide ray.wide
          (leads_up p (ends_of f) (ends_of e) ray_f.level ray.level ray.wide h spans
          (le_from_test (pos 0) (side (ends_of f) (in_plane (far_end h (ends_of e)))) t))
          (lt_from_test (pos 0) (side (ends_of e) q) parts.1)))

  pub winds_as_sector : WindsAsSector h es p q
  winds_as_sector = ⊎_elim lowest (λ (e, at). next_above e at) (some_top h p q es)
