-- Sectors found by the edges of a query, and the location that they tell.
use Rattle.std.proofs.Common.{◌≡◌, ⊎_elim, Bool, true, false, not, ◌||◌, ℕ, ℤ, ◌+ℤ◌, List, [], ◌∷◌}
use Rattle.std.proofs.Common.{◌++◌, Contains, refl, sym, ap, ◌∙◌, subst, arith}
use Rattle.std.specs.Prelude.{Option, Some, None}
use Rattle.std.specs.List.{All}
use Rattle.std.proofs.lemmas.List.Elements.{Contains-append_cases}
use Rattle.overlay_geom.specs.Edges.{CountedEdge, ends_of}
use Rattle.overlay_geom.specs.Plane.{PlanePoint, Edge, in_plane}
use Rattle.overlay_geom.proofs.Entries.{Contains-cases}
use Rattle.overlay_order.specs.Content.{IsHeld}
use Rattle.overlay_sectors.specs.Located.{LiesIn}
use Rattle.overlay_sectors.specs.Sectors.{fills_sector, leads_from, is_low}
use Rattle.overlay_sectors.specs.Seen.{location_of, has_seen, IsSeenOf, IsSeenUpTo}
use Rattle.overlay_located.specs.Tells.{near_sum}
use Rattle.overlay_located.specs.Queries.{Asked, sum_on, IsTold, SeesRay, SeesRays}
use Rattle.overlay_sectors.specs.declared.flank.Flank.{Flank}
use Rattle.overlay_sectors.specs.declared.flank.Flank.TheVariants.{Left, Right}
use Rattle.overlay_sectors.specs.declared.seen.Seen.{Seen}
use Rattle.overlay_sectors.proofs.SeenSectors.{found, still, seen_right, seen_lowest_by, located_by_seen}
use Rattle.overlay_sectors.proofs.SeenSectors.{content_leads_right}

module _ (filled : ℤ → Bool) (es : List CountedEdge) (p : PlanePoint) where
  -- no edges
  pub sees_none : (s : Seen) → SeesRays filled es p [] s s
  sees_none s = record {
    right = λ r. r;
    still = λ t had. had;
    found = λ e at h leads. absurd (omega (arith, at.1));
  }

  -- edges one after the other
  pub sees_on : (rs ts : List CountedEdge) (old mid new : Seen) → SeesRays filled es p rs old mid →
      SeesRays filled es p ts mid new → SeesRays filled es p (rs ++ ts) old new
  sees_on rs ts old mid new one two = record {
    right = λ r. two.right (one.right r);
    still = λ t had. two.still t (one.still t had);
    found = λ e at h leads. ⊎_elim
        (λ first. two.still (fills_sector filled h es p (Some (ends_of e))) (one.found e first h leads))
        (λ rest. two.found e rest h leads) (Contains-append_cases rs ts e at);
  }

  module _ (h : Flank) (e : CountedEdge) (old new : Seen) (sees : SeesRay filled es p h e old new) where
    ray_still : (t : Bool) → has_seen old t ≡ true → has_seen new t ≡ true
    ray_still t had = by (leads_from h (ends_of e) p) refl
      where
        by : (b : Bool) → leads_from h (ends_of e) p ≡ b → has_seen new t ≡ true
        by true leads = still (fills_sector filled h es p (Some (ends_of e))) old new (sees.ray leads) t had
        by false apart = subst (λ s. has_seen s t ≡ true) (sym (sees.other apart)) had

    ray_right : (leads_from h (ends_of e) p ≡ true → Contains es e) → IsSeenOf filled es p old →
        IsSeenOf filled es p new
    ray_right entry right = by (leads_from h (ends_of e) p) refl
      where
        by : (b : Bool) → leads_from h (ends_of e) p ≡ b → IsSeenOf filled es p new
        by true leads = seen_right filled es p h (Some (ends_of e)) (e, entry leads, refl, leads) old new
            (sees.ray leads) right
        by false apart = subst (IsSeenOf filled es p) (sym (sees.other apart)) right

    ray_found : leads_from h (ends_of e) p ≡ true → has_seen new (fills_sector filled h es p (Some (ends_of e))) ≡ true
    ray_found leads = found (fills_sector filled h es p (Some (ends_of e))) old new (sees.ray leads)

  -- the sectors next above one edge, left and right
  pub sees_both : (e : CountedEdge) (old mid new : Seen) →
      ((h : Flank) → leads_from h (ends_of e) p ≡ true → Contains es e) → SeesRay filled es p Left e old mid →
      SeesRay filled es p Right e mid new → SeesRays filled es p (e ∷ []) old new
  sees_both e old mid new entry left right = record {
    right = λ r. ray_right Right e mid new right (entry Right) (ray_right Left e old mid left (entry Left) r);
    still = λ t had. ray_still Right e mid new right t (ray_still Left e old mid left t had);
    found = λ f at h leads. ⊎_elim
        (λ (same : e ≡ f).
        subst (λ (d : CountedEdge). has_seen new (fills_sector filled h es p (Some (ends_of d))) ≡ true)
        same (here h (subst (λ (d : CountedEdge). leads_from h (ends_of d) p ≡ true) (sym same) leads)))
        (λ (rest : Contains [] f). absurd (omega (arith, rest.1))) (Contains-cases e [] f at);
  }
    where
      here : (h : Flank) → leads_from h (ends_of e) p ≡ true →
          has_seen new (fills_sector filled h es p (Some (ends_of e))) ≡ true
      here Left leads = ray_still Right e mid new right (fills_sector filled Left es p (Some (ends_of e)))
          (ray_found Left e old mid left leads)
      here Right leads = ray_found Right e mid new right leads

module _ (filled : ℤ → Bool) (es : List CountedEdge) (q : Asked) (told : IsTold es q) (together : q.alone ≡ false) where
  -- a sum tells whether a sector is filled
  pub told_fills : (h : Flank) (sector : Option Edge) (z : ℤ) →
      z ≡ sum_on q h +ℤ near_sum h q.through q.point (is_low h sector) →
      filled z ≡ fills_sector filled h es (in_plane q.point) sector
  told_fills h sector z is = ap filled (is ∙ sym ((told together).sums h (is_low h sector)))

  -- an edge that leads from the point is an edge of the list
  pub told_entry : (e : CountedEdge) → Contains q.through e → (h : Flank) →
      leads_from h (ends_of e) (in_plane q.point) ≡ true → Contains es e
  told_entry e at h leads = (told together).back e at (h, leads)

  pub located_by_told : (limit : ℕ) → All (IsHeld limit) es → (none left both all : Seen) (y z : ℤ) →
      y ≡ sum_on q Left +ℤ near_sum Left q.through q.point (is_low Left None) →
      z ≡ sum_on q Right +ℤ near_sum Right q.through q.point (is_low Right None) →
      none ≡ record { filled = false; empty = false } →
      left.filled ≡ (filled y || none.filled) → left.empty ≡ (not (filled y) || none.empty) →
      both.filled ≡ (filled z || left.filled) → both.empty ≡ (not (filled z) || left.empty) →
      SeesRays filled es (in_plane q.point) q.through both all → LiesIn filled es (in_plane q.point) (location_of all)
  located_by_told limit held none left both all y z is_y is_z nothing one two three four sees =
      located_by_seen filled es (in_plane q.point) all (record {
        right = sees.right lowest.right;
        lowest = λ h. sees.still (fills_sector filled h es (in_plane q.point) None) (lowest.lowest h);
        rays = λ h k e lt at leads. sees.found e ((told together).to e (k, at.0, at.1) (h, leads)) h leads;
      }) (content_leads_right limit es held)
    where
      lowest : IsSeenUpTo filled es (in_plane q.point) 0 both
      lowest = seen_lowest_by filled es (in_plane q.point) none left both (filled y) (filled z) nothing
          (told_fills Left None y is_y) (told_fills Right None z is_z) one two three four
