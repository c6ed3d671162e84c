-- The walk at a place, and its contour without groups.
use Rattle.std.proofs.Common.{◌≡◌, ℕ, zero, suc, Bool, true, false, cond, List, [], ◌∷◌, Some, None}
use Rattle.std.proofs.Common.{refl, sym, ap, ◌∙◌, subst}
use Rattle.std.specs.Prelude.{slice_index_or}
use Rattle.std.specs.List.{slice_get}
use Rattle.std.proofs.lemmas.Bool.{false≢true}
use Rattle.std.proofs.lemmas.Option.{none-some}
use Rattle.overlay_geom.specs.Plane.{Step}
use Rattle.overlay_plane.specs.Binding.{is_hole}
use Rattle.overlay_plane.specs.RoledContours.{free_hole, Contour, contours_from, is_free_hole, hole_to_bind, outline_of}
use Rattle.overlay_plane.specs.BoundContours.{known_in}
use Rattle.overlay_plane.specs.Turn.{Hand}
use Rattle.std.proofs.lemmas.Option.{same_Some}

module _ (filled : Hand) where
  -- the contours, by whether the first walk is a hole
  abbrev contours_by : Bool → ℕ → List Step → List (List Step) → List Contour
  contours_by t n w ws = cond t (hole_to_bind w ∷ contours_from filled n ws)
      (outline_of n w ∷ contours_from filled (suc n) ws)

  -- where an outline stands among the walks, a number is known
  pub number_at : (n : ℕ) (walks : List (List Step)) (i : ℕ) (w : List Step) → slice_get walks i ≡ Some w →
      is_hole filled w ≡ false → (m : ℕ) × (slice_index_or (known_in (contours_from filled n walks)) i None ≡ Some m)
  number_at n [] i w at is = absurd (none-some w at)
  number_at n (v ∷ ws) zero w at is = (
    n,
    ap (λ t. slice_index_or (known_in (contours_by t n v ws)) 0 None)
        (ap (is_hole filled) (same_Some v w at) ∙ is),
  )
  number_at n (v ∷ ws) (suc i) w at is = by (is_hole filled v) (λ k. number_at k ws i w at is)
    where
      by : (t : Bool) → ((k : ℕ) → (m : ℕ) × (slice_index_or (known_in (contours_from filled k ws)) i None ≡ Some m)) →
          (m : ℕ) × (slice_index_or (known_in (contours_by t n v ws)) (suc i) None ≡ Some m)
      by true rest = rest n
      by false rest = rest (suc n)

  -- where a hole stands among the walks it stands among the contours
  pub hole_at : (n : ℕ) (walks : List (List Step)) (i : ℕ) (w : List Step) → slice_get walks i ≡ Some w →
      is_hole filled w ≡ true →
      slice_get (contours_from filled n walks) i ≡ Some (hole_to_bind w)
  hole_at n [] i w at is = absurd (none-some w at)
  hole_at n (v ∷ ws) zero w at is =
      subst (λ u. slice_get (contours_by (is_hole filled u) n u ws) 0 ≡ Some (hole_to_bind w)) (sym (same_Some v w at))
      (ap (λ t. slice_get (contours_by t n w ws) 0) is)
  hole_at n (v ∷ ws) (suc i) w at is = by (is_hole filled v) (λ k. hole_at k ws i w at is)
    where
      by : (t : Bool) → ((k : ℕ) → slice_get (contours_from filled k ws) i ≡ Some (hole_to_bind w)) →
          slice_get (contours_by t n v ws) (suc i) ≡ Some (hole_to_bind w)
      by true rest = rest n
      by false rest = rest (suc n)

  -- a contour whose shape is to be found is a hole among the walks
  pub free_hole_at : (n : ℕ) (walks : List (List Step)) (i : ℕ) (c : Contour) →
      slice_get (contours_from filled n walks) i ≡ Some c →
      c.role ≡ free_hole → (slice_get walks i ≡ Some c.steps) × (is_hole filled c.steps ≡ true)
  free_hole_at n [] i c at free = absurd (none-some c at)
  free_hole_at n (v ∷ ws) zero c at free = by (is_hole filled v) refl at
    where
      by : (t : Bool) → is_hole filled v ≡ t → slice_get (contours_by t n v ws) 0 ≡ Some c →
          (Some v ≡ Some c.steps) × (is_hole filled c.steps ≡ true)
      by true is here = let same = same_Some (hole_to_bind v) c here in
          (ap (λ (d : Contour). Some d.steps) same, subst (λ (d : Contour). is_hole filled d.steps ≡ true) same is)
      by false is here = absurd (false≢true
          (ap (λ r. is_free_hole r) (ap (λ (d : Contour). d.role) (same_Some (outline_of n v) c here) ∙ free)))
  free_hole_at n (v ∷ ws) (suc i) c at free = by (is_hole filled v) (λ k here. free_hole_at k ws i c here free) at
    where
      by : (t : Bool) → ((k : ℕ) → slice_get (contours_from filled k ws) i ≡ Some c →
          (slice_get ws i ≡ Some c.steps) × (is_hole filled c.steps ≡ true)) →
          slice_get (contours_by t n v ws) (suc i) ≡ Some c →
          (slice_get ws i ≡ Some c.steps) × (is_hole filled c.steps ≡ true)
      by true rest here = rest n here
      by false rest here = rest (suc n) here
