-- Loops as contours with roles: the outlines are numbered in order, so the contours can be placed in the shapes that
-- are found for them.
use Rattle.std.proofs.Common.{◌≡◌, ⊎_elim, ℕ, suc, ◌<◌, List, Contains, Option, Some, None, refl}
use Rattle.std.proofs.Common.{subst, ap}
use Rattle.std.specs.Prelude.{slice_index_or, IfSome}
use Rattle.std.proofs.lemmas.Option.{none-some, same_Some}
use Rattle.overlay_plane.specs.BoundContours.{AreShapesFound}
use Rattle.overlay_plane.specs.ContourNumbers.{AreNumbers, outline_count}
use Rattle.overlay_plane.specs.PlacedContours.{CanBePlaced}
use Rattle.overlay_plane.specs.RoledContours.{outline, Contour, stands_in, is_outline, outline_of, hole_to_bind}
use Rattle.overlay_plane.specs.Turn.{Hand}
use Rattle.overlay_plane.proofs.FoundNumbers.{number_found}
use Rattle.overlay_plane.proofs.LaterEntries.{Contains-cases}
use Rattle.overlay_extract.specs.Bound.{PassesAnchor, HaveRoles}
use Rattle.overlay_extract.specs.Bound.HaveRoles.{none, an_outline, a_hole}

-- the outlines have the numbers in order
pub roles_numbered : (n : ℕ) (cs : List Contour) → HaveRoles n cs → AreNumbers n cs
roles_numbered _ _ none = tt
roles_numbered _ _ (an_outline {n} {loop} {rest} passes have) = (refl, roles_numbered (suc n) rest have)
roles_numbered _ _ (a_hole {n} {loop} {rest} passes have) = (tt, roles_numbered n rest have)

-- each contour passes the edge of its anchor with the filled side above if it is an outline, and else below
pub role_passes : (n : ℕ) (cs : List Contour) → HaveRoles n cs → (c : Contour) → Contains cs c →
    PassesAnchor (is_outline c.role) c.steps
role_passes _ _ none c at = elim at.1 [ ]
role_passes _ _ (an_outline {n} {loop} {rest} passes have) c at = ⊎_elim
    (λ is. subst (λ (d : Contour). PassesAnchor (is_outline d.role) d.steps) is passes)
    (λ later. role_passes (suc n) rest have c later)
    (Contains-cases (outline_of n loop) rest c at)
role_passes _ _ (a_hole {n} {loop} {rest} passes have) c at = ⊎_elim
    (λ is. subst (λ (d : Contour). PassesAnchor (is_outline d.role) d.steps) is passes)
    (λ later. role_passes n rest have c later)
    (Contains-cases (hole_to_bind loop) rest c at)

-- a contour that stands in a shape from the start is its outline
pub outline_of_number : (m n : ℕ) (cs : List Contour) → HaveRoles n cs → (c : Contour) → Contains cs c →
    stands_in c.role ≡ Some m → c.role ≡ outline m
outline_of_number m _ _ none c at stands = absurd (elim at.1 [ ])
outline_of_number m _ _ (an_outline {n} {loop} {rest} passes have) c at stands = ⊎_elim
    (λ is. subst (λ (d : Contour). stands_in d.role ≡ Some m → d.role ≡ outline m) is
    (λ same. ap outline (same_Some n m same)) stands)
    (λ later. outline_of_number m (suc n) rest have c later stands)
    (Contains-cases (outline_of n loop) rest c at)
outline_of_number m _ _ (a_hole {n} {loop} {rest} passes have) c at stands = ⊎_elim
    (λ is. subst (λ (d : Contour). stands_in d.role ≡ Some m → d.role ≡ outline m) is
    (λ same. absurd (none-some m same)) stands)
    (λ later. outline_of_number m n rest have c later stands)
    (Contains-cases (hole_to_bind loop) rest c at)

-- the contours can be placed
pub roles_can_be_placed : (filled : Hand) (contours : List Contour) → HaveRoles 0 contours →
    (shapes : List (Option ℕ)) → AreShapesFound filled contours shapes → CanBePlaced contours shapes
roles_can_be_placed filled contours roles shapes found = record {
  counted = found.counted;
  numbered = roles_numbered 0 contours roles;
  found = λ i c at free. by (slice_index_or shapes i None)
      (λ m same. number_found filled contours (roles_numbered 0 contours roles) shapes found i c at free m same);
}
  where
    by : (s : Option ℕ) → ((m : ℕ) → s ≡ Some m → m < outline_count contours) →
        IfSome s (λ m. m < outline_count contours)
    by None h = tt
    by (Some m) h = h m refl
