-- The contour at a place, its walk, and its shape from the start.
use Rattle.std.proofs.Common.{◌≡◌, ℕ, zero, suc, List, [], ◌∷◌, map, Contains, Some, None}
use Rattle.std.proofs.Common.{refl}
use Rattle.std.proofs.Common.{sym, ap, arith}
use Rattle.std.specs.Prelude.{slice_index_or}
use Rattle.std.specs.List.{slice_get}
use Rattle.std.proofs.lemmas.Option.{none-some, slice_get_within, get_or_from_slice_get}
use Rattle.overlay_geom.specs.Plane.{Step}
use Rattle.overlay_plane.specs.RoledContours.{Role, outline, own_hole, free_hole, Contour, stands_in}
use Rattle.overlay_plane.specs.BoundContours.{walks_in, known_in}
use Rattle.std.proofs.lemmas.Option.{same_Some}

-- the entry at a place is an entry
pub Contains-place : {X : Type 0} (xs : List X) (i : ℕ) (x : X) → slice_get xs i ≡ Some x → Contains xs x
Contains-place xs i x at = (i, slice_get_within xs i x at, get_or_from_slice_get xs i x x at)

-- the entry at a place of a mapped list is the mapped entry there
pub place_mapped : {X Y : Type 0} (f : X → Y) (xs : List X) (i : ℕ) (y : Y) → slice_get (map f xs) i ≡ Some y →
    (x : X) × (slice_get xs i ≡ Some x) × (f x ≡ y)
place_mapped f [] i y at = absurd (none-some y at)
place_mapped f (x ∷ xs) zero y at = (x, refl, same_Some (f x) y at)
place_mapped f (x ∷ xs) (suc i) y at = place_mapped f xs i y at

-- a walk at a place is that of the contour there
pub contour_at : (contours : List Contour) (i : ℕ) (w : List Step) → slice_get (walks_in contours) i ≡ Some w →
    (c : Contour) × (slice_get contours i ≡ Some c) × (c.steps ≡ w)
contour_at contours i w at = place_mapped (λ (c : Contour). c.steps) contours i w at

-- the walk of a contour is at its place
pub place_of_walk : (contours : List Contour) (i : ℕ) (c : Contour) → slice_get contours i ≡ Some c →
    slice_get (walks_in contours) i ≡ Some c.steps
place_of_walk [] i c at = absurd (none-some c at)
place_of_walk (d ∷ ds) zero c at = ap (λ (k : Contour). Some k.steps) (same_Some d c at)
place_of_walk (d ∷ ds) (suc i) c at = place_of_walk ds i c at

-- the number known at a place is that of the contour there
pub known_at : (contours : List Contour) (i : ℕ) (c : Contour) → slice_get contours i ≡ Some c →
    slice_index_or (known_in contours) i None ≡ stands_in c.role
known_at [] i c at = absurd (none-some c at)
known_at (d ∷ ds) zero c at = ap (λ (k : Contour). stands_in k.role) (same_Some d c at)
known_at (d ∷ ds) (suc i) c at = known_at ds i c at

-- where a number is known, a contour has it
pub known_of : (contours : List Contour) (i n : ℕ) → slice_index_or (known_in contours) i None ≡ Some n →
    (c : Contour) × Contains contours c × (stands_in c.role ≡ Some n)
known_of [] i n known = absurd (none-some n known)
known_of (d ∷ ds) zero n known = (d, Contains-place (d ∷ ds) 0 d refl, known)
known_of (d ∷ ds) (suc i) n known = let found = known_of ds i n known in
    (found.0, (suc found.1.0, (let inside = found.1.1 in omega arith), found.1.2), found.2)

-- a contour without a known shape is a hole whose shape is to be found
pub free_from_none : (role : Role) → stands_in role ≡ None → role ≡ free_hole
free_from_none (outline n) none = absurd (none-some n (sym none))
free_from_none (own_hole n) none = absurd (none-some n (sym none))
free_from_none free_hole none = refl
