-- The shapes that a sweep over walks has found so far.
use Rattle.std.specs.Prelude.{◌≡◌, ℕ, List, slice_get, slice_index_or, Option, None, Some}
use Rattle.overlay_geom.specs.Plane.{Step}
use Rattle.overlay_plane.specs.Binding.{IsFoundBelow}
use Rattle.overlay_plane.specs.Turn.{Hand}
pub use Rattle.overlay_scan.specs.Sweeps.{IsSwept}

-- the walk at place n, if its shape is not known from the start, has the number of its shape, or none
abbrev pub HasShapeNumber : Hand → List (List Step) → List (Option ℕ) → List (Option ℕ) → ℕ → Type 0
HasShapeNumber filled walks known shapes n = (w : List Step) → slice_get walks n ≡ Some w →
    slice_index_or known n None ≡ None →
    IsFoundBelow filled walks known n (slice_index_or shapes n None)
