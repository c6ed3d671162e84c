-- The numbers of the paths of shapes at which cursors stand.
use Rattle.std.specs.Prelude.{◌+◌, ℕ, ℤ, List, length, take, Vec}
use Rattle.overlay_geom.specs.Paths.{paths_of_shapes}
use Rattle.overlay_geom.specs.declared.point.IntPoint.{IntPoint}
use Rattle.overlay_geom.specs.declared.resource.cursor.PathCursor.{PathCursor}

-- the number of the path at the cursor: it stands behind the paths of the shapes before the cursor's shape
abbrev pub number_at : {I A : Type 0} → (I → ℤ) → List (Vec (Vec (IntPoint I) A) A) → PathCursor → ℕ
number_at whole shapes cursor = length (paths_of_shapes whole (take cursor.shape shapes)) + cursor.contour
