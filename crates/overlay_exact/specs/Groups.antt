-- Groups of meeting points of one edge: those at one place of it stand side by side.
use Rattle.std.specs.Prelude.{◌≡◌, ℕ, ◌<◌, ◌≤◌, true, List, length}
use Rattle.std.specs.List.{AllWithin}
use Rattle.overlay_geom.specs.Plane.{Edge, point_lt}
use Rattle.overlay_exact.specs.Along.{Met, AreInOrderAlong}
use Rattle.overlay_exact.specs.Parts.{IsLess, AreEqual}

-- the meeting points are in order along an edge that leads forward
abbrev pub AreInOrderAlongOne : List Met → Type 0
AreInOrderAlongOne ms = (e : Edge) × (point_lt e.a e.b ≡ true) × AreInOrderAlong e ms

-- the points from place `from` up to `end` are a group: their parts are equal, and all later parts are greater
pub record IsGroup (ms : List Met) (from end : ℕ) : Type 0 where
  pub some : from < end
  pub within : end ≤ length ms
  pub equal : AllWithin (λ m. AllWithin (λ n. AreEqual m.part n.part) ms from end) ms from end
  pub greater : AllWithin (λ m. AllWithin (λ n. IsLess m.part n.part) ms end (length ms)) ms from end
