-- Points that lie on one side of each line of a grid lie in one of its cells.
use Rattle.std.proofs.Common.{◌⊎◌, ℤ, pos, ◌<ℤ◌, ◌≤ℤ◌, List, ◌∷◌}
use Rattle.std.specs.List.{All}
use Rattle.overlay_geom.specs.Plane.{Point}
use Rattle.overlay_tiles.specs.Cells.{LieInOneCell}
use Rattle.overlay_tiles.specs.Grids.{IsGridMultiple}
use Rattle.overlay_tiles.specs.Spans.{Bounds, IsIn}
use Rattle.overlay_tiles.proofs.Strips.{lie_in_one_strip}

pub lie_in_one_cell : (wide high : ℤ) → pos 0 <ℤ wide → pos 0 <ℤ high → (b : Bounds) (p : Point) (ps : List Point) →
    All (λ q. IsIn b.x q.x) (p ∷ ps) → All (λ q. IsIn b.y q.y) (p ∷ ps) →
    ((c : ℤ) → IsGridMultiple wide b.x c → All (λ q. c ≤ℤ q.x) (p ∷ ps) ⊎ All (λ q. q.x ≤ℤ c) (p ∷ ps)) →
    ((c : ℤ) → IsGridMultiple high b.y c → All (λ q. c ≤ℤ q.y) (p ∷ ps) ⊎ All (λ q. q.y ≤ℤ c) (p ∷ ps)) →
    LieInOneCell wide high (p ∷ ps)
lie_in_one_cell wide high some_wide some_high b p ps in_x in_y by_x by_y =
    let x = lie_in_one_strip wide some_wide (λ (q : Point). q.x) b.x p ps in_x by_x in
    let y = lie_in_one_strip high some_high (λ (q : Point). q.y) b.y p ps in_y by_y in
    record { m = x.0; n = y.0; all = λ k d lt. record { x = x.1 k d lt; y = y.1 k d lt } }
