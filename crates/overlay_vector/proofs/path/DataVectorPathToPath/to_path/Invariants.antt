-- The path has where the edges so far begin.
use Rattle.std.proofs.Common.{◌≡◌, map, take}
use Rattle.overlay_vector.proofs.path.DataVectorPathToPath.to_path.Given as goal

abbrev pub invariant-loop-edge : goal.invariant-loop-edge
invariant-loop-edge g l = l.path.items ≡ map (λ e. e.a) (take l.edge-index l.self.items)
