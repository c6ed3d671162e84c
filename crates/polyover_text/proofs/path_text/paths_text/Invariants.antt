use Rattle.std.proofs.Common.{◌≡◌, take, string_bytes}
use Rattle.overlay_geom.specs.Paths.{paths_of_shape}
use Rattle.polyover_text.specs.Printed.{lines_of_paths}
use Rattle.polyover_text.proofs.path_text.paths_text.Given as goal

-- the text so far is that of the paths so far
abbrev pub invariant-loop-path : goal.invariant-loop-path
invariant-loop-path g l = string_bytes l.text ≡ lines_of_paths (paths_of_shape (λ z. z) (take l.path-index l.paths))
