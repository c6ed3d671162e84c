-- The paths of a clip are the only ones.
use Rattle.std.specs.Prelude.{◌≡◌, List}
use Rattle.overlay_geom.specs.Plane.{Point, Step}
use Rattle.overlay_string.specs.ClipPaths.{ArePathsOf}

-- of the pieces that a clip keeps, in their order, two lists of paths are one
abbrev pub OneClip : Type 0
OneClip = (pieces : List Step) (first second : List (List Point)) → ArePathsOf pieces first →
    ArePathsOf pieces second → first ≡ second
