-- The points that a program holds, and the point that two words give.
use Rattle.std.specs.Prelude.{◌≡◌, ℤ, List, ◌∷◌, All}
use Rattle.overlay_geom.specs.Plane.{Point}
use Rattle.overlay_geom.specs.Points.{plain_points, AllInRange}
use Rattle.overlay_geom.specs.declared.point.IntPoint.{IntPoint}
use Rattle.polyover_text.specs.Grammar.{Word, Line, IsCoordinate, GivenFigures, paths_of}

-- the whole points at the program's points
abbrev pub points_at : List (IntPoint ℤ) → List Point
points_at ps = plain_points (λ z. z) ps

-- the words begin with the point's coordinates, and the others follow
pub record IsFirstPoint (ws : Line) (p : IntPoint ℤ) (rest : Line) : Type 0 where
  pub v : Word
  pub w : Word
  pub parts : ws ≡ v ∷ w ∷ rest
  pub x : IsCoordinate v p.x
  pub y : IsCoordinate w p.y

-- all points of the figures are in the coordinate range
pub record FiguresInRange (fs : GivenFigures) : Type 0 where
  pub contours : All (λ c. AllInRange 4611686018427387903 c.points) (paths_of fs)
  pub lines : All (AllInRange 4611686018427387903) fs.lines
  pub points : AllInRange 4611686018427387903 fs.points
