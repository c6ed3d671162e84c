-- A closed path given to an overlay.
use Rattle.std.specs.Prelude.{List}
use Rattle.overlay_geom.specs.Plane.{Point}
use Rattle.overlay_geom.specs.declared.options.ShapeType.{ShapeType}

-- a closed path to be added: the shape that it belongs to, and its points
pub record GivenPath : Type 0 where
  pub shape_type : ShapeType
  pub points : List Point
