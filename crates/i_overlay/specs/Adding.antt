-- What a call answers that adds the paths of resources to a builder.
use Rattle.std.specs.Prelude.{◌≡◌, List, Result}
use Rattle.overlay_geom.specs.Edges.{weight}
use Rattle.overlay_geom.specs.declared.error.OverlayError.{OverlayError}
use Rattle.overlay_builder.specs.GivenPaths.{GivenPath, added_paths}
use Rattle.overlay_builder.specs.PathLists.{AddsAsAsked}
use Rattle.i_overlay.specs.Builder.{Builder, held_by}

-- a call that adds the paths answers so, of the builder before and of the one afterwards
pub record BuilderAdds {U V : Type 0} (paths : List GivenPath) (old new : Builder U)
    (result : Result V OverlayError) : Type 0 where
  pub added : AddsAsAsked weight (added_paths old.options.preserve_input_collinear paths) (held_by old)
      (held_by new) result
  -- nothing but the edges changes, whatever is answered
  pub kept : new ≡ record old { edges = new.edges }
