-- What contracts see of a builder for strings over a shape, and what its calls do to it.
use Rattle.std.specs.Prelude.{◌≡◌, ℕ, Bool, false, List, [], Result}
use Rattle.overlay_geom.specs.Edges.{CountedEdge, weight}
use Rattle.overlay_geom.specs.declared.error.OverlayError.{OverlayError}
use Rattle.overlay_geom.specs.Options.{AreOptions}
use Rattle.overlay_geom.specs.declared.options.IntOverlayOptions.{IntOverlayOptions}
use Rattle.overlay_builder.specs.BuilderCalls.{AddsPathAsAsked}
use Rattle.overlay_builder.specs.Held.{Held}
use Rattle.overlay_builder.specs.PathLists.{AddedPath, AddsAsAsked}

-- a builder for strings: its options, the counted edges that it holds, and whether a query was refused
pub record StringBuilder (U : Type 0) : Type 0 where
  pub options : IntOverlayOptions U
  pub edges : List CountedEdge
  pub failed : Bool

-- a new builder with these options: it has no edges, and has not failed
abbrev pub empty_builder : {U : Type 0} → IntOverlayOptions U → StringBuilder U
empty_builder options = record { options = options; edges = []; failed = false }

-- the part of it that all builders have
abbrev pub held_by : {U : Type 0} → StringBuilder U → Held CountedEdge
held_by b = record { edges = b.edges; failed = b.failed }

-- ---- adding

-- a call that adds the path answers so, of the builder before and of the one afterwards
pub record StringBuilderAddsOne {U V : Type 0} (path : AddedPath CountedEdge) (old new : StringBuilder U)
    (result : Result V OverlayError) : Type 0 where
  pub added : AddsPathAsAsked weight path (held_by old) (held_by new) result
  -- nothing but the edges changes, whatever is answered
  pub kept : new ≡ record old { edges = new.edges }

-- a call that adds the paths, one after another, does
pub record StringBuilderAdds {U V : Type 0} (paths : List (AddedPath CountedEdge)) (old new : StringBuilder U)
    (result : Result V OverlayError) : Type 0 where
  pub added : AddsAsAsked weight paths (held_by old) (held_by new) result
  -- nothing but the edges changes, whatever is answered
  pub kept : new ≡ record old { edges = new.edges }

-- ---- new builders

-- a builder as the constructors without options make it, whatever it holds: it has not failed, and has the default
-- options
pub record IsNewBuilder {U : Type 0} (natural : U → ℕ) (b : StringBuilder U) : Type 0 where
  pub ready : b.failed ≡ false
  pub options : AreOptions natural false false false b.options
