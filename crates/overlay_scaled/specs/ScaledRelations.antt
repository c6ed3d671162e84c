-- Relations of a subject and a clip that speak of points off the edges: scaling the edges keeps them.
use Rattle.std.specs.Prelude.{◌↔◌, Bool, ℤ, pos, ◌<ℤ◌, List}
use Rattle.overlay_geom.specs.Edges.{CountedEdge, subj_of, clip_of}
use Rattle.overlay_plane.specs.GivenPredicates.{HaveSameInteriors}
use Rattle.overlay_plane.specs.Predicates.{HoldsSomewhere}
use Rattle.overlay_scaled.specs.Scaled.{scaled}

-- the relations hold of the scaled edges exactly where they hold of the edges, and so a rule holds somewhere
pub record ScalingKeepsRelations : Type 0 where
  pub relations : (n : ℤ) → pos 0 <ℤ n → (filled : ℤ → Bool) (es : List CountedEdge) →
      HaveSameInteriors filled es (scaled n es)
  pub rules : (n : ℤ) → pos 0 <ℤ n → (holds : ℤ → ℤ → Bool) (es : List CountedEdge) →
      HoldsSomewhere holds subj_of clip_of es ↔ HoldsSomewhere holds subj_of clip_of (scaled n es)
