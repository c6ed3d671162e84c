-- Answers about prepared shapes are the only ones, and a shape without parts can be asked.
use Rattle.std.specs.Prelude.{◌≡◌, ℕ, ℤ, Bool, List, [], map}
use Rattle.overlay_geom.specs.Edges.{CountedEdge}
use Rattle.overlay_geom.specs.Plane.{Point}
use Rattle.overlay_relate.specs.Bounded.{Bounds}
use Rattle.polyover_calls.specs.Prepared.{Parts, AskingEnds, AreToldIn, CanBeAsked, no_parts}
use Rattle.polyover_calls.specs.declared.status.Status.{Status}

-- two answers for the same points and places are one
pub record OneAsking {I : Type 0} (whole : I → ℤ) (limit : ℕ) (points : List I) (old new newer : List ℕ)
    (s t : Status) : Type 0 where
  -- of shapes with the same edges
  pub same_edges : (p q : Parts) → p.edges ≡ q.edges → AskingEnds whole limit p points old new s →
      AskingEnds whole limit q points old newer t → (s ≡ t) × (new ≡ newer)
  -- and of two whose edges bound the shape of one arrangement
  pub same_arrangement : (filled : ℤ → Bool) (es : List CountedEdge) (p q : Parts) → Bounds filled es p.edges →
      Bounds filled es q.edges → AskingEnds whole limit p points old new s →
      AskingEnds whole limit q points old newer t → (s ≡ t) × (new ≡ newer)

-- whatever is asked
abbrev pub AskingsAreOne : {I : Type 0} → (I → ℤ) → ℕ → Type 0
AskingsAreOne {I = I} whole limit = (points : List I) (old new newer : List ℕ) (s t : Status) →
    OneAsking whole limit points old new newer s t

-- without parts a shape can be asked, and each point lies outside it: the number 0
pub record BareCanBeAsked : Type 0 where
  pub can : (limit : ℕ) → CanBeAsked limit no_parts
  pub outside : (points : List Point) (told : List ℕ) → AreToldIn [] points told → told ≡ map (λ p. 0) points
