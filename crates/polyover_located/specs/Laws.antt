-- Answers about shapes as they are given are the only ones, and a shape without parts can be asked.
use Rattle.std.specs.Prelude.{◌≡◌, ℕ, ℤ, List, [], map}
use Rattle.overlay_geom.specs.Plane.{Point}
use Rattle.polyover_calls.specs.Given.{Contours}
use Rattle.polyover_calls.specs.declared.status.Status.{Status}
use Rattle.polyover_calls.specs.declared.status.Status.TheVariants.{Memory}
use Rattle.polyover_located.specs.Asked.{AreToldOf, ExactAskingEnds}
use Rattle.polyover_located.specs.Held.{ExactParts, CanBeAsked, no_parts, shape_of}
use Rattle.polyover_located.specs.Prepared.{AreExactPartsOf, ExactPreparingEnds}

-- two answers of one shape for the same points and places are one
abbrev pub ExactAskingsAreOne : {I : Type 0} → (I → ℤ) → ℕ → Type 0
ExactAskingsAreOne {I = I} whole limit = (p : ExactParts) (points : List I) (old new newer : List ℕ) (s t : Status) →
    ExactAskingEnds whole limit p points old new s → ExactAskingEnds whole limit p points old newer t →
    (s ≡ t) × (new ≡ newer)

-- shapes that are prepared of the same contours are asked alike, and preparing ends with one status
pub record PreparedLocateOnce {I : Type 0} (whole : I → ℤ) (limit : ℕ) : Type 0 where
  pub status : (fill : ℕ) (given : Contours I) (p q : ExactParts) (s t : Status) →
      ExactPreparingEnds whole limit fill given p s → ExactPreparingEnds whole limit fill given q t →
      ¬ (s ≡ Memory) → ¬ (t ≡ Memory) → s ≡ t
  pub asked : (fill : ℕ) (given : Contours I) (p q : ExactParts) (points : List I) (old new newer : List ℕ)
      (s t : Status) → AreExactPartsOf whole limit fill given p → AreExactPartsOf whole limit fill given q →
      ExactAskingEnds whole limit p points old new s → ExactAskingEnds whole limit q points old newer t →
      (s ≡ t) × (new ≡ newer)

-- without parts a shape can be asked, and each point lies outside it: the number 0
pub record BareIsOutside : Type 0 where
  pub can : (limit : ℕ) → CanBeAsked limit no_parts
  pub outside : (points : List Point) (told : List ℕ) → AreToldOf (shape_of no_parts) points told →
      told ≡ map (λ p. 0) points
