-- The contours of the subject as one shape, and the first of them that is not resolved.
use Rattle.std.specs.Prelude.{◌≡◌, ℕ, List, [], ◌∷◌, ◌++◌, All}
use Rattle.std.specs.List.{flat_map}
use Rattle.overlay_geom.specs.declared.error.OverlayError.TheVariants.{Memory}
use Rattle.overlay_geom.specs.Plane.{Point}
use Rattle.overlay_geom.specs.Points.{AllInRange}
use Rattle.overlay_geom.specs.Resolved.{IsResolved}
use Rattle.overlay_geom.specs.Numbers.{greatest_of_64_bits}
use Rattle.overlay_geom.specs.declared.options.ShapeType.{ShapeType}
use Rattle.overlay_geom.specs.declared.options.ShapeType.TheVariants.{Subject, Clip}
use Rattle.polyover_text.specs.Grammar.{GivenContour}
use Rattle.polyover_engine.specs.declared.exit.Exit.{Exit}
use Rattle.polyover_engine.specs.declared.exit.Exit.TheVariants.{Answered, Refused, BadInput, Io}

-- what a contour of a shape adds to the subject
abbrev pub subject_part : ShapeType → List Point → List (List Point)
subject_part Subject ps = ps ∷ []
subject_part Clip ps = []

-- the contours of the subject, in order: one shape
abbrev pub subject_of : List GivenContour → List (List Point)
subject_of cs = flat_map (λ c. subject_part c.path.shape_type c.path.points) cs

-- the line with this number gives the first contour of the subject that is not resolved
pub record IsFirstUnresolved (cs : List GivenContour) (n : ℕ) : Type 0 where
  pub before : List GivenContour
  pub contour : GivenContour
  pub after : List GivenContour
  pub parts : cs ≡ before ++ contour ∷ after
  pub resolved : All IsResolved (subject_of before)
  pub of_subject : contour.path.shape_type ≡ Subject
  pub unresolved : ¬ (IsResolved contour.path.points)
  pub number : n ≡ contour.line

-- the shape is the subject, and each of its contours is resolved and in the coordinate range
pub record IsSubject (cs : List GivenContour) (shape : List (List Point)) : Type 0 where
  pub shown : shape ≡ subject_of cs
  pub resolved : All IsResolved shape
  pub in_range : All (AllInRange greatest_of_64_bits) shape

-- why there is no such shape: a contour is not resolved, or memory was refused
abbrev pub HasNoSubject : List GivenContour → Exit → Type 0
HasNoSubject cs Answered = ⊥
HasNoSubject cs (Refused e) = e ≡ Memory
HasNoSubject cs (BadInput n) = IsFirstUnresolved cs n
HasNoSubject cs Io = ⊥

-- ---- one contour

-- what the contour adds to the subject is resolved, and comes to the shape
pub record AddsContour (c : GivenContour) (old new : List (List Point)) : Type 0 where
  pub added : new ≡ old ++ subject_part c.path.shape_type c.path.points
  pub resolved : All IsResolved (subject_part c.path.shape_type c.path.points)
  pub in_range : All (AllInRange greatest_of_64_bits) (subject_part c.path.shape_type c.path.points)

-- it is a contour of the subject that is not resolved
pub record IsUnresolved (c : GivenContour) (n : ℕ) : Type 0 where
  pub of_subject : c.path.shape_type ≡ Subject
  pub unresolved : ¬ (IsResolved c.path.points)
  pub number : n ≡ c.line

abbrev pub IsNotAdded : GivenContour → Exit → Type 0
IsNotAdded c Answered = ⊥
IsNotAdded c (Refused e) = e ≡ Memory
IsNotAdded c (BadInput n) = IsUnresolved c n
IsNotAdded c Io = ⊥
