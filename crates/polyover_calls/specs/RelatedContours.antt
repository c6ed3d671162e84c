-- What the bits of relations tell of contours in arrays, as these were given.
use Rattle.std.specs.Prelude.{ℕ, ℤ}
use Rattle.i_overlay.specs.PathAnswers.{RelationsTellOfPaths}
use Rattle.polyover_calls.specs.Asked.{fill_of, solver_of}
use Rattle.polyover_calls.specs.Given.{Contours, paths_given}
use Rattle.polyover_calls.specs.Related.{AreRelated}

-- the relations with these bits tell of the contours in the arrays
abbrev pub BitsTellOfContours : {I : Type 0} → (I → ℤ) → ℕ → Type 0
BitsTellOfContours {I = I} whole limit = (fill solver : ℕ) (subject clip : Contours I) (sum : ℕ)
    (related : AreRelated whole limit fill solver subject clip sum) →
    RelationsTellOfPaths (solver_of solver) (fill_of fill) (paths_given whole subject clip)
    (paths_given whole clip subject) related.relations related.hold
