-- What the bits of relations tell of contours in arrays: what the relations tell of their paths.
use Rattle.std.proofs.Common.{ℕ, ℤ}
use Rattle.i_overlay.proofs.PathAnswers.{all_relations_tell_of_paths}
use Rattle.polyover_calls.specs.Asked.{fill_of, solver_of}
use Rattle.polyover_calls.specs.Given.{paths_given}
use Rattle.polyover_calls.specs.RelatedContours.{BitsTellOfContours}

pub bits_tell_of_contours : {I : Type 0} (whole : I → ℤ) (limit : ℕ) → BitsTellOfContours whole limit
bits_tell_of_contours whole limit fill solver subject clip sum related =
    all_relations_tell_of_paths (solver_of solver) (fill_of fill) (paths_given whole subject clip)
    (paths_given whole clip subject) related.relations related.hold
