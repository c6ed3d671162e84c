-- Exact answers are the only ones.
use Rattle.std.specs.Prelude.{◌≡◌, ℤ, Bool, List}
use Rattle.overlay_geom.specs.Edges.{CountedEdge}
use Rattle.overlay_builder.specs.GivenPaths.{GivenPath}
use Rattle.overlay_contacts.specs.ExactRelations.{AreExactRelations}
use Rattle.overlay_predicates.specs.ExactPaths.{AreExactOfPaths}
use Rattle.overlay_relate.specs.declared.relations.Relations.{Relations}

-- two answers that tell of one content are one
abbrev pub OneExactAnswer : Type 0
OneExactAnswer = (filled : ℤ → Bool) (content : List CountedEdge) (first second : Relations) →
    AreExactRelations filled content first → AreExactRelations filled content second → first ≡ second

-- and two that tell of the same paths
abbrev pub OneExactAnswerOfPaths : Type 0
OneExactAnswerOfPaths = (filled : ℤ → Bool) (paths : List GivenPath) (first second : Relations) →
    AreExactOfPaths filled paths first → AreExactOfPaths filled paths second → first ≡ second
