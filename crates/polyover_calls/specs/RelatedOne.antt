-- How one relation of a subject and a clip in arrays is told.
use Rattle.std.specs.Prelude.{◌≡◌, ◌<◌, ◌≤◌, ◌⊎◌, ℕ, ℤ, Bool, List}
use Rattle.overlay_geom.specs.Rules.{bit}
use Rattle.overlay_geom.specs.Edges.{CountedEdge}
use Rattle.overlay_plane.specs.Predicates.{Intersects, InteriorsIntersect, Touches, PointIntersects, IsWithin}
use Rattle.overlay_plane.specs.Predicates.{IsDisjoint, Covers}
use Rattle.i_overlay.specs.OneShot.{MayRefusePaths}
use Rattle.i_overlay.specs.Relations.{TellsOfPaths}
use Rattle.polyover_calls.specs.Asked.{fill_of, solver_of}
use Rattle.polyover_calls.specs.Given.{Contours, paths_given, AreGiven}
use Rattle.polyover_calls.specs.Refusals.{AreBothRefused}
use Rattle.polyover_calls.specs.declared.relation.Relation.{Relation}
use Rattle.polyover_calls.specs.declared.relation.Relation.TheVariants as relation
use Rattle.polyover_calls.specs.declared.status.Status.{Status}
use Rattle.polyover_calls.specs.declared.status.Status.TheVariants.{Done, BadFill, BadOption}

-- the bit that C knows a relation by
abbrev pub bit_of : Relation → ℕ
bit_of relation.Intersects = 1
bit_of relation.InteriorsIntersect = 2
bit_of relation.Touches = 4
bit_of relation.PointIntersects = 8
bit_of relation.Within = 16
bit_of relation.Disjoint = 32
bit_of relation.Covers = 64

-- that it holds of the subject and the clip of an arrangement
abbrev pub Holds : Relation → (ℤ → Bool) → List CountedEdge → Type 0
Holds relation.Intersects filled es = Intersects filled es
Holds relation.InteriorsIntersect filled es = InteriorsIntersect filled es
Holds relation.Touches filled es = Touches filled es
Holds relation.PointIntersects filled es = PointIntersects filled es
Holds relation.Within filled es = IsWithin filled es
Holds relation.Disjoint filled es = IsDisjoint filled es
Holds relation.Covers filled es = Covers filled es

-- the number is the bit of a relation
pub record IsRelation (n : ℕ) : Type 0 where
  pub relation : Relation
  pub number : n ≡ bit_of relation

-- so it is, and the solver is known
pub record AreRelationChoices (number s : ℕ) : Type 0 where
  pub relation : IsRelation number
  pub solver : s < 2

-- the numbers are known
abbrev pub AreRelationNumbers : ℕ → ℕ → ℕ → Type 0
AreRelationNumbers number fill solver = (fill < 4) × AreRelationChoices number solver

-- the numbers are known, both are given, and the answer, 1 or 0, tells whether the relation with the number holds of
-- some arrangement of the contours of both under the fill rule, split by the solver
pub record IsRelatedSo {I : Type 0} (whole : I → ℤ) (limit number fill solver : ℕ) (subject clip : Contours I)
    (answer : ℕ) : Type 0 where
  pub known : AreRelationNumbers number fill solver
  pub subject_given : AreGiven whole limit subject
  pub clip_given : AreGiven whole limit clip
  pub holds : Bool
  pub tells : TellsOfPaths (solver_of solver) (Holds known.1.relation.relation) (fill_of fill)
      (paths_given whole subject clip) holds
  pub told : answer ≡ bit holds 1

-- the first number that stands for nothing is told by the status, that of the fill rule before the two others
abbrev pub IsUnknownRelation : ℕ → ℕ → ℕ → Status → Type 0
IsUnknownRelation number fill solver s = ((s ≡ BadFill) × (4 ≤ fill))
    ⊎ ((s ≡ BadOption) × ((fill < 4) × ¬ (AreRelationChoices number solver)))

-- nothing is told so
abbrev pub IsRelationRefused : {I : Type 0} → (I → ℤ) → ℕ → ℕ → ℕ → ℕ → Contours I → Contours I → Status → Type 0
IsRelationRefused whole limit number fill solver subject clip = AreBothRefused whole limit
    (IsUnknownRelation number fill solver) (AreRelationNumbers number fill solver) subject clip
    (MayRefusePaths (solver_of solver) (paths_given whole subject clip))

-- how it ends: with `Done` the answer is written, else what was there stays
abbrev pub RelatingOneEnds : {I : Type 0} → (I → ℤ) → ℕ → ℕ → ℕ → ℕ → Contours I → Contours I → ℕ → ℕ → Status →
    Type 0
RelatingOneEnds whole limit number fill solver subject clip old new s =
    ((s ≡ Done) × IsRelatedSo whole limit number fill solver subject clip new)
    ⊎ ((new ≡ old) × IsRelationRefused whole limit number fill solver subject clip s)
