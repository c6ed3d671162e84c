-- Whether one relation of a subject and a clip in arrays holds, as they are given.
use Rattle.std.specs.Prelude.{◌≡◌, ◌↔◌, ◌<◌, ◌≤◌, ◌⊎◌, ℕ, ℤ, Bool, false, List, IsTrue}
use Rattle.overlay_builder.specs.GivenPaths.{GivenPath, added_paths}
use Rattle.overlay_builder.specs.PathLists.{HoldsPaths, MayRefuseBuilder}
use Rattle.overlay_geom.specs.Edges.{CountedEdge}
use Rattle.overlay_geom.specs.Rules.{bit, is_filled}
use Rattle.overlay_relate.specs.PathRelations.{PathInteriorsIntersect}
use Rattle.overlay_predicates.specs.ExactPaths.{PathsMeet, PathsTouch, PathsMeetInPoints, ArePathsApart}
use Rattle.overlay_predicates.specs.ExactPaths.{ArePathsWithin, PathsCover}
use Rattle.polyover_calls.specs.Asked.{fill_of}
use Rattle.polyover_calls.specs.Given.{Contours, paths_given, AreGiven}
use Rattle.polyover_calls.specs.Refusals.{AreBothRefused}
use Rattle.polyover_calls.specs.RelatedOne.{IsRelation}
use Rattle.polyover_calls.specs.declared.relation.Relation.{Relation}
use Rattle.polyover_calls.specs.declared.relation.Relation.TheVariants as relation
use Rattle.polyover_calls.specs.declared.status.Status.{Status}
use Rattle.polyover_calls.specs.declared.status.Status.TheVariants.{Done, BadFill, BadOption}

-- that the relation holds of the subject and the clip among the paths
abbrev pub HoldsOfPaths : Relation → (ℤ → Bool) → List GivenPath → Type 0
HoldsOfPaths relation.Intersects filled paths = PathsMeet filled paths
HoldsOfPaths relation.InteriorsIntersect filled paths = PathInteriorsIntersect filled paths
HoldsOfPaths relation.Touches filled paths = PathsTouch filled paths
HoldsOfPaths relation.PointIntersects filled paths = PathsMeetInPoints filled paths
HoldsOfPaths relation.Within filled paths = ArePathsWithin filled paths
HoldsOfPaths relation.Disjoint filled paths = ArePathsApart filled paths
HoldsOfPaths relation.Covers filled paths = PathsCover filled paths

-- a builder can hold the paths, and the answer tells whether the relation holds of them as they are
pub record TellsOfHeld (one : Relation) (filled : ℤ → Bool) (paths : List GivenPath) (answer : Bool) : Type 0 where
  pub content : List CountedEdge
  pub holds : HoldsPaths (added_paths false paths) content
  pub tells : IsTrue answer ↔ HoldsOfPaths one filled paths

-- the numbers of the fill rule and of the relation are known
abbrev pub AreExactNumbers : ℕ → ℕ → Type 0
AreExactNumbers number fill = (fill < 4) × IsRelation number

-- the numbers are known, both are given, and the answer, 1 or 0, tells whether the relation with the number holds of
-- the contours of both under the fill rule, as they are given
pub record IsExactlySo {I : Type 0} (whole : I → ℤ) (limit number fill : ℕ) (subject clip : Contours I)
    (answer : ℕ) : Type 0 where
  pub known : AreExactNumbers number fill
  pub subject_given : AreGiven whole limit subject
  pub clip_given : AreGiven whole limit clip
  pub holds : Bool
  pub tells : TellsOfHeld known.1.relation (is_filled (fill_of fill)) (paths_given whole subject clip) holds
  pub told : answer ≡ bit holds 1

-- the first number that stands for nothing is told by the status, that of the fill rule before that of the relation
abbrev pub IsUnknownExact : ℕ → ℕ → Status → Type 0
IsUnknownExact number fill s = ((s ≡ BadFill) × (4 ≤ fill)) ⊎ ((s ≡ BadOption) × ((fill < 4) × ¬ (IsRelation number)))

-- nothing is told so: the last refusals are those of a builder that is to hold the contours
abbrev pub IsRelationRefusedExactly : {I : Type 0} → (I → ℤ) → ℕ → ℕ → ℕ → Contours I → Contours I → Status → Type 0
IsRelationRefusedExactly whole limit number fill subject clip = AreBothRefused whole limit
    (IsUnknownExact number fill) (AreExactNumbers number fill) subject clip
    (MayRefuseBuilder (added_paths false (paths_given whole subject clip)))

-- how it ends: with `Done` the answer is written, else what was there stays
abbrev pub RelatingOneExactlyEnds : {I : Type 0} → (I → ℤ) → ℕ → ℕ → ℕ → Contours I → Contours I → ℕ → ℕ → Status →
    Type 0
RelatingOneExactlyEnds whole limit number fill subject clip old new s =
    ((s ≡ Done) × IsExactlySo whole limit number fill subject clip new)
    ⊎ ((new ≡ old) × IsRelationRefusedExactly whole limit number fill subject clip s)
