-- How a subject and a clip in arrays lie to each other, as they are given: bits, and refusals.
use Rattle.std.specs.Prelude.{◌≡◌, ◌≤◌, ◌<◌, ◌⊎◌, ℕ, ℤ, Bool, false, List}
use Rattle.overlay_builder.specs.GivenPaths.{GivenPath, added_paths}
use Rattle.overlay_builder.specs.PathLists.{HoldsPaths, MayRefuseBuilder}
use Rattle.overlay_geom.specs.Edges.{CountedEdge}
use Rattle.overlay_geom.specs.Rules.{is_filled}
use Rattle.overlay_relate.specs.declared.relations.Relations.{Relations}
use Rattle.overlay_predicates.specs.ExactPaths.{AreExactOfPaths}
use Rattle.polyover_calls.specs.Asked.{fill_of}
use Rattle.polyover_calls.specs.Given.{Contours, paths_given, AreGiven}
use Rattle.polyover_calls.specs.Refusals.{AreBothRefused}
use Rattle.polyover_calls.specs.Related.{bits_of}
use Rattle.polyover_calls.specs.declared.status.Status.{Status}
use Rattle.polyover_calls.specs.declared.status.Status.TheVariants.{BadFill, Done}

-- a builder can hold the paths, and each answer tells whether the relation holds of them as they are
pub record AreExactOfHeld (filled : ℤ → Bool) (paths : List GivenPath) (r : Relations) : Type 0 where
  pub content : List CountedEdge
  pub holds : HoldsPaths (added_paths false paths) content
  pub exact : AreExactOfPaths filled paths r

-- the number of the fill rule is known, both are given, and the bits tell how the contours of both lie to each other
-- under the fill rule, as they are given
pub record AreExactBits {I : Type 0} (whole : I → ℤ) (limit fill : ℕ) (subject clip : Contours I)
    (sum : ℕ) : Type 0 where
  pub known : fill < 4
  pub subject_given : AreGiven whole limit subject
  pub clip_given : AreGiven whole limit clip
  pub relations : Relations
  pub hold : AreExactOfHeld (is_filled (fill_of fill)) (paths_given whole subject clip) relations
  pub bits : sum ≡ bits_of relations

-- the number of the fill rule stands for nothing
abbrev pub IsUnknownFill : ℕ → Status → Type 0
IsUnknownFill fill s = (s ≡ BadFill) × (4 ≤ fill)

-- nothing is told so: the last refusals are those of a builder that is to hold the contours
abbrev pub AreExactRefused : {I : Type 0} → (I → ℤ) → ℕ → ℕ → Contours I → Contours I → Status → Type 0
AreExactRefused whole limit fill subject clip = AreBothRefused whole limit (IsUnknownFill fill) (fill < 4) subject clip
    (MayRefuseBuilder (added_paths false (paths_given whole subject clip)))

-- how it ends: with `Done` the bits are written, else they stay
abbrev pub ExactlyRelatingEnds : {I : Type 0} → (I → ℤ) → ℕ → ℕ → Contours I → Contours I → ℕ → ℕ → Status → Type 0
ExactlyRelatingEnds whole limit fill subject clip old new s =
    ((s ≡ Done) × AreExactBits whole limit fill subject clip new)
    ⊎ ((new ≡ old) × AreExactRefused whole limit fill subject clip s)
