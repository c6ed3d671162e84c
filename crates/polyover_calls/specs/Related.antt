-- How a subject and a clip in arrays lie to each other, as bits.
use Rattle.std.specs.Prelude.{◌≡◌, ◌+◌, ◌⊎◌, ℕ, ℤ}
use Rattle.overlay_geom.specs.Rules.{bit}
use Rattle.overlay_relate.specs.declared.relations.Relations.{Relations}
use Rattle.i_overlay.specs.OneShot.{MayRefusePaths}
use Rattle.i_overlay.specs.Relations.{AreRelationsOfPaths}
use Rattle.polyover_calls.specs.Asked.{fill_of, solver_of}
use Rattle.polyover_calls.specs.Given.{Contours, paths_given, AreGiven}
use Rattle.polyover_calls.specs.Refusals.{AreQueryNumbers, IsQueryRefused}
use Rattle.polyover_calls.specs.declared.status.Status.{Status}
use Rattle.polyover_calls.specs.declared.status.Status.TheVariants.{Done}

-- a bit for each relation that holds
abbrev pub bits_of : Relations → ℕ
bits_of r = bit r.intersects 1 + bit r.interiors_intersect 2 + bit r.touches 4 + bit r.point_intersects 8
    + bit r.within 16 + bit r.disjoint 32 + bit r.covers 64

-- the numbers are known, both are given, and the bits tell how the contours of both lie to each other under the fill
-- rule, split by the solver
pub record AreRelated {I : Type 0} (whole : I → ℤ) (limit fill solver : ℕ) (subject clip : Contours I)
    (sum : ℕ) : Type 0 where
  pub known : AreQueryNumbers fill solver
  pub subject_given : AreGiven whole limit subject
  pub clip_given : AreGiven whole limit clip
  pub relations : Relations
  pub hold : AreRelationsOfPaths (solver_of solver) (fill_of fill) (paths_given whole subject clip)
      (paths_given whole clip subject) relations
  pub bits : sum ≡ bits_of relations

-- nothing is told so
abbrev pub IsRelatingRefused : {I : Type 0} → (I → ℤ) → ℕ → ℕ → ℕ → Contours I → Contours I → Status → Type 0
IsRelatingRefused whole limit fill solver subject clip = IsQueryRefused whole limit fill solver subject clip
    (MayRefusePaths (solver_of solver) (paths_given whole subject clip))

-- how it ends: with `Done` the bits are written, else they stay
abbrev pub RelatingEnds : {I : Type 0} → (I → ℤ) → ℕ → ℕ → ℕ → Contours I → Contours I → ℕ → ℕ → Status → Type 0
RelatingEnds whole limit fill solver subject clip old new s =
    ((s ≡ Done) × AreRelated whole limit fill solver subject clip new)
    ⊎ ((new ≡ old) × IsRelatingRefused whole limit fill solver subject clip s)
