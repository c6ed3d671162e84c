-- One relation that is told at 32 bits, and its refusals.
use Rattle.std.proofs.Common.{◌≡◌, ℕ, ℤ, List, ap₂, subst}
use Rattle.overlay_builder.specs.GivenPaths.{subject_and_clip}
use Rattle.i_overlay.specs.OneShot.{MayRefusePaths}
use Rattle.i_overlay.specs.Relations.{TellsOfPaths}
use Rattle.polyover_calls.specs.Asked.{fill_of, solver_of}
use Rattle.polyover_calls.specs.Given.{Contours, contours_of, paths_given}
use Rattle.polyover_calls.specs.Narrowed.{AreNarrowed, greatest_of_32_bits}
use Rattle.polyover_calls.specs.RelatedOne.{AreRelationNumbers, Holds, IsRelatedSo, IsRelationRefused}
use Rattle.polyover_calls.specs.RelatedOne.{IsUnknownRelation}
use Rattle.polyover_calls.specs.declared.status.Status.{Status}
use Rattle.polyover_calls.proofs.NarrowedCalls.{paths_same, given_back, both_refused}

module _ {I : Type 0} (whole : I → ℤ) (limit number fill solver : ℕ) (first second : Contours I) (ps qs : List ℤ)
    (p : AreNarrowed whole limit first.coordinates ps) (q : AreNarrowed whole limit second.coordinates qs) where
  abbrev narrow_first : Contours ℤ
  narrow_first = contours_of ps first.ends

  abbrev narrow_second : Contours ℤ
  narrow_second = contours_of qs second.ends

  same_paths : paths_given (λ z. z) narrow_first narrow_second ≡ paths_given whole first second
  same_paths = ap₂ subject_and_clip (paths_same whole limit first ps p) (paths_same whole limit second qs q)

  pub relation_refused : (s : Status) →
      IsRelationRefused (λ z. z) greatest_of_32_bits number fill solver narrow_first narrow_second s →
      IsRelationRefused whole limit number fill solver first second s
  relation_refused = both_refused whole limit first second ps qs p q
      (IsUnknownRelation number fill solver) (IsUnknownRelation number fill solver)
      (AreRelationNumbers number fill solver) (AreRelationNumbers number fill solver)
      (MayRefusePaths (solver_of solver) (paths_given (λ z. z) narrow_first narrow_second))
      (MayRefusePaths (solver_of solver) (paths_given whole first second))
      (λ s u. u) (λ k. k) (λ e. subst (λ xs. MayRefusePaths (solver_of solver) xs e) same_paths)

  pub relation_widened : (answer : ℕ) →
      IsRelatedSo (λ z. z) greatest_of_32_bits number fill solver narrow_first narrow_second answer →
      IsRelatedSo whole limit number fill solver first second answer
  relation_widened answer r = record {
    known = r.known;
    subject_given = given_back whole limit first ps p r.subject_given;
    clip_given = given_back whole limit second qs q r.clip_given;
    holds = r.holds;
    tells = subst (λ xs. TellsOfPaths (solver_of solver) (Holds r.known.1.relation.relation) (fill_of fill) xs r.holds)
        same_paths r.tells;
    told = r.told;
  }
