-- One exact relation of arrays is told in one way, and is what all of them tell of it.
use Rattle.std.proofs.Common.{◌≡◌, ◌↔◌, ℕ, ℤ, Bool, false, List, sym, ap, subst, ◌∙◌}
use Rattle.std.specs.Prelude.{IsTrue}
use Rattle.overlay_geom.specs.Rules.{bit, is_filled}
use Rattle.overlay_geom.specs.declared.error.OverlayError.{OverlayError}
use Rattle.overlay_builder.specs.GivenPaths.{GivenPath, added_paths}
use Rattle.overlay_builder.specs.PathLists.{MayRefuseBuilder}
use Rattle.overlay_relate.proofs.OneTruth.{one_truth}
use Rattle.overlay_relate.specs.declared.relations.Relations.{Relations}
use Rattle.overlay_predicates.specs.ExactPaths.{AreExactOfPaths}
use Rattle.polyover_calls.proofs.EachFault.{one_of_two, not_both}
use Rattle.polyover_calls.proofs.EarlyFaults.{FaultsAreApart, done_late, one_telling}
use Rattle.polyover_calls.proofs.OneFault.{AreBothGiven, both_apart}
use Rattle.polyover_calls.proofs.OneRelation.{one_with_bit}
use Rattle.polyover_calls.proofs.TwoRuns.{ends_once}
use Rattle.polyover_calls.specs.Asked.{fill_of}
use Rattle.polyover_calls.specs.EachFault.{HandsOneFault}
use Rattle.polyover_calls.specs.EndsOnce.{EndsOnce}
use Rattle.polyover_calls.specs.Given.{Contours, paths_given, AreGiven, IsOneFaulty}
use Rattle.polyover_calls.specs.OneAnswer.{told_of}
use Rattle.polyover_calls.specs.RelatedOne.{IsRelation}
use Rattle.polyover_calls.specs.declared.relation.Relation.{Relation}
use Rattle.polyover_calls.specs.declared.relation.Relation.TheVariants as relation
use Rattle.polyover_calls.specs.declared.status.Status.{Status}
use Rattle.polyover_calls.specs.declared.status.Status.TheVariants.{Done}
use Rattle.polyover_exact.specs.Determined.{OneRelationIsToldOnce, OneExactRelationOfAll}
use Rattle.polyover_exact.specs.One.{AreExactNumbers, HoldsOfPaths, IsExactlySo, IsUnknownExact}
use Rattle.polyover_exact.specs.One.{RelatingOneExactlyEnds}
use Rattle.polyover_exact.proofs.OneTelling.{light}

-- what all relations tell of one is whether it holds
all_tell : (filled : ℤ → Bool) (paths : List GivenPath) (r : Relations) (one : Relation) →
    AreExactOfPaths filled paths r → IsTrue (told_of r one) ↔ HoldsOfPaths one filled paths
all_tell filled paths r relation.Intersects are = are.intersects
all_tell filled paths r relation.InteriorsIntersect are = are.interiors_intersect
all_tell filled paths r relation.Touches are = are.touches
all_tell filled paths r relation.PointIntersects are = are.point_intersects
all_tell filled paths r relation.Within are = are.within
all_tell filled paths r relation.Disjoint are = are.disjoint
all_tell filled paths r relation.Covers are = are.covers

module _ {I : Type 0} (whole : I → ℤ) (limit number fill : ℕ) (subject clip : Contours I) where
  -- that a builder may refuse is told where both are given
  abbrev May : OverlayError → Type 0
  May e = AreGiven whole limit subject × (AreGiven whole limit clip
      × MayRefuseBuilder (added_paths false (paths_given whole subject clip)) e)

  apart : FaultsAreApart (IsUnknownExact number fill) (AreExactNumbers number fill)
      (IsOneFaulty whole limit subject clip) (AreBothGiven whole limit subject clip)
  apart = both_apart whole limit subject clip (IsUnknownExact number fill) (AreExactNumbers number fill)
      (one_of_two fill (¬ (IsRelation number)) (IsRelation number) (λ none is. none is))
      (not_both fill (¬ (IsRelation number)) (IsRelation number) (λ none is. none is))

  abbrev Told : ℕ → Status → Type 0
  Told new s = (s ≡ Done) × IsExactlySo whole limit number fill subject clip new

  one_fault : (old : ℕ) → HandsOneFault (RelatingOneExactlyEnds whole limit number fill subject clip old)
  one_fault old new newer s t = one_telling (IsUnknownExact number fill) (AreExactNumbers number fill)
      (IsOneFaulty whole limit subject clip) (AreBothGiven whole limit subject clip) apart May (λ e m. (m.0, m.1.0))
      (IsExactlySo whole limit number fill subject clip new) (new ≡ old)
      (IsExactlySo whole limit number fill subject clip newer) (newer ≡ old)
      (λ is. (is.known, (is.subject_given, is.clip_given))) s t

  same_answer : (first second : ℕ) → IsExactlySo whole limit number fill subject clip first →
      IsExactlySo whole limit number fill subject clip second → first ≡ second
  same_answer first second a b =
      let asked = a.known.1 in
      let other = b.known.1 in
      let filled = is_filled (fill_of fill) in
      let paths = paths_given whole subject clip in
      a.told ∙ ap (λ b. bit b 1) (one_truth (HoldsOfPaths asked.relation filled paths) a.holds b.holds a.tells.tells
      (subst (λ r. IsTrue b.holds ↔ HoldsOfPaths r filled paths)
      (one_with_bit other.relation asked.relation (sym other.number ∙ asked.number)) b.tells.tells)) ∙ sym b.told

  told_once : EndsOnce (RelatingOneExactlyEnds whole limit number fill subject clip)
  told_once old = ends_once (IsUnknownExact number fill)
      (λ f. AreExactNumbers number fill × IsOneFaulty whole limit subject clip f)
      (λ e. AreExactNumbers number fill × May e) (λ m. m.1.1.1) old Told (λ new s told. done_late s told.0)
      (λ new s told m. light (added_paths false (paths_given whole subject clip)) told.1.tells.content
      told.1.tells.holds m.1.1.1)
      (one_fault old) (λ new newer s t a b. (a.0 ∙ sym b.0, same_answer new newer a.1 b.1))

pub one_relation_is_told_once : {I : Type 0} (whole : I → ℤ) (limit : ℕ) → OneRelationIsToldOnce whole limit
one_relation_is_told_once whole limit number fill subject clip = told_once whole limit number fill subject clip

pub one_exact_relation_of_all : {I : Type 0} (whole : I → ℤ) (limit : ℕ) → OneExactRelationOfAll whole limit
one_exact_relation_of_all whole limit number fill subject clip sum answer all one =
    let asked = one.known.1.relation in
    let filled = is_filled (fill_of fill) in
    let paths = paths_given whole subject clip in
    one.told ∙ ap (λ b. bit b 1) (one_truth (HoldsOfPaths asked filled paths) one.holds (told_of all.relations asked)
    one.tells.tells (all_tell filled paths all.relations asked all.hold.exact))
