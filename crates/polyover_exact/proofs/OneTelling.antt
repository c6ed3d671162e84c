-- Exact relations of arrays are told in one way: faults of arguments are apart, and what a builder can hold weighs too
-- little to be refused.
use Rattle.std.proofs.Common.{◌≡◌, ◌<◌, ℕ, ℤ, false, List, [], sym, ap, ◌∙◌, arith}
use Rattle.std.proofs.lemmas.List.Sorted.{IsPermutation-refl}
use Rattle.overlay_geom.specs.Edges.{CountedEdge}
use Rattle.overlay_geom.specs.Rules.{is_filled}
use Rattle.overlay_geom.specs.declared.error.OverlayError.{OverlayError}
use Rattle.overlay_builder.proofs.LightPaths.{not_all_added}
use Rattle.overlay_builder.specs.GivenPaths.{added_paths}
use Rattle.overlay_builder.specs.PathLists.{AddedPath, HoldsPaths, MayRefuseBuilder, SomePathWeighsTooMuch}
use Rattle.overlay_predicates.proofs.OneExact.{one_exact_answer_of_paths}
use Rattle.polyover_calls.proofs.EarlyFaults.{FaultsAreApart, done_late, one_telling}
use Rattle.polyover_calls.proofs.OneFault.{AreBothGiven, both_apart}
use Rattle.polyover_calls.proofs.TwoRuns.{ends_once}
use Rattle.polyover_calls.specs.Asked.{fill_of}
use Rattle.polyover_calls.specs.EachFault.{HandsOneFault}
use Rattle.polyover_calls.specs.EndsOnce.{EndsOnce}
use Rattle.polyover_calls.specs.Given.{Contours, paths_given, AreGiven, IsOneFaulty}
use Rattle.polyover_calls.specs.Related.{bits_of}
use Rattle.polyover_calls.specs.declared.status.Status.{Status}
use Rattle.polyover_calls.specs.declared.status.Status.TheVariants.{Done}
use Rattle.polyover_exact.specs.Determined.{RelationsAreToldOnce}
use Rattle.polyover_exact.specs.Exact.{AreExactBits, ExactlyRelatingEnds, IsUnknownFill}

-- no path weighs too much among paths that a builder holds
pub light : (paths : List (AddedPath CountedEdge)) (content : List CountedEdge) → HoldsPaths paths content →
    ¬ (SomePathWeighsTooMuch paths)
light paths content holds stops =
    let stop = stops.1 in
    not_all_added paths stop.added.before stop.added.after stop.path stop.added.parts [] [] stops.0 content
    (IsPermutation-refl []) stop.added.added stop.refused holds.light holds.added

module _ {I : Type 0} (whole : I → ℤ) (limit fill : ℕ) (subject clip : Contours I) where
  -- that a builder may refuse is told where both are given
  abbrev May : OverlayError → Type 0
  May e = AreGiven whole limit subject × (AreGiven whole limit clip
      × MayRefuseBuilder (added_paths false (paths_given whole subject clip)) e)

  apart : FaultsAreApart (IsUnknownFill fill) (fill < 4) (IsOneFaulty whole limit subject clip)
      (AreBothGiven whole limit subject clip)
  apart = both_apart whole limit subject clip (IsUnknownFill fill) (fill < 4) (λ s t a b. a.0 ∙ sym b.0)
      (λ s a less. let more = a.1 in omega (arith, more, less))

  abbrev Told : ℕ → Status → Type 0
  Told new s = (s ≡ Done) × AreExactBits whole limit fill subject clip new

  one_fault : (old : ℕ) → HandsOneFault (ExactlyRelatingEnds whole limit fill subject clip old)
  one_fault old new newer s t = one_telling (IsUnknownFill fill) (fill < 4) (IsOneFaulty whole limit subject clip)
      (AreBothGiven whole limit subject clip) apart May (λ e m. (m.0, m.1.0))
      (AreExactBits whole limit fill subject clip new) (new ≡ old)
      (AreExactBits whole limit fill subject clip newer) (newer ≡ old)
      (λ are. (are.known, (are.subject_given, are.clip_given))) s t

  same_bits : (first second : ℕ) → AreExactBits whole limit fill subject clip first →
      AreExactBits whole limit fill subject clip second → first ≡ second
  same_bits first second a b = a.bits ∙ ap bits_of (one_exact_answer_of_paths (is_filled (fill_of fill))
      (paths_given whole subject clip) a.relations b.relations a.hold.exact b.hold.exact) ∙ sym b.bits

  told_once : EndsOnce (ExactlyRelatingEnds whole limit fill subject clip)
  told_once old = ends_once (IsUnknownFill fill) (λ f. (fill < 4) × IsOneFaulty whole limit subject clip f)
      (λ e. (fill < 4) × May e) (λ m. m.1.1.1) old Told (λ new s told. done_late s told.0)
      (λ new s told m. light (added_paths false (paths_given whole subject clip)) told.1.hold.content
      told.1.hold.holds m.1.1.1)
      (one_fault old) (λ new newer s t a b. (a.0 ∙ sym b.0, same_bits new newer a.1 b.1))

pub relations_are_told_once : {I : Type 0} (whole : I → ℤ) (limit : ℕ) → RelationsAreToldOnce whole limit
relations_are_told_once whole limit fill subject clip = told_once whole limit fill subject clip
