-- What bits tell of the arrays, and why none are told.
use Rattle.std.proofs.Common.{◌≡◌, ◌<◌, ℕ, ℤ, false, List, inl, inr, refl, ap₂, subst}
use Rattle.std.specs.Prelude.{Result, Ok, Err, MatchResult}
use Rattle.overlay_geom.specs.Plane.{Point}
use Rattle.overlay_geom.specs.Rules.{is_filled}
use Rattle.overlay_geom.specs.declared.error.OverlayError.{OverlayError}
use Rattle.overlay_geom.specs.declared.error.OverlayError.TheVariants as error
use Rattle.overlay_geom.specs.declared.fill_rule.FillRule.{FillRule}
use Rattle.overlay_builder.specs.GivenPaths.{GivenPath, added_paths, subject_and_clip}
use Rattle.overlay_builder.specs.PathLists.{HoldsPaths, MayRefuseBuilder}
use Rattle.overlay_relate.specs.declared.relations.Relations.{Relations}
use Rattle.overlay_predicates.specs.ExactBuilder.{ExactBuilder, empty_builder}
use Rattle.overlay_predicates.specs.ExactQueries.{TellsRelations}
use Rattle.overlay_predicates.proofs.ToldPaths.{told_of_made}
use Rattle.polyover_calls.specs.declared.fault.Fault.{Fault}
use Rattle.polyover_calls.proofs.Refusals.{unread, unanswered}
use Rattle.polyover_calls.specs.Asked.{fill_of}
use Rattle.polyover_calls.specs.Given.{Contours, paths_of, paths_given, AreGiven, AreUnread}
use Rattle.polyover_calls.specs.Related.{bits_of}
use Rattle.polyover_calls.specs.Statuses.{status_of_fault, status_of_error}
use Rattle.polyover_calls.specs.declared.status.Status.{Status}
use Rattle.polyover_calls.specs.declared.status.Status.TheVariants.{Done}
use Rattle.polyover_exact.specs.Exact.{AreExactBits, AreExactOfHeld, AreExactRefused, ExactlyRelatingEnds}
use Rattle.polyover_exact.specs.Exact.{IsUnknownFill}

-- a new builder that holds the paths tells of them, or memory is refused
pub told_of_held : (fill : FillRule) (paths : List GivenPath) (b : ExactBuilder) (r : Result Relations OverlayError) →
    HoldsPaths (added_paths false paths) b.edges → b ≡ record (empty_builder fill) { edges = b.edges } →
    TellsRelations b r →
    MatchResult r (AreExactOfHeld (is_filled fill) paths) (MayRefuseBuilder (added_paths false paths))
told_of_held fill paths b (Ok r) holds made told =
    record { content = b.edges; holds = holds; exact = told_of_made fill paths b (Ok r) holds made told }
told_of_held fill paths b (Err e) holds made told = told_of_made fill paths b (Err e) holds made told

module _ {I : Type 0} (whole : I → ℤ) (limit fill : ℕ) (subject clip : Contours I) where
  pub told_ends : (old new : ℕ) → AreExactBits whole limit fill subject clip new →
      ExactlyRelatingEnds whole limit fill subject clip old new Done
  told_ends old new told = inl (refl, told)

  pub untold_ends : (old : ℕ) (s : Status) → AreExactRefused whole limit fill subject clip s →
      ExactlyRelatingEnds whole limit fill subject clip old old s
  untold_ends old s refused = inr (refl, refused)

  -- why the relations are not told
  abbrev may : OverlayError → Type 0
  may = MayRefuseBuilder (added_paths false (paths_given whole subject clip))

  never_failed : ¬ (may error.Failed)
  never_failed failed = failed

  pub untold : (f : Fault) → fill < 4 → AreUnread whole limit subject clip f →
      AreExactRefused whole limit fill subject clip (status_of_fault f)
  untold f known = unread whole limit (IsUnknownFill fill) (fill < 4) subject clip may tt f known

  pub refused_so : (e : OverlayError) (p q : List (List Point)) → fill < 4 →
      AreGiven whole limit subject → AreGiven whole limit clip → p ≡ paths_of whole subject →
      q ≡ paths_of whole clip → MayRefuseBuilder (added_paths false (subject_and_clip p q)) e →
      AreExactRefused whole limit fill subject clip (status_of_error e)
  refused_so e p q known s c same_p same_q refused =
      unanswered whole limit (IsUnknownFill fill) (fill < 4) subject clip may never_failed e known s c
      (subst (λ paths. MayRefuseBuilder (added_paths false paths) e) (ap₂ subject_and_clip same_p same_q) refused)

  pub bits_told : (f : FillRule) (p q : List (List Point)) (r : Relations) (bits : ℕ) → fill < 4 →
      AreGiven whole limit subject → AreGiven whole limit clip → f ≡ fill_of fill → p ≡ paths_of whole subject →
      q ≡ paths_of whole clip → AreExactOfHeld (is_filled f) (subject_and_clip p q) r → bits ≡ bits_of r →
      AreExactBits whole limit fill subject clip bits
  bits_told f p q r bits known s c same_f same_p same_q hold same = record {
    known = known;
    subject_given = s;
    clip_given = c;
    relations = r;
    hold = subst (λ y. AreExactOfHeld (is_filled y) (paths_given whole subject clip) r) same_f
        (subst (λ paths. AreExactOfHeld (is_filled f) paths r) (ap₂ subject_and_clip same_p same_q) hold);
    bits = same;
  }
