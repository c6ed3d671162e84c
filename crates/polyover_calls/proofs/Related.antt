-- What bits tell of the arrays, and why none are told.
use Rattle.std.proofs.Common.{◌≡◌, ◌<◌, ℕ, ℤ, List, inl, inr, refl, ap₂, subst}
use Rattle.overlay_geom.specs.declared.fill_rule.FillRule.{FillRule}
use Rattle.overlay_geom.specs.Plane.{Point}
use Rattle.overlay_geom.specs.declared.error.OverlayError.{OverlayError}
use Rattle.overlay_geom.specs.declared.error.OverlayError.TheVariants as error
use Rattle.overlay_geom.specs.declared.solver.Solver.{Solver}
use Rattle.overlay_builder.specs.GivenPaths.{subject_and_clip}
use Rattle.overlay_relate.specs.declared.relations.Relations.{Relations}
use Rattle.i_overlay.specs.OneShot.{MayRefusePaths}
use Rattle.i_overlay.specs.Relations.{AreRelationsOfPaths}
use Rattle.polyover_calls.specs.declared.fault.Fault.{Fault}
use Rattle.polyover_calls.proofs.Refusals.{unread, unanswered}
use Rattle.polyover_calls.specs.Asked.{fill_of, solver_of}
use Rattle.polyover_calls.specs.Given.{Contours, paths_of, paths_given, AreGiven, AreUnread}
use Rattle.polyover_calls.specs.Refusals.{AreQueryNumbers, IsUnknownQuery}
use Rattle.polyover_calls.specs.Related.{AreRelated, IsRelatingRefused, RelatingEnds, bits_of}
use Rattle.polyover_calls.specs.Statuses.{status_of_fault, status_of_error}
use Rattle.polyover_calls.specs.declared.status.Status.{Status}
use Rattle.polyover_calls.specs.declared.status.Status.TheVariants.{Done}

module _ {I : Type 0} (whole : I → ℤ) (limit fill solver : ℕ) (subject clip : Contours I) where
  pub told_ends : (old new : ℕ) → AreRelated whole limit fill solver subject clip new →
      RelatingEnds whole limit fill solver subject clip old new Done
  told_ends old new told = inl (refl, told)

  pub untold_ends : (old : ℕ) (s : Status) → IsRelatingRefused whole limit fill solver subject clip s →
      RelatingEnds whole limit fill solver subject clip old old s
  untold_ends old s refused = inr (refl, refused)

  -- why the relations are not told
  abbrev may : OverlayError → Type 0
  may = MayRefusePaths (solver_of solver) (paths_given whole subject clip)

  never_failed : ¬ (may error.Failed)
  never_failed failed = failed

  pub contours_untold : (f : Fault) → fill < 4 → solver < 2 → AreUnread whole limit subject clip f →
      IsRelatingRefused whole limit fill solver subject clip (status_of_fault f)
  contours_untold f known_fill known = unread whole limit (IsUnknownQuery fill solver) (AreQueryNumbers fill solver)
      subject clip may tt f (known_fill, known)

  -- what the query refuses, of what is read
  refused_of : (e : OverlayError) (t : Solver) (p q : List (List Point)) → t ≡ solver_of solver →
      p ≡ paths_of whole subject → q ≡ paths_of whole clip → MayRefusePaths t (subject_and_clip p q) e → may e
  refused_of e t p q same_t same_p same_q refused =
      subst (λ y. MayRefusePaths y (paths_given whole subject clip) e) same_t
      (subst (λ paths. MayRefusePaths t paths e) (ap₂ subject_and_clip same_p same_q) refused)

  pub relating_refused : (e : OverlayError) (t : Solver) (p q : List (List Point)) → fill < 4 → solver < 2 →
      AreGiven whole limit subject → AreGiven whole limit clip → t ≡ solver_of solver → p ≡ paths_of whole subject →
      q ≡ paths_of whole clip → MayRefusePaths t (subject_and_clip p q) e →
      IsRelatingRefused whole limit fill solver subject clip (status_of_error e)
  relating_refused e t p q known_fill known s c same_t same_p same_q refused =
      unanswered whole limit (IsUnknownQuery fill solver) (AreQueryNumbers fill solver) subject clip may never_failed e
      (known_fill, known) s c (refused_of e t p q same_t same_p same_q refused)

  pub bits_told : (f : FillRule) (t : Solver) (p q : List (List Point)) (r : Relations) (bits : ℕ) → fill < 4 →
      solver < 2 → AreGiven whole limit subject → AreGiven whole limit clip → f ≡ fill_of fill → t ≡ solver_of solver →
      p ≡ paths_of whole subject → q ≡ paths_of whole clip →
      AreRelationsOfPaths t f (subject_and_clip p q) (subject_and_clip q p) r →
      bits ≡ bits_of r → AreRelated whole limit fill solver subject clip bits
  bits_told f t p q r bits known_fill known s c same_f same_t same_p same_q hold same = record {
    known = (known_fill, known);
    subject_given = s;
    clip_given = c;
    relations = r;
    hold = subst (λ y. AreRelationsOfPaths y (fill_of fill) (paths_given whole subject clip)
        (paths_given whole clip subject) r) same_t
        (subst (λ y. AreRelationsOfPaths t y (paths_given whole subject clip) (paths_given whole clip subject) r)
        same_f
        (subst (λ paths. AreRelationsOfPaths t f (paths_given whole subject clip) paths r)
        (ap₂ subject_and_clip same_q same_p)
        (subst (λ paths. AreRelationsOfPaths t f paths (subject_and_clip q p) r)
        (ap₂ subject_and_clip same_p same_q) hold)));
    bits = same;
  }
