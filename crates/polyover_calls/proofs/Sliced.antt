-- What the answer of a slicing says of the arrays, and its refusals.
use Rattle.std.proofs.Common.{◌≡◌, ◌<◌, ℕ, ℤ, List, ap₂, subst}
use Rattle.std.specs.Int.{Width}
use Rattle.overlay_geom.specs.declared.fill_rule.FillRule.{FillRule}
use Rattle.overlay_geom.specs.Plane.{Point}
use Rattle.overlay_geom.specs.declared.error.OverlayError.{OverlayError}
use Rattle.overlay_geom.specs.declared.solver.Solver.{Solver}
use Rattle.overlay_string.specs.OneShot.{shape_and_strings, MayRefusePaths}
use Rattle.overlay_string.specs.StringSlices.{AreSlicedOfPaths}
use Rattle.polyover_calls.specs.declared.fault.Fault.{Fault}
use Rattle.polyover_calls.proofs.Refusals.{unread, without_memory, unanswered}
use Rattle.polyover_calls.specs.Asked.{fill_of, solver_of}
use Rattle.polyover_calls.specs.Given.{Contours, paths_of, AreGiven, AreUnread}
use Rattle.polyover_calls.specs.Lines.{shape_and_lines}
use Rattle.polyover_calls.specs.Refusals.{AreQueryNumbers, IsUnknownQuery}
use Rattle.polyover_calls.specs.Sliced.{AreSlices, IsSlicingRefused}
use Rattle.polyover_calls.specs.Statuses.{status_of_fault, status_of_error}
use Rattle.polyover_calls.specs.Written.{Flat, AreFlattened, IsFlat}
use Rattle.polyover_calls.specs.declared.status.Status.{Status}
use Rattle.polyover_calls.specs.declared.status.Status.TheVariants.{Memory}

module _ {I : Type 0} (whole : I → ℤ) (limit fill solver : ℕ) (subject lines : Contours I) where
  abbrev may : OverlayError → Type 0
  may = MayRefusePaths (solver_of solver) (shape_and_lines whole subject lines)

  pub contours_unsliced : (f : Fault) → fill < 4 → solver < 2 → AreUnread whole limit subject lines f →
      IsSlicingRefused whole limit fill solver subject lines (status_of_fault f)
  contours_unsliced f known_fill known = unread whole limit (IsUnknownQuery fill solver) (AreQueryNumbers fill solver)
      subject lines may tt f (known_fill, known)

  pub memory_refused : (s : Status) → fill < 4 → solver < 2 → AreGiven whole limit subject →
      AreGiven whole limit lines → s ≡ Memory → IsSlicingRefused whole limit fill solver subject lines s
  memory_refused s known_fill known = without_memory whole limit (IsUnknownQuery fill solver)
      (AreQueryNumbers fill solver) subject lines may tt s (known_fill, known)

  pub slicing_refused : (e : OverlayError) (t : Solver) (p q : List (List Point)) → fill < 4 → solver < 2 →
      AreGiven whole limit subject → AreGiven whole limit lines → t ≡ solver_of solver → p ≡ paths_of whole subject →
      q ≡ paths_of whole lines → MayRefusePaths t (shape_and_strings p q) e →
      IsSlicingRefused whole limit fill solver subject lines (status_of_error e)
  slicing_refused e t p q known_fill known s l same_t same_p same_q refused =
      unanswered whole limit (IsUnknownQuery fill solver) (AreQueryNumbers fill solver) subject lines may
      (λ failed. failed) e (known_fill, known) s l
      (subst (λ y. MayRefusePaths y (shape_and_lines whole subject lines) e) same_t
      (subst (λ paths. MayRefusePaths t paths e) (ap₂ shape_and_strings same_p same_q) refused))

  pub subject_sliced : (width : Width) (f : FillRule) (t : Solver) (p q : List (List Point))
      (shapes : List (List (List Point))) (flat : Flat I) → fill < 4 → solver < 2 → AreGiven whole limit subject →
      AreGiven whole limit lines → f ≡ fill_of fill → t ≡ solver_of solver → p ≡ paths_of whole subject →
      q ≡ paths_of whole lines → AreSlicedOfPaths t width f (shape_and_strings p q) shapes →
      AreFlattened whole shapes flat →
      IsFlat (AreSlices whole limit width fill solver subject lines) whole flat
  subject_sliced width f t p q shapes flat known_fill known s l same_f same_t same_p same_q are flattened = record {
    shapes = shapes;
    answer = record {
      known = (known_fill, known);
      subject_given = s;
      lines_given = l;
      sliced = subst (λ y. AreSlicedOfPaths y width (fill_of fill) (shape_and_lines whole subject lines) shapes) same_t
          (subst (λ y. AreSlicedOfPaths t width y (shape_and_lines whole subject lines) shapes) same_f
          (subst (λ paths. AreSlicedOfPaths t width f paths shapes) (ap₂ shape_and_strings same_p same_q) are));
    };
    flattened = flattened;
  }
