-- What the answer of a slicing as numbers ask says of the arrays, and its refusals.
use Rattle.std.proofs.Common.{◌≡◌, ◌<◌, ℕ, ℤ, List, lit<, ap₂, subst}
use Rattle.std.specs.Int.{Width}
use Rattle.overlay_extract.specs.Results.{asked}
use Rattle.overlay_geom.specs.Plane.{Point}
use Rattle.overlay_geom.specs.declared.error.OverlayError.{OverlayError}
use Rattle.overlay_geom.specs.declared.fill_rule.FillRule.{FillRule}
use Rattle.overlay_geom.specs.declared.options.IntOverlayOptions.{IntOverlayOptions}
use Rattle.overlay_geom.specs.declared.overlay_rule.OverlayRule.TheVariants as rule
use Rattle.overlay_geom.specs.declared.solver.Solver.{Solver}
use Rattle.overlay_string.specs.OneShot.{shape_and_strings, MayRefusePaths}
use Rattle.polyover_calls.specs.Asked.{fill_of, solver_of, options_of, AreChoices, AreKnown, IsUnknown}
use Rattle.polyover_calls.specs.Given.{Contours, paths_of, AreGiven, AreUnread}
use Rattle.polyover_calls.specs.Lines.{shape_and_lines}
use Rattle.polyover_calls.specs.Statuses.{status_of_fault, status_of_error}
use Rattle.polyover_calls.specs.Written.{Flat, AreFlattened, IsFlat}
use Rattle.polyover_calls.specs.declared.fault.Fault.{Fault}
use Rattle.polyover_calls.specs.declared.numbers.OptionNumbers.{OptionNumbers}
use Rattle.polyover_calls.specs.declared.status.Status.{Status}
use Rattle.polyover_calls.specs.declared.status.Status.TheVariants.{Memory}
use Rattle.polyover_calls.proofs.Refusals.{unread, without_memory, unanswered}
use Rattle.polyover_slices.specs.Asked.{AreSlicesAsAsked, IsAskedSlicingRefused}
use Rattle.polyover_slices.specs.Slices.{AreSlicesOfPaths}

module _ {I U : Type 0} (whole : I → ℤ) (limit fill : ℕ) (options : OptionNumbers U) (subject lines : Contours I) where
  abbrev may : OverlayError → Type 0
  may = MayRefusePaths (solver_of options.solver) (shape_and_lines whole subject lines)

  pub contours_unsliced : (f : Fault) → fill < 4 → AreChoices options → AreUnread whole limit subject lines f →
      IsAskedSlicingRefused whole limit fill options subject lines (status_of_fault f)
  contours_unsliced f known_fill known = unread whole limit (IsUnknown 0 fill options) (AreKnown 0 fill options) subject
      lines may tt f (lit< tt, (known_fill, known))

  pub memory_refused : (s : Status) → fill < 4 → AreChoices options → AreGiven whole limit subject →
      AreGiven whole limit lines → s ≡ Memory → IsAskedSlicingRefused whole limit fill options subject lines s
  memory_refused s known_fill known = without_memory whole limit (IsUnknown 0 fill options) (AreKnown 0 fill options)
      subject lines may tt s (lit< tt, (known_fill, known))

  pub slicing_refused : (e : OverlayError) (t : Solver) (p q : List (List Point)) → fill < 4 → AreChoices options →
      AreGiven whole limit subject → AreGiven whole limit lines → t ≡ solver_of options.solver →
      p ≡ paths_of whole subject → q ≡ paths_of whole lines → MayRefusePaths t (shape_and_strings p q) e →
      IsAskedSlicingRefused whole limit fill options subject lines (status_of_error e)
  slicing_refused e t p q known_fill known s l same_t same_p same_q refused =
      unanswered whole limit (IsUnknown 0 fill options) (AreKnown 0 fill options) subject lines may
      (λ failed. failed) e (lit< tt, (known_fill, known)) s l
      (subst (λ y. MayRefusePaths y (shape_and_lines whole subject lines) e) same_t
      (subst (λ paths. MayRefusePaths t paths e) (ap₂ shape_and_strings same_p same_q) refused))

  pub subject_sliced : (width : Width) (natural : U → ℕ) (f : FillRule) (o : IntOverlayOptions U) (t : Solver)
      (p q : List (List Point)) (shapes : List (List (List Point))) (flat : Flat I) → fill < 4 → AreChoices options →
      AreGiven whole limit subject → AreGiven whole limit lines → f ≡ fill_of fill → o ≡ options_of options →
      t ≡ solver_of options.solver → p ≡ paths_of whole subject → q ≡ paths_of whole lines →
      AreSlicesOfPaths t (asked width natural f rule.Subject o) (shape_and_strings p q) shapes →
      AreFlattened whole shapes flat →
      IsFlat (AreSlicesAsAsked whole limit width natural fill options subject lines) whole flat
  subject_sliced width natural f o t p q shapes flat known_fill known s l same_f same_o same_t same_p same_q are
      flattened = record {
        shapes = shapes;
        answer = record {
          known = (lit< tt, (known_fill, known));
          subject_given = s;
          lines_given = l;
          sliced =
              let paths = shape_and_lines whole subject lines in
              let o' = options_of options in
              subst (λ y. AreSlicesOfPaths y (asked width natural (fill_of fill) rule.Subject o') paths shapes) same_t
              (subst (λ y. AreSlicesOfPaths t (asked width natural y rule.Subject o') paths shapes) same_f
              (subst (λ y. AreSlicesOfPaths t (asked width natural f rule.Subject y) paths shapes) same_o
              (subst (λ y. AreSlicesOfPaths t (asked width natural f rule.Subject o) y shapes)
              (ap₂ shape_and_strings same_p same_q) are)));
        };
        flattened = flattened;
      }
