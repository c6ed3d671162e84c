-- What the answer of a clip says of the arrays, and its refusals.
use Rattle.std.proofs.Common.{◌≡◌, ◌<◌, ℕ, ℤ, List, ap₂, subst}
use Rattle.overlay_geom.specs.declared.fill_rule.FillRule.{FillRule}
use Rattle.overlay_geom.specs.Plane.{Point}
use Rattle.overlay_geom.specs.declared.error.OverlayError.{OverlayError}
use Rattle.overlay_geom.specs.declared.solver.Solver.{Solver}
use Rattle.overlay_string.specs.OneShot.{shape_and_strings, AreClippedOfPaths, MayRefusePaths}
use Rattle.overlay_string.specs.declared.clip_rule.ClipRule.{ClipRule}
use Rattle.polyover_calls.specs.declared.fault.Fault.{Fault}
use Rattle.polyover_calls.proofs.Refusals.{unread, without_memory, unanswered}
use Rattle.polyover_calls.specs.Asked.{fill_of, solver_of}
use Rattle.polyover_calls.specs.Clipped.{clip_rule_of, AreClipChoices, AreClipNumbers, AreClips, IsUnknownClip}
use Rattle.polyover_calls.specs.Clipped.{IsClipRefused}
use Rattle.polyover_calls.specs.Given.{Contours, paths_of, AreGiven, AreUnread}
use Rattle.polyover_calls.specs.Lines.{shape_and_lines}
use Rattle.polyover_calls.specs.Statuses.{status_of_fault, status_of_error}
use Rattle.polyover_calls.specs.WrittenPaths.{FlatPaths, ArePathsFlattened, AreFlatPaths}
use Rattle.polyover_calls.specs.declared.clip_options.ClipOptions.{ClipOptions}
use Rattle.polyover_calls.specs.declared.status.Status.{Status}
use Rattle.polyover_calls.specs.declared.status.Status.TheVariants.{Memory}

module _ {I : Type 0} (whole : I → ℤ) (limit fill : ℕ) (options : ClipOptions) (shape lines : Contours I) where
  abbrev may : OverlayError → Type 0
  may = MayRefusePaths (solver_of options.solver) (shape_and_lines whole shape lines)

  abbrev are_known : Type 0
  are_known = AreClipNumbers fill options

  pub contours_unclipped : (f : Fault) → fill < 4 → AreClipChoices options → AreUnread whole limit shape lines f →
      IsClipRefused whole limit fill options shape lines (status_of_fault f)
  contours_unclipped f known_fill known =
      unread whole limit (IsUnknownClip fill options) are_known shape lines may tt f (known_fill, known)

  pub memory_refused : (s : Status) → fill < 4 → AreClipChoices options → AreGiven whole limit shape →
      AreGiven whole limit lines → s ≡ Memory → IsClipRefused whole limit fill options shape lines s
  memory_refused s known_fill known =
      without_memory whole limit (IsUnknownClip fill options) are_known shape lines may tt s (known_fill, known)

  pub clip_refused : (e : OverlayError) (t : Solver) (p q : List (List Point)) → fill < 4 → AreClipChoices options →
      AreGiven whole limit shape → AreGiven whole limit lines → t ≡ solver_of options.solver →
      p ≡ paths_of whole shape → q ≡ paths_of whole lines → MayRefusePaths t (shape_and_strings p q) e →
      IsClipRefused whole limit fill options shape lines (status_of_error e)
  clip_refused e t p q known_fill known s l same_t same_p same_q refused =
      unanswered whole limit (IsUnknownClip fill options) are_known shape lines may (λ failed. failed) e
      (known_fill, known) s l
      (subst (λ y. MayRefusePaths y (shape_and_lines whole shape lines) e) same_t
      (subst (λ paths. MayRefusePaths t paths e) (ap₂ shape_and_strings same_p same_q) refused))

  pub lines_clipped : (f : FillRule) (r : ClipRule) (t : Solver) (p q paths : List (List Point)) (flat : FlatPaths I) →
      fill < 4 → AreClipChoices options → AreGiven whole limit shape → AreGiven whole limit lines → f ≡ fill_of fill →
      r ≡ clip_rule_of options → t ≡ solver_of options.solver → p ≡ paths_of whole shape →
      q ≡ paths_of whole lines → AreClippedOfPaths t f r (shape_and_strings p q) paths →
      ArePathsFlattened whole paths flat →
      AreFlatPaths (AreClips whole limit fill options shape lines) whole flat
  lines_clipped f r t p q paths flat known_fill known s l same_f same_r same_t same_p same_q are flattened = record {
    paths = paths;
    answer = record {
      known = (known_fill, known);
      shape_given = s;
      lines_given = l;
      clipped = subst (λ y. AreClippedOfPaths y (fill_of fill) (clip_rule_of options)
          (shape_and_lines whole shape lines) paths) same_t
          (subst (λ y. AreClippedOfPaths t y (clip_rule_of options) (shape_and_lines whole shape lines) paths) same_f
          (subst (λ y. AreClippedOfPaths t f y (shape_and_lines whole shape lines) paths) same_r
          (subst (λ ps. AreClippedOfPaths t f r ps paths) (ap₂ shape_and_strings same_p same_q) are)));
    };
    flattened = flattened;
  }
