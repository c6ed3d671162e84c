-- What the answer of a simplification says of the arrays, and its refusals.
use Rattle.std.proofs.Common.{◌≡◌, ◌<◌, ℕ, ℤ, List, lit<, sym, subst, ap}
use Rattle.std.specs.Int.{Width}
use Rattle.overlay_geom.specs.declared.fill_rule.FillRule.{FillRule}
use Rattle.overlay_geom.specs.declared.options.IntOverlayOptions.{IntOverlayOptions}
use Rattle.overlay_geom.specs.declared.options.ShapeType.TheVariants.{Subject}
use Rattle.overlay_geom.specs.declared.overlay_rule.OverlayRule.TheVariants as rule
use Rattle.overlay_geom.specs.Plane.{Point}
use Rattle.overlay_geom.specs.declared.error.OverlayError.{OverlayError}
use Rattle.overlay_geom.specs.declared.error.OverlayError.TheVariants as error
use Rattle.overlay_geom.specs.declared.solver.Solver.{Solver}
use Rattle.overlay_builder.specs.GivenPaths.{paths_for}
use Rattle.overlay_extract.specs.Results.{asked}
use Rattle.i_overlay.specs.Alone.{MayRefuseAlone}
use Rattle.i_overlay.specs.Simplified.{IsSimplifiedAlone}
use Rattle.polyover_calls.specs.Reading.{HaveFault}
use Rattle.polyover_calls.specs.declared.fault.Fault.{Fault}
use Rattle.polyover_calls.specs.declared.fault.Fault.TheVariants as fault
use Rattle.polyover_calls.specs.Asked.{fill_of, solver_of, options_of, keeps_given, AreChoices}
use Rattle.polyover_calls.specs.Given.{Contours, paths_of, AreGiven}
use Rattle.polyover_calls.specs.Simplified.{IsSimplification, IsSimplifyingRefused}
use Rattle.polyover_calls.specs.Statuses.{status_of_fault, status_of_error}
use Rattle.polyover_calls.specs.Written.{Flat, AreFlattened, IsFlat}
use Rattle.polyover_calls.specs.declared.numbers.OptionNumbers.{OptionNumbers}
use Rattle.polyover_calls.specs.declared.status.Status.{Status}
use Rattle.polyover_calls.specs.declared.status.Status.TheVariants.{Memory}

module _ {I U : Type 0} (whole : I → ℤ) (limit fill : ℕ) (options : OptionNumbers U) (given : Contours I) where
  pub contours_refused : (f : Fault) → fill < 4 → AreChoices options →
      HaveFault whole limit given.coordinates given.ends f →
      IsSimplifyingRefused whole limit fill options given (status_of_fault f)
  contours_refused fault.Memory known_fill known are = ((lit< tt, (known_fill, known)), (are, tt))
  contours_refused fault.Ends known_fill known faulty = ((lit< tt, (known_fill, known)), faulty)
  contours_refused fault.Range known_fill known faulty = ((lit< tt, (known_fill, known)), faulty)

  pub memory_refused : (s : Status) → fill < 4 → AreChoices options → AreGiven whole limit given → s ≡ Memory →
      IsSimplifyingRefused whole limit fill options given s
  memory_refused s known_fill known are same = subst (IsSimplifyingRefused whole limit fill options given) (sym same)
      ((lit< tt, (known_fill, known)), (are, tt))

  -- what the query refuses, of what is read
  read_refused : (e : OverlayError) (o : IntOverlayOptions U) (t : Solver) (p : List (List Point)) →
      o ≡ options_of options → t ≡ solver_of options.solver → p ≡ paths_of whole given →
      MayRefuseAlone o.preserve_input_collinear t (paths_for Subject p) e →
      MayRefuseAlone (keeps_given options) (solver_of options.solver) (paths_for Subject (paths_of whole given)) e
  read_refused e o t p same_o same_t same_p may =
      subst (λ y. MayRefuseAlone (keeps_given options) y (paths_for Subject (paths_of whole given)) e) same_t
      (subst (λ q. MayRefuseAlone (keeps_given options) t (paths_for Subject q) e) same_p
      (subst (λ keep. MayRefuseAlone keep t (paths_for Subject p) e)
      (ap (λ m. m.preserve_input_collinear) same_o) may))

  pub simplifying_refused : (e : OverlayError) (o : IntOverlayOptions U) (t : Solver) (p : List (List Point)) →
      fill < 4 → AreChoices options → AreGiven whole limit given → o ≡ options_of options →
      t ≡ solver_of options.solver → p ≡ paths_of whole given →
      MayRefuseAlone o.preserve_input_collinear t (paths_for Subject p) e →
      IsSimplifyingRefused whole limit fill options given (status_of_error e)
  simplifying_refused error.Memory o t p known_fill known are same_o same_t same_p may =
      ((lit< tt, (known_fill, known)), (are, tt))
  simplifying_refused error.NotSettled o t p known_fill known are same_o same_t same_p may =
      ((lit< tt, (known_fill, known)), (are, read_refused error.NotSettled o t p same_o same_t same_p may))
  simplifying_refused error.TooManyEdges o t p known_fill known are same_o same_t same_p may =
      ((lit< tt, (known_fill, known)), (are, read_refused error.TooManyEdges o t p same_o same_t same_p may))
  simplifying_refused error.Failed o t p known_fill known are same_o same_t same_p may = absurd may

  pub contours_simplified : (width : Width) (natural : U → ℕ) (f : FillRule) (o : IntOverlayOptions U) (t : Solver)
      (p : List (List Point)) (shapes : List (List (List Point))) (flat : Flat I) → fill < 4 → AreChoices options →
      AreGiven whole limit given → f ≡ fill_of fill → o ≡ options_of options → t ≡ solver_of options.solver →
      p ≡ paths_of whole given →
      IsSimplifiedAlone t (asked width natural f rule.Subject o) o.preserve_input_collinear p shapes →
      AreFlattened whole shapes flat →
      IsFlat (IsSimplification whole limit width natural fill options given) whole flat
  contours_simplified width natural f o t p shapes flat known_fill known are same_f same_o same_t same_p is
      flattened = record {
        shapes = shapes;
        answer = record {
          known = (lit< tt, (known_fill, known));
          are_given = are;
          simplified =
              let o' = options_of options in
              let keep = keeps_given options in
              subst (λ y. IsSimplifiedAlone y (asked width natural (fill_of fill) rule.Subject o') keep
              (paths_of whole given) shapes) same_t
              (subst (λ y. IsSimplifiedAlone t (asked width natural y rule.Subject o') keep (paths_of whole given)
              shapes) same_f
              (subst (λ q. IsSimplifiedAlone t (asked width natural f rule.Subject o') keep q shapes) same_p
              (subst (λ m. IsSimplifiedAlone t (asked width natural f rule.Subject m) m.preserve_input_collinear p
              shapes)
              same_o is)));
        };
        flattened = flattened;
      }
