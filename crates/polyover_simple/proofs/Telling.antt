-- What the answer of a simplification that is told says of the arrays.
use Rattle.std.proofs.Common.{◌≡◌, ◌<◌, ℕ, ℤ, Bool, List, lit<, refl, subst}
use Rattle.std.specs.Int.{Width}
use Rattle.overlay_extract.specs.Results.{asked}
use Rattle.overlay_geom.specs.Plane.{Point}
use Rattle.overlay_geom.specs.Rules.{bit}
use Rattle.overlay_geom.specs.declared.fill_rule.FillRule.{FillRule}
use Rattle.overlay_geom.specs.declared.options.IntOverlayOptions.{IntOverlayOptions}
use Rattle.overlay_geom.specs.declared.overlay_rule.OverlayRule.TheVariants as rule
use Rattle.overlay_geom.specs.declared.solver.Solver.{Solver}
use Rattle.polyover_calls.specs.Asked.{fill_of, solver_of, options_of, keeps_given, AreChoices}
use Rattle.polyover_calls.specs.Given.{Contours, paths_of, AreGiven}
use Rattle.polyover_calls.specs.Written.{AreFlattened, Flat}
use Rattle.polyover_calls.specs.declared.numbers.OptionNumbers.{OptionNumbers}
use Rattle.polyover_simple.specs.Simplified.{AreSimplifiedSo}
use Rattle.polyover_simple.specs.Told.{AreToldShapes, ToldFlat}

module _ {I U : Type 0} (whole : I → ℤ) (limit fill : ℕ) (options : OptionNumbers U) (given : Contours I) where
  pub shapes_told : (width : Width) (natural : U → ℕ) (f : FillRule) (o : IntOverlayOptions U) (t : Solver)
      (p : List (List Point)) (shapes : List (List (List Point))) (stay : Bool) (flat : Flat I) → fill < 4 →
      AreChoices options → AreGiven whole limit given → f ≡ fill_of fill → o ≡ options_of options →
      t ≡ solver_of options.solver → p ≡ paths_of whole given →
      AreSimplifiedSo t (asked width natural f rule.Subject o) o.preserve_input_collinear p shapes stay →
      AreFlattened whole shapes flat →
      AreToldShapes whole limit width natural fill options given (record { flat = flat; as_given = bit stay 1 })
  shapes_told width natural f o t p shapes stay flat known_fill known are same_f same_o same_t same_p is flattened =
      record {
        known = (lit< tt, (known_fill, known));
        are_given = are;
        shapes = shapes;
        stay = stay;
        simplified =
            let o' = options_of options in
            let keep = keeps_given options in
            subst (λ y. AreSimplifiedSo y (asked width natural (fill_of fill) rule.Subject o') keep
            (paths_of whole given) shapes stay) same_t
            (subst (λ y. AreSimplifiedSo t (asked width natural y rule.Subject o') keep (paths_of whole given) shapes
            stay) same_f
            (subst (λ q. AreSimplifiedSo t (asked width natural f rule.Subject o') keep q shapes stay) same_p
            (subst (λ m. AreSimplifiedSo t (asked width natural f rule.Subject m) m.preserve_input_collinear p shapes
            stay) same_o is)));
        flattened = flattened;
        told = refl;
      }
