-- The builder tells whether the contour stays as it is given; its shape is made of it then.
use Rattle.std.proofs.Common.{◌≡◌, Bool, true, false, List, [], ◌∷◌, refl, sym, ap, ◌∙◌, subst}
use Rattle.std.proofs.lemmas.Bool.{false≢true}
use Rattle.std.specs.Prelude.{Option, Some, None}
use Rattle.overlay_extract.specs.Results.{Asked, asked}
use Rattle.overlay_geom.specs.Paths.{plain_shapes}
use Rattle.overlay_geom.specs.Points.{plain_points}
use Rattle.overlay_geom.specs.declared.overlay_rule.OverlayRule.TheVariants as rule
use Rattle.i_overlay.specs.Simplified.{IsSimplified}
use Rattle.polyover_simple.proofs.Simplified.{simplified_so}
use Rattle.polyover_simple.proofs.contour.simplified_contour.Goals as goal

abbrev is_there : {X : Type 0} → Option X → Bool
is_there None = false
is_there (Some x) = true

not_there : {X : Type 0} (o : Option X) (x : X) → o ≡ Some x → ¬ (o ≡ None)
not_there o x some none = false≢true (ap is_there (sym none ∙ some))

pub returns-in-Some-clause-simplified : goal.returns-in-Some-clause-simplified
returns-in-Some-clause-simplified g c =
    let old = c.args.overlay.now in
    let whole = g.I.IntNumber.whole in
    let e = c.in_ok-shapes.ensures in
    simplified_so old.solver
    (asked g.I.Wide.WideIntNumber.width g.I.WideUInt.UIntNumber.natural c.args.fill rule.Subject old.options)
    old.options.preserve_input_collinear (plain_points whole c.args.contour.now ∷ [])
    c.simplify_contour.new.self.edges e.alone.arranged (plain_shapes whole c.in-Some.shapes.items)
    (rw c.in-Some.is at e.simplified) false (
      λ no. absurd (false≢true no),
      λ stays. absurd (not_there c.in_ok-shapes.field-0 c.in-Some.shapes c.in-Some.is (e.as_given.1 stays)),
    )

pub returns-in_ok-shape_of-in-None-clause-simplified : goal.returns-in_ok-shape_of-in-None-clause-simplified
returns-in_ok-shape_of-in-None-clause-simplified g c =
    let old = c.args.overlay.now in
    let whole = g.I.IntNumber.whole in
    let e = c.in_ok-shapes.ensures in
    let q : Asked = asked g.I.Wide.WideIntNumber.width g.I.WideUInt.UIntNumber.natural c.args.fill rule.Subject
    old.options in
    let paths = plain_points whole c.args.contour.now ∷ [] in
    simplified_so old.solver q old.options.preserve_input_collinear paths c.simplify_contour.new.self.edges
    e.alone.arranged (plain_shapes whole c.in_ok-shape_of-in-None.field-0.items)
    (subst (IsSimplified q old.options.preserve_input_collinear paths c.simplify_contour.new.self.edges)
    (sym c.in_ok-shape_of-in-None.ensures) (rw c.in-None.is at e.simplified)) true
    (λ yes. e.as_given.0 c.in-None.is, λ stays. refl)
