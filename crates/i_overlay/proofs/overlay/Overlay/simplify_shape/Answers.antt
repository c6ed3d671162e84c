-- One contour is all that is added, and of several none stays as it is given.
use Rattle.std.proofs.Common.{◌≡◌, [], ◌∷◌, All, sym, ap, subst, ◌∙◌}
use Rattle.std.proofs.lemmas.List.{length-map}
use Rattle.std.proofs.lemmas.List.Elements.{All-head}
use Rattle.std.proofs.lemmas.Option.{none-some}
use Rattle.std.specs.Prelude.{◌↔◌, None, IfOk}
use Rattle.overlay_geom.specs.Paths.{paths_of_shape, plain_shapes}
use Rattle.overlay_geom.specs.Points.{plain_points, AllInRange}
use Rattle.overlay_geom.specs.declared.overlay_rule.OverlayRule.TheVariants.{Subject as OfSubject}
use Rattle.overlay_extract.specs.Results.{asked}
use Rattle.i_overlay.specs.Simplified.{StayAsGiven}
use Rattle.i_overlay.proofs.SimplifiedPaths.{the_shown, many_simplified, none_stay}
use Rattle.i_overlay.proofs.overlay.Overlay.simplify_shape.Goals as goal

pub simplify_contour-requires : goal.simplify_contour-requires
simplify_contour-requires g c =
    let whole = g.I.IntNumber.whole in
    let in_range = AllInRange g.I.IntNumber.limit in
    let one : paths_of_shape whole c.args.shape.now ≡ plain_points whole c.deref.result.now ∷ [] =
    the_shown (λ k. plain_points whole k.items) c.args.shape.now c.index-shape-0.result c.if-shape-eq1.true
    c.index-shape-0.is ∙ ap (λ items. plain_points whole items ∷ []) (sym c.deref.ensures.value) in
    record {
      points = All-head in_range (plain_points whole c.deref.result.now) []
          (subst (All in_range) one c.requires.points);
    }

pub returns-then-shape-eq1-clause-as_given : goal.returns-then-shape-eq1-clause-as_given
returns-then-shape-eq1-clause-as_given g c =
    let whole = g.I.IntNumber.whole in
    let one : paths_of_shape whole c.args.shape.now ≡ plain_points whole c.deref.result.now ∷ [] =
    the_shown (λ k. plain_points whole k.items) c.args.shape.now c.index-shape-0.result c.if-shape-eq1.true
    c.index-shape-0.is ∙ ap (λ items. plain_points whole items ∷ []) (sym c.deref.ensures.value) in
    subst (λ all. IfOk c.simplify_contour.result (λ o. (o ≡ None) ↔ StayAsGiven
    (asked g.I.Wide.WideIntNumber.width g.I.WideUInt.UIntNumber.natural c.args.fill_rule OfSubject
    c.args.self.now.options) c.args.self.now.options.preserve_input_collinear all c.simplify_contour.new.self.edges))
    (sym one) c.simplify_contour.ensures.as_given

pub returns-clause-simplified : goal.returns-clause-simplified
returns-clause-simplified g c =
    let whole = g.I.IntNumber.whole in
    let old = c.args.self.now in
    many_simplified (asked g.I.Wide.WideIntNumber.width g.I.WideUInt.UIntNumber.natural c.args.fill_rule OfSubject
    old.options) old.options.preserve_input_collinear c.overlay_alone.new.self.edges
    (paths_of_shape whole c.args.shape.now)
    (λ one. c.if-shape-eq1.false (sym (length-map c.args.shape.now (λ k. plain_points whole k.items)) ∙ one))
    (plain_shapes whole c.in_ok-overlay_alone.field-0.items) c.in_ok-overlay_alone.ensures.result

pub returns-clause-as_given : goal.returns-clause-as_given
returns-clause-as_given g c =
    let whole = g.I.IntNumber.whole in
    let old = c.args.self.now in (
      (λ none. absurd (none-some _ (sym none))),
      (λ stay. absurd (none_stay (asked g.I.Wide.WideIntNumber.width g.I.WideUInt.UIntNumber.natural c.args.fill_rule
          OfSubject old.options) old.options.preserve_input_collinear c.overlay_alone.new.self.edges
          (paths_of_shape whole c.args.shape.now)
          (λ one. c.if-shape-eq1.false (sym (length-map c.args.shape.now (λ k. plain_points whole k.items)) ∙ one))
          stay)),
    )
