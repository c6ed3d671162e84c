-- What becomes of the contour is told and left; and a refusal is remembered.
use Rattle.std.proofs.Common.{◌≡◌, is_err, refl, [], ◌∷◌, sym, ap, subst, ◌∙◌}
use Rattle.std.proofs.lemmas.Result.{IfOk-at_ok, err_from_is_err_and}
use Rattle.std.specs.Prelude.{◌↔◌, None, Ok, Err, option_map}
use Rattle.overlay_geom.specs.Paths.{plain_shapes}
use Rattle.overlay_geom.specs.Points.{plain_points}
use Rattle.overlay_geom.specs.declared.error.OverlayError.TheVariants.{Memory}
use Rattle.overlay_geom.specs.declared.options.ShapeType.TheVariants.{Subject}
use Rattle.overlay_geom.specs.declared.overlay_rule.OverlayRule.TheVariants.{Subject as OfSubject}
use Rattle.overlay_plane.specs.Carried.{edges_in}
use Rattle.overlay_builder.specs.GivenPaths.{paths_for}
use Rattle.overlay_builder.specs.Held.{plain_held}
use Rattle.overlay_extract.specs.Results.{asked}
use Rattle.i_overlay.specs.Builder.{held_by}
use Rattle.i_overlay.specs.Simplified.{IsLeft, IsSimplified, StayAsGiven, shapes_answered}
use Rattle.i_overlay.proofs.HeldAlone.{alone_after}
use Rattle.i_overlay.proofs.SimplifiedContours.{simplified_contour, none_as_given}
use Rattle.i_overlay.proofs.overlay.Overlay.simplify_contour.Goals as goal

pub returns-clause-alone : goal.returns-clause-alone
returns-clause-alone g c =
    alone_after g.I.IntNumber.limit c.args.self.now.solver c.args.self.now.options.preserve_input_collinear
    (paths_for Subject (plain_points g.I.IntNumber.whole c.args.contour.now ∷ []))
    (held_by c.outcome_alone.new.self) (plain_held c.set_failed.new.self) c.in_ok-outcome.outcome
    c.in_ok-outcome.ensures.alone (Ok c.in_ok-answer.field-0)
    (ap (λ h. edges_in h.edges) c.set_failed.ensures ∙ ap (λ b. b.edges) c.self.view_is
    ∙ ap (λ b. b.edges) c.answer-answer.ensures.kept)
    (ap (λ h. h.failed) c.set_failed.ensures ∙ c.is_err.ensures.value ∙ ap is_err c.in_ok-answer.was) tt

pub returns-in_err-answer-clause-alone : goal.returns-in_err-answer-clause-alone
returns-in_err-answer-clause-alone g c =
    let p = err_from_is_err_and c.from_residual-in_err-answer.result c.from_residual-in_err-answer.ensures.1 in
    rw (p.1, p.2) (alone_after g.I.IntNumber.limit c.args.self.now.solver
    c.args.self.now.options.preserve_input_collinear
    (paths_for Subject (plain_points g.I.IntNumber.whole c.args.contour.now ∷ []))
    (held_by c.outcome_alone.new.self) (plain_held c.set_failed.new.self) c.in_ok-outcome.outcome
    c.in_ok-outcome.ensures.alone (Err Memory)
    (ap (λ h. edges_in h.edges) c.set_failed.ensures ∙ ap (λ b. b.edges) c.self.view_is
    ∙ ap (λ b. b.edges) c.answer-answer.ensures.kept)
    (ap (λ h. h.failed) c.set_failed.ensures ∙ c.is_err.ensures.value ∙ ap is_err c.in_err-answer.was) refl)

pub returns-clause-simplified : goal.returns-clause-simplified
returns-clause-simplified g c =
    let whole = g.I.IntNumber.whole in
    let ps = plain_points whole c.args.contour.now in
    let shapes = shapes_answered (ps ∷ []) (option_map (λ v. plain_shapes whole v.items) c.in_ok-answer.field-0) in
    let old = c.args.self.now in
    let mid = c.outcome_alone.new.self in
    let keep = old.options.preserve_input_collinear in
    let width = g.I.Wide.WideIntNumber.width in
    let natural = g.I.WideUInt.UIntNumber.natural in
    let same : edges_in c.set_failed.new.self.edges ≡ mid.edges =
    ap (λ h. edges_in h.edges) c.set_failed.ensures ∙ ap (λ b. b.edges) c.self.view_is
    ∙ ap (λ b. b.edges) c.answer-answer.ensures.kept in
    let same_options : mid.options ≡ old.options = ap (λ b. b.options) c.in_ok-outcome.ensures.kept in
    subst (λ es. IsSimplified (asked width natural c.args.fill_rule OfSubject old.options) keep (ps ∷ []) es shapes)
    (sym same)
    (simplified_contour keep ps mid.edges (asked width natural c.args.fill_rule OfSubject old.options) refl
    c.in_ok-outcome.outcome c.in_ok-outcome.ensures.outcome shapes
    (subst (λ opts. IsLeft c.in_ok-outcome.outcome (asked width natural c.args.fill_rule OfSubject opts) ps mid.edges
    shapes) same_options (IfOk-at_ok _ c.in_ok-answer.was c.answer-answer.ensures.left)))

pub returns-clause-as_given : goal.returns-clause-as_given
returns-clause-as_given g c =
    let ps = plain_points g.I.IntNumber.whole c.args.contour.now in
    let old = c.args.self.now in
    let mid = c.outcome_alone.new.self in
    let keep = old.options.preserve_input_collinear in
    let q = asked g.I.Wide.WideIntNumber.width g.I.WideUInt.UIntNumber.natural c.args.fill_rule OfSubject
    old.options in
    let same : edges_in c.set_failed.new.self.edges ≡ mid.edges =
    ap (λ h. edges_in h.edges) c.set_failed.ensures ∙ ap (λ b. b.edges) c.self.view_is
    ∙ ap (λ b. b.edges) c.answer-answer.ensures.kept in
    subst (λ es. (c.in_ok-answer.field-0 ≡ None) ↔ StayAsGiven q keep (ps ∷ []) es) (sym same)
    (none_as_given keep ps mid.edges c.args.fill_rule old.options.output_direction c.in_ok-answer.field-0
    c.in_ok-outcome.outcome c.in_ok-outcome.ensures.outcome
    (IfOk-at_ok _ c.in_ok-answer.was c.answer-answer.ensures.as_given))
