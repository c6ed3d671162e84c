-- What becomes of the contours is told and left; and a refusal is remembered.
use Rattle.std.proofs.Common.{◌≡◌, is_err, refl, sym, ap, subst, ◌∙◌}
use Rattle.std.proofs.lemmas.Result.{err_from_is_err_and}
use Rattle.std.specs.Prelude.{Ok, Err}
use Rattle.overlay_geom.specs.Flat.{part_in, first_range, paths_in}
use Rattle.overlay_geom.specs.Points.{plain_points}
use Rattle.overlay_geom.specs.declared.error.OverlayError.TheVariants.{Memory}
use Rattle.overlay_geom.specs.declared.options.ShapeType.TheVariants.{Subject}
use Rattle.overlay_geom.specs.declared.overlay_rule.OverlayRule.TheVariants.{Subject as OfSubject}
use Rattle.overlay_plane.specs.Carried.{edges_in}
use Rattle.overlay_builder.specs.GivenPaths.{paths_for}
use Rattle.overlay_builder.specs.Held.{plain_held}
use Rattle.overlay_extract.specs.Results.{asked}
use Rattle.i_overlay.specs.Builder.{held_by}
use Rattle.i_overlay.specs.Simplified.{AreLeft, AreSimplified, StayAsGiven}
use Rattle.i_overlay.proofs.HeldAlone.{alone_after}
use Rattle.i_overlay.proofs.SimplifiedPaths.{all_simplified, stay_told}
use Rattle.i_overlay.proofs.overlay.Overlay.simplify_flat_buffer.Goals as goal

pub returns-clause-alone : goal.returns-clause-alone
returns-clause-alone g c =
    alone_after g.I.IntNumber.limit c.args.self.now.solver c.args.self.now.options.preserve_input_collinear
    (paths_for Subject (paths_in g.I.IntNumber.whole c.args.flat_buffer.now.points.items
    c.args.flat_buffer.now.ranges.items))
    (held_by c.outcome_of_contours.new.self) (plain_held c.set_failed.new.self) c.in_ok-outcome.outcome
    c.in_ok-outcome.ensures.alone (Ok c.in_ok-left.field-0)
    (ap (λ h. edges_in h.edges) c.set_failed.ensures ∙ ap (λ b. b.edges) c.self.view_is
    ∙ ap (λ b. b.edges) c.leave_contours-left.ensures.kept)
    (ap (λ h. h.failed) c.set_failed.ensures ∙ c.is_err.ensures.value ∙ ap is_err c.in_ok-left.was) tt

pub returns-in_err-left-clause-alone : goal.returns-in_err-left-clause-alone
returns-in_err-left-clause-alone g c =
    let p = err_from_is_err_and c.from_residual-in_err-left.result c.from_residual-in_err-left.ensures.1 in
    rw (p.1, p.2) (alone_after g.I.IntNumber.limit c.args.self.now.solver
    c.args.self.now.options.preserve_input_collinear
    (paths_for Subject (paths_in g.I.IntNumber.whole c.args.flat_buffer.now.points.items
    c.args.flat_buffer.now.ranges.items))
    (held_by c.outcome_of_contours.new.self) (plain_held c.set_failed.new.self) c.in_ok-outcome.outcome
    c.in_ok-outcome.ensures.alone (Err Memory)
    (ap (λ h. edges_in h.edges) c.set_failed.ensures ∙ ap (λ b. b.edges) c.self.view_is
    ∙ ap (λ b. b.edges) c.leave_contours-left.ensures.kept)
    (ap (λ h. h.failed) c.set_failed.ensures ∙ c.is_err.ensures.value ∙ ap is_err c.in_err-left.was) refl)

pub returns-clause-simplified : goal.returns-clause-simplified
returns-clause-simplified g c =
    let whole = g.I.IntNumber.whole in
    let points = c.args.flat_buffer.now.points.items in
    let ranges = c.args.flat_buffer.now.ranges.items in
    let old = c.args.self.now in
    let mid = c.outcome_of_contours.new.self in
    let keep = old.options.preserve_input_collinear in
    let width = g.I.Wide.WideIntNumber.width in
    let natural = g.I.WideUInt.UIntNumber.natural in
    let new = c.leave_contours-left.new.contours in
    let same : edges_in c.set_failed.new.self.edges ≡ mid.edges =
    ap (λ h. edges_in h.edges) c.set_failed.ensures ∙ ap (λ b. b.edges) c.self.view_is
    ∙ ap (λ b. b.edges) c.leave_contours-left.ensures.kept in
    let same_options : mid.options ≡ old.options = ap (λ b. b.options) c.in_ok-outcome.ensures.kept in
    subst (λ es. AreSimplified (asked width natural c.args.fill_rule OfSubject old.options) keep
    (paths_in whole points ranges) es (paths_in whole new.points.items new.ranges.items)) (sym same)
    (all_simplified (asked width natural c.args.fill_rule OfSubject old.options) keep mid.edges
    (λ r. plain_points whole (part_in points r)) refl ranges c.in_ok-outcome.outcome
    c.in_ok-outcome.ensures.outcome (paths_in whole new.points.items new.ranges.items)
    (subst (λ opts. AreLeft c.in_ok-outcome.outcome (asked width natural c.args.fill_rule OfSubject opts)
    (plain_points whole (part_in points (first_range ranges))) mid.edges
    (paths_in whole new.points.items new.ranges.items)) same_options
    (rw c.in_ok-left.was at c.leave_contours-left.ensures.left)))

pub returns-clause-given_points : goal.returns-clause-given_points
returns-clause-given_points g c = λ stay.
    let whole = g.I.IntNumber.whole in
    let points = c.args.flat_buffer.now.points.items in
    let ranges = c.args.flat_buffer.now.ranges.items in
    let old = c.args.self.now in
    let mid = c.outcome_of_contours.new.self in
    let keep = old.options.preserve_input_collinear in
    let q = asked g.I.Wide.WideIntNumber.width g.I.WideUInt.UIntNumber.natural c.args.fill_rule OfSubject
    old.options in
    let same : edges_in c.set_failed.new.self.edges ≡ mid.edges =
    ap (λ h. edges_in h.edges) c.set_failed.ensures ∙ ap (λ b. b.edges) c.self.view_is
    ∙ ap (λ b. b.edges) c.leave_contours-left.ensures.kept in
    rw c.in_ok-left.was at (c.leave_contours-left.ensures.given_points (stay_told q keep mid.edges
    (λ r. plain_points whole (part_in points r)) ranges c.in_ok-outcome.outcome c.in_ok-outcome.ensures.outcome
    (subst (StayAsGiven q keep (paths_in whole points ranges)) same stay)))

pub returns-clause-given_ranges : goal.returns-clause-given_ranges
returns-clause-given_ranges g c = λ stay.
    let whole = g.I.IntNumber.whole in
    let points = c.args.flat_buffer.now.points.items in
    let ranges = c.args.flat_buffer.now.ranges.items in
    let old = c.args.self.now in
    let mid = c.outcome_of_contours.new.self in
    let keep = old.options.preserve_input_collinear in
    let q = asked g.I.Wide.WideIntNumber.width g.I.WideUInt.UIntNumber.natural c.args.fill_rule OfSubject
    old.options in
    let same : edges_in c.set_failed.new.self.edges ≡ mid.edges =
    ap (λ h. edges_in h.edges) c.set_failed.ensures ∙ ap (λ b. b.edges) c.self.view_is
    ∙ ap (λ b. b.edges) c.leave_contours-left.ensures.kept in
    rw c.in_ok-left.was at (c.leave_contours-left.ensures.given_ranges (stay_told q keep mid.edges
    (λ r. plain_points whole (part_in points r)) ranges c.in_ok-outcome.outcome c.in_ok-outcome.ensures.outcome
    (subst (StayAsGiven q keep (paths_in whole points ranges)) same stay)))
