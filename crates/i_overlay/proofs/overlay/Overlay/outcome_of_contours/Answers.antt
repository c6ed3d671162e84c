-- One contour is all that is added, and several are cut.
use Rattle.std.proofs.Common.{[], All, length, sym, subst, ◌∙◌}
use Rattle.std.proofs.lemmas.Bool.{eqb-true, eq-eqb, false≢true}
use Rattle.std.proofs.lemmas.List.Elements.{All-head}
use Rattle.overlay_geom.specs.Flat.{part_in, first_range}
use Rattle.overlay_geom.specs.Points.{plain_points, AllInRange}
use Rattle.overlay_geom.specs.declared.overlay_rule.OverlayRule.TheVariants.{Subject as OfSubject}
use Rattle.overlay_extract.specs.Results.{asked}
use Rattle.i_overlay.proofs.SimplifiedPaths.{the_mapped, many_cut}
use Rattle.i_overlay.proofs.overlay.Overlay.outcome_of_contours.Goals as goal

pub outcome_alone-requires : goal.outcome_alone-requires
outcome_alone-requires g c =
    let whole = g.I.IntNumber.whole in
    let in_range = AllInRange g.I.IntNumber.limit in
    let points = c.args.contours.now.points.items in
    let ranges = c.args.contours.now.ranges.items in
    subst (λ ps. in_range (plain_points whole ps)) (sym c.as_first_contour.ensures)
    (All-head in_range (plain_points whole (part_in points (first_range ranges))) []
    (subst (All in_range) (the_mapped (λ r. plain_points whole (part_in points r)) ranges
    (eqb-true (length ranges) 1 (sym c.is_single_contour.ensures ∙ c.if-is_single_contour.true))) c.requires))

pub returns-clause-outcome : goal.returns-clause-outcome
returns-clause-outcome g c =
    let ranges = c.args.contours.now.ranges.items in
    let options = c.args.self.now.options in
    many_cut (asked g.I.Wide.WideIntNumber.width g.I.WideUInt.UIntNumber.natural c.args.fill_rule OfSubject options)
    options.preserve_input_collinear c.hold_alone.new.self.edges
    (λ r. plain_points g.I.IntNumber.whole (part_in c.args.contours.now.points.items r)) ranges
    (λ one. false≢true (sym (sym c.is_single_contour.ensures ∙ c.if-is_single_contour.false)
    ∙ eq-eqb (length ranges) 1 one))
