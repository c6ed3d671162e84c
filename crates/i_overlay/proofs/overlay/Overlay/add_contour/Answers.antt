-- A path that is taken as a contour adds what a contour does, and keeps the counts balanced.
use Rattle.std.proofs.Common.{Ok, Err, sym, subst, ◌∙◌}
use Rattle.std.proofs.lemmas.Result.{err_from_is_err_and}
use Rattle.overlay_geom.specs.Points.{plain_points}
use Rattle.overlay_plane.specs.Carried.{edges_in}
use Rattle.overlay_order.specs.Counts.{boolean_counts}
use Rattle.overlay_builder.specs.BuilderCalls.{AddsContourAsAsked}
use Rattle.overlay_builder.specs.Held.{plain_held}
use Rattle.overlay_builder.proofs.AddedContours.{dataless_pass_once, contour_added}
use Rattle.overlay_builder.proofs.AddedContours.{asked_contour_added, asked_contour_refused}
use Rattle.overlay_builder.proofs.Balanced.{contour_keeps_balance}
use Rattle.i_overlay.specs.Builder.{held_by}
use Rattle.i_overlay.proofs.overlay.Overlay.add_contour.Goals as goal

pub returns-in_err-add_path-clause-added : goal.returns-in_err-add_path-clause-added
returns-in_err-add_path-clause-added g c =
    let points = plain_points g.I.IntNumber.whole c.args.contour.now in
    let p = err_from_is_err_and c.from_residual.result c.from_residual.ensures.1 in
    rw (p.1, p.2) (subst (λ b. AddsContourAsAsked {V = Unit {0}} b.options.preserve_input_collinear c.args.shape_type
    points (held_by b) (plain_held c.add_path.new.self) (Err c.in_err-add_path.field-0.0)) c.self.view_is
    (asked_contour_refused c.self.inside.options.preserve_input_collinear c.args.shape_type
    (λ k. boolean_counts k.count) c.contour_kind-kind.result c.passing_without_data.result
    c.contour_kind-kind.ensures (dataless_pass_once c.args.shape_type c.passing_without_data.result
    c.passing_without_data.ensures) points c.self.inside.core c.add_path.new.self c.in_err-add_path.field-0.0
    c.in_err-add_path.ensures.added))

pub invariant_of-self-2 : goal.invariant_of-self-2
invariant_of-self-2 g c = λ ready.
    let points = plain_points g.I.IntNumber.whole c.args.contour.now in
    let keep = c.self.inside.options.preserve_input_collinear in
    let added = c.in_ok-add_path.ensures.added in
    contour_keeps_balance keep c.args.shape_type points (edges_in c.self.inside.core.edges)
    (edges_in c.add_path.new.self.edges)
    (contour_added keep c.args.shape_type (λ k. boolean_counts k.count) c.contour_kind-kind.result
    c.passing_without_data.result
    c.contour_kind-kind.ensures (dataless_pass_once c.args.shape_type c.passing_without_data.result
    c.passing_without_data.ensures) points
    c.self.inside.core.edges c.add_path.new.self.edges added.ok)
    (c.self.invariant (sym added.kept ∙ ready))

pub returns-clause-added : goal.returns-clause-added
returns-clause-added g c =
    let points = plain_points g.I.IntNumber.whole c.args.contour.now in
    subst (λ b. AddsContourAsAsked {V = Unit {0}} b.options.preserve_input_collinear c.args.shape_type points
    (held_by b) (plain_held c.add_path.new.self) (Ok tt)) c.self.view_is
    (asked_contour_added c.self.inside.options.preserve_input_collinear c.args.shape_type
    (λ k. boolean_counts k.count) c.contour_kind-kind.result c.passing_without_data.result
    c.contour_kind-kind.ensures (dataless_pass_once c.args.shape_type c.passing_without_data.result
    c.passing_without_data.ensures) points c.self.inside.core c.add_path.new.self c.in_ok-add_path.field-0 tt
    c.in_ok-add_path.ensures.added)
