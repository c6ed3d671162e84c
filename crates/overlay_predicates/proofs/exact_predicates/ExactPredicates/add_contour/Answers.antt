-- The contour is added by the core, as one of the subject or of the clip, and keeps the counts balanced.
use Rattle.std.proofs.Common.{false, refl, ◌∙◌}
use Rattle.std.proofs.lemmas.Result.{err_from_is_err_and}
use Rattle.std.specs.Prelude.{Ok, Err}
use Rattle.overlay_geom.specs.Points.{plain_points}
use Rattle.overlay_plane.specs.Carried.{edges_in}
use Rattle.overlay_order.specs.Counts.{boolean_counts}
use Rattle.overlay_builder.specs.BuilderCalls.{AddsContourAsAsked}
use Rattle.overlay_builder.specs.Held.{plain_held}
use Rattle.overlay_builder.specs.declared.path.PathKind.TheVariants.{Thinned}
use Rattle.overlay_builder.proofs.AddedContours.{counts_pass_once, contour_added}
use Rattle.overlay_builder.proofs.AddedContours.{asked_contour_added, asked_contour_refused}
use Rattle.overlay_builder.proofs.Balanced.{contour_keeps_balance}
use Rattle.overlay_predicates.proofs.ExactBuilders.{seen_so}
use Rattle.overlay_predicates.proofs.exact_predicates.ExactPredicates.add_contour.Goals as goal

pub returns-in_err-add_path-clause-added : goal.returns-in_err-add_path-clause-added
returns-in_err-add_path-clause-added g c =
    let points = plain_points g.I.IntNumber.whole c.args.contour.now in
    let t = c.args.shape_type in
    let added = c.in_err-add_path.ensures.added in
    let p = err_from_is_err_and c.from_residual.result c.from_residual.ensures.1 in
    rw (p.1, p.2) (seen_so
    (λ before after. AddsContourAsAsked {V = Unit {0}} false t points before after (Err c.in_err-add_path.field-0.0))
    c.self.inside.fill_rule c.args.self.now (plain_held c.self.inside.core) (plain_held c.add_path.new.self)
    c.self.view_is c.self.invariant.usable added.kept
    (asked_contour_refused false t boolean_counts Thinned c.passing.result refl
    (counts_pass_once t c.passing.result c.passing.ensures) points c.self.inside.core c.add_path.new.self
    c.in_err-add_path.field-0.0 added))

pub invariant_of-self-2 : goal.invariant_of-self-2
invariant_of-self-2 g c =
    let points = plain_points g.I.IntNumber.whole c.args.contour.now in
    let added = c.in_ok-add_path.ensures.added in record {
      usable = added.kept ∙ c.self.invariant.usable;
      balanced = contour_keeps_balance false c.args.shape_type points (edges_in c.self.inside.core.edges)
          (edges_in c.add_path.new.self.edges)
          (contour_added false c.args.shape_type boolean_counts Thinned c.passing.result refl
          (counts_pass_once c.args.shape_type c.passing.result c.passing.ensures) points
          c.self.inside.core.edges c.add_path.new.self.edges added.ok)
          c.self.invariant.balanced;
    }

pub returns-clause-added : goal.returns-clause-added
returns-clause-added g c =
    let points = plain_points g.I.IntNumber.whole c.args.contour.now in
    let t = c.args.shape_type in
    let added = c.in_ok-add_path.ensures.added in
    seen_so (λ before after. AddsContourAsAsked {V = Unit {0}} false t points before after (Ok tt))
    c.self.inside.fill_rule c.args.self.now (plain_held c.self.inside.core) (plain_held c.add_path.new.self)
    c.self.view_is c.self.invariant.usable added.kept
    (asked_contour_added false t boolean_counts Thinned c.passing.result refl
    (counts_pass_once t c.passing.result c.passing.ensures) points c.self.inside.core
    c.add_path.new.self c.in_ok-add_path.field-0 tt added)
