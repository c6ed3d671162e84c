-- A path that is taken as a contour adds what a contour does, and keeps the counts balanced.
use Rattle.std.proofs.Common.{Ok, Err, sym, subst, ◌∙◌, false, refl}
use Rattle.std.proofs.lemmas.Result.{err_from_is_err_and}
use Rattle.overlay_geom.specs.Points.{plain_points}
use Rattle.overlay_plane.specs.Carried.{edges_in}
use Rattle.overlay_order.specs.Counts.{boolean_counts}
use Rattle.overlay_builder.specs.BuilderCalls.{AddsContourAsAsked}
use Rattle.overlay_builder.specs.Held.{plain_held}
use Rattle.overlay_builder.proofs.AddedContours.{counts_pass_once, contour_added}
use Rattle.overlay_builder.proofs.AddedContours.{asked_contour_added, asked_contour_refused}
use Rattle.overlay_builder.proofs.Balanced.{contour_keeps_balance}
use Rattle.overlay_builder.specs.declared.path.PathKind.TheVariants.{Thinned}
use Rattle.overlay_relate.specs.PredicateBuilder.{held_by}
use Rattle.overlay_relate.proofs.predicate_overlay.PredicateOverlay.add_contour.Goals as goal

pub returns-in_err-add_path-clause-added : goal.returns-in_err-add_path-clause-added
returns-in_err-add_path-clause-added g c =
    let points = plain_points g.I.IntNumber.whole c.args.contour.now in
    let p = err_from_is_err_and c.from_residual.result c.from_residual.ensures.1 in
    rw (p.1, p.2) (subst (λ b. AddsContourAsAsked {V = Unit {0}} false c.args.shape_type points (held_by b)
    (plain_held c.add_path.new.self) (Err c.in_err-add_path.field-0.0)) c.self.view_is
    (asked_contour_refused false c.args.shape_type boolean_counts Thinned c.passing.result refl
    (counts_pass_once c.args.shape_type c.passing.result c.passing.ensures) points c.self.inside.core
    c.add_path.new.self c.in_err-add_path.field-0.0 c.in_err-add_path.ensures.added))

pub invariant_of-self-2 : goal.invariant_of-self-2
invariant_of-self-2 g c =
    let points = plain_points g.I.IntNumber.whole c.args.contour.now in
    let added = c.in_ok-add_path.ensures.added in record {
      balanced = λ ready. contour_keeps_balance false c.args.shape_type points (edges_in c.self.inside.core.edges)
          (edges_in c.add_path.new.self.edges)
          (contour_added false c.args.shape_type boolean_counts Thinned c.passing.result refl
          (counts_pass_once c.args.shape_type c.passing.result c.passing.ensures) points
          c.self.inside.core.edges c.add_path.new.self.edges added.ok)
          (c.self.invariant.balanced (sym added.kept ∙ ready));
      right = tt;
    }

pub returns-clause-added : goal.returns-clause-added
returns-clause-added g c =
    let points = plain_points g.I.IntNumber.whole c.args.contour.now in
    subst (λ b. AddsContourAsAsked {V = Unit {0}} false c.args.shape_type points (held_by b)
    (plain_held c.add_path.new.self) (Ok tt)) c.self.view_is
    (asked_contour_added false c.args.shape_type boolean_counts Thinned c.passing.result refl
    (counts_pass_once c.args.shape_type c.passing.result c.passing.ensures) points c.self.inside.core
    c.add_path.new.self c.in_ok-add_path.field-0 tt c.in_ok-add_path.ensures.added)
