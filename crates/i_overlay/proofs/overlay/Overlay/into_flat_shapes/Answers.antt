-- The shapes are those of the arranged edges; over no edges there is none.
use Rattle.std.proofs.Common.{◌≡◌, true, false, refl, sym, subst, rules}
use Rattle.std.proofs.lemmas.Result.{err_from_is_err_and}
use Rattle.std.specs.Prelude.{Some, Ok, Err}
use Rattle.overlay_builder.specs.Held.{plain_held}
use Rattle.overlay_extract.specs.Results.{asked, IsResult}
use Rattle.overlay_geom.specs.Flat.{shapes_in}
use Rattle.overlay_geom.specs.declared.error.OverlayError.{OverlayError}
use Rattle.overlay_geom.specs.declared.error.OverlayError.TheVariants.{Memory}
use Rattle.i_overlay.specs.UsedUp.{GivesFlatShapes}
use Rattle.overlay_plane.specs.ShapeWindings.{steps_of_shapes}
use Rattle.i_overlay.proofs.GivenRegions.{given_round}
use Rattle.i_overlay.proofs.Queries.{extracted_from, refused_before}
use Rattle.i_overlay.proofs.UsedUp.{no_flat_shapes}
use Rattle.i_overlay.proofs.overlay.Overlay.into_flat_shapes.Goals as goal

pub returns-in_err-arrange-clause-answers : goal.returns-in_err-arrange-clause-answers
returns-in_err-arrange-clause-answers g c =
    let mid = plain_held c.arrange.new.self in
    let e = c.in_err-arrange.field-0.0 in
    let refused : c.from_residual.result ≡ Err e = search rules in
    subst (GivesFlatShapes g.I.IntNumber.whole g.I.IntNumber.limit (asked g.I.Wide.WideIntNumber.width
    g.I.WideUInt.UIntNumber.natural c.args.fill_rule c.args.overlay_rule c.args.self.options) c.args.self)
    (sym refused) (record {
      after = record c.args.self { edges = mid.edges; failed = mid.failed };
      extracts = refused_before g.I.IntNumber.limit c.self.view_is mid e c.in_err-arrange.ensures.query;
      is_result = tt;
      given = tt;
      empty = λ none. tt;
    })

pub returns-in_err-extracted-clause-answers : goal.returns-in_err-extracted-clause-answers
returns-in_err-extracted-clause-answers g c =
    let mid = plain_held c.arrange.new.self in
    let p = err_from_is_err_and c.from_residual-in_err-extracted.result c.from_residual-in_err-extracted.ensures.1 in
    rw (p.1, p.2) (record {
      after = record c.args.self { edges = mid.edges; boolean_buffer = Some tt; failed = true };
      extracts = extracted_from g.I.IntNumber.limit c.self.view_is mid c.in_ok-arrange.field-0
          c.in_ok-arrange.ensures.query (Err Memory) refl;
      is_result = tt;
      given = tt;
      empty = λ none. tt;
    })

pub returns-clause-answers : goal.returns-clause-answers
returns-clause-answers g c =
    let whole = g.I.IntNumber.whole in
    let mid = plain_held c.arrange.new.self in
    let v = c.in_ok-extracted.field-0 in
    let shapes = shapes_in whole v.points.items v.contour_ranges.items v.shape_ranges.items in
    let is = c.in_ok-extracted.ensures.result in
    let result = subst (λ b. IsResult (asked g.I.Wide.WideIntNumber.width g.I.WideUInt.UIntNumber.natural
    c.args.fill_rule c.args.overlay_rule b.options) mid.edges shapes) c.self.view_is is in
    record {
      after = record c.args.self { edges = mid.edges; boolean_buffer = Some tt; failed = false };
      extracts = extracted_from g.I.IntNumber.limit c.self.view_is mid c.in_ok-arrange.field-0
          c.in_ok-arrange.ensures.query (Ok v) tt;
      is_result = result;
      given = given_round g.I.IntNumber.limit c.self.view_is mid c.in_ok-arrange.field-0
          c.in_ok-arrange.ensures.query
          (λ b. asked g.I.Wide.WideIntNumber.width g.I.WideUInt.UIntNumber.natural c.args.fill_rule
          c.args.overlay_rule b.options)
          (λ v. steps_of_shapes (shapes_in whole v.points.items v.contour_ranges.items v.shape_ranges.items)) mid.edges
          refl (Ok v) is.winds;
      empty = no_flat_shapes {E = OverlayError} whole (asked g.I.Wide.WideIntNumber.width
          g.I.WideUInt.UIntNumber.natural c.args.fill_rule c.args.overlay_rule c.args.self.options) mid.edges (Ok v)
          result;
    }
