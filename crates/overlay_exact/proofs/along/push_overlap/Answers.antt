-- The ends of the overlap are the meeting points of two collinear edges.
use Rattle.std.proofs.Common.{◌∷◌, ◌++◌, [], sym, subst, ap, ◌∙◌}
use Rattle.overlay_geom.specs.Plane.{in_plane}
use Rattle.overlay_geom.specs.Points.{plain_point}
use Rattle.overlay_geom.specs.Resolved.{plain_edge}
use Rattle.overlay_plane.proofs.WholeOnEdges.{forward_from_test}
use Rattle.overlay_exact.specs.Along.{Met, plain_mets, AreMetAt, AddsMet}
use Rattle.overlay_exact.specs.Parts.{fraction, IsPart}
use Rattle.overlay_exact.proofs.AddedMet.{adds_none, adds_one, adds_two}
use Rattle.overlay_exact.proofs.Overlaps.{IsOverlap, none_met, start_is_on, end_is_on, meets_start, meets_end}
use Rattle.overlay_exact.proofs.Overlaps.{lies_at_one, lies_at_start, start_less}
use Rattle.overlay_exact.proofs.PushedMet.{pushed}
use Rattle.overlay_exact.proofs.along.push_overlap.Goals as goal

pub returns-then-is_before : goal.returns-then-is_before
returns-then-is_before g c =
    let whole = g.I.Wide.WideIntNumber.whole in
    let e = plain_edge g.I.IntNumber.whole c.args.e in
    let f = plain_edge g.I.IntNumber.whole c.args.f in
    let start = plain_point g.I.IntNumber.whole c.overlap_start-start.result in
    let end = plain_point g.I.IntNumber.whole c.overlap_end-end.result in
    let o : IsOverlap e f start end = record {
      e_before = forward_from_test e c.requires.one.forward;
      f_before = forward_from_test f c.requires.other.forward;
      along = c.requires.along;
      start_is = c.overlap_start-start.ensures;
      end_is = c.overlap_end-end.ensures;
    } in
    record {
      ok = adds_none e f c.args.other (plain_mets whole c.args.met.now.items)
          (none_met e f start end o (sym c.is_before.ensures ∙ c.if-is_before.true));
    }

pub part_of_point-part-requires-clause-point : goal.part_of_point-part-requires-clause-point
part_of_point-part-requires-clause-point g c =
    let whole = g.I.Wide.WideIntNumber.whole in
    let e = plain_edge g.I.IntNumber.whole c.args.e in
    let f = plain_edge g.I.IntNumber.whole c.args.f in
    let start = plain_point g.I.IntNumber.whole c.overlap_start-start.result in
    let end = plain_point g.I.IntNumber.whole c.overlap_end-end.result in
    let o : IsOverlap e f start end = record {
      e_before = forward_from_test e c.requires.one.forward;
      f_before = forward_from_test f c.requires.other.forward;
      along = c.requires.along;
      start_is = c.overlap_start-start.ensures;
      end_is = c.overlap_end-end.ensures;
    } in
    start_is_on e f start end o (sym c.is_before.ensures ∙ c.if-is_before.false)

pub part_of_point-part-requires-then-is_before-2-clause-point :
    goal.part_of_point-part-requires-then-is_before-2-clause-point
part_of_point-part-requires-then-is_before-2-clause-point g c =
    let whole = g.I.Wide.WideIntNumber.whole in
    let e = plain_edge g.I.IntNumber.whole c.args.e in
    let f = plain_edge g.I.IntNumber.whole c.args.f in
    let start = plain_point g.I.IntNumber.whole c.overlap_start-start.result in
    let end = plain_point g.I.IntNumber.whole c.overlap_end-end.result in
    let o : IsOverlap e f start end = record {
      e_before = forward_from_test e c.requires.one.forward;
      f_before = forward_from_test f c.requires.other.forward;
      along = c.requires.along;
      start_is = c.overlap_start-start.ensures;
      end_is = c.overlap_end-end.ensures;
    } in
    end_is_on e f start end o (sym c.is_before.ensures ∙ c.if-is_before.false)

pub returns-in_ok-push-2 : goal.returns-in_ok-push-2
returns-in_ok-push-2 g c =
    let whole = g.I.Wide.WideIntNumber.whole in
    let e = plain_edge g.I.IntNumber.whole c.args.e in
    let f = plain_edge g.I.IntNumber.whole c.args.f in
    let start = plain_point g.I.IntNumber.whole c.overlap_start-start.result in
    let end = plain_point g.I.IntNumber.whole c.overlap_end-end.result in
    let o : IsOverlap e f start end = record {
      e_before = forward_from_test e c.requires.one.forward;
      f_before = forward_from_test f c.requires.other.forward;
      along = c.requires.along;
      start_is = c.overlap_start-start.ensures;
      end_is = c.overlap_end-end.ensures;
    } in
    let old = c.args.met.now.items in
    let not_before = sym c.is_before.ensures ∙ c.if-is_before.false in
    let first = c.part_of_point-part.result in
    let s = fraction whole first.n first.d in
    let part : IsPart s = record { begun = first.begun; within = first.within; positive = first.positive } in
    let met : AreMetAt e f s = record {
      part = part;
      point = in_plane start;
      meets = meets_start e f start end o not_before;
      place = c.part_of_point-part.ensures;
    } in
    let second = c.part_of_point-part-then-is_before-2.result in
    let t = fraction whole second.n second.d in
    let part_too : IsPart t = record { begun = second.begun; within = second.within; positive = second.positive } in
    let met_too : AreMetAt e f t = record {
      part = part_too;
      point = in_plane end;
      meets = meets_end e f start end o not_before;
      place = c.part_of_point-part-then-is_before-2.ensures;
    } in
    let mid = c.push.new.self.items in
    let once = pushed whole old mid _ c.in_ok-push.ensures.items in
    let twice = pushed whole mid c.push-then-is_before-2.new.self.items _ c.in_ok-push-2.ensures.items in
    let m : Met = record { part = t; other = c.args.other } in
    record {
      ok = subst (AddsMet e f c.args.other (plain_mets whole old)) (sym (twice ∙ ap (λ ms. ms ++ m ∷ []) once))
          (adds_two e f c.args.other (plain_mets whole old) s t met met_too
          (lies_at_one e f start end o s t c.part_of_point-part.ensures c.part_of_point-part-then-is_before-2.ensures)
          (start_less e f start end o s t part part_too (sym c.is_before-2.ensures ∙ c.if-is_before-2.true)
          c.part_of_point-part.ensures c.part_of_point-part-then-is_before-2.ensures));
    }

pub returns-else-is_before-2 : goal.returns-else-is_before-2
returns-else-is_before-2 g c =
    let whole = g.I.Wide.WideIntNumber.whole in
    let e = plain_edge g.I.IntNumber.whole c.args.e in
    let f = plain_edge g.I.IntNumber.whole c.args.f in
    let start = plain_point g.I.IntNumber.whole c.overlap_start-start.result in
    let end = plain_point g.I.IntNumber.whole c.overlap_end-end.result in
    let o : IsOverlap e f start end = record {
      e_before = forward_from_test e c.requires.one.forward;
      f_before = forward_from_test f c.requires.other.forward;
      along = c.requires.along;
      start_is = c.overlap_start-start.ensures;
      end_is = c.overlap_end-end.ensures;
    } in
    let old = c.args.met.now.items in
    let not_before = sym c.is_before.ensures ∙ c.if-is_before.false in
    let first = c.part_of_point-part.result in
    let s = fraction whole first.n first.d in
    let part : IsPart s = record { begun = first.begun; within = first.within; positive = first.positive } in
    let met : AreMetAt e f s = record {
      part = part;
      point = in_plane start;
      meets = meets_start e f start end o not_before;
      place = c.part_of_point-part.ensures;
    } in
    record {
      ok = subst (AddsMet e f c.args.other (plain_mets whole old))
          (sym (pushed whole old c.push.new.self.items _ c.in_ok-push.ensures.items))
          (adds_one e f c.args.other (plain_mets whole old) s met
          (lies_at_start e f start end o s not_before (sym c.is_before-2.ensures ∙ c.if-is_before-2.false)
          c.part_of_point-part.ensures));
    }
