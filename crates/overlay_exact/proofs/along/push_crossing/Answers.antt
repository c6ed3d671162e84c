-- Edges across each other meet once; others do not meet.
use Rattle.std.proofs.Common.{sym, subst}
use Rattle.overlay_geom.specs.Resolved.{plain_edge}
use Rattle.overlay_plane.proofs.WholeOnEdges.{forward_from_test}
use Rattle.overlay_exact.specs.Along.{plain_mets, AddsMet}
use Rattle.overlay_exact.specs.Parts.{fraction, IsPart}
use Rattle.overlay_exact.proofs.AddedMet.{adds_none, adds_one, met_at_shared, meetings_at_shared}
use Rattle.overlay_exact.proofs.PushedMet.{pushed, none_unless_across}
use Rattle.overlay_exact.proofs.along.push_crossing.Goals as goal

pub returns-in_ok-push : goal.returns-in_ok-push
returns-in_ok-push g c =
    let whole = g.I.Wide.WideIntNumber.whole in
    let e = plain_edge g.I.IntNumber.whole c.args.e in
    let f = plain_edge g.I.IntNumber.whole c.args.f in
    let part = c.part_of_crossing-part.result in
    let s = fraction whole part.n part.d in
    let shared = c.part_of_crossing-part.ensures in
    let old = c.args.met.now.items in
    let within : IsPart s = record { begun = part.begun; within = part.within; positive = part.positive } in
    record {
      ok = subst (AddsMet e f c.args.other (plain_mets whole old))
          (sym (pushed whole old c.push.new.self.items _ c.in_ok-push.ensures.items))
          (adds_one e f c.args.other (plain_mets whole old) s (met_at_shared e f s within shared)
          (meetings_at_shared e f s shared));
    }

pub returns-in_default : goal.returns-in_default
returns-in_default g c =
    let e = plain_edge g.I.IntNumber.whole c.args.e in
    let f = plain_edge g.I.IntNumber.whole c.args.f in
    record {
      ok = adds_none e f c.args.other (plain_mets g.I.Wide.WideIntNumber.whole c.args.met.now.items)
          (none_unless_across e f (forward_from_test e c.requires.one.forward)
          (forward_from_test f c.requires.other.forward) c.requires.across c.place_by.result c.in_default.not-Across
          c.place_by.ensures);
    }
