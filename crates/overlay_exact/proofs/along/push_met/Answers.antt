-- An edge beside another does not meet it.
use Rattle.overlay_geom.specs.Resolved.{plain_edge}
use Rattle.overlay_plane.proofs.WholeOnEdges.{forward_from_test}
use Rattle.overlay_exact.specs.Along.{plain_mets}
use Rattle.overlay_exact.proofs.AddedMet.{adds_none}
use Rattle.overlay_exact.proofs.PushedMet.{none_beside}
use Rattle.overlay_exact.proofs.along.push_met.Goals as goal

pub returns-in-Beside : goal.returns-in-Beside
returns-in-Beside g c =
    let e = plain_edge g.I.IntNumber.whole c.args.e in
    let f = plain_edge g.I.IntNumber.whole c.args.f in
    record {
      ok = adds_none e f c.args.other (plain_mets g.I.Wide.WideIntNumber.whole c.args.met.now.items)
          (none_beside e f (forward_from_test f c.requires.other.forward) c.place_by.result c.in-Beside.is
          c.place_by.ensures);
    }
