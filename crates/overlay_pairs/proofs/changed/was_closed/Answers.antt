-- The edge at the place has the ends of e where the two are found to have the same ends.
use Rattle.std.proofs.Common.{sym, ◌∙◌, arith}
use Rattle.overlay_geom.specs.Edges.{ends_of}
use Rattle.overlay_geom.proofs.Orders.{edge_eq-same}
use Rattle.overlay_order.specs.Content.{plain_edge}
use Rattle.overlay_pairs.proofs.Entries.{placed_in_mapped}
use Rattle.overlay_pairs.proofs.changed.was_closed.Goals as goal

pub returns-then-not-is_open-at : goal.returns-then-not-is_open-at
returns-then-not-is_open-at g c = λ is_equal.
    let plain = plain_edge g.I.IntNumber.whole g.C.EdgeCount.counts in
    let f = plain c.index-before-at.result in
    let e = plain c.args.e.now in record {
      place = c.args.at;
      edge = f;
      at = placed_in_mapped plain c.args.before.now c.args.at c.index-before-at.result
          (omega (arith, c.if-before-at.false)) c.index-before-at.is;
      closed = (let l = c.requires in omega (arith, l, c.if-before-at.false), c.if-not-is_open-at.true);
      ends = edge_eq-same (ends_of f) (ends_of e) (sym c.have_same_ends.ensures ∙ is_equal);
    }
