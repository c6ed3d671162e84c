-- The windings at the start and the sums over the edges met there.
use Rattle.std.proofs.Common.{◌*◌, length, refl, arith}
use Rattle.overlay_order.specs.Content.{plain_edge, plain_edges}
use Rattle.overlay_exact.specs.Along.{plain_mets}
use Rattle.overlay_given.proofs.StartSums.{first_sums}
use Rattle.overlay_given.proofs.Sums.{near_sum, near_wider}
use Rattle.overlay_given.proofs.walk.beside_first_piece.Goals as goal

pub plus-requires-clause-this : goal.plus-requires-clause-this
plus-requires-clause-this g c = near_wider 158456325028528675187087900672 1267650600228229401496703205376
    c.args.start (omega arith) c.requires.near

pub plus-requires-clause-other : goal.plus-requires-clause-other
plus-requires-clause-other g c = near_wider 158456325028528675187087900672 1267650600228229401496703205376
    c.sum_met.result (omega arith) c.sum_met.ensures.small

pub returns-clause-sums : goal.returns-clause-sums
returns-clause-sums g c = first_sums (plain_edges g.I.IntNumber.whole g.C.EdgeCount.counts c.args.edges.now)
    (plain_edge g.I.IntNumber.whole g.C.EdgeCount.counts c.args.edge.now)
    (plain_mets g.I.Wide.WideIntNumber.whole c.args.met.now) c.args.start c.sum_met.result
    c.plus.result c.requires.start c.sum_met.ensures.sums (record {
      subj_below = c.plus.ensures.subj_below;
      subj_above = c.plus.ensures.subj_above;
      clip_below = c.plus.ensures.clip_below;
      clip_above = c.plus.ensures.clip_above;
    })

pub returns-clause-near : goal.returns-clause-near
returns-clause-near g c = near_sum 158456325028528675187087900672 (length c.args.met.now * 4294967296) _
    c.args.start c.sum_met.result c.plus.result refl (record {
      subj_below = c.plus.ensures.subj_below;
      subj_above = c.plus.ensures.subj_above;
      clip_below = c.plus.ensures.clip_below;
      clip_above = c.plus.ensures.clip_above;
    }) c.requires.near c.sum_met.ensures.near
