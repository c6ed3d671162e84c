-- Each meeting point adds the counts of its edge, and less than 2^32.
use Rattle.std.proofs.Common.{◌+◌, ◌*◌, ◌<◌, ◌*ℤ◌, length, sym, subst, ap, ap₂, ◌∙◌, arith}
use Rattle.overlay_geom.specs.Edges.{subj_of, clip_of}
use Rattle.overlay_geom.specs.Resolved.{IsLongEdge}
use Rattle.overlay_geom.proofs.Mapped.{All-mapped_at, mapped_whole, read_mapped}
use Rattle.overlay_order.specs.Content.{plain_edge, plain_edges, IsHeld}
use Rattle.overlay_exact.specs.Along.{plain_met}
use Rattle.overlay_exact.proofs.GatheredMet.{long_of_held}
use Rattle.overlay_given.specs.Beside.{IsNear}
use Rattle.overlay_given.specs.Laws.{IsSum}
use Rattle.overlay_given.specs.Steps.{below_by, above_by, Rises}
use Rattle.overlay_given.proofs.StepBounds.{below_small, above_small}
use Rattle.overlay_given.proofs.Sums.{near_sum, near_wider, near_nothing, rises_more, rises_nothing}
use Rattle.overlay_given.proofs.steps.sum_met.Goals as goal

pub bounds-edges-m : goal.bounds-edges-m
bounds-edges-m g c = All-mapped_at (λ m. m.other < length c.args.edges.now) (plain_met g.I.Wide.WideIntNumber.whole)
    c.args.met.now c.loop-m.m-index c.m-item.result c.loop-m-test.true c.m-item.is c.requires.others

pub offset_bounds-edges-m : goal.offset_bounds-edges-m
offset_bounds-edges-m g c =
    let inside : c.m-item.result.other < length c.args.edges.now =
    All-mapped_at (λ m. m.other < length c.args.edges.now) (plain_met g.I.Wide.WideIntNumber.whole)
    c.args.met.now c.loop-m.m-index c.m-item.result c.loop-m-test.true c.m-item.is c.requires.others in
    omega (arith, inside)

pub steps-requires-clause-one : goal.steps-requires-clause-one
steps-requires-clause-one g c =
    let limit = g.I.IntNumber.limit in
    subst (IsLongEdge limit) (sym c.ends_of-e.ensures)
    (long_of_held limit (plain_edge g.I.IntNumber.whole g.C.EdgeCount.counts c.args.edge.now) c.requires.edge)

pub steps-requires-clause-other : goal.steps-requires-clause-other
steps-requires-clause-other g c =
    let limit = g.I.IntNumber.limit in
    let plain = plain_edge g.I.IntNumber.whole g.C.EdgeCount.counts in
    let bound = All-mapped_at (λ m. m.other < length c.args.edges.now) (plain_met g.I.Wide.WideIntNumber.whole)
    c.args.met.now c.loop-m.m-index c.m-item.result c.loop-m-test.true c.m-item.is c.requires.others in
    subst (IsLongEdge limit) (sym c.ends_of.ensures) (long_of_held limit (plain c.index-edges-m.result)
    (All-mapped_at (IsHeld limit) plain c.args.edges.now c.m-item.result.other c.index-edges-m.result bound
    c.index-edges-m.is c.requires.held))

pub counted-requires-clause-below : goal.counted-requires-clause-below
counted-requires-clause-below g c = below_small c.args.at _ _ c.steps.result.below c.steps.ensures.below

pub counted-requires-clause-above : goal.counted-requires-clause-above
counted-requires-clause-above g c = above_small c.args.at _ _ c.steps.result.above c.steps.ensures.above

pub plus-sum-requires-clause-this : goal.plus-sum-requires-clause-this
plus-sum-requires-clause-this g c = near_wider (c.loop-m.m-index * 4294967296) 1267650600228229401496703205376
    c.loop-m.sum (let end = c.loop-m.end-fits in let less = c.loop-m-test.true in omega (arith, end, less))
    c.loop-m.invariant.near

pub plus-sum-requires-clause-other : goal.plus-sum-requires-clause-other
plus-sum-requires-clause-other g c = near_wider 4294967296 1267650600228229401496703205376 c.counted.result
    (omega arith) c.counted.ensures.near

pub loop-m-init : goal.loop-m-init
loop-m-init g c = record {
  sums = rises_nothing c.args.at (plain_edges g.I.IntNumber.whole g.C.EdgeCount.counts c.args.edges.now)
      (plain_edge g.I.IntNumber.whole g.C.EdgeCount.counts c.args.edge.now) c.none-sum.result c.none-sum.ensures;
  near = near_nothing c.none-sum.result c.none-sum.ensures;
}

pub loop-m-preserved : goal.loop-m-preserved
loop-m-preserved g c =
    let plain = plain_edge g.I.IntNumber.whole g.C.EdgeCount.counts in
    let met = plain_met g.I.Wide.WideIntNumber.whole in
    let es = plain_edges g.I.IntNumber.whole g.C.EdgeCount.counts c.args.edges.now in
    let e = plain c.args.edge.now in
    let f = plain c.index-edges-m.result in
    let k = c.loop-m.m-index in
    let x = c.m-item.result in
    let at = c.args.at in
    let bound = All-mapped_at (λ m. m.other < length c.args.edges.now) met c.args.met.now k x c.loop-m-test.true
    c.m-item.is c.requires.others in
    let below = c.steps.ensures.below ∙ ap₂ (below_by at) c.ends_of-e.ensures c.ends_of.ensures in
    let above = c.steps.ensures.above ∙ ap₂ (above_by at) c.ends_of-e.ensures c.ends_of.ensures in
    let sums : IsSum c.loop-m.sum c.counted.result c.plus-sum.result = record {
      subj_below = c.plus-sum.ensures.subj_below;
      subj_above = c.plus-sum.ensures.subj_above;
      clip_below = c.plus-sum.ensures.clip_below;
      clip_above = c.plus-sum.ensures.clip_above;
    } in
    record {
      sums = rises_more es e met c.args.met.now k x c.loop-m-test.true c.m-item.is f
          (read_mapped plain c.args.edges.now x.other c.index-edges-m.result e bound c.index-edges-m.is) at
          c.loop-m.sum c.counted.result c.plus-sum.result c.loop-m.invariant.sums (record {
            subj_below = c.counted.ensures.subj_below ∙ ap (λ z. subj_of f *ℤ z) below;
            subj_above = c.counted.ensures.subj_above ∙ ap (λ z. subj_of f *ℤ z) above;
            clip_below = c.counted.ensures.clip_below ∙ ap (λ z. clip_of f *ℤ z) below;
            clip_above = c.counted.ensures.clip_above ∙ ap (λ z. clip_of f *ℤ z) above;
          }) sums;
      near = near_sum (k * 4294967296) 4294967296 ((k + 1) * 4294967296) c.loop-m.sum c.counted.result
          c.plus-sum.result (omega arith) sums c.loop-m.invariant.near c.counted.ensures.near;
    }

pub returns-clause-sums : goal.returns-clause-sums
returns-clause-sums g c =
    let es = plain_edges g.I.IntNumber.whole g.C.EdgeCount.counts c.args.edges.now in
    let e = plain_edge g.I.IntNumber.whole g.C.EdgeCount.counts c.args.edge.now in
    subst (λ ms. Rises c.args.at es e ms c.loop-m.sum)
    (mapped_whole (plain_met g.I.Wide.WideIntNumber.whole) c.args.met.now c.loop-m.m-index c.loop-m-test.false)
    c.loop-m.invariant.sums

pub returns-clause-near : goal.returns-clause-near
returns-clause-near g c =
    let up = c.loop-m.auto.m-index-end in
    let all = c.loop-m-test.false in
    subst (λ n. IsNear (n * 4294967296) c.loop-m.sum) (omega (arith, up, all)) c.loop-m.invariant.near

pub returns-clause-small : goal.returns-clause-small
returns-clause-small g c = near_wider (c.loop-m.m-index * 4294967296) 158456325028528675187087900672 c.loop-m.sum
    (let end = c.loop-m.end-fits in let up = c.loop-m.auto.m-index-end in omega (arith, end, up))
    c.loop-m.invariant.near
