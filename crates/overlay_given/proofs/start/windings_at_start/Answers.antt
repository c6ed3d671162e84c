-- One more edge adds its counts where it is strictly below the start.
use Rattle.std.proofs.Common.{◌+◌, ◌*◌, map, take, refl, sym, ◌∙◌, subst, arith}
use Rattle.overlay_geom.specs.Plane.{in_plane}
use Rattle.overlay_geom.specs.Points.{plain_point}
use Rattle.overlay_geom.proofs.Mapped.{All-mapped_at, mapped_whole}
use Rattle.overlay_order.specs.Content.{plain_edge, plain_edges, IsHeld}
use Rattle.overlay_given.specs.Beside.{IsNear}
use Rattle.overlay_given.specs.Laws.{IsSum}
use Rattle.overlay_given.proofs.StartSums.{WindTwice, wind_none, wind_more, wind_past, wind_at_start}
use Rattle.overlay_given.proofs.Sums.{near_sum, near_wider, near_nothing}
use Rattle.overlay_given.proofs.start.windings_at_start.Goals as goal
use Rattle.overlay_given.proofs.start.windings_at_start.Goals.{then-is_below, else-is_below}

pub loop-f-init : goal.loop-f-init
loop-f-init g c = record {
  winds = wind_none (in_plane (plain_point g.I.IntNumber.whole c.args.edge.now.a)) c.none-sum.result
      c.none-sum.ensures;
  near = near_nothing c.none-sum.result c.none-sum.ensures;
}

pub is_below-requires-clause-edge : goal.is_below-requires-clause-edge
is_below-requires-clause-edge g c =
    All-mapped_at (IsHeld g.I.IntNumber.limit) (plain_edge g.I.IntNumber.whole g.C.EdgeCount.counts) c.args.edges.now
    c.loop-f.f-index c.f-item.result c.loop-f-test.true c.f-item.is c.requires.held

pub plus-sum-requires-clause-this : goal.plus-sum-requires-clause-this
plus-sum-requires-clause-this g c = near_wider (c.loop-f.f-index * 4294967296) 1267650600228229401496703205376
    c.loop-f.sum (let end = c.loop-f.end-fits in let less = c.loop-f-test.true in omega (arith, end, less))
    c.loop-f.invariant.near

pub plus-sum-requires-clause-other : goal.plus-sum-requires-clause-other
plus-sum-requires-clause-other g c = near_wider 4294967296 1267650600228229401496703205376 c.counted.result
    (omega arith) c.counted.ensures.near

pub loop-f-preserved : goal.loop-f-preserved
loop-f-preserved g c =
    let plain = plain_edge g.I.IntNumber.whole g.C.EdgeCount.counts in
    let p = in_plane (plain_point g.I.IntNumber.whole c.args.edge.now.a) in
    let k = c.loop-f.f-index in
    let x = c.f-item.result in
    let front = map plain (take (k + 1) c.args.edges.now) in
    elim c.if-is_below.branch [
      | then-is_below w ↦
          let sums : IsSum c.loop-f.sum w.counted.result w.plus-sum.result = record {
            subj_below = w.plus-sum.ensures.subj_below;
            subj_above = w.plus-sum.ensures.subj_above;
            clip_below = w.plus-sum.ensures.clip_below;
            clip_above = w.plus-sum.ensures.clip_above;
          } in
          record {
            winds = subst (WindTwice front p) (sym w.sum-is) (wind_more plain c.args.edges.now k x p
                c.loop-f-test.true c.f-item.is c.loop-f.sum c.loop-f.invariant.winds
                (sym c.is_below.ensures ∙ w.if-is_below.true) w.counted.result w.plus-sum.result (record {
                  subj_below = w.counted.ensures.subj_below;
                  subj_above = w.counted.ensures.subj_above;
                  clip_below = w.counted.ensures.clip_below;
                  clip_above = w.counted.ensures.clip_above;
                }) sums);
            near = subst (IsNear ((k + 1) * 4294967296)) (sym w.sum-is) (near_sum (k * 4294967296) 4294967296
                ((k + 1) * 4294967296) c.loop-f.sum w.counted.result w.plus-sum.result (omega arith) sums
                c.loop-f.invariant.near w.counted.ensures.near);
          }
      | else-is_below w ↦ record {
        winds = wind_past plain c.args.edges.now k x p c.loop-f-test.true c.f-item.is c.loop-f.sum
            c.loop-f.invariant.winds (sym c.is_below.ensures ∙ w.if-is_below.false) c.if-is_below.sum w.sum-is;
        near = subst (IsNear ((k + 1) * 4294967296)) (sym w.sum-is) (near_wider (k * 4294967296)
            ((k + 1) * 4294967296) c.loop-f.sum (omega arith) c.loop-f.invariant.near);
      }
    ]

pub plus-requires-clause-this : goal.plus-requires-clause-this
plus-requires-clause-this g c = near_wider (c.loop-f.f-index * 4294967296) 1267650600228229401496703205376 c.loop-f.sum
    (let end = c.loop-f.end-fits in let up = c.loop-f.auto.f-index-end in omega (arith, end, up))
    c.loop-f.invariant.near

pub plus-requires-clause-other : goal.plus-requires-clause-other
plus-requires-clause-other g c = near_wider 4294967296 1267650600228229401496703205376 c.counted-2.result (omega arith)
    c.counted-2.ensures.near

pub returns-clause-winds : goal.returns-clause-winds
returns-clause-winds g c =
    let plain = plain_edge g.I.IntNumber.whole g.C.EdgeCount.counts in
    let es = plain_edges g.I.IntNumber.whole g.C.EdgeCount.counts c.args.edges.now in
    let p = in_plane (plain_point g.I.IntNumber.whole c.args.edge.now.a) in
    wind_at_start es (plain c.args.edge.now) c.loop-f.sum c.counted-2.result c.plus.result
    (subst (λ fs. WindTwice fs p c.loop-f.sum)
    (mapped_whole plain c.args.edges.now c.loop-f.f-index c.loop-f-test.false) c.loop-f.invariant.winds)
    (record {
      subj_below = c.counted-2.ensures.subj_below;
      subj_above = c.counted-2.ensures.subj_above;
      clip_below = c.counted-2.ensures.clip_below;
      clip_above = c.counted-2.ensures.clip_above;
    })
    (record {
      subj_below = c.plus.ensures.subj_below;
      subj_above = c.plus.ensures.subj_above;
      clip_below = c.plus.ensures.clip_below;
      clip_above = c.plus.ensures.clip_above;
    })

pub returns-clause-near : goal.returns-clause-near
returns-clause-near g c =
    let sums : IsSum c.loop-f.sum c.counted-2.result c.plus.result = record {
      subj_below = c.plus.ensures.subj_below;
      subj_above = c.plus.ensures.subj_above;
      clip_below = c.plus.ensures.clip_below;
      clip_above = c.plus.ensures.clip_above;
    } in
    let k = c.loop-f.f-index in
    near_wider (k * 4294967296 + 4294967296) 158456325028528675187087900672 c.plus.result
    (let end = c.loop-f.end-fits in let up = c.loop-f.auto.f-index-end in omega (arith, end, up))
    (near_sum (k * 4294967296) 4294967296 (k * 4294967296 + 4294967296) c.loop-f.sum c.counted-2.result c.plus.result
    refl sums c.loop-f.invariant.near c.counted-2.ensures.near)
