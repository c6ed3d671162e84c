-- Of a point in the slab the chain tells the sum below, and the edges on its level.
use Rattle.std.proofs.Common.{◌≡◌, ◌-◌, ◌∙◌, sym, ap, arith, rules, w64, to_z, of_z, to_z-of_z}
use Rattle.overlay_geom.specs.Points.{plain_point}
use Rattle.overlay_located.specs.Slabs.{plain_slab}
use Rattle.overlay_located.specs.Chains.{plain_link, plain_links, edges_of}
use Rattle.overlay_located.specs.Queries.{plain_query}
use Rattle.overlay_located.proofs.Chains.{sum_none, sum_at}
use Rattle.overlay_located.proofs.ChainsTell.{all_over, level_adds}
use Rattle.overlay_located.proofs.OpenQueries.{adds_alone}
use Rattle.overlay_located.proofs.Slabs.{within_from_test}
use Rattle.overlay_located.proofs.chain.passed.Goals.{then-start-gt0, else-start-gt0}
use Rattle.overlay_located.proofs.chain.passed.Goals as goal

pub place_over-start-requires : goal.place_over-start-requires
place_over-start-requires g c =
    let whole = g.I.IntNumber.whole in
    let s = plain_slab whole c.args.slab in
    let v = plain_point whole c.args.q.point in
    record {
      over = all_over s (plain_links whole g.C.EdgeCount.counts c.args.chain.now) v c.requires
          (within_from_test s v (sym c.is_within.ensures ∙ c.if-not-is_within.false));
    }

pub end_of_level-end-requires-clause-over : goal.end_of_level-end-requires-clause-over
end_of_level-end-requires-clause-over g c =
    let whole = g.I.IntNumber.whole in
    let s = plain_slab whole c.args.slab in
    let v = plain_point whole c.args.q.point in
    all_over s (plain_links whole g.C.EdgeCount.counts c.args.chain.now) v c.requires
    (within_from_test s v (sym c.is_within.ensures ∙ c.if-not-is_within.false))

pub is_among-requires-clause-over : goal.is_among-requires-clause-over
is_among-requires-clause-over g c =
    let whole = g.I.IntNumber.whole in
    let s = plain_slab whole c.args.slab in
    let v = plain_point whole c.args.q.point in
    all_over s (plain_links whole g.C.EdgeCount.counts c.args.chain.now) v c.requires
    (within_from_test s v (sym c.is_within.ensures ∙ c.if-not-is_within.false))

pub returns-then-not-is_among-clause-adds : goal.returns-then-not-is_among-clause-adds
returns-then-not-is_among-clause-adds g c =
    let whole = g.I.IntNumber.whole in
    let counts = g.C.EdgeCount.counts in
    let r = c.asked_alone-then-not-is_among in
    adds_alone (edges_of (plain_links whole counts c.args.chain.now)) (plain_query whole counts c.args.q)
    (plain_query whole counts r.result) r.ensures.point r.ensures.alone

pub returns-clause-within : goal.returns-clause-within
returns-clause-within g c = λ a.
    let whole = g.I.IntNumber.whole in
    within_from_test (plain_slab whole c.args.slab) (plain_point whole c.args.q.point)
    (sym c.is_within.ensures ∙ c.if-not-is_within.false)

pub returns-clause-adds : goal.returns-clause-adds
returns-clause-adds g c =
    let whole = g.I.IntNumber.whole in
    let counts = g.C.EdgeCount.counts in
    let s = plain_slab whole c.args.slab in
    let v = plain_point whole c.args.q.point in
    let ks = plain_links whole counts c.args.chain.now in
    let is = within_from_test s v (sym c.is_within.ensures ∙ c.if-not-is_within.false) in
    level_adds (plain_link whole counts) c.args.chain.now s c.requires c.place_over-start.result
    c.end_of_level-end.result (to_z w64 c.if-start-gt0.sum-bits) (plain_query whole counts c.args.q)
    (plain_query whole counts c.with_sums.result) (plain_query whole counts c.with_level.result) is
    (c.is_among.ensures s c.requires is c.if-not-is_among.false)
    (elim c.if-start-gt0.branch [
      | then-start-gt0 w ↦
          let some = w.if-start-gt0.true in
          let le = c.place_over-start.ensures in
          let start = c.place_over-start.result in
          let last = w.index-chain-start.result in
          let fits : to_z w64 (of_z w64 last.sum) ≡ last.sum = search (rules, to_z-of_z) in
          w.sum-is ∙ ap (λ (x : _). to_z w64 (of_z w64 x.sum)) (sym w.index-chain-start.is) ∙ fits
          ∙ sum_at (plain_link whole counts) c.args.chain.now s c.requires start (start - 1) last
          (omega (arith, some, le)) (omega (arith, some)) w.index-chain-start.is
      | else-start-gt0 w ↦
          let none = w.if-start-gt0.false in
          w.sum-is ∙ sum_none ks c.place_over-start.result (omega (arith, none))
    ])
    c.with_sums.ensures c.with_level.ensures
