-- The tests at two places tell of the heights over all edges.
use Rattle.std.proofs.Common.{◌<◌, ◌-◌, ◌∙◌, length, sym, arith, rules}
use Rattle.std.proofs.lemmas.List.{length-map}
use Rattle.overlay_geom.specs.Points.{plain_point}
use Rattle.overlay_located.specs.Chains.{plain_link, plain_links}
use Rattle.overlay_located.proofs.ChainsTell.{among, high_at, low_at, low_from, over_at}
use Rattle.overlay_located.proofs.chain.is_among.Goals.{else-start-gt0-via-then-start-gt0+else-not-is_gt}
use Rattle.overlay_located.proofs.chain.is_among.Goals.{else-start-gt0-via-else-start-gt0}
use Rattle.overlay_located.proofs.chain.is_among.Goals as goal

pub height_over-requires-clause-from : goal.height_over-requires-clause-from
height_over-requires-clause-from g c =
    let lt : c.args.start - 1 < length c.args.chain.now =
    let some = c.if-start-gt0.true in
    let ordered = c.requires.ordered in
    let within = c.requires.within in
    omega (arith, some, ordered, within) in
    (over_at (plain_link g.I.IntNumber.whole g.C.EdgeCount.counts) (plain_point g.I.IntNumber.whole c.args.p)
    c.args.chain.now (c.args.start - 1) c.index-chain-start.result lt c.requires.over).from

pub height_over-requires-clause-to : goal.height_over-requires-clause-to
height_over-requires-clause-to g c =
    let lt : c.args.start - 1 < length c.args.chain.now =
    let some = c.if-start-gt0.true in
    let ordered = c.requires.ordered in
    let within = c.requires.within in
    omega (arith, some, ordered, within) in
    (over_at (plain_link g.I.IntNumber.whole g.C.EdgeCount.counts) (plain_point g.I.IntNumber.whole c.args.p)
    c.args.chain.now (c.args.start - 1) c.index-chain-start.result lt c.requires.over).to

pub height_over-requires-clause-wide : goal.height_over-requires-clause-wide
height_over-requires-clause-wide g c =
    let lt : c.args.start - 1 < length c.args.chain.now =
    let some = c.if-start-gt0.true in
    let ordered = c.requires.ordered in
    let within = c.requires.within in
    omega (arith, some, ordered, within) in
    (over_at (plain_link g.I.IntNumber.whole g.C.EdgeCount.counts) (plain_point g.I.IntNumber.whole c.args.p)
    c.args.chain.now (c.args.start - 1) c.index-chain-start.result lt c.requires.over).wide

pub height_over-requires-else-end-chain-clause-from : goal.height_over-requires-else-end-chain-clause-from
height_over-requires-else-end-chain-clause-from g c =
    let lt : c.args.end < length c.args.chain.now = search rules in
    (over_at (plain_link g.I.IntNumber.whole g.C.EdgeCount.counts) (plain_point g.I.IntNumber.whole c.args.p)
    c.args.chain.now c.args.end c.index-chain-end.result lt c.requires.over).from

pub height_over-requires-else-end-chain-clause-to : goal.height_over-requires-else-end-chain-clause-to
height_over-requires-else-end-chain-clause-to g c =
    let lt : c.args.end < length c.args.chain.now = search rules in
    (over_at (plain_link g.I.IntNumber.whole g.C.EdgeCount.counts) (plain_point g.I.IntNumber.whole c.args.p)
    c.args.chain.now c.args.end c.index-chain-end.result lt c.requires.over).to

pub height_over-requires-else-end-chain-clause-wide : goal.height_over-requires-else-end-chain-clause-wide
height_over-requires-else-end-chain-clause-wide g c =
    let lt : c.args.end < length c.args.chain.now = search rules in
    (over_at (plain_link g.I.IntNumber.whole g.C.EdgeCount.counts) (plain_point g.I.IntNumber.whole c.args.p)
    c.args.chain.now c.args.end c.index-chain-end.result lt c.requires.over).wide

pub returns-then-end-chain : goal.returns-then-end-chain
returns-then-end-chain g c = λ s chain is t.
    let whole = g.I.IntNumber.whole in
    let counts = g.C.EdgeCount.counts in
    let plain = plain_link whole counts in
    let v = plain_point whole c.args.p in
    among s (plain_links whole counts c.args.chain.now) v chain is c.args.start c.args.end c.requires.ordered
    (rw length-map c.requires.within)
    (elim c.else-start-gt0.branch [
      | else-start-gt0-via-then-start-gt0+else-not-is_gt w ↦
          let some = w.if-start-gt0.true in
          let ordered = c.requires.ordered in
          let within = c.requires.within in
          high_at plain c.args.chain.now v c.args.start w.index-chain-start.result some (omega (arith, ordered, within))
          (sym w.height_over.ensures.above ∙ sym w.is_gt.ensures ∙ w.if-not-is_gt.false)
      | else-start-gt0-via-else-start-gt0 w ↦
          let none = w.if-start-gt0.false in
          λ m d one. absurd (omega (arith, none, one))
    ])
    (λ d lt.
    let all = c.if-end-chain.true in
    let count = length-map c.args.chain.now plain in
    absurd (omega (arith, all, lt, count)))

pub returns-else-end-chain : goal.returns-else-end-chain
returns-else-end-chain g c = λ s chain is t.
    let whole = g.I.IntNumber.whole in
    let counts = g.C.EdgeCount.counts in
    let plain = plain_link whole counts in
    let v = plain_point whole c.args.p in
    among s (plain_links whole counts c.args.chain.now) v chain is c.args.start c.args.end c.requires.ordered
    (rw length-map c.requires.within)
    (elim c.else-start-gt0.branch [
      | else-start-gt0-via-then-start-gt0+else-not-is_gt w ↦
          let some = w.if-start-gt0.true in
          let ordered = c.requires.ordered in
          let within = c.requires.within in
          high_at plain c.args.chain.now v c.args.start w.index-chain-start.result some (omega (arith, ordered, within))
          (sym w.height_over.ensures.above ∙ sym w.is_gt.ensures ∙ w.if-not-is_gt.false)
      | else-start-gt0-via-else-start-gt0 w ↦
          let none = w.if-start-gt0.false in
          λ m d one. absurd (omega (arith, none, one))
    ])
    (λ d lt.
    let inside : c.args.end < length c.args.chain.now = search rules in
    low_at plain c.args.chain.now v c.args.end c.index-chain-end.result inside
    (low_from c.height_over-else-end-chain.result _ c.height_over-else-end-chain.ensures.above
    c.height_over-else-end-chain.ensures.level (sym c.is_lt.ensures ∙ t)) d)
