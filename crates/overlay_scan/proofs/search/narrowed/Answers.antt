-- The next live entry tells which part is left; where there is none below the higher bound, the lower part is.
use Rattle.std.proofs.Common.{◌≡◌, ℕ, ◌<◌, ◌≤◌, length, drop, subst, arith}
use Rattle.overlay_scan.proofs.Searching.{AllFail, may_ask, fails_from, raised, lowered}
use Rattle.overlay_scan.proofs.search.narrowed.Goals.{else-k-bounds-via-then-k-bounds+else-passes}
use Rattle.overlay_scan.proofs.search.narrowed.Goals.{else-k-bounds-via-else-k-bounds}
use Rattle.overlay_scan.proofs.search.narrowed.Goals as goal

within : (k high n : ℕ) → k < high → high ≤ n → k < n
within k high n below end = omega arith

pub passes-requires : goal.passes-requires
passes-requires g c =
    let k = c.next_live-k.result in
    let f = c.index-entries-k.result in
    may_ask g.I.IntNumber.whole (g.I.IntNumber.whole c.args.x) c.args.entries.now (goal.F-pre g c.args.order.now)
    c.requires.callable k f
    (within k c.args.bounds.high (length c.args.entries.now) c.if-k-bounds.true c.requires.between.within)
    c.index-entries-k.is (c.next_live-k.ensures.live f c.if-k-bounds.true c.index-entries-k.is)

pub returns-then-passes-clause-between : goal.returns-then-passes-clause-between
returns-then-passes-clause-between g c =
    let k = c.next_live-k.result in
    let f = c.index-entries-k.result in
    raised g.I.IntNumber.whole (g.I.IntNumber.whole c.args.x) c.args.entries.now (goal.F-post g c.args.order.now) k f
    (within k c.args.bounds.high (length c.args.entries.now) c.if-k-bounds.true c.requires.between.within)
    c.index-entries-k.is (c.next_live-k.ensures.live f c.if-k-bounds.true c.index-entries-k.is)
    c.passes.result c.passes.ensures c.args.bounds.low c.args.bounds.high c.requires.between c.if-k-bounds.true
    c.if-passes.true

pub returns-else-k-bounds-clause-between : goal.returns-else-k-bounds-clause-between
returns-else-k-bounds-clause-between g c =
    let whole = g.I.IntNumber.whole in
    let x = whole c.args.x in
    let es = c.args.entries.now in
    let post = goal.F-post g c.args.order.now in
    let k = c.next_live-k.result in
    let above = c.next_live-k.ensures.from in
    let end = c.next_live-k.ensures.to in
    lowered whole x es post c.args.bounds.low c.args.bounds.high c.args.middle k c.requires.between c.requires.above
    (omega arith) c.next_live-k.ensures.ended
    (elim c.else-k-bounds.branch [
      | else-k-bounds-via-then-k-bounds+else-passes w ↦ fails_from whole x es post k w.index-entries-k.result
          (within k c.args.bounds.high (length es) w.if-k-bounds.true c.requires.between.within) w.index-entries-k.is
          (c.next_live-k.ensures.live w.index-entries-k.result w.if-k-bounds.true w.index-entries-k.is)
          w.passes.result w.passes.ensures w.if-passes.false
      | else-k-bounds-via-else-k-bounds w ↦
          let past = w.if-k-bounds.false in
          let same : c.args.bounds.high ≡ k = omega arith in
          subst (λ n. AllFail whole x es post (drop n es)) same c.requires.between.fail
    ])
