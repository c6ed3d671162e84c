-- One query more is told.
use Rattle.overlay_located.specs.Slabs.{plain_lines}
use Rattle.overlay_located.specs.Queries.{plain_query, IsOpen, IsTold}
use Rattle.overlay_located.proofs.ChangedLists.{All-at, All-written}
use Rattle.overlay_located.proofs.OpenQueries.{told_after}
use Rattle.overlay_located.proofs.query.ask_each.Goals as goal

pub loop-q-preserved : goal.loop-q-preserved
loop-q-preserved g c = λ es left told.
    let whole = g.I.IntNumber.whole in
    let counts = g.C.EdgeCount.counts in
    let ls = plain_lines whole counts c.args.lines.now in
    let q = c.q-item.result in
    let r = c.with_lines-r.result in
    All-written (λ a. IsTold es (plain_query whole counts a)) c.loop-q.told c.put.new.items r.place r
    c.put.ensures.within c.put.ensures.beyond (c.loop-q.invariant es left told)
    (told_after es ls (plain_query whole counts q) (plain_query whole counts r)
    (All-at (λ a. IsOpen es ls (plain_query whole counts a)) c.args.queries.now c.loop-q.q-index q c.loop-q-test.true
    c.q-item.is left) c.with_lines-r.ensures)
