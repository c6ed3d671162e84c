-- One query more, for its point alone.
use Rattle.std.proofs.Common.{ap}
use Rattle.overlay_located.specs.Queries.{Asked, plain_query, IsTold}
use Rattle.overlay_located.proofs.ChangedLists.{All-pushed_as}
use Rattle.overlay_located.proofs.OpenQueries.{told_alone}
use Rattle.overlay_located.proofs.query.untold.Goals as goal

pub loop-place-preserved : goal.loop-place-preserved
loop-place-preserved g c = λ es.
    All-pushed_as (IsTold es) (plain_query g.I.IntNumber.whole g.C.EdgeCount.counts) c.loop-place.told.items
    c.push.new.self.items _ c.in_ok-push.ensures.items (c.loop-place.invariant es)
    (λ q is. told_alone es q (ap (λ (a : Asked). a.alone) is))
