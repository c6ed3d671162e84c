-- One query more, and another order.
use Rattle.std.proofs.Common.{◌∙◌, ap}
use Rattle.std.proofs.lemmas.List.Sorted.{All-permutation}
use Rattle.overlay_order.specs.Content.{plain_edges}
use Rattle.overlay_located.specs.Queries.{Asked, plain_query, IsOpen}
use Rattle.overlay_located.proofs.ChangedLists.{All-pushed_as}
use Rattle.overlay_located.proofs.OpenQueries.{open_first}
use Rattle.overlay_located.proofs.query.queries_by_x.Goals as goal

pub loop-place-preserved : goal.loop-place-preserved
loop-place-preserved g c = λ es.
    let whole = g.I.IntNumber.whole in
    let counts = g.C.EdgeCount.counts in
    All-pushed_as (IsOpen es es) (plain_query whole counts) c.loop-place.queries.items c.push.new.self.items _
    c.in_ok-push.ensures.items (c.loop-place.invariant es)
    (λ q is. open_first es q (ap (λ (a : Asked). a.through) is ∙ ap (plain_edges whole counts) c.none.ensures)
    (ap (λ (a : Asked). a.left) is) (ap (λ (a : Asked). a.right) is))

pub returns : goal.returns
returns g c = λ es.
    let whole = g.I.IntNumber.whole in
    let counts = g.C.EdgeCount.counts in
    All-permutation (λ q. IsOpen es es (plain_query whole counts q)) c.loop-place.queries.items c.sort_by.new.self.items
    c.sort_by.ensures.permutation (c.loop-place.invariant es)
