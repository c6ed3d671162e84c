-- If nothing is between the bounds, they are the place.
use Rattle.std.proofs.Common.{◌≡◌, subst, arith}
use Rattle.overlay_scan.specs.Searches.{IsBetween}
use Rattle.overlay_scan.proofs.search.search.Goals as goal

pub returns-clause-found : goal.returns-clause-found
returns-clause-found g c =
    let l = c.loop-bounds in
    let up = l.invariant.ordered in
    let down = c.loop-bounds-test.false in
    let same : l.bounds.high ≡ l.bounds.low = omega arith in
    subst (λ n. IsBetween g.I.IntNumber.whole (goal.F-post g c.args.order.now) (g.I.IntNumber.whole c.args.x)
    c.args.entries.now l.bounds.low n) same l.invariant
