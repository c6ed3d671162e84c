-- The comparison is the order of parts and numbers, in which the sort puts the points.
use Rattle.std.proofs.Common.{◌≡◌, rules}
use Rattle.std.specs.Ordering.{is_lt}
use Rattle.std.proofs.lemmas.Fn.{always_returns_same}
use Rattle.overlay_plane.proofs.WholeOnEdges.{forward_from_test}
use Rattle.overlay_exact.specs.Along.{plain_met}
use Rattle.overlay_exact.proofs.MetOrder.{comes_first, comes_first-order, in_order_along}
use Rattle.overlay_exact.proofs.along.sort_along.Goals as goal

pub returns-clause-order : goal.returns-clause-order
returns-clause-order g c e forward =
    let met = plain_met g.I.Wide.WideIntNumber.whole in
    in_order_along met (λ m. m.part.positive) e (forward_from_test e forward) c.sort_by.new.self.items
    (c.in_ok-sort_by.ensures.sorted (comes_first met (λ m. m.part.positive))
    (comes_first-order met (λ m. m.part.positive))
    (always_returns_same _ _ _ (λ a r f k.
    let answer : is_lt r ≡ comes_first met (λ m. m.part.positive) a.0.now a.1.0.now = search rules in
    (answer, search rules))))
