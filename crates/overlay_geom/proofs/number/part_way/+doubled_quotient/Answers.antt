-- The two parts keep the value as the count is halved, and the quotient is at most the count.
use Rattle.std.proofs.Common.{arith}
use Rattle.overlay_geom.proofs.Divided.{value-even, value-odd, quotient_within}
use Rattle.overlay_geom.proofs.number.part_way.+doubled_quotient.Goals as goal

pub returns-then-n-eq1-clause-value : goal.returns-then-n-eq1-clause-value
returns-then-n-eq1-clause-value t c =
    let halved = value-odd c.args.n c.args.t c.args.d c.doubled_quotient-q.result.0 c.doubled_quotient-q.result.1
    c.if-n-eq1.true c.doubled_quotient-q.ensures.value in
    let doubled = c.carried-q.ensures.value in
    let more = c.carried.ensures.value in
    omega arith

pub returns-then-n-eq1-clause-most : goal.returns-then-n-eq1-clause-most
returns-then-n-eq1-clause-most t c =
    quotient_within c.args.n c.args.t c.args.d c.carried.result.0 c.carried.result.1 c.requires.divides c.requires.part
    (returns-then-n-eq1-clause-value t c)

pub returns-else-n-eq1-clause-value : goal.returns-else-n-eq1-clause-value
returns-else-n-eq1-clause-value t c =
    let halved = value-even c.args.n c.args.t c.args.d c.doubled_quotient-q.result.0 c.doubled_quotient-q.result.1
    c.if-n-eq1.false c.doubled_quotient-q.ensures.value in
    let doubled = c.carried-q.ensures.value in
    omega arith

pub returns-else-n-eq1-clause-most : goal.returns-else-n-eq1-clause-most
returns-else-n-eq1-clause-most t c =
    quotient_within c.args.n c.args.t c.args.d c.carried-q.result.0 c.carried-q.result.1 c.requires.divides
    c.requires.part
    (returns-else-n-eq1-clause-value t c)
