-- The closure keeps the edges that do not end left of x.
use Rattle.std.proofs.Common.{rules, not, int_lt}
use Rattle.std.proofs.lemmas.Fn.{filter_same}
use Rattle.overlay_exact.proofs.passed.drop_left.Goals as goal

pub returns : goal.returns
returns g c =
    let whole = g.I.IntNumber.whole in
    filter_same _ (λ p. not (int_lt (whole p.right) (whole c.args.x))) _ (λ x b f' k. search rules) _ _
    c.retain.ensures.filtered
