-- The closure keeps the edges that end right of x.
use Rattle.std.proofs.Common.{rules, int_lt}
use Rattle.std.proofs.lemmas.Fn.{filter_same}
use Rattle.overlay_exact.proofs.point_windings.drop_ended.Goals as goal

pub returns : goal.returns
returns g c =
    let whole = g.I.IntNumber.whole in
    filter_same _ (λ e. int_lt (whole c.args.x) (whole e.b.x)) _ (λ x b f' k. search rules) _ _
    c.retain.ensures.filtered
