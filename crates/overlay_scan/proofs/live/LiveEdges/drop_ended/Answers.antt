-- The closure keeps the edges that end right of x.
use Rattle.std.proofs.Common.{rules, ap, ◌∙◌, int_lt}
use Rattle.std.proofs.lemmas.Fn.{filter_same}
use Rattle.std.specs.List.{filter}
use Rattle.overlay_scan.proofs.live.LiveEdges.drop_ended.Goals as goal

pub returns : goal.returns
returns g c =
    let whole = g.I.IntNumber.whole in
    filter_same _ (λ f. int_lt (whole c.args.x) (whole f.b.x)) _ (λ x b f' k. search rules) _ _
    c.retain.ensures.filtered
    ∙ ap (filter (λ f. int_lt (whole c.args.x) (whole f.b.x))) c.self.view_is
