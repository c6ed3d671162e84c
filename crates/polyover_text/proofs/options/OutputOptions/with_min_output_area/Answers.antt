use Rattle.polyover_text.proofs.OptionLists.{area_set}
use Rattle.polyover_text.proofs.options.OutputOptions.with_min_output_area.Goals as goal

pub returns-clause-option : goal.returns-clause-option
returns-clause-option c =
    area_set c.args.self _ _ _ _ c.in_ok-next.ensures.steps c.if-is_some.ensures c.in_ok-area.ensures
