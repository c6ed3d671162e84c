use Rattle.std.proofs.Common.{rules}
use Rattle.polyover_text.proofs.lines.without_carriage_return.Goals as goal

pub returns-in-13 : goal.returns-in-13
returns-in-13 c = search rules
