use Rattle.std.proofs.Common.{rules, append_assoc}
use Rattle.polyover_text.proofs.shape_text.push_point.Goals as goal

pub returns : goal.returns
returns g c = search (rules, append_assoc)
