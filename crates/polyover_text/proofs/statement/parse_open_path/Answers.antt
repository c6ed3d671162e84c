use Rattle.polyover_text.specs.Grammar.{open_path}
use Rattle.polyover_text.proofs.statement.parse_open_path.Goals as goal

pub returns : goal.returns
returns g c = open_path c.in_ok-points.ensures
