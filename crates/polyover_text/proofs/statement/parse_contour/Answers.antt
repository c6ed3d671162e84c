use Rattle.polyover_text.specs.Grammar.{contour}
use Rattle.polyover_text.proofs.statement.parse_contour.Goals as goal

pub returns : goal.returns
returns g c = contour c.in_ok-points.ensures
