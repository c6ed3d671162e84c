use Rattle.std.proofs.Common.{refl}
use Rattle.polyover_text.proofs.options.OutputOptions.turned_clockwise.Goals as goal

pub returns-in-Clockwise : goal.returns-in-Clockwise
returns-in-Clockwise c = c.in-Clockwise.is

pub returns-in-CounterClockwise : goal.returns-in-CounterClockwise
returns-in-CounterClockwise c = (c.in-CounterClockwise.is, refl)
