-- The lines that an iterator over lines has left.
use Rattle.std.specs.Prelude.{ℕ, List}
use Rattle.std.specs.Str.Lines.{lines}
use Rattle.polyover_text.specs.declared.lines.Lines.{Lines}

abbrev pub lines_left : Lines → List (List ℕ)
lines_left l = lines l.rest.now
