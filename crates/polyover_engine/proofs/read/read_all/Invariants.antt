use Rattle.std.specs.Io.KnownBytes.{Consumes}
use Rattle.polyover_engine.specs.Reading.{AsksReader}
use Rattle.polyover_engine.proofs.TurnsTaken.{HasTaken}
use Rattle.polyover_engine.proofs.read.read_all.Given as goal

-- the bytes so far are what the reader gave, and no turn failed
abbrev pub invariant-loop-turns_left : goal.invariant-loop-turns_left
invariant-loop-turns_left g l = record {
  gave : Consumes (g.R.ReadTurns.remaining l.fn.reader) (g.R.ReadTurns.remaining l.reader) l.all.items;
  taken : HasTaken (AsksReader g.R.ReadTurns.remaining g.R.ReadTurns.reads) l.turns_left l.fn.reader l.reader;
}

abbrev pub decreases-loop-turns_left : goal.decreases-loop-turns_left
decreases-loop-turns_left g l = l.turns_left
