use Rattle.std.specs.Io.KnownBytes.{Keeps}
use Rattle.polyover_engine.specs.Writing.{AsksWriter}
use Rattle.polyover_engine.proofs.TurnsTaken.{HasTaken}
use Rattle.polyover_engine.proofs.write.flush.Given as goal

-- nothing is written, and no turn failed
abbrev pub invariant-loop-turns_left : goal.invariant-loop-turns_left
invariant-loop-turns_left g l =
    let w = g.W.WriteTurns in record {
      unwritten : Keeps (w.contents l.fn.writer) (w.contents l.writer);
      taken : HasTaken (AsksWriter w.contents w.writes w.flushes) l.turns_left l.fn.writer l.writer;
    }

abbrev pub decreases-loop-turns_left : goal.decreases-loop-turns_left
decreases-loop-turns_left g l = l.turns_left
