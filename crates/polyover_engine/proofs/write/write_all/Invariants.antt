use Rattle.polyover_engine.specs.Writing.{AsksWriter}
use Rattle.polyover_engine.proofs.TurnsTaken.{HasTaken}
use Rattle.polyover_engine.proofs.Writing.{HasWritten}
use Rattle.polyover_engine.proofs.write.write_all.Given as goal

-- the text before the rest is written, and no turn failed
abbrev pub invariant-loop-rest : goal.invariant-loop-rest
invariant-loop-rest g l =
    let w = g.W.WriteTurns in record {
      written : HasWritten (w.contents l.fn.writer) (w.contents l.writer) l.fn.text l.rest;
      taken : HasTaken (AsksWriter w.contents w.writes w.flushes) l.turns_left l.fn.writer l.writer;
    }

abbrev pub decreases-loop-rest : goal.decreases-loop-rest
decreases-loop-rest g l = l.turns_left
