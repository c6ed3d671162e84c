use Rattle.std.proofs.Common.{arith, inr}
use Rattle.std.proofs.KnownBytes.{Keeps-refl, Keeps-trans}
use Rattle.polyover_engine.proofs.TurnsTaken.{none_taken, one_more, worn_out, interrupted_goes_on}
use Rattle.polyover_engine.proofs.Writing.{none_kept}
use Rattle.polyover_engine.proofs.write.flush.Goals as goal

pub loop-turns_left-init : goal.loop-turns_left-init
loop-turns_left-init g c = record { unwritten = Keeps-refl _; taken = none_taken _ _ }

pub loop-turns_left-preserved : goal.loop-turns_left-preserved
loop-turns_left-preserved g c =
    let before = c.loop-turns_left.invariant in
    record {
      unwritten = Keeps-trans _ _ _ before.unwritten c.flush_turn.ensures.bytes;
      taken = one_more _ _ _ _ _ _ before.taken c.loop-turns_left-test.true (inr c.in-Interrupted.ensures.turn)
          interrupted_goes_on;
    }

pub returns : goal.returns
returns g c = record {
  fault = inr (inr (worn_out _ _ _ _ c.loop-turns_left.invariant.taken (omega (arith, c.loop-turns_left-test.false))));
  written = none_kept _ _ c.loop-turns_left.invariant.unwritten;
}
