use Rattle.std.proofs.Common.{◌≡◌, ◌<◌, rules, inl, inr, length, arith}
use Rattle.polyover_engine.proofs.TurnsTaken.{none_taken, one_more, worn_out, done_goes_on, takes_some}
use Rattle.polyover_engine.proofs.TurnsTaken.{interrupted_goes_on, interrupted_takes_none}
use Rattle.polyover_engine.proofs.Writing.{none_written, more_written, kept_written, beginning_written, ends_flushed}
use Rattle.polyover_engine.proofs.write.write_all.Goals as goal

pub loop-rest-init : goal.loop-rest-init
loop-rest-init g c = record { written = none_written _ _; taken = none_taken _ _ }

pub returns-then-turns_left-eq0 : goal.returns-then-turns_left-eq0
returns-then-turns_left-eq0 g c = record {
  fault = inr (inr (worn_out _ _ _ _ c.loop-rest.invariant.taken (omega (arith, c.if-turns_left-eq0.true))));
  written = beginning_written _ _ _ _ c.loop-rest.invariant.written;
}

pub loop-rest-preserved-in_default-1 : goal.loop-rest-preserved-in_default-1
loop-rest-preserved-in_default-1 g c =
    let before = c.loop-rest.invariant in
    let some : 0 < c.in-Done.count = search rules in
    record {
      written = more_written _ _ _ _ c.loop-rest.rest.now c.in-Done.count before.written c.in-Done.ensures.bytes.1;
      taken = one_more _ _ _ _ _ _ before.taken (omega (arith, c.if-turns_left-eq0.false))
          (inl (_, takes_some _ some, c.in-Done.ensures.turn)) (done_goes_on _);
    }

pub loop-rest-preserved : goal.loop-rest-preserved
loop-rest-preserved g c =
    let before = c.loop-rest.invariant in
    record {
      written = kept_written _ _ _ _ _ before.written c.in-Interrupted.ensures.bytes;
      taken = one_more _ _ _ _ _ _ before.taken (omega (arith, c.if-turns_left-eq0.false))
          (inl (_, interrupted_takes_none, c.in-Interrupted.ensures.turn)) interrupted_goes_on;
    }

pub returns : goal.returns
returns g c =
    let empty : length c.loop-rest.rest.now ≡ 0 = search rules in
    ends_flushed _ _ _ _ _ _ _ _ _ c.loop-rest.invariant.written c.loop-rest.invariant.taken empty _ c.flush.ensures
