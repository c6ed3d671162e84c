use Rattle.std.proofs.Common.{rules, arith, sym, subst, inr}
use Rattle.std.specs.Io.KnownBytes.{Consumes}
use Rattle.std.proofs.KnownBytes.{Consumes-nil, Consumes-trans}
use Rattle.polyover_engine.proofs.TurnsTaken.{none_taken, one_more, worn_out, done_goes_on, interrupted_goes_on}
use Rattle.polyover_engine.proofs.read.read_all.Goals as goal

pub loop-turns_left-init : goal.loop-turns_left-init
loop-turns_left-init g c = record {
  gave = subst (λ l. Consumes (g.R.ReadTurns.remaining c.args.reader.now) (g.R.ReadTurns.remaining c.args.reader.now) l)
      (sym c.new-all.ensures.items) (Consumes-nil (g.R.ReadTurns.remaining c.args.reader.now));
  taken = none_taken _ c.args.reader.now;
}

pub loop-turns_left-preserved-in-Continue-1 : goal.loop-turns_left-preserved-in-Continue-1
loop-turns_left-preserved-in-Continue-1 g c =
    let taken = one_more _ _ _ _ _ _ c.loop-turns_left.invariant.taken c.loop-turns_left-test.true
    (_, c.in-Done.ensures.turn) (done_goes_on _) in
    let gave = Consumes-trans _ _ _ _ _ c.loop-turns_left.invariant.gave c.in-Done.ensures.bytes.1 in
    search rules

pub returns-in_err-extend_from_slice-in-Done : goal.returns-in_err-extend_from_slice-in-Done
returns-in_err-extend_from_slice-in-Done g c =
    let taken = one_more _ _ _ _ _ _ c.loop-turns_left.invariant.taken c.loop-turns_left-test.true
    (_, c.in-Done.ensures.turn) (done_goes_on _) in
    let well = taken.well in
    search rules

pub loop-turns_left-preserved : goal.loop-turns_left-preserved
loop-turns_left-preserved g c =
    let taken = one_more _ _ _ _ _ _ c.loop-turns_left.invariant.taken c.loop-turns_left-test.true
    (_, c.in-Interrupted.ensures.turn) interrupted_goes_on in
    search rules

pub returns : goal.returns
returns g c = inr (worn_out _ _ _ _ c.loop-turns_left.invariant.taken (omega (arith, c.loop-turns_left-test.false)))
