-- Turns that were taken, one after another, of which none failed.
use Rattle.std.proofs.Common.{◌≡◌, ◌≢◌, ℕ, ◌+◌, ◌-◌, ◌^◌, ◌<◌, List, [], ◌∷◌, ◌++◌, length, refl, sym, ap, subst}
use Rattle.std.proofs.Common.{arith, length-append}
use Rattle.polyover_engine.specs.Turns.{TakesTurns, GoesWell, EndsBy, IsWornOut}
use Rattle.polyover_engine.specs.declared.turn.Turn.{Turn}
use Rattle.polyover_engine.specs.declared.turn.Turn.TheVariants.{Done, Interrupted, Failed}

pub done_goes_on : (n : ℕ) → Done n ≢ Failed
done_goes_on n same = cc

abbrev count_of : Turn → ℕ
count_of (Done n) = n
count_of Interrupted = 0
count_of Failed = 0

pub takes_some : (n : ℕ) → 0 < n → Done n ≢ Done 0
takes_some n some same = let none : n ≡ 0 = ap count_of same in absurd (omega (arith, some, none))

pub interrupted_takes_none : Interrupted ≢ Done 0
interrupted_takes_none same = cc

pub interrupted_goes_on : Interrupted ≢ Failed
interrupted_goes_on same = cc

module _ {S : Type 0} (asks : S → Turn → S → Type 0) where
  -- such turns were taken, and with those that are left they are 2^64 - 1
  pub record HasTaken (left : ℕ) (old new : S) : Type 0 where
    pub well : GoesWell asks old new
    pub spent : length (well.turns) + left ≡ 2 ^ 64 - 1

  pub none_taken : (a : S) → HasTaken (2 ^ 64 - 1) a a
  none_taken a = record { well = record { turns = []; taken = refl }; spent = refl }

  pub one_more : (left : ℕ) (turn : Turn) (a b c : S) → HasTaken left a b → 0 < left → asks b turn c → turn ≢ Failed →
      HasTaken (left - 1) a c
  one_more left turn a b c h some asked fine = record {
    well = record { turns = turn ∷ h.well.turns; taken = (b, h.well.taken, asked, fine) };
    spent = omega (arith, h.spent, some);
  }

  pub worn_out : (left : ℕ) (a b : S) → HasTaken left a b → left ≡ 0 → IsWornOut asks a b
  worn_out left a b h none = record { well = h.well; many = omega (arith, h.spent, none) }

  -- ---- one run of turns after another

  taken_on : (ts us : List Turn) (a b c : S) → TakesTurns asks us a b → TakesTurns asks ts b c →
      TakesTurns asks (ts ++ us) a c
  taken_on [] us a b c first second = subst (TakesTurns asks us a) (sym second) first
  taken_on (t ∷ ts) us a b c first second = (second.0, taken_on ts us a b second.0 first second.1, second.2, second.3)

  pub well_on : (a b c : S) → GoesWell asks a b → GoesWell asks b c → GoesWell asks a c
  well_on a b c first second = record {
    turns = second.turns ++ first.turns;
    taken = taken_on second.turns first.turns a b c first.taken second.taken;
  }

  pub ends_on : (turn : Turn) (a b c : S) → GoesWell asks a b → EndsBy asks turn b c → EndsBy asks turn a c
  ends_on turn a b c first h = record {
    before = h.before;
    well = well_on a b h.before first h.well;
    last = h.last;
  }

  pub worn_on : (a b c : S) → GoesWell asks a b → IsWornOut asks b c → IsWornOut asks a c
  worn_on a b c first h = record {
    well = record {
      turns = h.well.turns ++ first.turns;
      taken = taken_on h.well.turns first.turns a b c first.taken h.well.taken;
    };
    many = omega (arith, h.many, length-append h.well.turns first.turns);
  }
