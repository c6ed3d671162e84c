-- What reading, parsing and answering say of how a run ends.
use Rattle.std.proofs.Common.{◌≡◌, ℕ, ◌∷◌, List, Option, Some, None, IfSome, Result, Ok, Err, MatchResult, inl, inr}
use Rattle.std.proofs.Common.{subst, ◌∙◌}
use Rattle.std.specs.Prelude.{⊤}
use Rattle.overlay_geom.specs.declared.error.OverlayError.TheVariants.{Memory, NotSettled, TooManyEdges, Failed}
use Rattle.polyover_engine.specs.declared.exit.Exit.{Exit}
use Rattle.polyover_engine.specs.declared.exit.Exit.TheVariants.{Answered, Refused, BadInput, Io}
use Rattle.polyover_engine.specs.declared.turn.Turn.{Turn}
use Rattle.polyover_engine.specs.declared.turn.Turn.TheVariants.{Done}
use Rattle.polyover_engine.specs.Answers.{Answers, EndsUnanswered}
use Rattle.polyover_engine.specs.Engine.{Endings, EndsAs, HasAnswer, IsBadInput}
use Rattle.polyover_engine.specs.Exits.{exit_of_input}
use Rattle.polyover_engine.specs.ReadAll.{ReadsAll, StopsReading}
use Rattle.polyover_engine.specs.Reading.{IsRead, ReadsOn}
use Rattle.polyover_engine.specs.WriteAll.{EndsWriting}
use Rattle.polyover_engine.proofs.Queries.{answers_read}
use Rattle.polyover_engine.proofs.Refusals.{never_failed, refused_read, bad_besides_read}
use Rattle.polyover_engine.proofs.TurnsTaken.{done_goes_on}
use Rattle.polyover_text.specs.Grammar.{GivenFigures, AsksAt, IsFirstBad, input_lines}
use Rattle.polyover_text.specs.Inputs.{IsNamedFault}
use Rattle.polyover_text.specs.declared.input.InputError.{InputError}
use Rattle.polyover_text.specs.declared.input.InputError.TheVariants.{Memory as InputMemory, BadLine}
use Rattle.polyover_text.specs.declared.query.Query.{Query}

module _ {R : Type 0} (remaining : R → Option (List ℕ)) (reads : R → ℕ → Turn → R → Type 0) (r0 r1 : R) where
  -- where all was read, no turn failed
  read_well : IsRead remaining reads r0 r1 → ReadsOn remaining reads r0 r1
  read_well h = record {
    turns = Done 0 ∷ h.well.turns;
    taken = (h.before, h.well.taken, (h.room, h.ended), done_goes_on 0);
  }

  -- how a run ends before anything is written
  abbrev pub EndsUnwritten : Exit → Type 0
  EndsUnwritten exit = Endings remaining reads r0 r1 ⊤ (λ _. ⊥) (λ _. ⊥) exit

  -- reading that stopped ends the run
  pub reading_stopped : (exit : Exit) → StopsReading remaining reads r0 r1 exit → EndsUnwritten exit
  reading_stopped Answered h = absurd h
  reading_stopped (Refused Memory) h = record { reader = h.1; writer = tt; input = tt }
  reading_stopped (Refused NotSettled) (same, well) = cc
  reading_stopped (Refused TooManyEdges) (same, well) = cc
  reading_stopped (Refused Failed) (same, well) = cc
  reading_stopped (BadInput n) h = absurd h
  reading_stopped Io h = inl (record { reader = h; writer = tt; input = tt })

  bad_read : (given : Option (List ℕ)) (bytes text : List ℕ) (n : ℕ) → IfSome given (λ b. bytes ≡ b) → text ≡ bytes
      → IsFirstBad (input_lines text) n → IfSome given (λ b. IsBadInput b n)
  bad_read None bytes text n read same bad = tt
  bad_read (Some b) bytes text n read same bad = inl (subst (λ l. IsFirstBad (input_lines l) n) (same ∙ read) bad)

  -- what is said of what was read
  module _ (bytes text : List ℕ) (all : ReadsAll remaining reads r0 r1 bytes) (same : text ≡ bytes) where
    -- an input that could not be parsed ends the run
    pub parsing_failed : (e : InputError) → IsNamedFault (input_lines text) e → EndsUnwritten (exit_of_input e)
    parsing_failed InputMemory h = record { reader = read_well all.is_read; writer = tt; input = tt }
    parsing_failed (BadLine n) h = record {
      reader = all.is_read;
      writer = tt;
      input = bad_read (remaining r0) bytes text n all.bytes same h;
    }

    -- so does one to which there is no answer
    unanswered : (fs : GivenFigures) (line : ℕ) (query : Query) → AsksAt (input_lines text) fs line query →
        (exit : Exit) → EndsUnanswered fs line query exit → EndsUnwritten exit
    unanswered fs line query asks Answered h = absurd h
    unanswered fs line query asks (Refused Memory) h =
        record { reader = read_well all.is_read; writer = tt; input = tt }
    unanswered fs line query asks (Refused NotSettled) h = record {
      reader = all.is_read;
      writer = tt;
      input = refused_read (remaining r0) bytes text fs query NotSettled all.bytes same asks.asks h;
    }
    unanswered fs line query asks (Refused TooManyEdges) h = record {
      reader = all.is_read;
      writer = tt;
      input = refused_read (remaining r0) bytes text fs query TooManyEdges all.bytes same asks.asks h;
    }
    unanswered fs line query asks (Refused Failed) h = absurd (never_failed fs query h)
    unanswered fs line query asks (BadInput n) h = record {
      reader = all.is_read;
      writer = tt;
      input = bad_besides_read (remaining r0) bytes text fs line query n all.bytes same asks h;
    }
    unanswered fs line query asks Io h = absurd h

    -- an answer, or its want
    pub answered_or_ended : {S : Type 0} (fs : GivenFigures) (line : ℕ) (query : Query)
        → AsksAt (input_lines text) fs line query → (written : S → List ℕ) (r : Result S Exit)
        → MatchResult r (λ s. Answers fs query (written s)) (λ exit. EndsUnanswered fs line query exit)
        → MatchResult r (λ s. HasAnswer remaining reads r0 r1 (written s)) (λ exit. EndsUnwritten exit)
    answered_or_ended fs line query asks written (Ok s) h = record {
      reader = all.is_read;
      writer = tt;
      input = answers_read (remaining r0) bytes text (written s) fs query all.bytes same asks.asks h;
    }
    answered_or_ended fs line query asks written (Err exit) h = unanswered fs line query asks exit h

  module _ {W : Type 0} (contents : W → Option (List ℕ)) (writes : W → ℕ → Turn → W → Type 0)
      (flushes : W → Turn → W → Type 0) (w0 w1 : W) where
    -- the writer is as it was where nothing was written
    pub ends_untouched : (exit : Exit) → w1 ≡ w0 → EndsUnwritten exit →
        EndsAs remaining reads contents writes flushes r0 r1 w0 w1 exit
    ends_untouched Answered kept h = absurd h.1.writer
    ends_untouched (Refused Memory) kept h = record { reader = h.reader; writer = kept; input = tt }
    ends_untouched (Refused NotSettled) kept h = record { reader = h.reader; writer = kept; input = h.input }
    ends_untouched (Refused TooManyEdges) kept h = record { reader = h.reader; writer = kept; input = h.input }
    ends_untouched (Refused Failed) kept h = absurd h
    ends_untouched (BadInput n) kept h = record { reader = h.reader; writer = kept; input = h.input }
    ends_untouched Io kept (inl h) = inl (record { reader = h.reader; writer = kept; input = tt })
    ends_untouched Io kept (inr h) = absurd h.1.writer

    -- and else it is as writing the answer left it
    pub ends_writing : (text : List ℕ) → HasAnswer remaining reads r0 r1 text → (exit : Exit)
        → EndsWriting contents writes flushes text w0 w1 exit
        → EndsAs remaining reads contents writes flushes r0 r1 w0 w1 exit
    ends_writing text answer Answered h = (text, record { reader = answer.reader; writer = h; input = answer.input })
    ends_writing text answer (Refused e) h = absurd h
    ends_writing text answer (BadInput n) h = absurd h
    ends_writing text answer Io h = inr (text, record { reader = answer.reader; writer = h; input = answer.input })
