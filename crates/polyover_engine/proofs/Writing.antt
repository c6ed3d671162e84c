-- What a writer that tells its bytes has taken of a text.
use Rattle.std.proofs.Common.{◌≡◌, ℕ, ◌-◌, List, [], ◌++◌, Option, length, take, drop, refl, sym, ap, subst}
use Rattle.std.proofs.Common.{◌∙◌, ◌∷◌, take-append-drop, append_assoc, append-nil, inl, inr}
use Rattle.std.specs.Io.KnownBytes.{Appends, Keeps}
use Rattle.std.proofs.KnownBytes.{Appends-nil, Appends-trans, Appends-kept}
use Rattle.std.proofs.lemmas.List.{take_rest}
use Rattle.polyover_engine.proofs.TurnsTaken.{HasTaken, well_on, ends_on, worn_on}
use Rattle.polyover_engine.specs.Turns.{GoesWell}
use Rattle.polyover_engine.specs.WriteAll.{EndsWriting}
use Rattle.polyover_engine.specs.Writing.{AsksWriter, StopsWriting}
use Rattle.polyover_engine.specs.Written.{AppendsBeginning}
use Rattle.polyover_engine.specs.declared.exit.Exit.{Exit}
use Rattle.polyover_engine.specs.declared.exit.Exit.TheVariants.{Answered, Refused, BadInput, Io}
use Rattle.polyover_engine.specs.declared.turn.Turn.{Turn}

-- what was written so far, and then the rest, is the text
pub record HasWritten (old new : Option (List ℕ)) (text rest : List ℕ) : Type 0 where
  pub written : List ℕ
  pub parts : text ≡ written ++ rest
  pub appended : Appends old new written

pub none_written : (a : Option (List ℕ)) (text : List ℕ) → HasWritten a a text text
none_written a text = record { written = []; parts = refl; appended = Appends-nil a }

-- a write takes a beginning of the rest
pub more_written : (a b c : Option (List ℕ)) (text rest : List ℕ) (n : ℕ) → HasWritten a b text rest →
    Appends b c (take n rest)
    → HasWritten a c text (take (length rest - n) (drop n rest))
more_written a b c text rest n h more = record {
  written = h.written ++ take n rest;
  parts = h.parts ∙ ap (λ l. h.written ++ l) (sym (take-append-drop n rest))
      ∙ sym (append_assoc h.written (take n rest) (drop n rest))
      ∙ ap (λ l. (h.written ++ take n rest) ++ l) (sym (take_rest rest n));
  appended = Appends-trans a b c h.written (take n rest) h.appended more;
}

-- a write that took nothing leaves the rest as it is
pub kept_written : (a b c : Option (List ℕ)) (text rest : List ℕ) → HasWritten a b text rest → Keeps b c →
    HasWritten a c text rest
kept_written a b c text rest h kept = record {
  written = h.written;
  parts = h.parts;
  appended = Appends-kept a b c h.written h.appended kept;
}

-- what was written so far is a beginning of the text
pub beginning_written : (a b : Option (List ℕ)) (text rest : List ℕ) → HasWritten a b text rest →
    AppendsBeginning a b text
beginning_written a b text rest h = record {
  written = h.written;
  unwritten = rest;
  parts = h.parts;
  appended = h.appended;
}

-- where nothing was written, that is a beginning of nothing
pub none_kept : (a b : Option (List ℕ)) → Keeps a b → AppendsBeginning a b []
none_kept a b kept = record {
  written = [];
  unwritten = [];
  parts = refl;
  appended = Appends-kept a a b [] (Appends-nil a) kept;
}

-- ---- a flush after the last byte

none_left : (rest : List ℕ) → length rest ≡ 0 → rest ≡ []
none_left [] none = refl
none_left (x ∷ xs) none = cc

all_written : (a b : Option (List ℕ)) (text rest : List ℕ) → HasWritten a b text rest → rest ≡ [] → Appends a b text
all_written a b text rest h none = subst (Appends a b) (sym (h.parts ∙ ap (λ l. h.written ++ l) none
    ∙ append-nil h.written)) h.appended

-- what writes took, and then a beginning of nothing
beginning_of_all : (a b c : Option (List ℕ)) (text : List ℕ) → Appends a b text → AppendsBeginning b c [] →
    AppendsBeginning a c text
beginning_of_all a b c text first h =
    let none : h.written ≡ [] = written_none h.written h.unwritten h.parts in
    record {
      written = text;
      unwritten = [];
      parts = sym (append-nil text);
      appended = subst (Appends a c) (ap (λ l. text ++ l) none ∙ append-nil text)
          (Appends-trans a b c text h.written first h.appended);
    }
  where
    written_none : (xs ys : List ℕ) → [] ≡ xs ++ ys → xs ≡ []
    written_none [] ys same = refl
    written_none (x ∷ xs) ys same = cc

module _ {W : Type 0} (contents : W → Option (List ℕ)) (writes : W → ℕ → Turn → W → Type 0)
    (flushes : W → Turn → W → Type 0) where
  stopped_on : (a b c : W) → GoesWell (AsksWriter contents writes flushes) a b
      → StopsWriting contents writes flushes b c → StopsWriting contents writes flushes a c
  stopped_on a b c first (inl h) = inl (ends_on _ _ a b c first h)
  stopped_on a b c first (inr (inl h)) = inr (inl (record {
    before = h.before;
    well = well_on _ a b h.before first h.well;
    count = h.count;
    has_bytes = h.has_bytes;
    took_none = h.took_none;
  }))
  stopped_on a b c first (inr (inr h)) = inr (inr (worn_on _ a b c first h))

  -- how a flush ends after all of the text was taken, the writing ends
  pub ends_flushed : (left : ℕ) (text rest : List ℕ) (a b c : W)
      → HasWritten (contents a) (contents b) text rest → HasTaken (AsksWriter contents writes flushes) left a b
      → length rest ≡ 0
      → (exit : Exit) → EndsWriting contents writes flushes [] b c exit
      → EndsWriting contents writes flushes text a c exit
  ends_flushed left text rest a b c written taken none Answered h =
      let first = all_written (contents a) (contents b) text rest written (none_left rest none) in
      record {
        before = h.before;
        well = well_on _ a b h.before taken.well h.well;
        taken = subst (Appends (contents a) (contents h.before)) (append-nil text)
            (Appends-trans _ _ _ text [] first h.taken);
        count = h.count;
        flushed = h.flushed;
        written = subst (Appends (contents a) (contents c)) (append-nil text)
            (Appends-trans _ _ _ text [] first h.written);
      }
  ends_flushed left text rest a b c written taken none (Refused e) h = absurd h
  ends_flushed left text rest a b c written taken none (BadInput n) h = absurd h
  ends_flushed left text rest a b c written taken none Io h =
      let first = all_written (contents a) (contents b) text rest written (none_left rest none) in
      record {
        fault = stopped_on a b c taken.well h.fault;
        written = beginning_of_all _ _ _ text first h.written;
      }
