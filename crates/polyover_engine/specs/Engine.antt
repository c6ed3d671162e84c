-- What the engine leaves behind: what it read and wrote, and what its answer says of the input.
use Rattle.std.specs.Prelude.{◌≡◌, ◌⊎◌, ⊤, ℕ, List, Option, IfSome}
use Rattle.overlay_geom.specs.declared.error.OverlayError.{OverlayError}
use Rattle.overlay_geom.specs.declared.error.OverlayError.TheVariants.{Memory, NotSettled, TooManyEdges, Failed}
use Rattle.polyover_engine.specs.declared.exit.Exit.{Exit}
use Rattle.polyover_engine.specs.declared.exit.Exit.TheVariants.{Answered, Refused, BadInput, Io}
use Rattle.polyover_engine.specs.declared.turn.Turn.{Turn}
use Rattle.polyover_text.specs.declared.query.Query.{Query}
use Rattle.polyover_text.specs.Grammar.{GivenFigures, Asks, AsksAt, IsFirstBad, input_lines}
use Rattle.polyover_engine.specs.Answers.{IsAnswer, MayRefuseQuery, AsksAboutPoints, AsksForMisfit}
use Rattle.polyover_engine.specs.Reading.{IsRead, ReadsOn, FailsReading}
use Rattle.polyover_engine.specs.Subjects.{IsFirstUnresolved}
use Rattle.polyover_engine.specs.Writing.{IsWritten, FailsWriting}

-- the input is good, and what it asks for may be refused so
pub record IsRefused (bytes : List ℕ) (e : OverlayError) : Type 0 where
  pub figures : GivenFigures
  pub query : Query
  pub asks : Asks (input_lines bytes) figures query
  pub refused : MayRefuseQuery figures query e

-- the input is good, and asks about points, and the line with this number gives the first contour of the subject that
-- is not resolved
pub record IsUnresolvedInput (bytes : List ℕ) (n : ℕ) : Type 0 where
  pub figures : GivenFigures
  pub query : Query
  pub asks : Asks (input_lines bytes) figures query
  pub asks_about_points : AsksAboutPoints query
  pub unresolved : IsFirstUnresolved figures.contours n

-- the input is good, and asks, in the line with this number, for tiles of a grid that does not fit the subject
pub record IsMisfitInput (bytes : List ℕ) (n : ℕ) : Type 0 where
  pub figures : GivenFigures
  pub query : Query
  pub asks : AsksAt (input_lines bytes) figures n query
  pub misfit : AsksForMisfit figures query

-- the line is the first bad one; or none is, and it gives a contour that has to be resolved, or a grid that has to fit
abbrev pub IsBadInput : List ℕ → ℕ → Type 0
IsBadInput bytes n = IsFirstBad (input_lines bytes) n ⊎ IsUnresolvedInput bytes n ⊎ IsMisfitInput bytes n

-- ---- how a run ends

-- what then holds of the reader, of the writer, and of the input
pub record Ending (Reader Writer Input : Type 0) : Type 0 where
  pub reader : Reader
  pub writer : Writer
  pub input : Input

-- the endings of a run, where it is said what an untouched writer is, one that has a text, and one that fails with a
-- beginning of it; the input is what the reader had, if it tells that
module _ {R : Type 0} (remaining : R → Option (List ℕ)) (reads : R → ℕ → Turn → R → Type 0) (old new : R)
    (Untouched : Type 0) (Written Broken : List ℕ → Type 0) where
  abbrev pub Endings : Exit → Type 0
  -- the input was read to its end, and a text that answers it was written whole and flushed
  Endings Answered = (text : List ℕ) × Ending (IsRead remaining reads old new) (Written text)
      (IfSome (remaining old) (λ bytes. IsAnswer bytes text))
  -- memory was refused, whether or not the input was read to its end: no read failed, and nothing was written
  Endings (Refused Memory) = Ending (ReadsOn remaining reads old new) Untouched ⊤
  -- the input was read to its end and is good, what it asks for may be left unsettled, and nothing was written
  Endings (Refused NotSettled) = Ending (IsRead remaining reads old new) Untouched
      (IfSome (remaining old) (λ bytes. IsRefused bytes NotSettled))
  -- the input was read to its end and is good, what it asks for may have too many edges, and nothing was written
  Endings (Refused TooManyEdges) = Ending (IsRead remaining reads old new) Untouched
      (IfSome (remaining old) (λ bytes. IsRefused bytes TooManyEdges))
  -- no run ends with a failed builder
  Endings (Refused Failed) = ⊥
  -- the input was read to its end, its first bad line has this number, and nothing was written
  Endings (BadInput n) = Ending (IsRead remaining reads old new) Untouched
      (IfSome (remaining old) (λ bytes. IsBadInput bytes n))
  -- reading failed, and nothing was written; or the input was read to its end, and writing an answer to it failed
  Endings Io = Ending (FailsReading remaining reads old new) Untouched ⊤
      ⊎ ((text : List ℕ) × Ending (IsRead remaining reads old new) (Broken text)
      (IfSome (remaining old) (λ bytes. IsAnswer bytes text)))

-- the text answers what the reader had, all of which was read
abbrev pub HasAnswer : {R : Type 0} → (R → Option (List ℕ)) → (R → ℕ → Turn → R → Type 0) → R → R → List ℕ → Type 0
HasAnswer remaining reads old new text = Ending (IsRead remaining reads old new) ⊤
    (IfSome (remaining old) (λ bytes. IsAnswer bytes text))

-- how a run of a reader and a writer ends: an untouched writer is as it was
abbrev pub EndsAs : {R W : Type 0} → (R → Option (List ℕ)) → (R → ℕ → Turn → R → Type 0) → (W → Option (List ℕ))
    → (W → ℕ → Turn → W → Type 0) → (W → Turn → W → Type 0) → R → R → W → W → Exit → Type 0
EndsAs remaining reads contents writes flushes r0 r1 w0 w1 exit = Endings remaining reads r0 r1 (w1 ≡ w0)
    (λ text. IsWritten contents writes flushes text w0 w1)
    (λ text. FailsWriting contents writes flushes text w0 w1)
    exit
