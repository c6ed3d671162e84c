-- Reading to the end.
use Rattle.std.specs.Prelude.{◌≡◌, ℕ, List, Option, IfSome}
use Rattle.overlay_geom.specs.declared.error.OverlayError.TheVariants.{Memory}
use Rattle.polyover_engine.specs.Reading.{IsRead, ReadsOn, FailsReading}
use Rattle.polyover_engine.specs.declared.turn.Turn.{Turn}
use Rattle.polyover_engine.specs.declared.exit.Exit.{Exit}
use Rattle.polyover_engine.specs.declared.exit.Exit.TheVariants.{Answered, Refused, BadInput, Io}

module _ {R : Type 0} (remaining : R → Option (List ℕ)) (reads : R → ℕ → Turn → R → Type 0) (old new : R) where
  -- all that the reader had was read
  pub record ReadsAll (all : List ℕ) : Type 0 where
    pub is_read : IsRead remaining reads old new
    pub bytes : IfSome (remaining old) (λ left. all ≡ left)

  -- reading stopped: it failed, or memory was refused
  abbrev pub StopsReading : Exit → Type 0
  StopsReading Answered = ⊥
  StopsReading (Refused e) = (e ≡ Memory) × ReadsOn remaining reads old new
  StopsReading (BadInput n) = ⊥
  StopsReading Io = FailsReading remaining reads old new
