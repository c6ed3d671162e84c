-- What a query of a builder answers, whatever it gives: of the builder before and of the one afterwards.
use Rattle.std.specs.Prelude.{◌≡◌, ℕ, Some, Result, OnOk, IsErrOf}
use Rattle.overlay_geom.specs.Merged.{HaveSameWindings}
use Rattle.overlay_geom.specs.declared.error.OverlayError.{OverlayError}
use Rattle.overlay_geom.specs.declared.error.OverlayError.TheVariants.{Failed}
use Rattle.overlay_plane.specs.Meetings.{MeetInWholePoints}
use Rattle.overlay_builder.specs.Held.{AnswersQuery}
use Rattle.i_overlay.specs.Builder.{Builder, held_by}

-- a query that needs no buffer
pub record BuilderAnswers {U V : Type 0} (limit : ℕ) (old new : Builder U)
    (result : Result V OverlayError) : Type 0 where
  pub query : AnswersQuery limit old.solver (held_by old) (held_by new) result
  -- nothing but the edges changes, and whether it has failed; of a builder that had failed nothing
  pub kept : new ≡ record old { edges = new.edges; failed = new.failed }
  pub untouched : IsErrOf result Failed → new ≡ old

-- a query that extracts contours
pub record BuilderExtracts {U V : Type 0} (limit : ℕ) (old new : Builder U)
    (result : Result V OverlayError) : Type 0 where
  pub query : AnswersQuery limit old.solver (held_by old) (held_by new) result
  -- where the edges meet only in whole points, or overlap, their windings are those before
  pub exact : MeetInWholePoints old.edges → OnOk result (HaveSameWindings old.edges new.edges)
  -- nothing but the edges changes, the buffer, and whether it has failed; of a builder that had failed nothing
  pub kept : new ≡ record old { edges = new.edges; boolean_buffer = new.boolean_buffer; failed = new.failed }
  pub untouched : IsErrOf result Failed → new ≡ old
  -- after an answer there is a buffer
  pub buffer : OnOk result (new.boolean_buffer ≡ Some tt)
