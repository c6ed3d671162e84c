-- Traced edges in memory that the call hands out.
use Rattle.std.specs.Prelude.{◌≡◌, ℕ, ℤ, []}
use Rattle.overlay_traced.specs.Told.{TracedArrays, traced_arrays}
use Rattle.polyover_calls.specs.Put.{EndsInto}
use Rattle.polyover_calls.specs.Statuses.{code_of}
use Rattle.polyover_calls.specs.declared.status.Status.{Status}
use Rattle.polyover_calls.specs.declared.status.Status.TheVariants.{Done}
use Rattle.polyover_traced.specs.declared.held.Traced.{Traced}
use Rattle.polyover_traced.specs.declared.held.Traced32.{Traced32}
use Rattle.polyover_traced.specs.declared.held.Traced64.{Traced64}

-- the items of each array
abbrev pub arrays_of : {I : Type 0} → Traced I → TracedArrays I
arrays_of t = traced_arrays t.coordinates.now t.fills.now t.source_ends.now t.sources.now

-- those of a result as C has it, at 64 and at 32 bits
abbrev pub arrays_at_64 : Traced64 → TracedArrays ℤ
arrays_at_64 t = traced_arrays t.coordinates.now t.fills.now t.source_ends.now t.sources.now

abbrev pub arrays_at_32 : Traced32 → TracedArrays ℤ
arrays_at_32 t = traced_arrays t.coordinates.now t.fills.now t.source_ends.now t.sources.now

-- without an item each
abbrev pub no_arrays : {I : Type 0} → TracedArrays I
no_arrays = traced_arrays [] [] [] []

-- where an answer is there, its arrays are held
abbrev pub IsHeldTrace : {I : Type 0} → TracedArrays I → TracedArrays I → TracedArrays I → Status → Type 0
IsHeldTrace answer old new s = (s ≡ Done) × (new ≡ answer)

-- so a call ends: the arrays of such an answer are held, or it is refused, and each array is empty
abbrev pub EndsTraced : {I : Type 0} → (TracedArrays I → Type 0) → (Status → Type 0) → TracedArrays I → Status → Type 0
EndsTraced IsAnswer refused = EndsInto IsAnswer IsHeldTrace refused no_arrays

-- what C is given: the arrays, and the code of the status with which a call ends so
pub record IsGivenTrace {I : Type 0} (ends : TracedArrays I → Status → Type 0) (arrays : TracedArrays I) (code : ℕ) :
    Type 0 where
  pub status : Status
  pub so : ends arrays status
  pub told : code ≡ code_of status
