-- Contours of a subject and of a clip in arrays of a caller.
use Rattle.std.specs.Prelude.{◌⊎◌, ℕ, ℤ, List}
use Rattle.overlay_geom.specs.Plane.{Point}
use Rattle.overlay_builder.specs.GivenPaths.{GivenPath, subject_and_clip}
use Rattle.polyover_calls.specs.Reading.{AreContours, contours_at, HaveOwnFault}
use Rattle.polyover_calls.specs.declared.fault.Fault.{Fault}
use Rattle.polyover_calls.specs.declared.fault.Fault.TheVariants.{Memory, Ends, Range}

-- contours as arrays have them
pub record Contours (I : Type 0) : Type 0 where
  pub coordinates : List I
  pub ends : List ℕ

-- those of these arrays
abbrev pub contours_of : {I : Type 0} → List I → List ℕ → Contours I
contours_of coordinates ends = record { coordinates = coordinates; ends = ends }

-- their paths
abbrev pub paths_of : {I : Type 0} → (I → ℤ) → Contours I → List (List Point)
paths_of whole c = contours_at whole c.coordinates c.ends

-- those of the subject, and then those of the clip
abbrev pub paths_given : {I : Type 0} → (I → ℤ) → Contours I → Contours I → List GivenPath
paths_given whole subject clip = subject_and_clip (paths_of whole subject) (paths_of whole clip)

-- the contours fit their arrays, and are in range
abbrev pub AreGiven : {I : Type 0} → (I → ℤ) → ℕ → Contours I → Type 0
AreGiven whole limit c = AreContours whole limit c.coordinates c.ends

-- they have a fault; that memory was refused is none of theirs
abbrev pub IsFaulty : {I : Type 0} → (I → ℤ) → ℕ → Contours I → Fault → Type 0
IsFaulty whole limit c f = HaveOwnFault whole limit c.coordinates c.ends f

-- the subject has a fault, or the clip alone
abbrev pub IsOneFaulty : {I : Type 0} → (I → ℤ) → ℕ → Contours I → Contours I → Fault → Type 0
IsOneFaulty whole limit subject clip f =
    IsFaulty whole limit subject f ⊎ (AreGiven whole limit subject × IsFaulty whole limit clip f)

-- why those of both are not read: for want of memory they have no fault
abbrev pub AreUnread : {I : Type 0} → (I → ℤ) → ℕ → Contours I → Contours I → Fault → Type 0
AreUnread whole limit subject clip Memory = AreGiven whole limit subject × AreGiven whole limit clip
AreUnread whole limit subject clip Ends = IsOneFaulty whole limit subject clip Ends
AreUnread whole limit subject clip Range = IsOneFaulty whole limit subject clip Range
