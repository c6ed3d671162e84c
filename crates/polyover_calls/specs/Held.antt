-- An answer in memory that the call hands out.
use Rattle.std.specs.Prelude.{◌≡◌, ℕ, ℤ, List, []}
use Rattle.polyover_calls.specs.Linked.{LinkedFlat}
use Rattle.polyover_calls.specs.Listed.{EdgeArrays}
use Rattle.polyover_calls.specs.Put.{EndsInto}
use Rattle.polyover_calls.specs.Statuses.{code_of}
use Rattle.polyover_calls.specs.Written.{Flat}
use Rattle.polyover_calls.specs.WrittenPaths.{FlatPaths}
use Rattle.polyover_calls.specs.declared.held.Held.{Held}
use Rattle.polyover_calls.specs.declared.held.Held32.{Held32}
use Rattle.polyover_calls.specs.declared.held.Held64.{Held64}
use Rattle.polyover_calls.specs.declared.links.Link.{Link}
use Rattle.polyover_calls.specs.declared.status.Status.{Status}
use Rattle.polyover_calls.specs.declared.status.Status.TheVariants.{Done}

-- the items of each array
pub record HeldArrays (I : Type 0) : Type 0 where
  pub coordinates : List I
  pub contour_ends : List ℕ
  pub shape_ends : List ℕ
  pub links : List Link
  pub fills : List ℕ

-- those of a result
abbrev pub arrays_of : {I : Type 0} → Held I → HeldArrays I
arrays_of h = record {
  coordinates = h.coordinates.now;
  contour_ends = h.contour_ends.now;
  shape_ends = h.shape_ends.now;
  links = h.links.now;
  fills = h.fills.now;
}

-- those of a result as C has it, at 64 and at 32 bits
abbrev pub arrays_at_64 : Held64 → HeldArrays ℤ
arrays_at_64 h = record {
  coordinates = h.coordinates.now;
  contour_ends = h.contour_ends.now;
  shape_ends = h.shape_ends.now;
  links = h.links.now;
  fills = h.fills.now;
}

abbrev pub arrays_at_32 : Held32 → HeldArrays ℤ
arrays_at_32 h = record {
  coordinates = h.coordinates.now;
  contour_ends = h.contour_ends.now;
  shape_ends = h.shape_ends.now;
  links = h.links.now;
  fills = h.fills.now;
}

-- without an item each
abbrev pub no_arrays : {I : Type 0} → HeldArrays I
no_arrays = record { coordinates = []; contour_ends = []; shape_ends = []; links = []; fills = [] }

-- those of shapes, of shapes with links, of paths and of edges
abbrev pub shape_arrays : {I : Type 0} → Flat I → HeldArrays I
shape_arrays flat = record {
  coordinates = flat.coordinates;
  contour_ends = flat.contour_ends;
  shape_ends = flat.shape_ends;
  links = [];
  fills = [];
}

abbrev pub linked_arrays : {I : Type 0} → LinkedFlat I → HeldArrays I
linked_arrays flat = record {
  coordinates = flat.shapes.coordinates;
  contour_ends = flat.shapes.contour_ends;
  shape_ends = flat.shapes.shape_ends;
  links = flat.links;
  fills = [];
}

abbrev pub path_arrays : {I : Type 0} → FlatPaths I → HeldArrays I
path_arrays flat = record {
  coordinates = flat.coordinates;
  contour_ends = flat.ends;
  shape_ends = [];
  links = [];
  fills = [];
}

abbrev pub edge_arrays : {I : Type 0} → EdgeArrays I → HeldArrays I
edge_arrays flat = record {
  coordinates = flat.coordinates;
  contour_ends = [];
  shape_ends = [];
  links = [];
  fills = flat.fills;
}

-- where an answer is there, its arrays are held
abbrev pub AreHeld : {F H : Type 0} → (F → H) → F → H → H → Status → Type 0
AreHeld arrays answer old new s = (s ≡ Done) × (new ≡ arrays answer)

-- so a call ends: the arrays of such an answer are held, or it is refused, and each array is empty
abbrev pub EndsHeld : {F I : Type 0} → (F → Type 0) → (F → HeldArrays I) → (Status → Type 0) → HeldArrays I → Status →
    Type 0
EndsHeld IsAnswer arrays refused = EndsInto IsAnswer (AreHeld arrays) refused no_arrays

-- what C is given: the arrays, and the code of the status with which a call ends so
pub record IsGiven {I : Type 0} (ends : HeldArrays I → Status → Type 0) (arrays : HeldArrays I) (code : ℕ) : Type 0
  where
    pub status : Status
    pub so : ends arrays status
    pub told : code ≡ code_of status
