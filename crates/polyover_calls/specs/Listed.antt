-- The edges of an arrangement in arrays of a caller.
use Rattle.std.specs.Prelude.{◌≡◌, ◌≤◌, ℕ, ℤ, List, [], ◌∷◌, length, map}
use Rattle.std.specs.List.{flat_map}
use Rattle.overlay_order.specs.Vectors.{Vector}
use Rattle.i_overlay.specs.OneShot.{AreEdgesOfPaths, MayRefusePaths}
use Rattle.polyover_calls.specs.Arrays.{written_over}
use Rattle.polyover_calls.specs.Asked.{fill_of, solver_of}
use Rattle.polyover_calls.specs.Given.{Contours, paths_given, AreGiven}
use Rattle.polyover_calls.specs.Put.{IsPutSo, EndsInto}
use Rattle.polyover_calls.specs.Refusals.{AreQueryNumbers, IsQueryRefused}
use Rattle.polyover_calls.specs.declared.status.Status.{Status}

-- edges in arrays: of each the coordinates of both ends, and its fill bits
pub record EdgeArrays (I : Type 0) : Type 0 where
  pub coordinates : List I
  pub fills : List ℕ

abbrev pub flat_edges : {I : Type 0} → List I → List ℕ → EdgeArrays I
flat_edges coordinates fills = record { coordinates = coordinates; fills = fills }

-- the arrays that a caller has for edges, and where their number goes
pub record EdgeRoom (I : Type 0) : Type 0 where
  pub arrays : EdgeArrays I
  pub count : ℕ

abbrev pub edge_room : {I : Type 0} → List I → List ℕ → ℕ → EdgeRoom I
edge_room coordinates fills count = record { arrays = flat_edges coordinates fills; count = count }

-- x and y of where the edge begins, and of where it ends
abbrev pub ends_of_vector : Vector → List ℤ
ends_of_vector v = v.a.x ∷ v.a.y ∷ v.b.x ∷ v.b.y ∷ []

-- the edges stand in the arrays, one behind the other
pub record AreListed {I : Type 0} (whole : I → ℤ) (vectors : List Vector) (arrays : EdgeArrays I) : Type 0 where
  pub coordinates : map whole arrays.coordinates ≡ flat_map ends_of_vector vectors
  pub fills : arrays.fills ≡ map (λ v. v.fill) vectors

-- each array has a place for each item
pub record HasEdgeRoom {I : Type 0} (arrays room : EdgeArrays I) : Type 0 where
  pub coordinates : length arrays.coordinates ≤ length room.coordinates
  pub fills : length arrays.fills ≤ length room.fills

-- the arrays with the items in their first places
abbrev pub edges_written : {I : Type 0} → EdgeArrays I → EdgeArrays I → EdgeArrays I
edges_written arrays room = record {
  coordinates = written_over arrays.coordinates room.coordinates;
  fills = written_over arrays.fills room.fills;
}

-- what becomes of the arrays where an answer is there: it is written, or they are too small and stay; the count is that
-- of the answer
abbrev pub AreEdgesPut : {I : Type 0} → EdgeArrays I → EdgeRoom I → EdgeRoom I → Status → Type 0
AreEdgesPut arrays old new = IsPutSo (HasEdgeRoom arrays old.arrays)
    (record { arrays = edges_written arrays old.arrays; count = length arrays.fills })
    (record { arrays = old.arrays; count = length arrays.fills }) new

-- the numbers are known, both are given, and the edges of some arrangement, by the solver, of the contours of both
-- stand in the arrays, with the sides that are filled under the fill rule
pub record AreEdgesIn {I : Type 0} (whole : I → ℤ) (limit fill solver : ℕ) (subject clip : Contours I)
    (arrays : EdgeArrays I) : Type 0 where
  pub known : AreQueryNumbers fill solver
  pub subject_given : AreGiven whole limit subject
  pub clip_given : AreGiven whole limit clip
  pub vectors : List Vector
  pub answer : AreEdgesOfPaths (solver_of solver) (fill_of fill) (paths_given whole subject clip) vectors
  pub listed : AreListed whole vectors arrays

-- there are none so
abbrev pub IsListingRefused : {I : Type 0} → (I → ℤ) → ℕ → ℕ → ℕ → Contours I → Contours I → Status → Type 0
IsListingRefused whole limit fill solver subject clip = IsQueryRefused whole limit fill solver subject clip
    (MayRefusePaths (solver_of solver) (paths_given whole subject clip))

-- how it ends: with edges that are put into the arrays, or it is refused
abbrev pub ListingEnds : {I : Type 0} → (I → ℤ) → ℕ → ℕ → ℕ → Contours I → Contours I → EdgeRoom I → EdgeRoom I →
    Status → Type 0
ListingEnds whole limit fill solver subject clip = EndsInto (AreEdgesIn whole limit fill solver subject clip)
    AreEdgesPut (IsListingRefused whole limit fill solver subject clip)
