-- Edges in arrays of a caller, each of the subject or of the clip.
use Rattle.std.specs.Prelude.{◌≡◌, ◌≢◌, ◌⊎◌, ◌<◌, ◌+◌, ◌*◌, ℕ, zero, suc, ℤ, pos, List, [], ◌∷◌}
use Rattle.std.specs.Prelude.{length, map, All, get_or}
use Rattle.overlay_geom.specs.declared.options.ShapeType.{ShapeType}
use Rattle.overlay_geom.specs.declared.options.ShapeType.TheVariants.{Subject, Clip}
use Rattle.overlay_traced.specs.Given.{SidedEdge}
use Rattle.polyover_calls.specs.Reading.{AreWithin}
use Rattle.polyover_calls.specs.declared.status.Status.{Status}
use Rattle.polyover_calls.specs.declared.status.Status.TheVariants.{BadEnds, OutOfRange}

-- edges as arrays have them: x and y of both ends, and the number of a side
pub record EdgeList (I : Type 0) : Type 0 where
  pub coordinates : List I
  pub sides : List ℕ

-- those of these arrays
abbrev pub edge_list : {I : Type 0} → List I → List ℕ → EdgeList I
edge_list coordinates sides = record { coordinates = coordinates; sides = sides }

-- the side with the number: 0 is that of the subject
abbrev pub side_of : ℕ → ShapeType
side_of zero = Subject
side_of (suc n) = Clip

-- each number is that of a side
abbrev pub AreSides : List ℕ → Type 0
AreSides sides = All (λ s. s < 2) sides

-- the edge whose coordinates begin at the place
abbrev pub sided_at : List ℤ → ℕ → ℕ → SidedEdge
sided_at cs n side = record {
  a = record { x = get_or cs n (pos 0); y = get_or cs (n + 1) (pos 0) };
  b = record { x = get_or cs (n + 2) (pos 0); y = get_or cs (n + 3) (pos 0) };
  side = side_of side;
}

-- the edges with these sides, whose coordinates begin at the place
abbrev pub sided_from : List ℤ → ℕ → List ℕ → List SidedEdge
sided_from cs n [] = []
sided_from cs n (side ∷ sides) = sided_at cs n side ∷ sided_from cs (n + 4) sides

-- all edges
abbrev pub sided_edges : {I : Type 0} → (I → ℤ) → EdgeList I → List SidedEdge
sided_edges whole e = sided_from (map whole e.coordinates) 0 e.sides

-- the coordinates are four for each side, and in range
pub record AreEdges {I : Type 0} (whole : I → ℤ) (limit : ℕ) (e : EdgeList I) : Type 0 where
  pub four : length e.coordinates ≡ 4 * length e.sides
  pub within : AreWithin whole limit e.coordinates

-- what is wrong with them
abbrev pub HaveFault : {I : Type 0} → (I → ℤ) → ℕ → EdgeList I → Status → Type 0
HaveFault whole limit e s = ((s ≡ BadEnds) × (length e.coordinates ≢ 4 * length e.sides))
    ⊎ ((s ≡ OutOfRange) × ((length e.coordinates ≡ 4 * length e.sides) × ¬ (AreWithin whole limit e.coordinates)))
