-- Edges of an arrangement in arrays, with the given edges that each comes from.
use Rattle.std.specs.Prelude.{◌≡◌, ◌≢◌, ◌+◌, ℕ, ℤ, List, [], ◌∷◌, length, map, All, Option, None, Some}
use Rattle.std.specs.List.{flat_map}
use Rattle.overlay_vector.specs.DataVectors.{DataVector}
use Rattle.overlay_traced.specs.declared.mark.Mark.{Mark}
use Rattle.overlay_traced.specs.declared.source.Source.{Source}
use Rattle.overlay_traced.specs.Marks.{sources_of}

-- edges in arrays: of each the coordinates of both ends, its fill bits, and how many sources there are up to its end;
-- and the sources, edge by edge
pub record TracedArrays (I : Type 0) : Type 0 where
  pub coordinates : List I
  pub fills : List ℕ
  pub source_ends : List ℕ
  pub sources : List Source

abbrev pub traced_arrays : {I : Type 0} → List I → List ℕ → List ℕ → List Source → TracedArrays I
traced_arrays coordinates fills source_ends sources =
    record { coordinates = coordinates; fills = fills; source_ends = source_ends; sources = sources }

-- those that are known, or none
abbrev pub list_of : Option (List Source) → List Source
list_of None = []
list_of (Some xs) = xs

-- the given edges that the edge comes from
abbrev pub named_by : DataVector Mark → List Source
named_by v = list_of (sources_of v.data_of)

-- they are known
abbrev pub IsKnown : DataVector Mark → Type 0
IsKnown v = sources_of v.data_of ≢ None

-- x and y of where the edge begins, and of where it ends
abbrev pub ends_of_edge : DataVector Mark → List ℤ
ends_of_edge v = v.a.x ∷ v.a.y ∷ v.b.x ∷ v.b.y ∷ []

-- how many items there are up to the end of each list, where there are n before them
abbrev pub ends_after : ℕ → List (List Source) → List ℕ
ends_after n [] = []
ends_after n (xs ∷ rest) = (n + length xs) ∷ ends_after (n + length xs) rest

-- the edges stand in the arrays, one behind the other, and what each comes from is known
pub record AreTold {I : Type 0} (whole : I → ℤ) (vectors : List (DataVector Mark)) (arrays : TracedArrays I) : Type 0
  where
    pub known : All IsKnown vectors
    pub coordinates : map whole arrays.coordinates ≡ flat_map ends_of_edge vectors
    pub fills : arrays.fills ≡ map (λ v. v.fill) vectors
    pub source_ends : arrays.source_ends ≡ ends_after 0 (map named_by vectors)
    pub sources : arrays.sources ≡ flat_map named_by vectors
