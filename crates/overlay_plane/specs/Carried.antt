-- Counted edges with the values that they carry beside their ends: counts, and perhaps data.
use Rattle.std.specs.Prelude.{List, map}
use Rattle.overlay_geom.specs.Edges.{CountedEdge}

-- a counted edge, and the value that it carries, which includes the counts
pub record Carried (C : Type 0) : Type 0 where
  pub edge : CountedEdge
  pub carries : C

-- the counted edges of the list, without the values that they carry
abbrev pub edges_in : {C : Type 0} → List (Carried C) → List CountedEdge
edges_in xs = map (λ x. x.edge) xs
