-- Numbered edges as entries of a sweep with whole points; the value is the number.
use Rattle.std.specs.Prelude.{ℕ, ℤ, List, map}
use Rattle.overlay_geom.specs.Points.{plain_point}
use Rattle.overlay_scan.specs.Scan.{Entry}
use Rattle.overlay_walk.specs.declared.numbered_edge.NumberedEdge.{NumberedEdge}

-- the entry for a numbered edge, and those of a list
abbrev pub numbered_entry : {I W U : Type 0} {i w u : _} → (I → ℤ) → NumberedEdge I W U i w u → Entry ℕ
numbered_entry whole e = record {
  edge = record { a = plain_point whole e.a; b = plain_point whole e.b };
  value = e.number;
}

abbrev pub numbered_entries : {I W U : Type 0} {i w u : _} → (I → ℤ) → List (NumberedEdge I W U i w u) → List (Entry ℕ)
numbered_entries whole es = map (numbered_entry whole) es
