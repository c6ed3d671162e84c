-- The filled sides of edges of an arrangement, told by their fill bits.
use Rattle.std.specs.Prelude.{ℕ, ℤ, Bool, List}
use Rattle.overlay_geom.specs.Edges.{CountedEdge, subj_of, clip_of}
use Rattle.overlay_plane.specs.Predicates.{fills_above, fills_below}
use Rattle.overlay_order.specs.Counts.{has_bit}
use Rattle.overlay_given.specs.Sides.{sides_pass}
use Rattle.overlay_given.specs.declared.sides.FilledSides.{FilledSides}
use Rattle.overlay_given.specs.declared.sides.SideTest.{SideTest}

-- the filled sides that fill bits tell
abbrev pub sides_of_bits : ℕ → FilledSides
sides_of_bits n = record {
  subj_above = has_bit n 0;
  subj_below = has_bit n 1;
  clip_above = has_bit n 2;
  clip_below = has_bit n 3;
}

-- those of an edge of the list
abbrev pub sides_beside : (ℤ → Bool) → List CountedEdge → CountedEdge → FilledSides
sides_beside filled es e = record {
  subj_above = fills_above filled es subj_of e;
  subj_below = fills_below filled es subj_of e;
  clip_above = fills_above filled es clip_of e;
  clip_below = fills_below filled es clip_of e;
}

-- they pass the test
abbrev pub edge_passes : SideTest → (ℤ → Bool) → List CountedEdge → CountedEdge → Bool
edge_passes test filled es e = sides_pass test (sides_beside filled es e)

abbrev pub bits_pass : SideTest → ℕ → Bool
bits_pass test n = sides_pass test (sides_of_bits n)
