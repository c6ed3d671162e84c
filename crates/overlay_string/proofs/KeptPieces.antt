-- The pieces that the bits of filled sides tell of are those that the clip keeps.
use Rattle.std.proofs.Common.{◌≡◌, ℤ, cond, List, [], ◌∷◌, ◌++◌, map, refl, sym, ap, ap₂, ◌∙◌}
use Rattle.std.specs.List.{flat_map}
use Rattle.overlay_geom.specs.Edges.{CountedEdge}
use Rattle.overlay_geom.specs.Plane.{Step}
use Rattle.overlay_geom.specs.Rules.{fills_of}
use Rattle.overlay_geom.specs.declared.fill_rule.FillRule.{FillRule}
use Rattle.overlay_plane.specs.Carried.{edges_in}
use Rattle.overlay_plane.proofs.Entries.{flat_map-same}
use Rattle.overlay_order.specs.Counts.{has_bit, string_counts}
use Rattle.overlay_order.specs.Vectors.{Vector, plain_vector, vector_of}
use Rattle.overlay_order.specs.declared.string_count.ShapeCountString.{ShapeCountString}
use Rattle.overlay_order.specs.declared.vector.DataVectorEdge.{DataVectorEdge}
use Rattle.overlay_graph.specs.Graphs.{carried_vector, carried_vectors}
use Rattle.overlay_graph.proofs.SideBits.{bits_show_sides}
use Rattle.overlay_string.specs.ClipPieces.{keeps_sides, is_kept, string_steps, clip_pieces}
use Rattle.overlay_string.specs.Pieces.{pieces_by_bits}
use Rattle.overlay_string.specs.declared.clip_rule.ClipRule.{ClipRule}

module _ {I : Type 0} (whole : I → ℤ) (rule : ClipRule) where
  -- the counted edge at a vector's numbers
  abbrev edge_at : DataVectorEdge I ShapeCountString → CountedEdge
  edge_at v = (carried_vector whole string_counts v).edge

  -- the pieces of an edge with these bits
  abbrev kept_by_bits : Vector → CountedEdge → List Step
  kept_by_bits v e = cond (keeps_sides rule (has_bit v.fill 0) (has_bit v.fill 1)) (string_steps e) []

  -- the vectors' own bits tell of the pieces as those do that they are equal to
  by_equal_bits : (bits_of : CountedEdge → Vector) (vs : List (DataVectorEdge I ShapeCountString)) →
      map (plain_vector whole) vs ≡ map bits_of (map edge_at vs)
      → flat_map (pieces_by_bits whole rule) vs ≡ flat_map (λ e. kept_by_bits (bits_of e) e) (map edge_at vs)
  by_equal_bits bits_of [] same = refl
  by_equal_bits bits_of (v ∷ vs) same =
      ap₂ (λ front back. front ++ back) (ap (λ u. kept_by_bits u (edge_at v)) (head_of same))
      (by_equal_bits bits_of vs (tail_of same))
    where
      head_or : Vector → List Vector → Vector
      head_or d [] = d
      head_or d (u ∷ us) = u

      rest_of : List Vector → List Vector
      rest_of [] = []
      rest_of (u ∷ us) = us

      head_of : plain_vector whole v ∷ map (plain_vector whole) vs ≡ bits_of (edge_at v) ∷ map bits_of (map edge_at vs)
          → plain_vector whole v ≡ bits_of (edge_at v)
      head_of e = ap (head_or (plain_vector whole v)) e

      tail_of : plain_vector whole v ∷ map (plain_vector whole) vs ≡ bits_of (edge_at v) ∷ map bits_of (map edge_at vs)
          → map (plain_vector whole) vs ≡ map bits_of (map edge_at vs)
      tail_of e = ap rest_of e

  edges_at : (vs : List (DataVectorEdge I ShapeCountString)) →
      map edge_at vs ≡ edges_in (carried_vectors whole string_counts vs)
  edges_at [] = refl
  edges_at (v ∷ vs) = ap (λ es. edge_at v ∷ es) (edges_at vs)

  -- the pieces of a graph's edges
  pub pieces_kept : (fill : FillRule) (es : List CountedEdge) (vs : List (DataVectorEdge I ShapeCountString)) →
      edges_in (carried_vectors whole string_counts vs) ≡ es →
      map (plain_vector whole) vs ≡ map (vector_of fill es) es
      → flat_map (pieces_by_bits whole rule) vs ≡ clip_pieces fill rule es
  pieces_kept fill es vs edges filled =
      by_equal_bits (vector_of fill es) vs (filled ∙ ap (map (vector_of fill es)) (sym are))
      ∙ ap (flat_map (λ e. kept_by_bits (vector_of fill es e) e)) are
      ∙ flat_map-same (λ e. kept_by_bits (vector_of fill es e) e)
      (λ e. cond (is_kept fill rule es e) (string_steps e) []) es
      (λ e c. let shown = bits_show_sides (fills_of fill es e) in
      ap₂ (λ above below. cond (keeps_sides rule above below) (string_steps e) []) shown.subj_above shown.subj_below)
    where
      are : map edge_at vs ≡ es
      are = edges_at vs ∙ edges
