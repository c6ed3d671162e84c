-- The sides of a piece have one winding each: that at its start, put right by the edges through it.
use Rattle.std.proofs.Common.{◌≡◌, ℤ, ◌+ℤ◌, List, sym, ap₂, ◌∙◌}
use Rattle.overlay_geom.specs.Edges.{CountedEdge, ends_of, subj_of, clip_of, winding_by}
use Rattle.overlay_geom.specs.Plane.{PlanePoint}
use Rattle.overlay_plane.specs.EdgeLists.{IsForwardBy, IsBalanced}
use Rattle.overlay_scaled.specs.Pieces.{IsPiece, IsWithinPiece, PiecesHaveOneWinding}
use Rattle.overlay_scaled.specs.Through.{winding_over}
use Rattle.overlay_scaled.proofs.AlongPieces.{counts_along_pieces}
use Rattle.overlay_scaled.proofs.BesidePieces.{windings_beside_pieces}

module _ (es : List CountedEdge) (forward : IsForwardBy ends_of es) (e : CountedEdge) (l m p s : PlanePoint)
    (piece : IsPiece es e l m) (within_p : IsWithinPiece e l m p) (within_s : IsWithinPiece e l m s)
    (count : CountedEdge → ℤ) (balanced : IsBalanced ends_of count es) where
  one_below : winding_by count es p ≡ winding_by count es s
  one_below = (windings_beside_pieces count es forward balanced e l m p piece within_p).from_start
      ∙ sym (windings_beside_pieces count es forward balanced e l m s piece within_s).from_start

  one_above : winding_over count es p ≡ winding_over count es s
  one_above = ap₂ (λ u v. u +ℤ v) one_below
      ((counts_along_pieces count es forward e l m p piece within_p).from_start
      ∙ sym (counts_along_pieces count es forward e l m s piece within_s).from_start)

pub pieces_have_one_winding : PiecesHaveOneWinding
pieces_have_one_winding content es merged forward balanced e l m p s piece within_p within_s = record {
  subj_below = one_below es forward e l m p s piece within_p within_s subj_of balanced.subj;
  clip_below = one_below es forward e l m p s piece within_p within_s clip_of balanced.clip;
  subj_above = one_above es forward e l m p s piece within_p within_s subj_of balanced.subj;
  clip_above = one_above es forward e l m p s piece within_p within_s clip_of balanced.clip;
}
