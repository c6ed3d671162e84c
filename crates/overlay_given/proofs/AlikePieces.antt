-- Pieces of edges that lie along one line: two that begin at one place have the same sides, and two that end there.
use Rattle.std.proofs.Common.{◌≡◌, ⊎_elim, inl, inr, ℤ, ◌+ℤ◌, pos, Bool, List, sym, ap₂, ◌∙◌}
use Rattle.overlay_geom.specs.Edges.{CountedEdge, ends_of, subj_of, clip_of, winding_by}
use Rattle.overlay_geom.specs.Placed.{IsAlong}
use Rattle.overlay_geom.specs.Plane.{PlanePoint, SamePlace, side}
use Rattle.overlay_geom.proofs.OneLine.{along_exchanged}
use Rattle.overlay_geom.proofs.PointOrder.{IsBefore}
use Rattle.overlay_plane.specs.Balance.{HasBalancedCounts}
use Rattle.overlay_plane.specs.EdgeLists.{IsForwardBy, IsBalanced}
use Rattle.overlay_plane.specs.Rounds.{IsSmaller}
use Rattle.overlay_plane.proofs.LinesWithin.{on_line_of}
use Rattle.overlay_plane.proofs.PlaceOrder.{IsUpToPlace, on_between, place_of_smaller, place_of_same}
use Rattle.overlay_scaled.specs.Pieces.{IsPiece, IsWithinPiece}
use Rattle.overlay_scaled.specs.Through.{winding_over}
use Rattle.overlay_scaled.proofs.AlongPieces.{counts_along_pieces}
use Rattle.overlay_scaled.proofs.BesidePieces.{windings_beside_pieces}
use Rattle.overlay_exact.specs.PieceOrder.{IsUpTo}
use Rattle.overlay_exact.proofs.PiecesFollow.{before_in}
use Rattle.overlay_exact.proofs.PlaneOrder.{flipped, smaller_from_same, smaller_to_same, smaller_up_to, up_to_smaller}
use Rattle.overlay_exact.proofs.PlaneOrder.{smaller_or_up_to}
use Rattle.overlay_given.specs.Sides.{sides_at}

-- a point up to another, in the other form
place_of_up_to : (p q : PlanePoint) → IsUpTo p q → IsUpToPlace p q
place_of_up_to p q (inl less) = place_of_smaller p q less
place_of_up_to p q (inr same) = place_of_same p q same

module _ (filled : ℤ → Bool) (es : List CountedEdge) (forward : IsForwardBy ends_of es)
    (balanced : HasBalancedCounts es) where
  -- ---- one piece

  module _ (e : CountedEdge) (l m p s : PlanePoint) (piece : IsPiece es e l m) (within_p : IsWithinPiece e l m p)
      (within_s : IsWithinPiece e l m s) where
    below : (count : CountedEdge → ℤ) → IsBalanced ends_of count es → winding_by count es p ≡ winding_by count es s
    below count even = (windings_beside_pieces count es forward even e l m p piece within_p).from_start
        ∙ sym (windings_beside_pieces count es forward even e l m s piece within_s).from_start

    above : (count : CountedEdge → ℤ) → IsBalanced ends_of count es →
        winding_over count es p ≡ winding_over count es s
    above count even = ap₂ (λ u v. u +ℤ v) (below count even)
        ((counts_along_pieces count es forward e l m p piece within_p).from_start
        ∙ sym (counts_along_pieces count es forward e l m s piece within_s).from_start)

    -- two points of a piece have the same sides
    pub sides_alike : sides_at filled es p ≡ sides_at filled es s
    sides_alike = λ i. record {
      subj_above = filled (above subj_of balanced.subj i);
      subj_below = filled (below subj_of balanced.subj i);
      clip_above = filled (above clip_of balanced.clip i);
      clip_below = filled (below clip_of balanced.clip i);
    }

  -- ---- parts of a piece

  -- a point of its line is within a piece where it lies between the start and a point within
  module _ (f : CountedEdge) (k n c s : PlanePoint) (piece : IsPiece es f k n) (within : IsWithinPiece f k n c)
      (level : side (ends_of f) s ≡ pos 0) where
    before_f : IsBefore f.a f.b
    before_f = before_in es forward f piece.entry

    nearer_start : IsSmaller k s → IsUpTo s c → IsWithinPiece f k n s
    nearer_start after up = record {
      on = on_between (ends_of f) before_f k c s piece.from.on within.on level (place_of_smaller k s after)
          (place_of_up_to s c up);
      after = after;
      before = up_to_smaller s c n up within.before;
    }

    -- or between it and the end
    nearer_end : IsUpTo c s → IsSmaller s n → IsWithinPiece f k n s
    nearer_end up before = record {
      on = on_between (ends_of f) before_f c n s within.on piece.to.on level (place_of_up_to c s up)
          (place_of_smaller s n before);
      after = smaller_up_to k c s within.after up;
      before = before;
    }

  -- ---- two pieces

  module _ (e f : CountedEdge) (along : IsAlong (ends_of e) (ends_of f)) (l m k n s c : PlanePoint)
      (piece_e : IsPiece es e l m) (within_s : IsWithinPiece e l m s) (piece_f : IsPiece es f k n)
      (within_c : IsWithinPiece f k n c) where
    s_level : side (ends_of f) s ≡ pos 0
    s_level = on_line_of (ends_of f) (ends_of e) s (before_in es forward e piece_e.entry)
        (along_exchanged (ends_of e) (ends_of f) (before_in es forward e piece_e.entry) along) within_s.on.on_line

    c_level : side (ends_of e) c ≡ pos 0
    c_level = on_line_of (ends_of e) (ends_of f) c (before_in es forward f piece_f.entry) along within_c.on.on_line

    pub alike_after : SamePlace l k → sides_at filled es s ≡ sides_at filled es c
    alike_after same = ⊎_elim
        (λ (less : IsSmaller c s). sides_alike e l m s c piece_e within_s
        (nearer_start e l m s c piece_e within_s c_level (smaller_from_same l k c same within_c.after) (inl less)))
        (λ (up : IsUpTo s c). sides_alike f k n s c piece_f (nearer_start f k n c s piece_f within_c s_level
        (smaller_from_same k l s (flipped l k same) within_s.after) up) within_c)
        (smaller_or_up_to c s)

    pub alike_before : SamePlace m n → sides_at filled es s ≡ sides_at filled es c
    alike_before same = ⊎_elim
        (λ (less : IsSmaller s c). sides_alike e l m s c piece_e within_s (nearer_end e l m s c piece_e within_s c_level
        (inl less) (smaller_to_same c n m within_c.before (flipped m n same))))
        (λ (up : IsUpTo c s). sides_alike f k n s c piece_f (nearer_end f k n c s piece_f within_c s_level up
        (smaller_to_same s m n within_s.before same)) within_c)
        (smaller_or_up_to s c)
