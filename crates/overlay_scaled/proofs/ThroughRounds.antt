-- The counts of the edges through a point add up to one sum before and after a round that stops no edge there. In a
-- planar list they are the count of the only edge through the point.
use Rattle.std.proofs.Common.{◌≡◌, Bool, true, false, cond, ℤ, pos, ◌*ℤ◌, List, Contains, refl, sym, ap, ◌∙◌, subst}
use Rattle.std.proofs.Common.{◌+◌, length, arith}
use Rattle.overlay_geom.specs.Edges.{CountedEdge, ends_of, subj_of, clip_of}
use Rattle.overlay_geom.specs.Merged.{IsMerged}
use Rattle.overlay_geom.specs.Plane.{Point, PlanePoint, Step, Edge, IsOn, IsAt, IsEnd, edge_eq, edge_of, sign_of, total}
use Rattle.overlay_geom.proofs.Merging.{IsMerged-alike}
use Rattle.overlay_geom.proofs.Orders.{edge_eq-same}
use Rattle.overlay_geom.proofs.Sums.{sum_where-agree}
use Rattle.overlay_plane.specs.Cutting.{piece_along, pieces_through}
use Rattle.overlay_plane.specs.Regions.{IsPlanar}
use Rattle.overlay_plane.specs.Rounds.{Round, chain_of, pieces_of, whole_cuts}
use Rattle.overlay_plane.proofs.JoinedLists.{total-map, total-flat_map, total-times, taken_out}
use Rattle.overlay_plane.proofs.NodeWindings.{count-times}
use Rattle.overlay_plane.proofs.PieceCounts.{subj_of_piece, clip_of_piece}
use Rattle.overlay_plane.proofs.SingleEntries.{single_total}
use Rattle.overlay_plane.proofs.Totals.{total-same, total-zero}
use Rattle.overlay_plane.proofs.WholeCuts.{CutsWhole, stops, stop_held, goes_forward}
use Rattle.overlay_scaled.specs.Through.{is_on, total_through}
use Rattle.overlay_scaled.proofs.OnChains.{passing, chain_passes}
use Rattle.overlay_scaled.proofs.OnTests.{test_from_on, test_from_off}

-- the two sides have one sum each in both lists
pub record HaveSameThrough (old new : List CountedEdge) (q : PlanePoint) : Type 0 where
  pub subj : total_through subj_of new q ≡ total_through subj_of old q
  pub clip : total_through clip_of new q ≡ total_through clip_of old q

pub through_again : (old middle new : List CountedEdge) (q : PlanePoint) → HaveSameThrough old middle q →
    HaveSameThrough middle new q → HaveSameThrough old new q
through_again old middle new q first second = record {
  subj = second.subj ∙ first.subj;
  clip = second.clip ∙ first.clip;
}

-- a merged list has those of the list
pub through_merged : (old new : List CountedEdge) → IsMerged old new → (q : PlanePoint) → HaveSameThrough old new q
through_merged old new merged q = record {
  subj = sum_where-agree subj_of (λ e. is_on e q) (length new + length old) new old (omega arith)
      (λ e. ap subj_of ((IsMerged-alike old new merged).at e));
  clip = sum_where-agree clip_of (λ e. is_on e q) (length new + length old) new old (omega arith)
      (λ e. ap clip_of ((IsMerged-alike old new merged).at e));
}

-- no stop of a chain is at q
abbrev pub StopsNowhereAt : Round → PlanePoint → Type 0
StopsNowhereAt r q = (f : CountedEdge) → Contains r.edges f → (v : Point) → Contains (stops r f) v → ¬ (IsAt v q)

-- the pieces of a round have the sums of its edges
module _ (r : Round) (h : CutsWhole r) (q : PlanePoint) (clear : StopsNowhereAt r q) where
  module _ (count : CountedEdge → ℤ) (of_piece : (e : CountedEdge) (s : Step) →
      count (piece_along e s) ≡ sign_of s *ℤ count e) where
    abbrev through : CountedEdge → ℤ
    through f = cond (is_on (ends_of f) q) (count f) (pos 0)

    of_edge : (f : CountedEdge) → Contains r.edges f → total through (pieces_through (whole_cuts r) f) ≡ through f
    of_edge f c = total-map through (piece_along f) (chain_of r f)
        ∙ total-same (λ s. through (piece_along f s)) (λ s. count f *ℤ passing q s) (chain_of r f)
        (λ s at. ap (λ z. cond (is_on (edge_of s) q) z (pos 0)) (of_piece f s)
        ∙ taken_out (is_on (edge_of s) q) (sign_of s) (count f))
        ∙ total-times (count f) (passing q) (chain_of r f)
        ∙ ap (λ z. count f *ℤ z) (chain_passes (ends_of f) (goes_forward r h f c) q (whole_cuts r f)
        (λ v at. (stop_held r h f v c at).on_line) (clear f c))
        ∙ sym (count-times (is_on (ends_of f) q) (count f))

    of_all : total_through count (pieces_of r) q ≡ total_through count r.edges q
    of_all = total-flat_map through (pieces_through (whole_cuts r)) r.edges
        ∙ total-same (λ f. total through (pieces_through (whole_cuts r) f)) through r.edges of_edge

  pub through_pieces : HaveSameThrough r.edges (pieces_of r) q
  through_pieces = record { subj = of_all subj_of subj_of_piece; clip = of_all clip_of clip_of_piece }

-- ---- in a planar list

module _ (es : List CountedEdge) (planar : IsPlanar es) (q : PlanePoint) (count : CountedEdge → ℤ) where
  -- the only edge through an inner point of it
  pub through_one : (e : CountedEdge) → Contains es e → IsOn (ends_of e) q → ¬ (IsEnd (ends_of e) q) →
      total_through count es q ≡ count e
  through_one e c on no_end = total-same (λ f. cond (is_on (ends_of f) q) (count f) (pos 0))
      (λ f. cond (edge_eq (ends_of f) (ends_of e)) (count f) (pos 0)) es
      (λ f at. ap (λ t. cond t (count f) (pos 0)) (by f at (edge_eq (ends_of f) (ends_of e)) refl))
      ∙ single_total es planar.distinct count e c
    where
      by : (f : CountedEdge) → Contains es f → (t : Bool) → edge_eq (ends_of f) (ends_of e) ≡ t →
          is_on (ends_of f) q ≡ edge_eq (ends_of f) (ends_of e)
      by f at true same = test_from_on (ends_of f) q
          (subst (λ (g : Edge). IsOn g q) (sym (edge_eq-same (ends_of f) (ends_of e) same)) on) ∙ sym same
      by f at false apart = test_from_off (ends_of f) q
          (λ also. no_end (planar.settled f e at c apart q (also, on)).1) ∙ sym apart

  -- none
  pub through_none : ((e : CountedEdge) → Contains es e → ¬ (IsOn (ends_of e) q)) → total_through count es q ≡ pos 0
  through_none off = total-zero (λ f. cond (is_on (ends_of f) q) (count f) (pos 0)) es
      (λ f at. ap (λ t. cond t (count f) (pos 0)) (test_from_off (ends_of f) q (off f at)))
