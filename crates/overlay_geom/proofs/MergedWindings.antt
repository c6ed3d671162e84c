-- Merging changes no winding.
use Rattle.std.proofs.Common.{◌+◌, List, length, ap, arith}
use Rattle.overlay_geom.specs.Plane.{is_strictly_below}
use Rattle.overlay_geom.specs.Edges.{CountedEdge, subj_of, clip_of}
use Rattle.overlay_geom.specs.Merged.{IsMerged, HaveSameWindings}
use Rattle.overlay_geom.proofs.Merging.{JoinAlike, IsMerged-alike}
use Rattle.overlay_geom.proofs.Sums.{sum_where-agree}

-- lists with the same joined edges make the same windings
pub windings_from_alike : (old new : List CountedEdge) → JoinAlike old new → HaveSameWindings old new
windings_from_alike old new alike = record {
  subj = λ p. sum_where-agree subj_of (λ e. is_strictly_below e p) (length new + length old) new old (omega arith)
      (λ e. ap subj_of (alike.at e));
  clip = λ p. sum_where-agree clip_of (λ e. is_strictly_below e p) (length new + length old) new old (omega arith)
      (λ e. ap clip_of (alike.at e));
}

-- a merged list makes the windings of the list that it was merged from
pub windings_from_merged : (old new : List CountedEdge) → IsMerged old new → HaveSameWindings old new
windings_from_merged old new m = windings_from_alike old new (IsMerged-alike old new m)
