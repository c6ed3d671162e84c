-- Predicates may be asked of the exchanged edges where they may be asked of the edges.
use Rattle.std.proofs.Common.{◌≡◌, ℤ, ◌-ℤ◌, ◌*ℤ◌, Bool, true, false, List, map, ◌∙◌}
use Rattle.std.proofs.lemmas.List.Elements.{All-map}
use Rattle.overlay_geom.specs.Plane.{point_lt, edge_eq}
use Rattle.overlay_geom.specs.Edges.{CountedEdge, ends_of, subj_of, clip_of}
use Rattle.overlay_geom.proofs.Mapped.{AllPairs-map}
use Rattle.overlay_plane.specs.Balance.{HasBalancedCounts}
use Rattle.overlay_plane.specs.Predicates.{IsFillable}
use Rattle.overlay_plane.specs.Regions.{IsPlanar}
use Rattle.overlay_plane.proofs.JoinedLists.{total-map}
use Rattle.overlay_relate.specs.PredicateLaws.{exchanged}
use Rattle.overlay_relate.proofs.ExchangedMeetings.{settled_exchanged}

balanced_exchanged : (es : List CountedEdge) → HasBalancedCounts es → HasBalancedCounts (map exchanged es)
balanced_exchanged es h = record {
  subj = λ g. total-map (λ e. subj_of e *ℤ (g e.b -ℤ g e.a)) exchanged es ∙ h.clip g;
  clip = λ g. total-map (λ e. clip_of e *ℤ (g e.b -ℤ g e.a)) exchanged es ∙ h.subj g;
}

planar_exchanged : (es : List CountedEdge) → IsPlanar es → IsPlanar (map exchanged es)
planar_exchanged es h = record {
  forward = All-map (λ e. point_lt e.a e.b ≡ true) exchanged es h.forward;
  settled = settled_exchanged es h.settled;
  distinct = AllPairs-map (λ e f. edge_eq (ends_of e) (ends_of f) ≡ false) exchanged es h.distinct;
}

pub fillable_exchanged : (filled : ℤ → Bool) (es : List CountedEdge) → IsFillable filled es →
    IsFillable filled (map exchanged es)
fillable_exchanged filled es h = record {
  planar = planar_exchanged es h.planar;
  balanced = balanced_exchanged es h.balanced;
  none = h.none;
}
