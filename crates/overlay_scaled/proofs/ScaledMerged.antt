-- A merged list, scaled, is merged. So an exact arrangement of it cuts the scaled edges themselves.
use Rattle.std.proofs.Common.{◌≡◌, false, ◌&&◌, ◌||◌, ℤ, pos, ◌<ℤ◌, List, refl, ap₂, ◌∙◌}
use Rattle.std.proofs.lemmas.List.Elements.{All-contains, All-map}
use Rattle.overlay_geom.specs.Edges.{CountedEdge, ends_of, counts_nothing}
use Rattle.overlay_geom.specs.Merged.{IsMerged, joined_edge}
use Rattle.overlay_geom.specs.Plane.{edge_lt, edge_eq}
use Rattle.overlay_geom.proofs.MergedOnce.{IsMerged-unique}
use Rattle.overlay_geom.proofs.Merging.{ComesBefore, IsMerged-from_alike}
use Rattle.overlay_plane.proofs.Entries.{all_of_entries}
use Rattle.overlay_plane.proofs.LaterEntries.{Each-map, Each-from_all_pairs, AllPairs-from_each}
use Rattle.overlay_scaled.specs.ExactArrangements.{IsExactArrangement}
use Rattle.overlay_scaled.specs.Scaled.{scaled_edge, scaled}
use Rattle.overlay_scaled.proofs.ScaledLists.{same_point_lt, same_point_eq}

module _ (n : ℤ) (some : pos 0 <ℤ n) where
  -- scaled edges are in the order of the edges, and equal where these are
  same_edge_lt : (e f : CountedEdge) →
      edge_lt (ends_of (scaled_edge n e)) (ends_of (scaled_edge n f)) ≡ edge_lt (ends_of e) (ends_of f)
  same_edge_lt e f = ap₂ (λ s t. s || t) (same_point_lt n some e.a f.a)
      (ap₂ (λ s t. s && t) (same_point_eq n some e.a f.a) (same_point_lt n some e.b f.b))

  pub same_edge_eq : (e f : CountedEdge) →
      edge_eq (ends_of (scaled_edge n e)) (ends_of (scaled_edge n f)) ≡ edge_eq (ends_of e) (ends_of f)
  same_edge_eq e f = ap₂ (λ s t. s && t) (same_point_eq n some e.a f.a) (same_point_eq n some e.b f.b)

  module _ (content es : List CountedEdge) (merged : IsMerged content es) where
    pub scaled_merged : IsMerged (scaled n es) (scaled n es)
    scaled_merged = IsMerged-from_alike (scaled n es) (scaled n es)
        (AllPairs-from_each ComesBefore (scaled n es) (Each-map ComesBefore ComesBefore (scaled_edge n) es
        (λ e f c_e c_f before. same_edge_lt e f ∙ before) (Each-from_all_pairs ComesBefore es merged.ascending)))
        (All-map (λ e. counts_nothing e ≡ false) (scaled_edge n) es
        (all_of_entries (λ e. counts_nothing e ≡ false) es
        (λ e c. (All-contains (λ e. (e ≡ joined_edge content (ends_of e)) × (counts_nothing e ≡ false)) es e
        merged.joined c).1)))
        (record { at = λ e. refl })

    -- the edges that are cut
    pub cuts_scaled : (new : List CountedEdge) (arranged : IsExactArrangement n es new) →
        arranged.round.edges ≡ scaled n es
    cuts_scaled new arranged = IsMerged-unique (scaled n es) arranged.round.edges (scaled n es) arranged.merged
        scaled_merged
