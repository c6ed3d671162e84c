-- Edges merge alike in any order.
use Rattle.std.proofs.Common.{List}
use Rattle.std.specs.List.Sorted.{IsPermutation}
use Rattle.overlay_geom.specs.Edges.{CountedEdge}
use Rattle.overlay_geom.specs.Merged.{IsMerged}
use Rattle.overlay_geom.proofs.Merging.{IsMerged-alike, IsMerged-from_alike}
use Rattle.overlay_geom.proofs.Shuffled.{alike_shuffled}
use Rattle.overlay_arrange.proofs.RunsAlike.{JoinAlike-trans}

pub merged_of_shuffled : (old shuffled new : List CountedEdge) → IsPermutation old shuffled → IsMerged shuffled new →
    IsMerged old new
merged_of_shuffled old shuffled new same m =
    IsMerged-from_alike old new m.ascending (λ k d l. (m.joined k d l).1)
    (JoinAlike-trans old shuffled new (alike_shuffled old shuffled same) (IsMerged-alike shuffled new m))
