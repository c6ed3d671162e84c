-- Items with an edge each, sorted by where their edges start.
use Rattle.std.proofs.Common.{◌≡◌, Bool, false, List, arith}
use Rattle.std.specs.Cmp.{IsStrictWeakOrder}
use Rattle.std.specs.List.{AllPairs}
use Rattle.std.specs.List.Sorted.{IsSortedBy}
use Rattle.std.proofs.lemmas.List.Sorted.{sorted_far}
use Rattle.overlay_geom.specs.Plane.{Edge}
use Rattle.overlay_plane.specs.Anchors.{is_anchored_before}
use Rattle.overlay_plane.proofs.AnchorOrder.{anchored_before-one_way, anchored_before-chain}
use Rattle.overlay_plane.proofs.EdgeTurns.{IsForward}

module _ {X : Type 0} (edge : X → Edge) (forward : (x : X) → IsForward (edge x)) where
  -- the first item's edge starts before the second's
  abbrev pub starts_before : X → X → Bool
  starts_before x y = is_anchored_before (edge x) (edge y)

  -- any two compare
  pub starts_before-order : IsStrictWeakOrder starts_before
  starts_before-order = record {
    one_way = λ x y. anchored_before-one_way (edge x) (edge y) (forward x) (forward y);
    chain = λ x y z. anchored_before-chain (edge x) (edge y) (edge z) (forward x) (forward y) (forward z);
  }

  -- sorted items are in the order of their starts
  pub by_start-from_sorted : (xs : List X) → IsSortedBy starts_before xs →
      AllPairs (λ x y. is_anchored_before (edge y) (edge x) ≡ false) xs
  by_start-from_sorted xs up j k d l m = sorted_far starts_before starts_before-order xs up j k d (omega (arith, l)) m
