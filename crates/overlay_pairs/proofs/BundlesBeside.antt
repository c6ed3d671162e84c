-- Bundles beside an edge: all boxes of such a bundle may be passed over.
use Rattle.std.proofs.Common.{◌⊎◌, ⊎_elim, inl, inr, ℕ, ◌+◌, ◌/◌, ◌<◌, List, All, length, map, get_or}
use Rattle.std.proofs.Common.{ap, subst, arith}
use Rattle.std.specs.List.Sorted.{IsPermutation}
use Rattle.std.proofs.lemmas.List.{get_or_default, length-map}
use Rattle.overlay_geom.specs.Edges.{CountedEdge}
use Rattle.overlay_geom.proofs.Entries.{some_entry}
use Rattle.overlay_order.specs.Content.{IsHeld}
use Rattle.overlay_pairs.specs.Bundles.{Bundle, AreHeldBundles, ArePassed, BeginsBeside, HoldsEdge, IsBeyondLine}
use Rattle.overlay_pairs.specs.Bundles.{IsBoxBeside, IsPassed}
use Rattle.overlay_pairs.specs.Extents.{Extent, extent_of, extents_of, IsApart}
use Rattle.overlay_pairs.specs.Places.{IsAt}
use Rattle.overlay_pairs.proofs.BundleBoxes.{settled_by_box}
use Rattle.overlay_pairs.proofs.BundleLines.{settled_beyond}
use Rattle.overlay_pairs.proofs.ExtentBlocks.{apart_under, same_block}
use Rattle.overlay_pairs.proofs.PlacedExtents.{item_there}

-- a bundle of one edge, as an entry that a list has beyond its end
abbrev pub lone_bundle : CountedEdge → Extent → Bundle
lone_bundle e s = record {
  extent = s;
  west = e.a.x;
  east = e.b.x;
  along = record { a = e.a; b = e.b };
  left = e.a;
  right = e.a;
}

-- the edge of a box
pub edge_there : (es : List CountedEdge) (ss : List Extent) → IsPermutation (extents_of es) ss → (k : ℕ) (t : Extent) →
    IsAt ss k t → (f : CountedEdge) × IsAt es t.first f
edge_there es ss moved k t at_t =
    let there = item_there extent_of es ss moved k t at_t in
    (there.1, subst (λ n. IsAt es n there.1) (ap (λ (s : Extent). s.first) there.3) there.2)

module _ (limit size : ℕ) (es : List CountedEdge) (ss : List Extent) (bundles : List Bundle)
    (moved : IsPermutation (extents_of es) ss) (held : AreHeldBundles limit size es ss bundles) where
  -- each box has a bundle
  pub bundle_there : (d : Bundle) (k : ℕ) → k < length ss → k / size < length bundles
  bundle_there d k inside =
      let s = some_entry ss k inside in
      let t = get_or ss k s in
      let at_t : IsAt ss k t = (inside, get_or_default ss k t s inside) in
      let edge = edge_there es ss moved k t at_t in
      (held.all k t edge.0 d at_t edge.1).0

  -- those of a bundle beside the edge may be passed over
  pub bundle_passed : (e : CountedEdge) (s : Extent) (at : ℕ) → 0 < size → All (IsHeld limit) es → IsHeld limit e →
      BeginsBeside bundles size e s at → ArePassed es e ss s at (at + size)
  bundle_passed e s at some es_held e_held begun k t past less at_t = ⊎_elim by_box by_lines (begun.beside d)
    where
      d : Bundle
      d = lone_bundle e s

      bundle : Bundle
      bundle = get_or bundles (at / size) d

      holds : (f : CountedEdge) → IsAt es t.first f → HoldsEdge bundle t f
      holds f at_f = subst (λ m. HoldsEdge (get_or bundles m d) t f)
          (same_block size at k some begun.begins past less) (held.all k t f d at_t at_f).1

      by_box : IsApart s bundle.extent → IsPassed es e s t
      by_box apart = let edge = edge_there es ss moved k t at_t in
          inl (apart_under s bundle.extent t (holds edge.0 edge.1).box apart)

      held_at : (f : CountedEdge) → IsAt es t.first f → IsHeld limit f
      held_at f at_f = subst (IsHeld limit) at_f.1 (es_held t.first f at_f.0)

      by_lines : IsBeyondLine bundle e ⊎ IsBoxBeside bundle e → IsPassed es e s t
      by_lines (inl beyond) = inr (λ f at_f.
          settled_beyond limit bundle t e f e_held (held_at f at_f) (holds f at_f) beyond)
      by_lines (inr aside) = inr (λ f at_f. let it = holds f at_f in
          settled_by_box limit bundle e f (held_at f at_f) it.a_in it.b_in aside)

-- lists of the program's bundles have one for each box too
pub bundle_held : {X Y : Type 0} (plain : X → Extent) (plain_bundle : Y → Bundle) (limit size : ℕ)
    (es : List CountedEdge) (xs : List X) (ys : List Y) (d : Bundle) (at : ℕ) →
    IsPermutation (extents_of es) (map plain xs) →
    AreHeldBundles limit size es (map plain xs) (map plain_bundle ys) → at < length xs → at / size < length ys
bundle_held plain plain_bundle limit size es xs ys d at moved held inside =
    let there : at < length (map plain xs) = (let l = length-map xs plain in omega (arith, l, inside)) in
    subst (λ (m : ℕ). at / size < m) (length-map ys plain_bundle)
    (bundle_there limit size es (map plain xs) (map plain_bundle ys) moved held d at there)
