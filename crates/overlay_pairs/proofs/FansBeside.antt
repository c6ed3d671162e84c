-- Fans beside an edge: all boxes of such a fan may be passed over.
use Rattle.std.proofs.Common.{inr, true, ℕ, ◌+◌, ◌/◌, ◌<◌, List, All, length, map, get_or, subst}
use Rattle.std.specs.List.Sorted.{IsPermutation}
use Rattle.std.proofs.lemmas.List.{get_or_default, length-map}
use Rattle.overlay_geom.specs.Edges.{CountedEdge, ends_of}
use Rattle.overlay_geom.proofs.Entries.{some_entry}
use Rattle.overlay_order.specs.Content.{IsHeld}
use Rattle.overlay_pairs.specs.Bundles.{Fan, AreHeldFans, ArePassed, BeginsFan, HoldsRound, IsHeldFan}
use Rattle.overlay_pairs.specs.Extents.{Extent, extents_of}
use Rattle.overlay_pairs.specs.Places.{IsAt}
use Rattle.overlay_pairs.proofs.BundlesBeside.{edge_there}
use Rattle.overlay_pairs.proofs.EdgeFans.{settled_round}
use Rattle.overlay_pairs.proofs.ExtentBlocks.{same_block}

-- a fan of one edge, as an entry that a list has beyond its end
abbrev pub lone_fan : CountedEdge → Fan
lone_fan e = record {
  is_at_a = true;
  is_at_b = true;
  lowest = ends_of e;
  highest = ends_of e;
  along = ends_of e;
}

module _ (limit size : ℕ) (es : List CountedEdge) (ss : List Extent) (fans : List Fan)
    (moved : IsPermutation (extents_of es) ss) (held : AreHeldFans limit size es ss fans) where
  -- each box has a fan
  pub fan_there : (d : Fan) (k : ℕ) → k < length ss → k / size < length fans
  fan_there d k inside =
      let s = some_entry ss k inside in
      let t = get_or ss k s in
      let at_t : IsAt ss k t = (inside, get_or_default ss k t s inside) in
      let edge = edge_there es ss moved k t at_t in
      (held.all k t edge.0 d at_t edge.1).0

  -- those of a fan beside the edge may be passed over
  pub fan_passed : (e : CountedEdge) (s : Extent) (at : ℕ) → 0 < size → All (IsHeld limit) es → IsHeld limit e →
      BeginsFan fans size e at → ArePassed es e ss s at (at + size)
  fan_passed e s at some es_held e_held begun k t past less at_t = inr (λ f at_f.
      settled_round limit fan e f e_held fan_is_held (holds f at_f) (begun.beside d))
    where
      d : Fan
      d = lone_fan e

      fan : Fan
      fan = get_or fans (at / size) d

      holds : (f : CountedEdge) → IsAt es t.first f → HoldsRound fan f
      holds f at_f = subst (λ m. HoldsRound (get_or fans m d) f)
          (same_block size at k some begun.begins past less) (held.all k t f d at_t at_f).1

      fan_is_held : IsHeldFan limit fan
      fan_is_held = held.held (at / size) d (subst (λ m. m < length fans)
          (same_block size at k some begun.begins past less) (fan_there d k at_t.0))

-- lists of the program's fans have one for each box too
pub fan_held : {Y : Type 0} (plain_fan : Y → Fan) (limit size : ℕ) (es : List CountedEdge) (ss : List Extent)
    (ys : List Y) (d : Fan) (at : ℕ) → IsPermutation (extents_of es) ss →
    AreHeldFans limit size es ss (map plain_fan ys) → at < length ss → at / size < length ys
fan_held plain_fan limit size es ss ys d at moved held inside =
    subst (λ (m : ℕ). at / size < m) (length-map ys plain_fan)
    (fan_there limit size es ss (map plain_fan ys) moved held d at inside)
