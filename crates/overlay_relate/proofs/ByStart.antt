-- The edges of a contour that are not vertical, in the order of their starts.
use Rattle.std.proofs.Common.{◌≡◌, ◌<ℤ◌, Bool, true, false, List, Contains, sym, subst}
use Rattle.std.specs.List.{AllPairs, filter}
use Rattle.std.specs.List.Sorted.{IsPermutation, IsSortedBy}
use Rattle.std.proofs.lemmas.Bool.{or_left}
use Rattle.std.proofs.lemmas.List.Kept.{AllPairs-filter}
use Rattle.std.proofs.lemmas.List.Sorted.{Contains-permutation, IsPermutation-sym}
use Rattle.overlay_geom.specs.Plane.{Edge, edge_eq, point_lt}
use Rattle.overlay_geom.proofs.Mapped.{AllPairs-map}
use Rattle.overlay_geom.proofs.Orders.{edge_eq-exchanged}
use Rattle.overlay_geom.specs.declared.number.IntNumber.{Ghosts as IntGhosts}
use Rattle.overlay_geom.specs.declared.number.WideIntNumber.{Ghosts as WideGhosts}
use Rattle.overlay_geom.specs.declared.number.UIntNumber.{Ghosts as UIntGhosts}
use Rattle.overlay_plane.specs.Anchors.{is_anchored_before}
use Rattle.overlay_plane.proofs.Entries.{all_of_entries, Contains-filter, Contains-from_filter}
use Rattle.overlay_plane.proofs.ShuffledPairs.{pairs_shuffled}
use Rattle.overlay_plane.proofs.SortedStarts.{starts_before, by_start-from_sorted}
use Rattle.overlay_plane.proofs.Tests.{lt_from_test, test_from_lt}
use Rattle.overlay_relate.specs.Sweeps.{wide_edge, wide_edges, is_wide, AreOfContour, AreByStart}
use Rattle.overlay_relate.specs.declared.wide_edge.WideEdge.{WideEdge}
use Rattle.overlay_relate.proofs.Insides.{distinct, settled}

-- sorted, the edges that are not vertical are those by start
pub by_start_sorted : (es : List Edge) → AreOfContour es → (gs fs : List Edge) → gs ≡ filter is_wide es →
    IsPermutation gs fs →
    AllPairs (λ e f. is_anchored_before f e ≡ false) fs → AreByStart es fs
by_start_sorted es of gs fs is moved order = record {
  from = λ e c. (kept e c).0;
  all = λ e c wide. Contains-permutation gs fs e moved
      (subst (λ hs. Contains hs e) (sym is) (Contains-filter is_wide es e c (test_from_lt e.a.x e.b.x wide)));
  sweepable = record {
    wide = all_of_entries (λ e. e.a.x <ℤ e.b.x) fs (λ e c. lt_from_test e.a.x e.b.x (kept e c).1);
    settled = λ e f c d. settled es of e f (kept e c).0 (kept f d).0;
    distinct = pairs_shuffled edge_eq edge_eq-exchanged gs fs moved
        (subst (AllPairs (λ e f. edge_eq e f ≡ false)) (sym is) (AllPairs-filter (λ e f. edge_eq e f ≡ false) is_wide es
        (distinct es of)));
    order = order;
  };
}
  where
    kept : (e : Edge) → Contains fs e → Contains es e × (is_wide e ≡ true)
    kept e c = Contains-from_filter is_wide es e
        (subst (λ hs. Contains hs e) is (Contains-permutation fs gs e (IsPermutation-sym gs fs moved) c))

module _ {I W U : Type 0} (i : IntGhosts I W U) (w : WideGhosts W) (u : UIntGhosts U) where
  -- each leads forward
  pub leads : (e : WideEdge I W U i w u) → point_lt (wide_edge i.whole e).a (wide_edge i.whole e).b ≡ true
  leads e = or_left _ _ (test_from_lt (i.whole e.a.x) (i.whole e.b.x) e.wide)

  -- the first starts before the second
  abbrev pub held_before : WideEdge I W U i w u → WideEdge I W U i w u → Bool
  held_before = starts_before (wide_edge i.whole) leads

  -- sorted edges are in the order of their starts
  pub by_start : (es : List (WideEdge I W U i w u)) → IsSortedBy held_before es
      → AllPairs (λ e f. is_anchored_before f e ≡ false) (wide_edges i.whole es)
  by_start es up =
      AllPairs-map (λ (e f : Edge). is_anchored_before f e ≡ false) (wide_edge i.whole) es
      (by_start-from_sorted (wide_edge i.whole) leads es up)
