-- Changes of the held edges by a descent through the tree.
use Rattle.std.proofs.Common.{◌≡◌, inl, inr, true, ℕ, zero, suc, ◌<◌, ℤ, int_lt, List, [], ◌∷◌, ◌++◌, length}
use Rattle.std.proofs.Common.{slice_get, Option, None, Some, refl, sym, ap, subst, ◌∙◌, arith}
use Rattle.std.specs.List.{filter_map, cons_option}
use Rattle.std.specs.declared.cmp.Ordering.{Ordering}
use Rattle.overlay_geom.specs.declared.point.IntPoint.{IntPoint}
use Rattle.overlay_scan.specs.Lists.{plain_entry, PassBefore}
use Rattle.overlay_scan.specs.Scan.{Entry, IsCallableOn}
use Rattle.overlay_scan.specs.declared.list.LiveEdge.{LiveEdge}
use Rattle.overlay_scan.specs.declared.tree.links.Links.{Links}
use Rattle.overlay_scan.specs.declared.tree.links.NodeIndex.{NodeIndex}
use Rattle.overlay_scan.specs.HeldEntries.{live_of, Tells, IsLookedUp}
use Rattle.overlay_scan.specs.Descents.{live_entries, alone}
use Rattle.overlay_scan.specs.Forests.{tree_at, IsForest, CanSettle, HasForest, IsFound, AreFewVisits}
use Rattle.overlay_scan.specs.HeldEdges.{HeldEdges, IsQuick}
use Rattle.overlay_scan.specs.Trees.{Tree, Leaf, items, IsIn, IsTreeAt}
use Rattle.overlay_scan.proofs.Parted.{live-here}
use Rattle.overlay_scan.proofs.Settling.{tree_at_is}
use Rattle.overlay_scan.proofs.Standing.{all_inside}

-- entries of the nodes are unchanged
same_entries : {I V : Type 0} (es new : List (LiveEdge I V)) (is : List ℕ) →
    ((k : ℕ) → IsIn k is → slice_get new k ≡ slice_get es k) → filter_map (slice_get new) is ≡ filter_map
    (slice_get es) is
same_entries es new [] kept = refl
same_entries es new (i ∷ is) kept = ap (λ o. cons_option o (filter_map (slice_get new) is)) (kept i (inl refl))
    ∙ ap (cons_option (slice_get es i)) (same_entries es new is (λ k at. kept k (inr at)))

reads : {X : Type 0} (xs : List X) (i : ℕ) → i < length xs → (x : X) × (slice_get xs i ≡ Some x)
reads [] i lt = absurd (omega arith)
reads (x ∷ xs) zero lt = (x, refl)
reads (x ∷ xs) (suc i) lt = reads xs i (omega arith)

-- each of these nodes has an entry
entries_of : {X : Type 0} (xs : List X) (is : List ℕ) → ((k : ℕ) → IsIn k is → k < length xs) →
    length (filter_map (slice_get xs) is) ≡ length is
entries_of xs [] inside = refl
entries_of xs (i ∷ is) inside =
    ap (λ o. length (cons_option o (filter_map (slice_get xs) is))) (reads xs i (inside i (inl refl))).1
    ∙ ap suc (entries_of xs is (λ k at. inside k (inr at)))

-- a tree holds as many entries as it has nodes
as_many_entries : {X : Type 0} (xs : List X) (ls : List Links) (root : Option NodeIndex) (t : Tree) →
    IsTreeAt ls root t → length xs ≡ length ls →
    length (filter_map (slice_get xs) (items (tree_at ls root))) ≡ length (items t)
as_many_entries xs ls root t at enough = ap (λ u. length (filter_map (slice_get xs) (items u)))
    (tree_at_is ls t root at)
    ∙ entries_of xs (items t) (λ k in_t. let inside = all_inside ls t at.stands k in_t in omega arith)

-- a look-up puts in no node
pub nothing_put : (ls : List Links) (root free : Option NodeIndex) (t : Tree) (unused : List ℕ) →
    IsForest ls root free t unused → CanSettle ls root free None t unused
nothing_put ls root free t unused forest = record {
  forest = forest;
  can = record { at = forest.at; put_stands = tt; other = λ k at none. none };
  put_apart = λ k at none. none;
}

module _ {I V : Type 0} (whole : I → ℤ) (post : List (IntPoint I) → Ordering → Type 0) (x : ℤ)
    (es now : List (LiveEdge I V))
    (ls new : List Links) (root root' free' put : Option NodeIndex) (t : Tree) (v : Option V)
    (at : IsTreeAt ls root t) (kept : (k : ℕ) → IsIn k (items t) → slice_get now k ≡ slice_get es k)
    (found : IsFound whole post x now new t put root' free' v) (held left : List (LiveEdge I V))
    (old_is : held ≡ filter_map (slice_get es) (items (tree_at ls root)))
    (new_is : left ≡ filter_map (slice_get now) (items (tree_at new root'))) where
  abbrev old_live : List (Entry V)
  old_live = live_of whole x held

  old_same : old_live ≡ live_entries whole x now (items t)
  old_same = ap (live_of whole x) (old_is
      ∙ ap (λ u. filter_map (slice_get es) (items u)) (tree_at_is ls t root at) ∙ sym
      (same_entries es now (items t) kept))

  new_same : live_of whole x left ≡ live_entries whole x now (items found.tree)
  new_same = ap (live_of whole x) (new_is
      ∙ ap (λ u. filter_map (slice_get now) (items u)) (tree_at_is new found.tree root' found.forest.at))

  pub looked_up : (news : List (Entry V)) → live_entries whole x now (items (alone put)) ≡ news →
      IsLookedUp whole post x held left news v
  looked_up news news_are = record {
    before = live_entries whole x now found.before;
    after = live_entries whole x now found.after;
    was = old_same ∙ found.was;
    now = new_same ∙ found.now
        ∙ ap (λ fs. live_entries whole x now found.before ++ (fs ++ live_entries whole x now found.after)) news_are;
    parted = λ passes tells front. found.parted passes (subst (Tells whole post passes) old_same tells)
        (subst (PassBefore passes) old_same front);
  }

  pub quick : (s u : HeldEdges I V) → s.entries ≡ held → u.entries ≡ left → (m : ℕ) →
      length (items (alone put)) ≡ m → length es ≡ length ls → length now ≡ length new →
      AreFewVisits s.visits u.visits (length (items t)) found.dropped → IsQuick s u m
  quick s u s_is u_is m count enough enough_now few =
      let was : length s.entries ≡ length (items t) = ap length (s_is ∙ old_is)
      ∙ as_many_entries es ls root t at enough in
      let is : length u.entries ≡ length (items found.tree) = ap length (u_is ∙ new_is)
      ∙ as_many_entries now new root' found.tree found.forest.at enough_now in
      record {
        dropped = found.dropped;
        count = (let same = found.count in omega arith);
        visited = subst (λ n. AreFewVisits s.visits u.visits n found.dropped) (sym was) few;
      }

  -- some tree stands then
  pub forest_left : HasForest new root' free'
  forest_left = (found.tree, found.unused, found.forest)

-- the order may be called on each live entry
pub callable_in_tree : {I V : Type 0} (whole : I → ℤ) (pre : List (IntPoint I) → Type 0) (x : ℤ)
    (es now : List (LiveEdge I V))
    (ls : List Links) (root : Option NodeIndex) (fs : List (LiveEdge I V)) →
    fs ≡ filter_map (slice_get es) (items (tree_at ls root)) → IsCallableOn whole pre (live_of whole x fs) →
    (t : Tree) → IsTreeAt ls root t → ((k : ℕ) → IsIn k (items t) → slice_get now k ≡ slice_get es k) →
    IsCallableOn whole pre (live_entries whole x now (items t))
callable_in_tree whole pre x es now ls root fs is may t at kept =
    subst (λ gs. IsCallableOn whole pre (live_of whole x gs)) (is
    ∙ ap (λ u. filter_map (slice_get es) (items u)) (tree_at_is ls t root at) ∙ sym
    (same_entries es now (items t) kept)) may

-- the entry of the node that is put in
pub one_live : {I V : Type 0} (whole : I → ℤ) (x : ℤ) (es : List (LiveEdge I V)) (i : NodeIndex) (f : LiveEdge I V) →
    slice_get es i.place ≡ Some f → int_lt x (whole f.b.x) ≡ true →
    live_entries whole x es (items (alone (Some i))) ≡ plain_entry whole f ∷ []
one_live whole x es i f there live = live-here whole x es i.place [] f there live

-- nothing stands, and no node is unused
pub empty_forest : (ls : List Links) → IsForest ls None None Leaf []
empty_forest ls = record {
  at = record { is_root = refl; stands = tt; distinct = tt; balanced = tt };
  free_is = refl;
  chain = tt;
  once = tt;
  apart = λ k none. absurd none;
}

-- where only the place of the sweep changes, nothing is dropped and nothing visited
pub still_quick : {I V : Type 0} (old : HeldEdges I V) (reached : Option I) →
    IsQuick old (record old { reached = reached }) 0
still_quick old reached = record {
  dropped = 0;
  count = refl;
  visited = record { never_fall = omega arith; few = λ digits lt. omega arith };
}
