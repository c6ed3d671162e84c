-- Ended entries are taken out one after another.
use Rattle.std.proofs.Common.{◌≡◌, ⊎_elim, inl, inr, ℕ, zero, suc, ◌+◌, ◌*◌, ◌^◌, ◌<◌, ◌≤◌, ℤ, List, [], ◌∷◌}
use Rattle.std.proofs.Common.{◌++◌, length, slice_get, slice_set, Option, Some, refl, sym, ap, subst, ◌∙◌, arith}
use Rattle.std.specs.declared.cmp.Ordering.{Ordering}
use Rattle.std.proofs.lemmas.List.{append-nil, length-append}
use Rattle.overlay_geom.specs.declared.point.IntPoint.{IntPoint}
use Rattle.overlay_scan.specs.Lists.{PassBefore}
use Rattle.overlay_scan.specs.Scan.{Entry, IsCallableOn}
use Rattle.overlay_scan.specs.declared.list.LiveEdge.{LiveEdge}
use Rattle.overlay_scan.specs.declared.tree.links.Links.{Links}
use Rattle.overlay_scan.specs.declared.tree.links.NodeIndex.{NodeIndex}
use Rattle.overlay_scan.specs.Sides.{unused_before}
use Rattle.overlay_scan.specs.HeldEntries.{Tells}
use Rattle.overlay_scan.specs.Descents.{live_entries, alone, IsDropped, IsPassed}
use Rattle.overlay_scan.specs.Forests.{fork_at, tree_of, tree_at, IsChain, CanSettle, AreFewVisits}
use Rattle.overlay_scan.specs.Forests.{IsSettledSo}
use Rattle.overlay_scan.specs.Trees.{Tree, Leaf, Fork, root_of, items, height, AreDistinct, IsIn, Stands, IsTreeAt}
use Rattle.overlay_scan.specs.Trees.{AreKeptBut, stored_height}
use Rattle.overlay_scan.proofs.Bound.{low_height}
use Rattle.overlay_scan.proofs.Distinct.{AreApart, in_left, in_right, in_either, distinct_right, distinct_apart}
use Rattle.overlay_scan.proofs.Parted.{live-append, live-without}
use Rattle.overlay_scan.proofs.Replaced.{stored}
use Rattle.overlay_scan.proofs.Standing.{get_set_same, set_one, still_stands, all_inside}

-- ---- the tree below a root is the tree that stands there

tree_of_is : (n : ℕ) (ls : List Links) (t : Tree) (root : Option NodeIndex) → root ≡ root_of t → Stands ls t →
    height t ≤ n → tree_of n ls root ≡ t
tree_of_is zero ls Leaf root is at low = refl
tree_of_is zero ls (Fork l i r) root is at low = absurd (omega arith)
tree_of_is (suc n) ls Leaf root is at low = ap (tree_of (suc n) ls) is
tree_of_is (suc n) ls (Fork l i r) root is at low = ap (tree_of (suc n) ls) is
    ∙ ap (fork_at (tree_of n ls) i) at.0
    ∙ (λ j. Fork (tree_of_is n ls l (root_of l) refl at.1 (omega arith) j) i
    (tree_of_is n ls r (root_of r) refl at.2 (omega arith) j))

pub tree_at_is : (ls : List Links) (t : Tree) (root : Option NodeIndex) → IsTreeAt ls root t → tree_at ls root ≡ t
tree_at_is ls t root at = tree_of_is (stored_height ls root) ls t root at.is_root at.stands
    (let same = stored ls t root at.is_root at.stands in omega arith)

-- ---- nodes that may be used again

pub still_chained : (is : List ℕ) (old new : List Links) → AreKeptBut is old new → (unused : List ℕ) → IsChain old
    unused →
    AreApart unused is → IsChain new unused
still_chained is old new kept [] at apart = tt
still_chained is old new kept (i ∷ unused) at apart = (
  (at.0.0, kept.others i (λ there. apart i (inl refl) there) ∙ at.0.1, at.0.2),
  still_chained is old new kept unused at.1 (λ k in_rest there. apart k (inr in_rest) there),
)

module _ {I V : Type 0} (whole : I → ℤ) (post : List (IntPoint I) → Ordering → Type 0) (x : ℤ)
    (es : List (LiveEdge I V)) where
  abbrev L : List ℕ → List (Entry V)
  L is = live_entries whole x es is

  -- a number of descents have been made, and a number of entries dropped
  pub record IsSettling (t : Tree) (old_visits : ℕ) (ls : List Links) (root free put : Option NodeIndex)
      (visits : ℕ) : Type 0 where
    pub tree : Tree
    pub unused : List ℕ
    pub can : CanSettle ls root free put tree unused
    pub same : L (items tree) ≡ L (items t)
    pub dropped : ℕ
    pub count : length (items tree) + dropped ≡ length (items t)
    pub never_fall : old_visits ≤ visits
    pub few : (digits : ℕ) → length (items t) + 1 < 2 ^ digits → visits ≤ old_visits + 2 * dropped * digits

  pub begun : (t : Tree) (unused : List ℕ) (ls : List Links) (root free put : Option NodeIndex) (visits : ℕ) →
      CanSettle ls root free put t unused → IsSettling t visits ls root free put visits
  begun t unused ls root free put visits can = record {
    tree = t;
    unused = unused;
    can = can;
    same = refl;
    dropped = 0;
    count = omega arith;
    never_fall = omega arith;
    few = λ digits low. omega arith;
  }

  -- the order may still be called
  pub may_still : (t : Tree) (old_visits : ℕ) (ls : List Links) (root free put : Option NodeIndex) (visits : ℕ) →
      IsSettling t old_visits ls root free put visits → (pre : List (IntPoint I) → Type 0) →
      IsCallableOn whole pre (L (items t)) → (u : Tree) → IsTreeAt ls root u → IsCallableOn whole pre (L (items u))
  may_still t old_visits ls root free put visits s pre may u at = subst (IsCallableOn whole pre) (sym s.same
      ∙ ap (λ v. L (items v)) (sym (tree_at_is ls s.tree root s.can.can.at) ∙ tree_at_is ls u root at)) may

  -- one way down visits few entries
  few_more : (old now next h d digits : ℕ) → now ≤ old + 2 * d * digits → next ≤ now + h → h ≤ 2 * digits →
      next ≤ old + 2 * (d + 1) * digits
  few_more old now next h d digits low more high = omega arith

  module _ (t : Tree) (old_visits : ℕ) (ls between : List Links) (root free put top : Option NodeIndex)
      (visits next : ℕ)
      (s : IsSettling t old_visits ls root free put visits) (more : next ≤ visits + height s.tree)
      (no_fewer : visits ≤ next) where
    visited : AreFewVisits old_visits next (length (items t)) s.dropped
    visited = record {
      never_fall = (let before = s.never_fall in omega arith);
      few = λ digits low. few_more old_visits visits next (height s.tree) s.dropped digits (s.few digits low) more
          (low_height digits s.tree s.can.can.at.balanced (let count = s.count in omega arith));
    }

    -- an entry that has ended was taken out, and its node may be used again
    module _ (j : NodeIndex) (h : IsDropped whole post x es ls between s.tree put top j.place) where
      abbrev left : Tree
      left = h.exchanged.replaced.tree

      abbrev kept : AreKeptBut (items s.tree ++ []) ls between
      kept = h.exchanged.replaced.rebuilt.kept

      in_tree : IsIn j.place (items s.tree)
      in_tree = subst (IsIn j.place) (sym h.exchanged.same) (in_right j.place h.before (j.place ∷ h.after) (inl refl))

      part : (k : ℕ) → IsIn k (items left) → IsIn k (items s.tree)
      part k at = subst (IsIn k) (sym h.exchanged.same) (⊎_elim (λ first. in_left k h.before (j.place ∷ h.after) first)
          (λ second. in_right k h.before (j.place ∷ h.after) (inr second))
          (in_either k h.before h.after (subst (IsIn k) h.exchanged.replaced.rebuilt.same at)))

      distinct : AreDistinct (h.before ++ j.place ∷ h.after)
      distinct = subst AreDistinct h.exchanged.same s.can.can.at.distinct

      out : ¬ IsIn j.place (items left)
      out at = ⊎_elim
          (λ first. distinct_apart h.before (j.place ∷ h.after) distinct j.place first (inl refl))
          (λ second. (distinct_right h.before (j.place ∷ h.after) distinct).0 second)
          (in_either j.place h.before h.after (subst (IsIn j.place) h.exchanged.replaced.rebuilt.same at))

      pub inside_dropped : j.place < length between
      inside_dropped = let was = all_inside ls s.tree s.can.can.at.stands j.place in_tree in
          let same = kept.length_kept in omega arith

      changed : (k : ℕ) → IsIn k (items s.tree ++ []) → IsIn k (items s.tree)
      changed k at = subst (IsIn k) (append-nil (items s.tree)) at

      module _ (after : List Links) (after_is : after ≡ slice_set between j.place (unused_before free)) where
        one : AreKeptBut (j.place ∷ []) between after
        one = subst (AreKeptBut (j.place ∷ []) between) (sym after_is) (set_one between j.place (unused_before free))

        clear : (is : List ℕ) → ¬ IsIn j.place is → AreApart is (j.place ∷ [])
        clear is none k at also = ⊎_elim (λ here. none (subst (λ n. IsIn n is) here at)) (λ never. never) also

        put_still : Stands after (alone put)
        put_still = still_stands (j.place ∷ []) between after one (alone put)
            (still_stands (items s.tree ++ []) ls between kept (alone put) s.can.can.put_stands
            (λ k at also. s.can.can.other k (changed k also) at))
            (clear (items (alone put)) (λ at. s.can.can.other j.place in_tree at))

        left_at : IsTreeAt after top left
        left_at = record {
          is_root = h.exchanged.replaced.rebuilt.at_root.is_root;
          stands = still_stands (j.place ∷ []) between after one left h.exchanged.replaced.rebuilt.at_root.stands
              (clear (items left) out);
          distinct = h.exchanged.replaced.rebuilt.at_root.distinct;
          balanced = h.exchanged.replaced.rebuilt.at_root.balanced;
        }

        pub settling_on : IsSettling t old_visits after top (Some j) put next
        settling_on = record {
          tree = left;
          unused = j.place ∷ s.unused;
          can = record {
            forest = record {
              at = left_at;
              free_is = refl;
              chain = (
                (
                  unused_before free,
                  ap (λ l. slice_get l j.place) after_is
                      ∙ get_set_same between j.place (unused_before free) inside_dropped,
                  s.can.forest.free_is,
                ),
                still_chained (j.place ∷ []) between after one s.unused
                    (still_chained (items s.tree ++ []) ls between kept s.unused s.can.forest.chain
                    (λ k at also. s.can.forest.apart k (changed k also) at))
                    (clear s.unused (λ at. s.can.forest.apart j.place in_tree at)),
              );
              once = ((λ at. s.can.forest.apart j.place in_tree at), s.can.forest.once);
              apart = λ k at also. ⊎_elim (λ here. out (subst (λ n. IsIn n (items left)) here at))
                  (λ rest. s.can.forest.apart k (part k at) rest) also;
            };
            can = record {
              at = left_at;
              put_stands = put_still;
              other = λ k at also. s.can.can.other k (part k at) also;
            };
            put_apart = λ k at also. ⊎_elim (λ here. s.can.can.other j.place in_tree
                (subst (λ n. IsIn n (items (alone put))) here also))
                (λ rest. s.can.put_apart k rest also) at;
          };
          same = ap L h.exchanged.replaced.rebuilt.same
              ∙ sym (ap L h.exchanged.same ∙ live-without whole x es h.before j.place h.after h.entry h.there h.ended)
              ∙ s.same;
          dropped = s.dropped + 1;
          count = (
              let was = s.count in
              let one = length-append h.before (j.place ∷ h.after) in
              let two = length-append h.before h.after in
              let old = ap length h.exchanged.same in
              let new = ap length h.exchanged.replaced.rebuilt.same in
              omega arith);
          never_fall = visited.never_fall;
          few = visited.few;
        }

        -- the number of nodes is unchanged
        pub count_dropped : length after ≡ length ls
        count_dropped = one.length_kept ∙ kept.length_kept

        pub smaller : length (items (tree_at after top)) < length (items (tree_at ls root))
        smaller =
            let was = ap (λ u. length (items u)) (tree_at_is ls s.tree root s.can.can.at) in
            let now = ap (λ u. length (items u)) (tree_at_is after left top left_at) in
            let one = length-append h.before (j.place ∷ h.after) in
            let two = length-append h.before h.after in
            let old = ap length h.exchanged.same in
            let new = ap length h.exchanged.replaced.rebuilt.same in
            omega arith

    -- no entry that has ended was met
    module _ (v : Option V) (h : IsPassed whole post x es ls between s.tree put top v) where
      abbrev full : Tree
      full = h.exchanged.replaced.tree

      -- there are as many nodes as before
      pub count_passed : length between ≡ length ls
      count_passed = h.exchanged.replaced.rebuilt.kept.length_kept

      was_apart : (k : ℕ) → IsIn k (h.before ++ h.after) → IsIn k s.unused → ⊥
      was_apart k at also = s.can.forest.apart k (subst (IsIn k) (sym h.exchanged.same) at) also

      pub settled_so : IsSettledSo whole post x es old_visits next between t put top free v
      settled_so = (
        record {
          tree = full;
          unused = s.unused;
          forest = record {
            at = h.exchanged.replaced.rebuilt.at_root;
            free_is = s.can.forest.free_is;
            chain = still_chained (items s.tree ++ items (alone put)) ls between h.exchanged.replaced.rebuilt.kept
                s.unused
                s.can.forest.chain
                (λ k at also. ⊎_elim (λ in_tree. s.can.forest.apart k in_tree at)
                (λ in_put. s.can.put_apart k at in_put)
                (in_either k (items s.tree) (items (alone put)) also));
            once = s.can.forest.once;
            apart = λ k at also. ⊎_elim (λ first. was_apart k (in_left k h.before h.after first) also)
                (λ rest. ⊎_elim (λ in_put. s.can.put_apart k also in_put)
                (λ last. was_apart k (in_right k h.before h.after last) also)
                (in_either k (items (alone put)) h.after rest))
                (in_either k h.before (items (alone put) ++ h.after)
                (subst (IsIn k) h.exchanged.replaced.rebuilt.same at));
          };
          before = h.before;
          after = h.after;
          was = sym s.same ∙ ap L h.exchanged.same ∙ live-append whole x es h.before h.after;
          now = ap L h.exchanged.replaced.rebuilt.same
              ∙ live-append whole x es h.before (items (alone put) ++ h.after)
              ∙ ap (λ fs. L h.before ++ fs) (live-append whole x es (items (alone put)) h.after);
          parted = λ passes tells front. h.parted passes (subst (Tells whole post passes) (sym s.same) tells)
              (subst (PassBefore passes) (sym s.same) front);
          dropped = s.dropped;
          count = (
              let one = length-append h.before h.after in
              let two = length-append h.before (items (alone put) ++ h.after) in
              let three = length-append (items (alone put)) h.after in
              let old = ap length h.exchanged.same in
              let new = ap length h.exchanged.replaced.rebuilt.same in
              let was = s.count in
              omega arith);
        },
        visited,
      )
