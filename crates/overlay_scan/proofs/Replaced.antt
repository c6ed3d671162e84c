-- A tree with one side replaced.
use Rattle.std.proofs.Common.{◌≡◌, ⊎_elim, inl, inr, ℕ, ◌+◌, ◌<◌, ◌≤◌, max, List, ◌∷◌, ◌++◌, length, slice_get}
use Rattle.std.proofs.Common.{Option, Some, None, refl, sym, ap, subst, ◌∙◌, arith}
use Rattle.std.proofs.lemmas.Bool.{cases_lt}
use Rattle.overlay_scan.specs.declared.tree.links.Links.{Links}
use Rattle.overlay_scan.specs.declared.tree.links.NodeIndex.{NodeIndex}
use Rattle.overlay_scan.specs.declared.tree.links.Side.{Side}
use Rattle.overlay_scan.specs.declared.tree.links.Side.TheVariants.{Left, Right}
use Rattle.overlay_scan.specs.Trees.{Tree, Leaf, Fork, root_of, items, height, fork_on, AreDistinct, AreParts, IsIn}
use Rattle.overlay_scan.specs.Trees.{Stands}
use Rattle.overlay_scan.specs.Trees.{DifferByAtMost, IsTreeAt, IsRebalanced, IsReplaced, IsFirstTaken}
use Rattle.overlay_scan.specs.Trees.{stored_height, height_in}
use Rattle.overlay_scan.proofs.Balancing.{settled_already}
use Rattle.overlay_scan.proofs.Distinct.{AreApart, in_left, in_right, in_either, distinct_left, distinct_right}
use Rattle.overlay_scan.proofs.Distinct.{distinct_apart}
use Rattle.overlay_scan.proofs.Distinct.{distinct_joined}
use Rattle.overlay_scan.proofs.Standing.{kept_more, kept_twice, still_stands, parts_apart, height_on, in_top}
use Rattle.overlay_scan.proofs.Standing.{all_inside}
use Rattle.overlay_scan.proofs.Rotations.{IsOpened, opened, far_balanced, sides_differ}
use Rattle.std.proofs.lemmas.Option.{same_Some}

-- the top stores the height
pub stored : (ls : List Links) (t : Tree) (root : Option NodeIndex) → root ≡ root_of t → Stands ls t →
    stored_height ls root ≡ height t
stored ls Leaf root is at = ap (stored_height ls) is
stored ls (Fork l i r) root is at = ap (stored_height ls) is ∙ ap height_in at.0

-- a balanced node one of whose sides has changed its height by at most one settles within one of its old height
settled_near : (m n p h w : ℕ) → DifferByAtMost 1 m n → DifferByAtMost 1 m p → w ≡ max m n + 1 → max p n ≤ h →
    h ≤ max p n + 1 → (DifferByAtMost 1 p n → h ≡ max p n + 1) → DifferByAtMost 1 w h
settled_near m n p h w differ by was low high level = ⊎_elim
    (λ more. (omega (arith, differ.0, differ.1, by.0, by.1), omega (arith, differ.0, differ.1, by.0, by.1)))
    (λ not_more. ⊎_elim
    (λ less. (omega (arith, differ.0, differ.1, by.0, by.1), omega (arith, differ.0, differ.1, by.0, by.1)))
    (λ not_less. let is = level (omega arith, omega arith) in
    (omega (arith, differ.0, differ.1, by.0, by.1), omega (arith, differ.0, differ.1, by.0, by.1)))
    (cases_lt (p + 1) n))
    (cases_lt (n + 1) p)

-- one side of a node was replaced, and the node is now put between the new tree and its other side
module _ {side : Side} {i : ℕ} {a b : Tree} {old between : List Links} {root near far : Option NodeIndex}
    {changed is : List ℕ} (whole : IsTreeAt old root (fork_on side a i b))
    (new : IsReplaced changed old between a near is) (far_is : far ≡ root_of b) (far_stands : Stands old b)
    (apart : AreApart (items b) changed) (inside : i < length old)
    (distinct : AreDistinct (items (fork_on side new.tree i b))) where
  pub new_parts : AreParts 2 between side near i far new.tree b
  new_parts =
      let differ = sides_differ side a i b whole.balanced in
      let by = new.near in
      record {
        near_is = new.rebuilt.at_root.is_root;
        far_is = far_is;
        near_stands = new.rebuilt.at_root.stands;
        far_stands = still_stands changed old between new.rebuilt.kept b far_stands apart;
        near_balanced = new.rebuilt.at_root.balanced;
        far_balanced = far_balanced side a i b whole.balanced;
        distinct = distinct;
        inside = (let same = new.rebuilt.kept.length_kept in omega arith);
        differ = (omega (arith, differ.0, differ.1, by.0, by.1), omega (arith, differ.0, differ.1, by.0, by.1));
      }

  pub new_replaced : {after : List Links} {top : Option NodeIndex} (all : List ℕ) →
      IsRebalanced between after top side new.tree i b → ((k : ℕ) → IsIn k changed → IsIn k all) →
      ((k : ℕ) → IsIn k (items (fork_on side new.tree i b)) → IsIn k all) →
      IsReplaced all old after (fork_on side a i b) top (items (fork_on side new.tree i b))
  new_replaced all settled first second =
      let differ = sides_differ side a i b whole.balanced in
      let by = new.near in
      let was = height_on side a i b in
      let low = settled.height_after.not_lower in
      let high = settled.height_after.not_higher in
      let level = settled.height_after.level in
      record {
        tree = settled.tree;
        rebuilt = record {
          at_root = settled.rebuilt.at_root;
          same = settled.rebuilt.same;
          kept = kept_twice all old between _ (kept_more changed all old between new.rebuilt.kept first)
              (kept_more (items (fork_on side new.tree i b)) all between _ settled.rebuilt.kept second);
        };
        near = settled_near (height a) (height b) (height new.tree) (height settled.tree) (height (fork_on side a i b))
            differ by was low high level;
      }

-- ---- the first node

module _ {ls : List Links} {i : NodeIndex} {t : Tree} {links : Links} (at : IsTreeAt ls (Some i) t)
    (read : slice_get ls i.place ≡ Some links) where
  pub top_opening : IsOpened ls Left i.place links t
  top_opening = opened ls Left i links t at.is_root at.stands read

  pub opened_at : IsTreeAt ls (Some i) (fork_on Left top_opening.near i.place top_opening.far)
  opened_at = subst (IsTreeAt ls (Some i)) top_opening.is at

  pub top_is_inside : i.place < length ls
  top_is_inside = all_inside ls (fork_on Left top_opening.near i.place top_opening.far) opened_at.stands i.place
      (in_top Left top_opening.near i.place top_opening.far)

  -- each side is a tree
  pub left_at : IsTreeAt ls links.left top_opening.near
  left_at = record {
    is_root = top_opening.near_is;
    stands = top_opening.near_stands;
    distinct = (parts_apart Left top_opening.near i.place top_opening.far opened_at.distinct).near;
    balanced = opened_at.balanced.0;
  }

  pub right_at : IsTreeAt ls links.right top_opening.far
  right_at = record {
    is_root = top_opening.far_is;
    stands = top_opening.far_stands;
    distinct = (parts_apart Left top_opening.near i.place top_opening.far opened_at.distinct).far;
    balanced = opened_at.balanced.1;
  }

  pub left_smaller : stored_height ls links.left < stored_height ls (Some i)
  left_smaller =
      let low = stored ls top_opening.near links.left top_opening.near_is top_opening.near_stands in
      let high = stored ls t (Some i) at.is_root at.stands in
      let is = ap height top_opening.is in
      omega arith

abbrev IsEmpty : Option NodeIndex → Type 0
IsEmpty None = Unit {0}
IsEmpty (Some i) = ⊥

pub no_top : (t : Tree) → None ≡ root_of t → t ≡ Leaf
no_top Leaf is = refl
no_top (Fork l i r) is = absurd (subst IsEmpty is tt)

-- a tree whose left side has lost its first node
module _ {ls between : List Links} {i : ℕ} {l r : Tree} {root near far : Option NodeIndex} {first : ℕ}
    (at : IsTreeAt ls root (Fork l i r)) (taken : IsFirstTaken ls between l first near) (far_is : far ≡ root_of r)
    (inside : i < length ls) where
  abbrev left : Tree
  left = taken.replaced.tree

  all_same : items (Fork l i r) ≡ first ∷ items (Fork left i r)
  all_same = ap (λ is. is ++ i ∷ items r) (taken.same ∙ ap (λ is. first ∷ is) (sym taken.replaced.rebuilt.same))

  distinct_left_out : AreDistinct (items (Fork left i r))
  distinct_left_out = (subst AreDistinct all_same at.distinct).1

  right_apart : AreApart (items r) (items l)
  right_apart k in_r in_l = (parts_apart Left l i r at.distinct).apart k in_l in_r

  pub first_parts_left : AreParts 2 between Left near i far left r
  first_parts_left = new_parts {side = Left} at taken.replaced far_is at.stands.2 right_apart inside distinct_left_out

  pub first_taken : {after : List Links} {top : Option NodeIndex} → IsRebalanced between after top Left left i r →
      IsFirstTaken ls after (Fork l i r) first top
  first_taken settled = record {
    others = items (Fork left i r);
    same = all_same;
    replaced = new_replaced {side = Left} at taken.replaced far_is at.stands.2 right_apart inside distinct_left_out
        (items (Fork l i r)) settled (λ k in_l. in_left k (items l) (i ∷ items r) in_l)
        (λ k there. subst (IsIn k) (sym all_same) (inr there));
  }

  -- the side has kept its root and its height
  pub first_taken_kept : (near ≡ root_of l) × (height left ≡ height l) →
      IsFirstTaken ls between (Fork l i r) first (Some (record { place = i }))
  first_taken_kept same = first_taken (settled_already ls between near far Left i l r left at.stands at.balanced
      (taken.replaced.rebuilt.kept.others i (parts_apart Left l i r at.distinct).not_near)
      (sym same.0 ∙ taken.replaced.rebuilt.at_root.is_root) (sym same.1) first_parts_left)

-- ---- the top node

pub distinct_without : (xs : List ℕ) (i : ℕ) (ys : List ℕ) → AreDistinct (xs ++ i ∷ ys) → AreDistinct (xs ++ ys)
distinct_without xs i ys d = distinct_joined xs ys (distinct_left xs (i ∷ ys) d) (distinct_right xs (i ∷ ys) d).1
    (λ k at also. distinct_apart xs (i ∷ ys) d k at (inr also))

module _ {ls between : List Links} {i : ℕ} {l r : Tree} {root left rest : Option NodeIndex} {first : ℕ}
    (at : IsTreeAt ls root (Fork l i r)) (taken : IsFirstTaken ls between r first rest) (left_is : left ≡ root_of l)
  where
    abbrev others : Tree
    others = taken.replaced.tree

    joined_same : items l ++ items r ≡ items (Fork l first others)
    joined_same = ap (λ is. items l ++ is) (taken.same ∙ ap (λ is. first ∷ is) (sym taken.replaced.rebuilt.same))

    pub out_parts : AreParts 2 between Right rest first left others l
    out_parts =
        let differ = at.balanced.2 in
        let by = taken.replaced.near in
        record {
          near_is = taken.replaced.rebuilt.at_root.is_root;
          far_is = left_is;
          near_stands = taken.replaced.rebuilt.at_root.stands;
          far_stands = still_stands (items r) ls between taken.replaced.rebuilt.kept l at.stands.1
              (parts_apart Left l i r at.distinct).apart;
          near_balanced = taken.replaced.rebuilt.at_root.balanced;
          far_balanced = at.balanced.0;
          distinct = subst AreDistinct joined_same (distinct_without (items l) i (items r) at.distinct);
          inside = (let same = taken.replaced.rebuilt.kept.length_kept in
              let was = all_inside ls r at.stands.2 first (subst (IsIn first) (sym taken.same) (inl refl)) in omega
              arith);
          differ = (omega (arith, differ.0, differ.1, by.0, by.1), omega (arith, differ.0, differ.1, by.0, by.1));
        }

    pub taken_out : {after : List Links} {top : Option NodeIndex} →
        IsRebalanced between after top Right others first l →
        IsReplaced (items (Fork l i r)) ls after (Fork l i r) top (items l ++ items r)
    taken_out settled =
        let differ = at.balanced.2 in
        let by = taken.replaced.near in
        let low = settled.height_after.not_lower in
        let high = settled.height_after.not_higher in
        let level = settled.height_after.level in
        record {
          tree = settled.tree;
          rebuilt = record {
            at_root = settled.rebuilt.at_root;
            same = settled.rebuilt.same ∙ sym joined_same;
            kept = kept_twice (items (Fork l i r)) ls between _
                (kept_more (items r) (items (Fork l i r)) ls between taken.replaced.rebuilt.kept
                (λ k in_r. in_right k (items l) (i ∷ items r) (inr in_r)))
                (kept_more (items (Fork l first others)) (items (Fork l i r)) between _ settled.rebuilt.kept
                (λ k there. ⊎_elim (λ in_l. in_left k (items l) (i ∷ items r) in_l)
                (λ in_r. in_right k (items l) (i ∷ items r) (inr in_r))
                (in_either k (items l) (items r) (subst (IsIn k) (sym joined_same) there))));
          };
          near = settled_near (height r) (height l) (height others) (height settled.tree)
              (max (height l) (height r) + 1)
              (differ.1, differ.0) by (omega arith) low high level;
        }

-- ---- a tree whose top is read

module _ {ls : List Links} {i : NodeIndex} {l r : Tree} {links : Links} (at : IsTreeAt ls (Some i) (Fork l i.place r))
    (read : slice_get ls i.place ≡ Some links) where
  links_are : links ≡ record { left = root_of l; right = root_of r; height = height (Fork l i.place r) }
  links_are = same_Some links _ (sym read ∙ at.stands.0)

  pub left_is : links.left ≡ root_of l
  left_is = ap (λ n. n.left) links_are

  pub right_tree : IsTreeAt ls links.right r
  right_tree = record {
    is_root = ap (λ n. n.right) links_are;
    stands = at.stands.2;
    distinct = (parts_apart Left l i.place r at.distinct).far;
    balanced = at.balanced.1;
  }
