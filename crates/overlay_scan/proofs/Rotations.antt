-- Trees after their nodes are linked anew.
use Rattle.std.proofs.Common.{◌≡◌, ⊎_elim, ℕ, ◌<◌, ◌≤◌, List, [], ◌∷◌, ◌++◌}
use Rattle.std.proofs.Common.{length, slice_get, Option, Some, None, sym, ap, subst, ◌∙◌, arith}
use Rattle.std.specs.Option.{MatchOption}
use Rattle.std.proofs.lemmas.List.{append_assoc}
use Rattle.overlay_scan.specs.declared.tree.links.Links.{Links}
use Rattle.overlay_scan.specs.declared.tree.links.NodeIndex.{NodeIndex}
use Rattle.overlay_scan.specs.declared.tree.links.Side.{Side}
use Rattle.overlay_scan.specs.declared.tree.links.Side.TheVariants.{Left, Right}
use Rattle.overlay_scan.specs.Sides.{on, opposite}
use Rattle.overlay_scan.specs.Trees.{Tree, Leaf, Fork, root_of, items, height, fork_on, DifferByAtMost}
use Rattle.overlay_scan.specs.Trees.{IsHeightBalanced, IsIn}
use Rattle.overlay_scan.specs.Trees.{AreDistinct, Stands, AreParts, IsRebuilt, IsRebalanced}
use Rattle.overlay_scan.specs.Trees.{IsTooHigh}
use Rattle.overlay_scan.proofs.Distinct.{AreApart}
use Rattle.overlay_scan.proofs.Standing.{kept_more, kept_twice, still_stands, in_near, in_far, in_top, parts_apart}
use Rattle.overlay_scan.proofs.Standing.{height_on}
use Rattle.std.proofs.lemmas.Option.{same_Some}

-- ---- the top of a tree is read

abbrev pub place_of : Option NodeIndex → ℕ
place_of None = 0
place_of (Some i) = i.place

-- a tree with two sides, which stand below the top's links
pub record IsOpened (ls : List Links) (side : Side) (j : ℕ) (top : Links) (t : Tree) : Type 0 where
  pub near : Tree
  pub far : Tree
  pub is : t ≡ fork_on side near j far
  pub near_is : on side top ≡ root_of near
  pub far_is : on (opposite side) top ≡ root_of far
  pub near_stands : Stands ls near
  pub far_stands : Stands ls far
  pub height_is : top.height ≡ height t

pub opened : (ls : List Links) (side : Side) (j : NodeIndex) (top : Links) (t : Tree) → Some j ≡ root_of t →
    Stands ls t → slice_get ls j.place ≡ Some top → IsOpened ls side j.place top t
opened ls side j top Leaf is at read = absurd (subst (λ o. MatchOption o ⊥ (λ _. Unit {0})) is tt)
opened ls side j top (Fork l i r) is at read =
    let same : j.place ≡ i = ap place_of is in
    let links = same_Some top _ (sym read ∙ ap (slice_get ls) same ∙ at.0) in
    by side links (ap (λ k. Fork l k r) (sym same))
  where
    by : (side : Side) → top ≡ record { left = root_of l; right = root_of r; height = height (Fork l i r) } →
        Fork l i r ≡ Fork l j.place r → IsOpened ls side j.place top (Fork l i r)
    by Left links named = record {
      near = l;
      far = r;
      is = named;
      near_is = ap (λ n. n.left) links;
      far_is = ap (λ n. n.right) links;
      near_stands = at.1;
      far_stands = at.2;
      height_is = ap (λ n. n.height) links;
    }
    by Right links named = record {
      near = r;
      far = l;
      is = named;
      near_is = ap (λ n. n.right) links;
      far_is = ap (λ n. n.left) links;
      near_stands = at.2;
      far_stands = at.1;
      height_is = ap (λ n. n.height) links;
    }

-- the sides of a balanced tree are balanced
pub near_balanced : (side : Side) (a : Tree) (i : ℕ) (b : Tree) → IsHeightBalanced (fork_on side a i b) →
    IsHeightBalanced a
near_balanced Left a i b h = h.0
near_balanced Right a i b h = h.1

pub far_balanced : (side : Side) (a : Tree) (i : ℕ) (b : Tree) → IsHeightBalanced (fork_on side a i b) →
    IsHeightBalanced b
far_balanced Left a i b h = h.1
far_balanced Right a i b h = h.0

pub sides_differ : (side : Side) (a : Tree) (i : ℕ) (b : Tree) → IsHeightBalanced (fork_on side a i b) →
    DifferByAtMost 1 (height a) (height b)
sides_differ Left a i b h = h.2
sides_differ Right a i b h = (h.2.1, h.2.0)

-- ---- one rotation

-- the nodes are the same in order
pub turned : (side : Side) (c d b : Tree) (i j : ℕ) →
    items (fork_on side (fork_on side c j d) i b) ≡ items (fork_on side c j (fork_on side d i b))
turned Left c d b i j = append_assoc (items c) (j ∷ items d) (i ∷ items b)
turned Right c d b i j = sym (append_assoc (items b) (i ∷ items d) (j ∷ items c))

-- a node that has changed is in none of these
pub one_apart : (i : ℕ) (is js : List ℕ) → AreApart is js → IsIn i js → AreApart is (i ∷ [])
one_apart i is js apart there k at also = ⊎_elim (λ here. apart k at (subst (λ n. IsIn n js) (sym here) there))
    (λ none. none) also

pub only : (i : ℕ) (is : List ℕ) → IsIn i is → (k : ℕ) → IsIn k (i ∷ []) → IsIn k is
only i is there k at = ⊎_elim (λ here. subst (λ n. IsIn n is) (sym here) there) (λ none. absurd none) at

module _ (ls : List Links) (side : Side) (i j : ℕ) (high low outer inner : Option NodeIndex) (c d b : Tree)
    (h : IsTooHigh ls side high i low (fork_on side c j d) b) (outer_is : outer ≡ root_of c)
    (inner_is : inner ≡ root_of d)
    (stands_c : Stands ls c) (stands_d : Stands ls d) where
  abbrev whole : List ℕ
  whole = items (fork_on side (fork_on side c j d) i b)

  abbrev bal : IsHeightBalanced (fork_on side c j d)
  bal = h.parts.near_balanced

  distinct_turned : AreDistinct (items (fork_on side c j (fork_on side d i b)))
  distinct_turned = subst AreDistinct (turned side c d b i j) h.parts.distinct

  module _ (level : height d ≤ height c) where
    pub single_first : AreParts 1 ls side inner i low d b
    single_first =
        let apart = parts_apart side c j (fork_on side d i b) distinct_turned in
        let two = h.two_higher in
        let up = height_on side c j d in
        let near = sides_differ side c j d bal in
        record {
          near_is = inner_is;
          far_is = h.parts.far_is;
          near_stands = stands_d;
          far_stands = h.parts.far_stands;
          near_balanced = far_balanced side c j d bal;
          far_balanced = h.parts.far_balanced;
          distinct = apart.far;
          inside = h.parts.inside;
          differ = (omega (arith, near.0, near.1), omega (arith, near.0, near.1));
        }

    module _ (l1 : List Links) (inside_j : j < length l1)
        (first : IsRebuilt (i ∷ []) ls l1 (Some (record { place = i })) (items (fork_on side d i b))
        (fork_on side d i b)) where
      pub single_second : AreParts 1 l1 side outer j (Some (record { place = i })) c (fork_on side d i b)
      single_second =
          let apart = parts_apart side c j (fork_on side d i b) distinct_turned in
          let two = h.two_higher in
          let up = height_on side c j d in
          let over = height_on side d i b in
          let near = sides_differ side c j d bal in
          record {
            near_is = outer_is;
            far_is = first.at_root.is_root;
            near_stands = still_stands (i ∷ []) ls l1 first.kept c stands_c
                (one_apart i (items c) (items (fork_on side d i b)) apart.apart (in_top side d i b));
            far_stands = first.at_root.stands;
            near_balanced = near_balanced side c j d bal;
            far_balanced = first.at_root.balanced;
            distinct = distinct_turned;
            inside = inside_j;
            differ = (omega (arith, near.0, near.1), omega (arith, near.0, near.1));
          }

      pub single_settled : (l2 : List Links) →
          IsRebuilt (j ∷ []) l1 l2 (Some (record { place = j })) (items (fork_on side c j (fork_on side d i b)))
          (fork_on side c j (fork_on side d i b)) →
          IsRebalanced ls l2 (Some (record { place = j })) side (fork_on side c j d) i b
      single_settled l2 second =
          let two = h.two_higher in
          let up = height_on side c j d in
          let over = height_on side d i b in
          let top = height_on side c j (fork_on side d i b) in
          let near = sides_differ side c j d bal in
          record {
            tree = fork_on side c j (fork_on side d i b);
            rebuilt = record {
              at_root = second.at_root;
              same = sym (turned side c d b i j);
              kept = kept_twice whole ls l1 l2
                  (kept_more (i ∷ []) whole ls l1 first.kept (only i whole (in_top side (fork_on side c j d) i b)))
                  (kept_more (j ∷ []) whole l1 l2 second.kept
                  (only j whole (in_near side (fork_on side c j d) i b j (in_top side c j d))));
            };
            height_after = record {
              not_lower = omega (arith, near.0, near.1);
              not_higher = omega (arith, near.0, near.1);
              level = λ same. absurd (let off = same.0 in omega arith);
            };
          }

-- ---- two rotations

pub turned_twice : (side : Side) (c e f b : Tree) (i j k : ℕ) →
    items (fork_on side (fork_on side c j (fork_on side e k f)) i b) ≡ items (fork_on side (fork_on side c j e) k
    (fork_on side f i b))
turned_twice side c e f b i j k = turned side c (fork_on side e k f) b i j
    ∙ within side c (fork_on side (fork_on side e k f) i b) (fork_on side e k (fork_on side f i b)) j
    (turned side e f b i k)
    ∙ sym (turned side c e (fork_on side f i b) k j)
  where
    within : (side : Side) (c s t : Tree) (j : ℕ) → items s ≡ items t → items (fork_on side c j s) ≡ items
        (fork_on side c j t)
    within Left c s t j same = ap (λ is. items c ++ j ∷ is) same
    within Right c s t j same = ap (λ is. is ++ j ∷ items c) same

module _ (ls : List Links) (side : Side) (i j k : ℕ) (high low outer near_k far_k : Option NodeIndex) (c e f b : Tree)
    (h : IsTooHigh ls side high i low (fork_on side c j (fork_on side e k f)) b) (outer_is : outer ≡ root_of c)
    (near_is : near_k ≡ root_of e) (far_is : far_k ≡ root_of f) (stands_c : Stands ls c) (stands_e : Stands ls e)
    (stands_f : Stands ls f) (higher : height c < height (fork_on side e k f)) where
  abbrev all : List ℕ
  all = items (fork_on side (fork_on side c j (fork_on side e k f)) i b)

  abbrev bal_j : IsHeightBalanced (fork_on side c j (fork_on side e k f))
  bal_j = h.parts.near_balanced

  abbrev bal_k : IsHeightBalanced (fork_on side e k f)
  bal_k = far_balanced side c j (fork_on side e k f) bal_j

  all_distinct : AreDistinct (items (fork_on side (fork_on side c j e) k (fork_on side f i b)))
  all_distinct = subst AreDistinct (turned_twice side c e f b i j k) h.parts.distinct

  pub double_first : (inside_j : j < length ls) → AreParts 1 ls side outer j near_k c e
  double_first inside_j =
      let apart = parts_apart side (fork_on side c j e) k (fork_on side f i b) all_distinct in
      let two = h.two_higher in
      let up = height_on side c j (fork_on side e k f) in
      let middle = height_on side e k f in
      let near = sides_differ side c j (fork_on side e k f) bal_j in
      let inner = sides_differ side e k f bal_k in
      record {
        near_is = outer_is;
        far_is = near_is;
        near_stands = stands_c;
        far_stands = stands_e;
        near_balanced = near_balanced side c j (fork_on side e k f) bal_j;
        far_balanced = near_balanced side e k f bal_k;
        distinct = apart.near;
        inside = inside_j;
        differ = (omega (arith, near.0, near.1, inner.0, inner.1), omega (arith, near.0, near.1, inner.0, inner.1));
      }

  module _ (l1 : List Links) (first : IsRebuilt (j ∷ []) ls l1 (Some (record { place = j }))
      (items (fork_on side c j e))
      (fork_on side c j e)) where
    pub double_second : AreParts 1 l1 side far_k i low f b
    double_second =
        let apart = parts_apart side (fork_on side c j e) k (fork_on side f i b) all_distinct in
        let two = h.two_higher in
        let up = height_on side c j (fork_on side e k f) in
        let middle = height_on side e k f in
        let near = sides_differ side c j (fork_on side e k f) bal_j in
        let inner = sides_differ side e k f bal_k in
        let clear : (t : Tree) → ((n : ℕ) → IsIn n (items t) → IsIn n (items (fork_on side f i b))) →
        AreApart (items t) (j ∷ []) = λ t part. one_apart j (items t) (items (fork_on side c j e))
        (λ n at also. apart.apart n also (part n at)) (in_top side c j e) in
        record {
          near_is = far_is;
          far_is = h.parts.far_is;
          near_stands = still_stands (j ∷ []) ls l1 first.kept f stands_f (clear f (in_near side f i b));
          far_stands = still_stands (j ∷ []) ls l1 first.kept b h.parts.far_stands (clear b (in_far side f i b));
          near_balanced = far_balanced side e k f bal_k;
          far_balanced = h.parts.far_balanced;
          distinct = apart.far;
          inside = (let same = first.kept.length_kept in let was = h.parts.inside in omega arith);
          differ = (omega (arith, near.0, near.1, inner.0, inner.1), omega (arith, near.0, near.1, inner.0, inner.1));
        }

    module _ (l2 : List Links) (inside_k : k < length l2)
        (second : IsRebuilt (i ∷ []) l1 l2 (Some (record { place = i })) (items (fork_on side f i b))
        (fork_on side f i b)) where
      pub double_third : AreParts 1 l2 side (Some (record { place = j })) k (Some (record { place = i }))
          (fork_on side c j e) (fork_on side f i b)
      double_third =
          let apart = parts_apart side (fork_on side c j e) k (fork_on side f i b) all_distinct in
          let two = h.two_higher in
          let up = height_on side c j (fork_on side e k f) in
          let middle = height_on side e k f in
          let left = height_on side c j e in
          let right = height_on side f i b in
          let near = sides_differ side c j (fork_on side e k f) bal_j in
          let inner = sides_differ side e k f bal_k in
          record {
            near_is = first.at_root.is_root;
            far_is = second.at_root.is_root;
            near_stands = still_stands (i ∷ []) l1 l2 second.kept (fork_on side c j e) first.at_root.stands
                (one_apart i (items (fork_on side c j e)) (items (fork_on side f i b)) apart.apart (in_top side f i b));
            far_stands = second.at_root.stands;
            near_balanced = first.at_root.balanced;
            far_balanced = second.at_root.balanced;
            distinct = all_distinct;
            inside = inside_k;
            differ = (omega (arith, near.0, near.1, inner.0, inner.1), omega (arith, near.0, near.1, inner.0, inner.1));
          }

      pub double_settled : (l3 : List Links) →
          IsRebuilt (k ∷ []) l2 l3 (Some (record { place = k }))
          (items (fork_on side (fork_on side c j e) k (fork_on side f i b)))
          (fork_on side (fork_on side c j e) k (fork_on side f i b)) →
          IsRebalanced ls l3 (Some (record { place = k })) side (fork_on side c j (fork_on side e k f)) i b
      double_settled l3 third =
          let two = h.two_higher in
          let up = height_on side c j (fork_on side e k f) in
          let middle = height_on side e k f in
          let left = height_on side c j e in
          let right = height_on side f i b in
          let top = height_on side (fork_on side c j e) k (fork_on side f i b) in
          let near = sides_differ side c j (fork_on side e k f) bal_j in
          let inner = sides_differ side e k f bal_k in
          let in_j = in_near side (fork_on side c j (fork_on side e k f)) i b in
          record {
            tree = fork_on side (fork_on side c j e) k (fork_on side f i b);
            rebuilt = record {
              at_root = third.at_root;
              same = sym (turned_twice side c e f b i j k);
              kept = kept_twice all ls l1 l3
                  (kept_more (j ∷ []) all ls l1 first.kept (only j all (in_j j (in_top side c j (fork_on side e k f)))))
                  (kept_twice all l1 l2 l3
                  (kept_more (i ∷ []) all l1 l2 second.kept
                  (only i all (in_top side (fork_on side c j (fork_on side e k f)) i b)))
                  (kept_more (k ∷ []) all l2 l3 third.kept
                  (only k all (in_j k (in_far side c j (fork_on side e k f) k (in_top side e k f))))));
            };
            height_after = record {
              not_lower = omega (arith, near.0, near.1, inner.0, inner.1);
              not_higher = omega (arith, near.0, near.1, inner.0, inner.1);
              level = λ same. absurd (let off = same.0 in omega arith);
            };
          }
