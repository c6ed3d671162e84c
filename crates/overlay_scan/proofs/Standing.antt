-- A tree that stands in a list of links, also after changes of links.
use Rattle.std.proofs.Common.{◌≡◌, ⊎_elim, inl, inr, ℕ, zero, suc, ◌+◌, ◌<◌, ◌≤◌, max, List, [], ◌∷◌}
use Rattle.std.proofs.Common.{length, slice_get, slice_set, IfSome, Some, refl, sym, ap, subst, ◌∙◌, arith}
use Rattle.std.proofs.lemmas.List.{length-set}
use Rattle.std.proofs.lemmas.List.{length-append}
use Rattle.std.proofs.lemmas.Option.{slice_get_within}
use Rattle.overlay_scan.specs.declared.tree.links.Links.{Links}
use Rattle.overlay_scan.specs.declared.tree.links.Side.{Side}
use Rattle.overlay_scan.specs.declared.tree.links.Side.TheVariants.{Left, Right}
use Rattle.overlay_scan.specs.Sides.{linked}
use Rattle.overlay_scan.specs.Trees.{Tree, Leaf, Fork, root_of, items, height, fork_on, DifferByAtMost}
use Rattle.overlay_scan.specs.Trees.{IsHeightBalanced, IsIn}
use Rattle.overlay_scan.specs.Trees.{AreDistinct, Stands, AreParts, AreKeptBut, IsRebuilt}
use Rattle.overlay_scan.proofs.Distinct.{AreApart, in_left, in_right, in_either, distinct_left, distinct_right}
use Rattle.overlay_scan.proofs.Distinct.{distinct_apart, at_most}

-- ---- one element of a list is set

pub get_set_same : {X : Type 0} (xs : List X) (i : ℕ) (x : X) → i < length xs → slice_get (slice_set xs i x) i ≡ Some x
get_set_same [] i x lt = absurd (omega arith)
get_set_same (y ∷ xs) zero x lt = refl
get_set_same (y ∷ xs) (suc i) x lt = get_set_same xs i x (omega arith)

pub get_set_other : {X : Type 0} (xs : List X) (i : ℕ) (x : X) (k : ℕ) → ¬ (k ≡ i) →
    slice_get (slice_set xs i x) k ≡ slice_get xs k
get_set_other [] i x k other = refl
get_set_other (y ∷ xs) zero x zero other = absurd (other refl)
get_set_other (y ∷ xs) zero x (suc k) other = refl
get_set_other (y ∷ xs) (suc i) x zero other = refl
get_set_other (y ∷ xs) (suc i) x (suc k) other = get_set_other xs i x k (λ same. other (ap suc same))

pub set_one : (ls : List Links) (i : ℕ) (x : Links) → AreKeptBut (i ∷ []) ls (slice_set ls i x)
set_one ls i x = record {
  others = λ k out. get_set_other ls i x k (λ same. out (inl same));
  length_kept = length-set ls i x;
}

-- ---- links that change twice, and among more nodes

pub kept_more : (is js : List ℕ) (old new : List Links) → AreKeptBut is old new → ((k : ℕ) → IsIn k is → IsIn k js) →
    AreKeptBut js old new
kept_more is js old new kept more = record {
  others = λ k out. kept.others k (λ at. out (more k at));
  length_kept = kept.length_kept;
}

pub kept_twice : (is : List ℕ) (first second third : List Links) → AreKeptBut is first second →
    AreKeptBut is second third → AreKeptBut is first third
kept_twice is first second third one two = record {
  others = λ k out. two.others k out ∙ one.others k out;
  length_kept = two.length_kept ∙ one.length_kept;
}

-- a tree whose nodes have not changed stands as before
pub still_stands : (is : List ℕ) (old new : List Links) → AreKeptBut is old new → (t : Tree) → Stands old t →
    AreApart (items t) is → Stands new t
still_stands is old new kept Leaf at apart = tt
still_stands is old new kept (Fork l i r) at apart = (
  kept.others i (λ also. apart i (in_right i (items l) (i ∷ items r) (inl refl)) also) ∙ at.0,
  still_stands is old new kept l at.1 (λ k at_l also. apart k (in_left k (items l) (i ∷ items r) at_l) also),
  still_stands is old new kept r at.2 (λ k at_r also. apart k (in_right k (items l) (i ∷ items r) (inr at_r)) also),
)

-- ---- how many nodes there are

pub all_inside : (ls : List Links) (t : Tree) → Stands ls t → (k : ℕ) → IsIn k (items t) → k < length ls
all_inside ls Leaf at k this = absurd this
all_inside ls (Fork l i r) at k this = ⊎_elim (λ first. all_inside ls l at.1 k first)
    (λ rest. ⊎_elim (λ here. let top = slice_get_within ls i _ at.0 in omega arith)
    (λ last. all_inside ls r at.2 k last) rest)
    (in_either k (items l) (i ∷ items r) this)

-- the top is one of them
pub top_inside : (ls : List Links) (t : Tree) (root : _) → root ≡ root_of t → Stands ls t →
    IfSome root (λ i. i.place < length ls)
top_inside ls Leaf root is at = subst (λ o. IfSome o (λ i. i.place < length ls)) (sym is) tt
top_inside ls (Fork l i r) root is at = subst (λ o. IfSome o (λ i. i.place < length ls)) (sym is)
    (slice_get_within ls i _ at.0)

pub height_le_count : (t : Tree) → height t ≤ length (items t)
height_le_count Leaf = omega arith
height_le_count (Fork l i r) =
    let low = height_le_count l in
    let high = height_le_count r in
    let count = length-append (items l) (i ∷ items r) in
    omega arith

-- ---- the two sides of a node

-- the nodes of a tree with two sides
pub in_near : (side : Side) (a : Tree) (i : ℕ) (b : Tree) (k : ℕ) → IsIn k (items a) → IsIn k
    (items (fork_on side a i b))
in_near Left a i b k at = in_left k (items a) (i ∷ items b) at
in_near Right a i b k at = in_right k (items b) (i ∷ items a) (inr at)

pub in_far : (side : Side) (a : Tree) (i : ℕ) (b : Tree) (k : ℕ) → IsIn k (items b) → IsIn k
    (items (fork_on side a i b))
in_far Left a i b k at = in_right k (items a) (i ∷ items b) (inr at)
in_far Right a i b k at = in_left k (items b) (i ∷ items a) at

pub in_top : (side : Side) (a : Tree) (i : ℕ) (b : Tree) → IsIn i (items (fork_on side a i b))
in_top Left a i b = in_right i (items a) (i ∷ items b) (inl refl)
in_top Right a i b = in_right i (items b) (i ∷ items a) (inl refl)

-- two trees without repetition, with a node that is in neither
pub record ArePartsApart (a : Tree) (i : ℕ) (b : Tree) : Type 0 where
  pub near : AreDistinct (items a)
  pub far : AreDistinct (items b)
  pub not_near : ¬ IsIn i (items a)
  pub not_far : ¬ IsIn i (items b)
  pub apart : AreApart (items a) (items b)

pub parts_apart : (side : Side) (a : Tree) (i : ℕ) (b : Tree) → AreDistinct (items (fork_on side a i b)) →
    ArePartsApart a i b
parts_apart Left a i b d = record {
  near = distinct_left (items a) (i ∷ items b) d;
  far = (distinct_right (items a) (i ∷ items b) d).1;
  not_near = λ at. distinct_apart (items a) (i ∷ items b) d i at (inl refl);
  not_far = (distinct_right (items a) (i ∷ items b) d).0;
  apart = λ k at also. distinct_apart (items a) (i ∷ items b) d k at (inr also);
}
parts_apart Right a i b d = record {
  near = (distinct_right (items b) (i ∷ items a) d).1;
  far = distinct_left (items b) (i ∷ items a) d;
  not_near = (distinct_right (items b) (i ∷ items a) d).0;
  not_far = λ at. distinct_apart (items b) (i ∷ items a) d i at (inl refl);
  apart = λ k at also. distinct_apart (items b) (i ∷ items a) d k also (inr at);
}

pub height_on : (side : Side) (a : Tree) (i : ℕ) (b : Tree) → height (fork_on side a i b) ≡ max (height a) (height b) +
    1
height_on Left a i b = refl
height_on Right a i b = omega arith

pub balanced_on : (side : Side) (a : Tree) (i : ℕ) (b : Tree) → IsHeightBalanced a → IsHeightBalanced b →
    DifferByAtMost 1 (height a) (height b) → IsHeightBalanced (fork_on side a i b)
balanced_on Left a i b bal_a bal_b near = (bal_a, bal_b, near)
balanced_on Right a i b bal_a bal_b near = (bal_b, bal_a, (near.1, near.0))

-- ---- a node that is linked to two trees

module _ (ls : List Links) (side : Side) (i : ℕ) where
  -- the height that it stores leaves room
  pub room : (by : ℕ) (near far : _) (a b : Tree) → AreParts by ls side near i far a b →
      max (height a) (height b) < length ls
  room by near far a b parts =
      let d = parts_apart side a i b parts.distinct in
      let count = count_all side a b parts.distinct
      (λ k at. inside side a b parts.inside (all_inside ls a parts.near_stands) (all_inside ls b parts.far_stands) k
      at) in
      let low = height_le_count a in
      let high = height_le_count b in
      omega arith
    where
      inside : (side : Side) (a b : Tree) → i < length ls → ((k : ℕ) → IsIn k (items a) → k < length ls) →
          ((k : ℕ) → IsIn k (items b) → k < length ls) → (k : ℕ) → IsIn k (items (fork_on side a i b)) → k < length ls
      inside Left a b top in_a in_b k at = ⊎_elim (in_a k) (λ rest. ⊎_elim (λ here. omega arith) (in_b k) rest)
          (in_either k (items a) (i ∷ items b) at)
      inside Right a b top in_a in_b k at = ⊎_elim (in_b k) (λ rest. ⊎_elim (λ here. omega arith) (in_a k) rest)
          (in_either k (items b) (i ∷ items a) at)

      count_all : (side : Side) (a b : Tree) → AreDistinct (items (fork_on side a i b)) →
          ((k : ℕ) → IsIn k (items (fork_on side a i b)) → k < length ls) →
          length (items a) + length (items b) + 1 ≤ length ls
      count_all Left a b d below = let most = at_most (items (Fork a i b)) (length ls) d below in
          let count = length-append (items a) (i ∷ items b) in omega arith
      count_all Right a b d below = let most = at_most (items (Fork b i a)) (length ls) d below in
          let count = length-append (items b) (i ∷ items a) in omega arith

  -- links of the node alone have changed, or none
  pub linked_stands : (near far : _) (a b : Tree) → AreParts 1 ls side near i far a b → (new : List Links) →
      AreKeptBut (i ∷ []) ls new →
      slice_get new i ≡ Some (linked side (root_of a) (root_of b) (max (height a) (height b) + 1)) →
      IsRebuilt (i ∷ []) ls new (Some (record { place = i })) (items (fork_on side a i b)) (fork_on side a i b)
  linked_stands near far a b parts new kept is =
      let d = parts_apart side a i b parts.distinct in
      record {
        at_root = record {
          is_root = top side a b;
          stands = stands side a b is (still_stands (i ∷ []) ls new kept a parts.near_stands (apart a d.not_near))
              (still_stands (i ∷ []) ls new kept b parts.far_stands (apart b d.not_far));
          distinct = parts.distinct;
          balanced = balanced_on side a i b parts.near_balanced parts.far_balanced parts.differ;
        };
        same = refl;
        kept = kept;
      }
    where
      top : (side : Side) (a b : Tree) → Some (record { place = i }) ≡ root_of (fork_on side a i b)
      top Left a b = refl
      top Right a b = refl

      apart : (t : Tree) → ¬ IsIn i (items t) → AreApart (items t) (i ∷ [])
      apart t out k at also = ⊎_elim (λ here. out (subst (λ n. IsIn n (items t)) here at)) (λ none. none) also

      stands : (side : Side) (a b : Tree) →
          slice_get new i ≡ Some (linked side (root_of a) (root_of b) (max (height a) (height b) + 1)) →
          Stands new a → Stands new b → Stands new (fork_on side a i b)
      stands Left a b at low high = (at, low, high)
      stands Right a b at low high = (
        at ∙ ap (λ n. Some (record { left = root_of b; right = root_of a; height = n }))
            (sym (height_on Right a i b)),
        high,
        low,
      )

  pub now_linked : (near far : _) (a b : Tree) → AreParts 1 ls side near i far a b → (h : ℕ) →
      h ≡ max (height a) (height b) + 1 → (new : List Links) → new ≡ slice_set ls i (linked side near far h) →
      IsRebuilt (i ∷ []) ls new (Some (record { place = i })) (items (fork_on side a i b)) (fork_on side a i b)
  now_linked near far a b parts h high new is = linked_stands near far a b parts new
      (subst (AreKeptBut (i ∷ []) ls) (sym is) (set_one ls i (linked side near far h)))
      (ap (λ l. slice_get l i) is ∙ get_set_same ls i (linked side near far h) parts.inside
      ∙ ap Some (λ j. linked side (parts.near_is j) (parts.far_is j) (high j)))
