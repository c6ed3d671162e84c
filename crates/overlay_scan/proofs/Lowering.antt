-- A rotation of a tree with one side too high by one: its reads, and the tree after each step.
use Rattle.std.proofs.Common.{◌≡◌, ◌<◌, ◌≤◌, List, [], ◌∷◌, length, slice_get, Option, Some, sym, ap}
use Rattle.std.proofs.Common.{subst, IfSome, ◌∙◌, arith}
use Rattle.overlay_scan.specs.declared.tree.links.Links.{Links}
use Rattle.overlay_scan.specs.declared.tree.links.NodeIndex.{NodeIndex}
use Rattle.overlay_scan.specs.declared.tree.links.Side.{Side}
use Rattle.overlay_scan.specs.Sides.{on, opposite}
use Rattle.overlay_scan.specs.Trees.{Tree, root_of, items, height, fork_on, AreParts, IsRebuilt, IsRebalanced}
use Rattle.overlay_scan.specs.Trees.{IsTooHigh, IsIn}
use Rattle.overlay_scan.proofs.Standing.{top_inside, all_inside, in_top}
use Rattle.overlay_scan.proofs.Rotations.{IsOpened, opened, single_first, single_second, single_settled}
use Rattle.overlay_scan.proofs.Rotations.{double_first, double_second, double_third, double_settled}

-- the top of the higher side is read, and the tops of its own two sides
pub record IsLowering (ls : List Links) (side : Side) (i j : NodeIndex) (top : Links)
    (high low outer inner : Option NodeIndex) (a b : Tree) : Type 0 where
  pub too_high : IsTooHigh ls side high i.place low a b
  pub top_is : Some j ≡ high
  pub read : slice_get ls j.place ≡ Some top
  pub outer_is : outer ≡ on side top
  pub inner_is : inner ≡ on (opposite side) top

module _ {ls : List Links} {side : Side} {i j : NodeIndex} {top : Links} {high low outer inner : Option NodeIndex}
    {a b : Tree} (w : IsLowering ls side i j top high low outer inner a b) where
  pub opening : IsOpened ls side j.place top a
  opening = opened ls side j top a (w.top_is ∙ w.too_high.parts.near_is) w.too_high.parts.near_stands w.read

  too_high_opened : IsTooHigh ls side high i.place low (fork_on side opening.near j.place opening.far) b
  too_high_opened = subst (λ t. IsTooHigh ls side high i.place low t b) opening.is w.too_high

  pub outer_root : outer ≡ root_of opening.near
  outer_root = w.outer_is ∙ opening.near_is

  pub inner_root : inner ≡ root_of opening.far
  inner_root = w.inner_is ∙ opening.far_is

  -- its top is a node
  pub inside_top : j.place < length ls
  inside_top = all_inside ls a w.too_high.parts.near_stands j.place
      (subst (λ t. IsIn j.place (items t)) (sym opening.is) (in_top side opening.near j.place opening.far))

  pub inside_outer : IfSome outer (λ k. k.place < length ls)
  inside_outer = top_inside ls opening.near outer outer_root opening.near_stands

  pub inside_inner : IfSome inner (λ k. k.place < length ls)
  inside_inner = top_inside ls opening.far inner inner_root opening.far_stands

  -- ---- one turn

  module _ (level : height opening.far ≤ height opening.near) where
    pub first_parts : AreParts 1 ls side inner i.place low opening.far b
    first_parts = single_first ls side i.place j.place high low outer inner opening.near opening.far b too_high_opened
        outer_root inner_root opening.near_stands opening.far_stands level

    module _ (l1 : List Links) (first : IsRebuilt (i.place ∷ []) ls l1 (Some i)
        (items (fork_on side opening.far i.place b)) (fork_on side opening.far i.place b)) where
      pub second_parts : AreParts 1 l1 side outer j.place (Some i) opening.near (fork_on side opening.far i.place b)
      second_parts = single_second ls side i.place j.place high low outer inner opening.near opening.far b
          too_high_opened outer_root inner_root opening.near_stands opening.far_stands level l1
          (let same = first.kept.length_kept in let was = inside_top in omega arith) first

      pub settled_once : (l2 : List Links) → IsRebuilt (j.place ∷ []) l1 l2 (Some j)
          (items (fork_on side opening.near j.place (fork_on side opening.far i.place b)))
          (fork_on side opening.near j.place (fork_on side opening.far i.place b)) →
          IsRebalanced ls l2 (Some j) side a i.place b
      settled_once l2 second = subst (λ t. IsRebalanced ls l2 (Some j) side t i.place b) (sym opening.is)
          (single_settled ls side i.place j.place high low outer inner opening.near opening.far b
          too_high_opened outer_root inner_root opening.near_stands opening.far_stands level l1
          (let same = first.kept.length_kept in let was = inside_top in omega arith) first l2 second)

  -- a top of the inner side is a node
  pub inside_middle : (k : NodeIndex) → Some k ≡ inner → k.place < length ls
  inside_middle k is = subst (λ o. IfSome o (λ n. n.place < length ls)) (sym is) inside_inner

  -- ---- two turns

  -- the top of the inner side is read too
  pub record IsTwice (k : NodeIndex) (middle : Links) (near_k far_k : Option NodeIndex) : Type 0 where
    pub middle_is : Some k ≡ inner
    pub read_middle : slice_get ls k.place ≡ Some middle
    pub near_k_is : near_k ≡ on side middle
    pub far_k_is : far_k ≡ on (opposite side) middle
    pub higher : height opening.near < height opening.far

  module _ {k : NodeIndex} {middle : Links} {near_k far_k : Option NodeIndex} (v : IsTwice k middle near_k far_k) where
    pub inner_opening : IsOpened ls side k.place middle opening.far
    inner_opening = opened ls side k middle opening.far (v.middle_is ∙ inner_root) opening.far_stands v.read_middle

    too_high_twice : IsTooHigh ls side high i.place low
        (fork_on side opening.near j.place (fork_on side inner_opening.near k.place inner_opening.far)) b
    too_high_twice = subst (λ t. IsTooHigh ls side high i.place low (fork_on side opening.near j.place t) b)
        inner_opening.is too_high_opened

    is_higher : height opening.near < height (fork_on side inner_opening.near k.place inner_opening.far)
    is_higher = subst (λ t. height opening.near < height t) inner_opening.is v.higher

    pub twice_first : AreParts 1 ls side outer j.place near_k opening.near inner_opening.near
    twice_first = double_first ls side i.place j.place k.place high low outer near_k far_k opening.near
        inner_opening.near inner_opening.far b too_high_twice outer_root (v.near_k_is ∙ inner_opening.near_is)
        (v.far_k_is ∙ inner_opening.far_is) opening.near_stands inner_opening.near_stands inner_opening.far_stands
        is_higher inside_top

    module _ (l1 : List Links) (first : IsRebuilt (j.place ∷ []) ls l1 (Some j)
        (items (fork_on side opening.near j.place inner_opening.near))
        (fork_on side opening.near j.place inner_opening.near)) where
      pub twice_second : AreParts 1 l1 side far_k i.place low inner_opening.far b
      twice_second = double_second ls side i.place j.place k.place high low outer near_k far_k opening.near
          inner_opening.near inner_opening.far b too_high_twice outer_root (v.near_k_is ∙ inner_opening.near_is)
          (v.far_k_is ∙ inner_opening.far_is) opening.near_stands inner_opening.near_stands inner_opening.far_stands
          is_higher l1 first

      module _ (l2 : List Links) (second : IsRebuilt (i.place ∷ []) l1 l2 (Some i)
          (items (fork_on side inner_opening.far i.place b)) (fork_on side inner_opening.far i.place b)) where
        still_inside : k.place < length l2
        still_inside = let one = first.kept.length_kept in let two = second.kept.length_kept in
            let was = inside_middle k v.middle_is in omega arith

        pub twice_third : AreParts 1 l2 side (Some j) k.place (Some i)
            (fork_on side opening.near j.place inner_opening.near) (fork_on side inner_opening.far i.place b)
        twice_third = double_third ls side i.place j.place k.place high low outer near_k far_k opening.near
            inner_opening.near inner_opening.far b too_high_twice outer_root (v.near_k_is ∙ inner_opening.near_is)
            (v.far_k_is ∙ inner_opening.far_is) opening.near_stands inner_opening.near_stands inner_opening.far_stands
            is_higher l1 first l2 still_inside second

        pub settled_twice : (l3 : List Links) → IsRebuilt (k.place ∷ []) l2 l3 (Some k)
            (items (fork_on side (fork_on side opening.near j.place inner_opening.near) k.place
            (fork_on side inner_opening.far i.place b)))
            (fork_on side (fork_on side opening.near j.place inner_opening.near) k.place
            (fork_on side inner_opening.far i.place b)) →
            IsRebalanced ls l3 (Some k) side a i.place b
        settled_twice l3 third = subst (λ t. IsRebalanced ls l3 (Some k) side t i.place b)
            (sym (opening.is ∙ ap (λ t. fork_on side opening.near j.place t) inner_opening.is))
            (double_settled ls side i.place j.place k.place high low outer near_k far_k opening.near
            inner_opening.near inner_opening.far b too_high_twice outer_root (v.near_k_is ∙ inner_opening.near_is)
            (v.far_k_is ∙ inner_opening.far_is) opening.near_stands inner_opening.near_stands
            inner_opening.far_stands is_higher l1 first l2 still_inside second l3 third)

pub lowering : {ls : List Links} {side : Side} {i j : NodeIndex} {top : Links}
    {high low outer inner : Option NodeIndex} {a b : Tree} → IsTooHigh ls side high i.place low a b → Some j ≡ high →
    slice_get ls j.place ≡ Some top → outer ≡ on side top → inner ≡ on (opposite side) top →
    IsLowering ls side i j top high low outer inner a b
lowering too_high top_is read outer_is inner_is = record {
  too_high = too_high;
  top_is = top_is;
  read = read;
  outer_is = outer_is;
  inner_is = inner_is;
}

pub twice : {ls : List Links} {side : Side} {i j : NodeIndex} {top : Links}
    {high low outer inner : Option NodeIndex} {a b : Tree} (w : IsLowering ls side i j top high low outer inner a b)
    {k : NodeIndex} {middle : Links} {near_k far_k : Option NodeIndex} → Some k ≡ inner →
    slice_get ls k.place ≡ Some middle → near_k ≡ on side middle → far_k ≡ on (opposite side) middle →
    height (opening w).near < height (opening w).far → IsTwice w k middle near_k far_k
twice w middle_is read near_is far_is higher = record {
  middle_is = middle_is;
  read_middle = read;
  near_k_is = near_is;
  far_k_is = far_is;
  higher = higher;
}
