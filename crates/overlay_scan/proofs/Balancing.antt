-- A node between two trees whose heights differ by at most two, seen from either side, and where no turn is needed.
use Rattle.std.proofs.Common.{◌≡◌, ℕ, ◌+◌, ◌≤◌, max, List, [], ◌∷◌, slice_get, Option, Some, refl, sym, ap, subst}
use Rattle.std.proofs.Common.{◌∙◌, arith}
use Rattle.overlay_scan.specs.declared.tree.links.Links.{Links}
use Rattle.overlay_scan.specs.declared.tree.links.NodeIndex.{NodeIndex}
use Rattle.overlay_scan.specs.declared.tree.links.Side.{Side}
use Rattle.overlay_scan.specs.declared.tree.links.Side.TheVariants.{Left, Right}
use Rattle.overlay_scan.specs.Sides.{opposite, linked}
use Rattle.overlay_scan.specs.Trees.{Tree, root_of, items, height, fork_on, AreDistinct, Stands, AreParts, IsRebuilt}
use Rattle.overlay_scan.specs.Trees.{IsHeightBalanced, IsRebalanced, IsTooHigh}
use Rattle.overlay_scan.proofs.Standing.{height_on, in_top, kept_more, linked_stands}
use Rattle.overlay_scan.proofs.Rotations.{only, sides_differ}

-- the tree seen from the other side
pub exchanged : (side : Side) (a : Tree) (i : ℕ) (b : Tree) → fork_on (opposite side) b i a ≡ fork_on side a i b
exchanged Left a i b = refl
exchanged Right a i b = refl

pub parts_exchanged : (by : ℕ) (ls : List Links) (side : Side) (near far : Option NodeIndex) (i : ℕ) (a b : Tree) →
    AreParts by ls side near i far a b → AreParts by ls (opposite side) far i near b a
parts_exchanged by ls side near far i a b parts = record {
  near_is = parts.far_is;
  far_is = parts.near_is;
  near_stands = parts.far_stands;
  far_stands = parts.near_stands;
  near_balanced = parts.far_balanced;
  far_balanced = parts.near_balanced;
  distinct = subst (λ t. AreDistinct (items t)) (sym (exchanged side a i b)) parts.distinct;
  inside = parts.inside;
  differ = (parts.differ.1, parts.differ.0);
}

pub settled_exchanged : (old new : List Links) (root : Option NodeIndex) (side : Side) (i : ℕ) (a b : Tree) →
    IsRebalanced old new root (opposite side) b i a → IsRebalanced old new root side a i b
settled_exchanged old new root side i a b s = record {
  tree = s.tree;
  rebuilt = subst (λ t. IsRebuilt (items t) old new root (items t) s.tree) (exchanged side a i b) s.rebuilt;
  height_after = record {
    not_lower = (let h = s.height_after.not_lower in omega arith);
    not_higher = (let h = s.height_after.not_higher in omega arith);
    level = λ near. (let h = s.height_after.level (near.1, near.0) in omega arith);
  };
}

pub too_high : (ls : List Links) (side : Side) (near far : Option NodeIndex) (i : ℕ) (a b : Tree) →
    AreParts 2 ls side near i far a b → height b + 1 ≤ height a → ¬ (height a ≤ height b + 1) →
    IsTooHigh ls side near i far a b
too_high ls side near far i a b parts more not_near = record {
  parts = parts;
  two_higher = (let most = parts.differ.0 in omega arith);
}

-- parts that are near enough
pub near_parts : (ls : List Links) (side : Side) (near far : Option NodeIndex) (i : ℕ) (a b : Tree) →
    AreParts 2 ls side near i far a b → height a ≤ height b + 1 → height b ≤ height a + 1 →
    AreParts 1 ls side near i far a b
near_parts ls side near far i a b parts low high = record {
  near_is = parts.near_is;
  far_is = parts.far_is;
  near_stands = parts.near_stands;
  far_stands = parts.far_stands;
  near_balanced = parts.near_balanced;
  far_balanced = parts.far_balanced;
  distinct = parts.distinct;
  inside = parts.inside;
  differ = (low, high);
}

pub settled_at_once : (old new : List Links) (root : Option NodeIndex) (side : Side) (i : ℕ) (a b : Tree) →
    IsRebuilt (i ∷ []) old new root (items (fork_on side a i b)) (fork_on side a i b) →
    IsRebalanced old new root side a i b
settled_at_once old new root side i a b made = record {
  tree = fork_on side a i b;
  rebuilt = record {
    at_root = made.at_root;
    same = refl;
    kept = kept_more (i ∷ []) (items (fork_on side a i b)) old new made.kept
        (only i (items (fork_on side a i b)) (in_top side a i b));
  };
  height_after = record {
    not_lower = (let h = height_on side a i b in omega arith);
    not_higher = (let h = height_on side a i b in omega arith);
    level = λ near. height_on side a i b;
  };
}

-- ---- a node that is linked already

-- the links of a top
top_links : (ls : List Links) (side : Side) (a : Tree) (i : ℕ) (b : Tree) → Stands ls (fork_on side a i b) →
    slice_get ls i ≡ Some (linked side (root_of a) (root_of b) (max (height a) (height b) + 1))
top_links ls Left a i b at = at.0
top_links ls Right a i b at = at.0 ∙ ap (λ n. Some (linked Right (root_of a) (root_of b) n)) (height_on Right a i b)

-- in the place of one side came a tree with the same top and of the same height
pub settled_already : (old new : List Links) (near far : Option NodeIndex) (side : Side) (i : ℕ) (a b u : Tree) →
    Stands old (fork_on side a i b) → IsHeightBalanced (fork_on side a i b) → slice_get new i ≡ slice_get old i →
    root_of a ≡ root_of u → height a ≡ height u → AreParts 2 new side near i far u b →
    IsRebalanced new new (Some (record { place = i })) side u i b
settled_already old new near far side i a b u at balanced kept top high parts =
    let differ = sides_differ side a i b balanced in
    settled_at_once new new (Some (record { place = i })) side i u b
    (linked_stands new side i near far u b
    (near_parts new side near far i u b parts (omega (arith, differ.0, differ.1)) (omega (arith, differ.0, differ.1)))
    new (record { others = λ k out. refl; length_kept = refl })
    (kept ∙ top_links old side a i b at ∙ ap Some (λ j. linked side (top j) (root_of b) (max (high j) (height b) + 1))))
