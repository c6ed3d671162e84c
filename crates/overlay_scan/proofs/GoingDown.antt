-- A descent reads the root of a tree, and goes on into one of its sides.
use Rattle.std.proofs.Common.{◌≡◌, true, ℕ, ◌+◌, ◌<◌, ◌≤◌, ℤ, int_lt, List, [], ◌∷◌, length, slice_get, Option}
use Rattle.std.proofs.Common.{Some}
use Rattle.std.proofs.Common.{refl, sym, ap, subst, ◌∙◌, arith}
use Rattle.std.specs.declared.cmp.Ordering.{Ordering}
use Rattle.overlay_geom.specs.declared.point.IntPoint.{IntPoint}
use Rattle.overlay_scan.specs.Scan.{IsCallableOn}
use Rattle.overlay_scan.specs.declared.list.LiveEdge.{LiveEdge}
use Rattle.overlay_scan.specs.declared.tree.descend.End.{End}
use Rattle.overlay_scan.specs.declared.tree.links.Links.{Links}
use Rattle.overlay_scan.specs.declared.tree.links.NodeIndex.{NodeIndex}
use Rattle.overlay_scan.specs.declared.tree.links.Side.{Side}
use Rattle.overlay_scan.specs.Sides.{on, opposite}
use Rattle.overlay_scan.specs.Descents.{live_entries, CanDescend, IsEndOf, side_of, end_above}
use Rattle.overlay_scan.specs.Trees.{Tree, root_of, items, height, fork_on, Stands, IsTreeAt, AreParts, IsRebalanced}
use Rattle.overlay_scan.specs.Trees.{stored_height}
use Rattle.overlay_scan.proofs.Balancing.{settled_already}
use Rattle.overlay_scan.proofs.Descending.{can_go_on, callable_on, top_place, parts_of_end, kept_by_end, end_over}
use Rattle.overlay_scan.proofs.Replaced.{stored}
use Rattle.overlay_scan.proofs.Rotations.{IsOpened, opened}
use Rattle.overlay_scan.proofs.Settling.{tree_at_is}
use Rattle.overlay_scan.proofs.Standing.{height_on}

-- a tree may be gone down from links that are the same
pub same_links : (ls new : List Links) (root put : Option NodeIndex) (i : NodeIndex) (t : Tree) → new ≡ ls → root ≡
    Some i →
    CanDescend ls root put t → CanDescend new (Some i) put t
same_links ls new root put i t same is can = subst (λ n. CanDescend n (Some i) put t) (sym same)
    (subst (λ o. CanDescend ls o put t) is can)

module _ (ls : List Links) (put : Option NodeIndex) (i : NodeIndex) (side : Side) (links : Links) (t : Tree)
    (can : CanDescend ls (Some i) put t) (read : slice_get ls i.place ≡ Some links) where
  pub way : IsOpened ls side i.place links t
  way = opened ls side i links t can.at.is_root can.at.stands read

  pub can_fork : CanDescend ls (Some i) put (fork_on side way.near i.place way.far)
  can_fork = subst (CanDescend ls (Some i) put) way.is can

  pub inside_way : i.place < length ls
  inside_way = top_place ls (Some i) i t refl can.at

  pub can_near : (near : Option NodeIndex) → near ≡ on side links → CanDescend ls near put way.near
  can_near near is = can_go_on side i.place way.near way.far ls (Some i) put near can_fork (is ∙ way.near_is)
      way.near_stands

  pub lower_near : (near : Option NodeIndex) → near ≡ on side links → stored_height ls near < stored_height ls (Some i)
  lower_near near is =
      let low = stored ls way.near near (is ∙ way.near_is) way.near_stands in
      let high = stored ls t (Some i) can.at.is_root can.at.stands in
      let same = ap height way.is in
      let over = height_on side way.near i.place way.far in
      omega arith

  pub higher : height way.near + 1 ≤ height t
  higher =
      let same = ap height way.is in
      let over = height_on side way.near i.place way.far in
      omega arith

  -- the order may be called on that side
  module _ {I V : Type 0} (whole : I → ℤ) (x : ℤ) (es : List (LiveEdge I V)) (pre : List (IntPoint I) → Type 0)
      (f : LiveEdge I V)
      (there : slice_get es i.place ≡ Some f) (live : int_lt x (whole f.b.x) ≡ true)
      (may : IsCallableOn whole pre (live_entries whole x es (items t))) where
    pub may_on : (near : Option NodeIndex) → near ≡ on side links → (u : Tree) → IsTreeAt ls near u →
        IsCallableOn whole pre (live_entries whole x es (items u))
    may_on near is u at = subst (λ v. IsCallableOn whole pre (live_entries whole x es (items v)))
        (sym (tree_at_is ls way.near near (can_near near is).at) ∙ tree_at_is ls u near at)
        (callable_on whole x es pre i.place f there live side way.near way.far
        (subst (λ v. IsCallableOn whole pre (live_entries whole x es (items v))) way.is may))

  -- the descent below is done, and the node is above it
  module _ {I V : Type 0} (whole : I → ℤ) (post : List (IntPoint I) → Ordering → Type 0) (x : ℤ)
      (es : List (LiveEdge I V)) (between : List Links) (near far : Option NodeIndex)
      (far_is : far ≡ on (opposite side) links) (e : End V)
      (below : IsEndOf whole post x es ls between way.near put near e) where
    pub parts_above : (u : Tree) × AreParts 2 between side near i.place far u way.far
    parts_above = parts_of_end whole post x es side i.place way.near way.far ls between (Some i) put near far can_fork
        (far_is ∙ way.far_is) way.far_stands inside_way e below

    module _ (f : LiveEdge I V) (there : slice_get es i.place ≡ Some f) (live : int_lt x (whole f.b.x) ≡ true)
        (answer : (o : Ordering) × post (f.a ∷ f.b ∷ []) o × (side ≡ side_of o)) where
      pub end_balanced : (new : List Links) (top : Option NodeIndex) →
          ((u : Tree) → AreParts 2 between side near i.place far u way.far →
          IsRebalanced between new top side u i.place way.far) →
          IsEndOf whole post x es ls new t put top (end_above side f.value e)
      end_balanced new top settled =
          subst (λ v. IsEndOf whole post x es ls new v put top (end_above side f.value e)) (sym way.is)
          (end_over whole post x es side i.place way.near way.far ls between (Some i) put near far can_fork
          (far_is ∙ way.far_is) way.far_stands inside_way f there live answer.0 answer.1 answer.2 e below new top
          settled)

      -- the tree below has kept its top and its height
      pub end_kept : (was : Option NodeIndex) → was ≡ on side links → (high : ℕ) → high ≡ height way.near →
          ((u : Tree) → near ≡ root_of u → Stands between u → (near ≡ was) × (height u ≡ high)) →
          IsEndOf whole post x es ls between t put (Some i) (end_above side f.value e)
      end_kept was was_is high high_is kept = end_balanced between (Some i) (λ u parts.
          let same = kept u parts.near_is parts.near_stands in
          settled_already ls between near far side i.place way.near way.far u can_fork.at.stands can_fork.at.balanced
          (kept_by_end whole post x es side i.place way.near way.far ls between (Some i) put near far can_fork
          (far_is ∙ way.far_is) way.far_stands inside_way e below)
          (sym way.near_is ∙ sym was_is ∙ sym same.0 ∙ parts.near_is) (sym high_is ∙ sym same.1) parts)

-- from entries and links that are the same
pub same_end : {I V : Type 0} (whole : I → ℤ) (post : List (IntPoint I) → Ordering → Type 0) (x : ℤ)
    (es other_es : List (LiveEdge I V)) (ls other_ls new : List Links) (t : Tree) (put root : Option NodeIndex)
    (e other : End V) → other_es ≡ es → other_ls ≡ ls → e ≡ other →
    IsEndOf whole post x other_es other_ls new t put root other → IsEndOf whole post x es ls new t put root e
same_end whole post x es other_es ls other_ls new t put root e other same_es same_ls same given =
    subst (λ n. IsEndOf whole post x es ls new t put root n) (sym same)
    (subst (λ n. IsEndOf whole post x es n new t put root other) same_ls
    (subst (λ n. IsEndOf whole post x n other_ls new t put root other) same_es given))
