-- A step of the descent: after the descent into a side of a node, the node goes above the rest of it.
use Rattle.std.proofs.Common.{◌≡◌, ◌⊎◌, ⊎_elim, inl, inr, Bool, true, false, not, ℕ, ℤ, ◌<◌, ◌≤◌, int_lt, List, [], ◌∷◌}
use Rattle.std.proofs.Common.{◌++◌}
use Rattle.std.proofs.Common.{length, slice_get, Option, None, Some, refl, sym, ap, subst, ◌∙◌, arith}
use Rattle.std.specs.Ordering.{is_gt}
use Rattle.std.specs.declared.cmp.Ordering.{Ordering}
use Rattle.std.specs.declared.cmp.Ordering.TheVariants.{Less, Equal, Greater}
use Rattle.std.specs.Option.{MatchOption, IfSome}
use Rattle.std.proofs.lemmas.List.{append_assoc, append-nil}
use Rattle.std.proofs.lemmas.List.Elements.{All-head, All-tail}
use Rattle.overlay_geom.specs.declared.point.IntPoint.{IntPoint}
use Rattle.overlay_geom.proofs.Merging.{AllPairs-tail}
use Rattle.overlay_plane.proofs.Entries.{All-first, All-rest}
use Rattle.overlay_scan.specs.Lists.{plain_entry, PassBefore}
use Rattle.overlay_scan.specs.Scan.{Entry, HoldsOfLine, IsCallableOn}
use Rattle.overlay_scan.specs.declared.list.LiveEdge.{LiveEdge}
use Rattle.overlay_scan.specs.declared.tree.descend.End.{End}
use Rattle.overlay_scan.specs.declared.tree.descend.End.TheVariants.{Ended, Found}
use Rattle.overlay_scan.specs.declared.tree.links.Links.{Links}
use Rattle.overlay_scan.specs.declared.tree.links.NodeIndex.{NodeIndex}
use Rattle.overlay_scan.specs.declared.tree.links.Side.{Side}
use Rattle.overlay_scan.specs.declared.tree.links.Side.TheVariants.{Left, Right}
use Rattle.overlay_scan.specs.HeldEntries.{Tells, IsParted}
use Rattle.overlay_scan.specs.Descents.{live_entries, alone, CanDescend, side_of, passed_on, end_above}
use Rattle.overlay_scan.specs.Descents.{IsExchanged, IsDropped, IsPassed, IsEndOf}
use Rattle.overlay_scan.specs.Trees.{Tree, Leaf, Fork, root_of, items, height, fork_on, IsHeightBalanced, AreDistinct}
use Rattle.overlay_scan.specs.Trees.{AreParts, IsIn, Stands}
use Rattle.overlay_scan.specs.Trees.{IsTreeAt, IsRebalanced, IsReplaced}
use Rattle.overlay_scan.proofs.Distinct.{AreApart, in_left, in_right, in_either, distinct_left, distinct_right}
use Rattle.overlay_scan.proofs.Distinct.{distinct_apart}
use Rattle.overlay_scan.proofs.Distinct.{distinct_joined}
use Rattle.overlay_scan.proofs.Standing.{parts_apart, in_near, in_far, in_top, top_inside}
use Rattle.overlay_scan.proofs.Replaced.{new_parts, new_replaced}
use Rattle.overlay_scan.proofs.Rotations.{near_balanced, place_of}
use Rattle.overlay_scan.proofs.Parted.{live-middle}
use Rattle.overlay_scan.proofs.Passing.{before_part, after_part, all_before_pass, all_after_fail}
use Rattle.overlay_scan.proofs.Parted.{parted_left, parted_right}

-- ---- numbers in the place of others

distinct_exchanged : (xs out into ys : List ℕ) → AreDistinct (xs ++ (out ++ ys)) → AreDistinct into →
    AreApart (xs ++ (out ++ ys)) into → AreDistinct (xs ++ (into ++ ys))
distinct_exchanged xs out into ys d new apart = distinct_joined xs (into ++ ys) (distinct_left xs (out ++ ys) d)
    (distinct_joined into ys new (distinct_right out ys (distinct_right xs (out ++ ys) d))
    (λ k at also. apart k (in_right k xs (out ++ ys) (in_right k out ys also)) at))
    (λ k at also. ⊎_elim (λ first. apart k (in_left k xs (out ++ ys) at) first)
    (λ second. distinct_apart xs (out ++ ys) d k at (in_right k out ys second)) (in_either k into ys also))

in_exchanged : (k : ℕ) (xs out into ys : List ℕ) → IsIn k (xs ++ (into ++ ys)) → IsIn k (xs ++ (out ++ ys)) ⊎ IsIn k
    into
in_exchanged k xs out into ys at = ⊎_elim (λ first. inl (in_left k xs (out ++ ys) first))
    (λ rest. ⊎_elim (λ new. inr new) (λ last. inl (in_right k xs (out ++ ys) (in_right k out ys last)))
    (in_either k into ys rest))
    (in_either k xs (into ++ ys) at)

-- the entries before and after the place, seen from the node above
abbrev pub before_on : Side → List ℕ → ℕ → List ℕ → List ℕ
before_on Left before i rest = before
before_on Right before i rest = rest ++ i ∷ before

abbrev pub after_on : Side → List ℕ → ℕ → List ℕ → List ℕ
after_on Left after i rest = after ++ i ∷ rest
after_on Right after i rest = after

whole_same : (side : Side) (a : Tree) (i : ℕ) (b : Tree) (before middle after : List ℕ) →
    items a ≡ before ++ (middle ++ after) →
    items (fork_on side a i b) ≡ before_on side before i (items b) ++ (middle ++ after_on side after i (items b))
whole_same Left a i b before middle after same = ap (λ is. is ++ i ∷ items b) same
    ∙ append_assoc before (middle ++ after) (i ∷ items b)
    ∙ ap (λ is. before ++ is) (append_assoc middle after (i ∷ items b))
whole_same Right a i b before middle after same = ap (λ is. items b ++ i ∷ is) same
    ∙ sym (append_assoc (items b) (i ∷ before) (middle ++ after))

module _ (side : Side) (i : ℕ) (a b : Tree) (old between : List Links) (root put near far : Option NodeIndex)
    (out into before after : List ℕ) (can : CanDescend old root put (fork_on side a i b))
    (ex : IsExchanged old between a near out into before after)
    (into_put : (k : ℕ) → IsIn k into → IsIn k (items (alone put))) (into_distinct : AreDistinct into)
    (far_is : far ≡ root_of b) (far_stands : Stands old b) (inside : i < length old) where
  abbrev below : Tree
  below = ex.replaced.tree

  was_same : items (fork_on side a i b) ≡ before_on side before i (items b) ++ (out ++ after_on side after i (items b))
  was_same = whole_same side a i b before out after ex.same

  now_same : items (fork_on side below i b) ≡ before_on side before i (items b) ++
      (into ++ after_on side after i (items b))
  now_same = whole_same side below i b before into after ex.replaced.rebuilt.same

  new_distinct : AreDistinct (items (fork_on side below i b))
  new_distinct = subst AreDistinct (sym now_same) (distinct_exchanged (before_on side before i (items b)) out into
      (after_on side after i (items b)) (subst AreDistinct was_same can.at.distinct) into_distinct
      (λ k at also. can.other k (subst (IsIn k) (sym was_same) at) (into_put k also)))

  rest_apart : AreApart (items b) (items a ++ into)
  rest_apart k at also = ⊎_elim (λ in_a. (parts_apart side a i b can.at.distinct).apart k in_a at)
      (λ new. can.other k (in_far side a i b k at) (into_put k new)) (in_either k (items a) into also)

  pub next_parts : AreParts 2 between side near i far below b
  next_parts = new_parts can.at ex.replaced far_is far_stands rest_apart inside new_distinct

  -- the node itself is linked as before
  pub top_kept : slice_get between i ≡ slice_get old i
  top_kept = ex.replaced.rebuilt.kept.others i (λ at. ⊎_elim (parts_apart side a i b can.at.distinct).not_near
      (λ new. can.other i (in_top side a i b) (into_put i new)) (in_either i (items a) into at))

  pub exchanged_above : (new : List Links) (top : Option NodeIndex) → IsRebalanced between new top side below i b →
      IsExchanged old new (fork_on side a i b) top out into (before_on side before i (items b))
      (after_on side after i (items b))
  exchanged_above new top settled = record {
    same = was_same;
    replaced = subst (λ is. IsReplaced (items (fork_on side a i b) ++ into) old new (fork_on side a i b) top is)
        now_same
        (new_replaced can.at ex.replaced far_is far_stands rest_apart inside new_distinct
        (items (fork_on side a i b) ++ into) settled
        (λ k there. ⊎_elim (λ in_a. in_left k (items (fork_on side a i b)) into (in_near side a i b k in_a))
        (λ new. in_right k (items (fork_on side a i b)) into new) (in_either k (items a) into there))
        (λ k there. ⊎_elim (λ was. in_left k (items (fork_on side a i b)) into (subst (IsIn k) (sym was_same) was))
        (λ new. in_right k (items (fork_on side a i b)) into new)
        (in_exchanged k (before_on side before i (items b)) out into (after_on side after i (items b))
        (subst (IsIn k) now_same there))));
  }

-- the node that is put in is one, and once
alone_distinct : (put : Option NodeIndex) → AreDistinct (items (alone put))
alone_distinct None = tt
alone_distinct (Some i) = ((λ none. none), tt)

-- a side of a tree may be gone down
pub can_go_on : (side : Side) (i : ℕ) (a b : Tree) (old : List Links) (root put near : Option NodeIndex) →
    CanDescend old root put (fork_on side a i b) → near ≡ root_of a → Stands old a → CanDescend old near put a
can_go_on side i a b old root put near can near_is stands = record {
  at = record {
    is_root = near_is;
    stands = stands;
    distinct = (parts_apart side a i b can.at.distinct).near;
    balanced = near_balanced side a i b can.at.balanced;
  };
  put_stands = can.put_stands;
  other = λ k at also. can.other k (in_near side a i b k at) also;
}

-- ---- by the end of the descent

module _ {I V : Type 0} (whole : I → ℤ) (post : List (IntPoint I) → Ordering → Type 0) (x : ℤ)
    (es : List (LiveEdge I V)) where
  abbrev L : List ℕ → List (Entry V)
  L is = live_entries whole x es is

  abbrev Told : (Entry V → Bool) → Entry V → Type 0
  Told passes g = HoldsOfLine whole g.edge (λ line. (o : Ordering) → post line o → not (is_gt o) ≡ passes g)

  module _ (side : Side) (i : ℕ) (a b : Tree) (old between : List Links) (root put near far : Option NodeIndex)
      (can : CanDescend old root put (fork_on side a i b)) (far_is : far ≡ root_of b)
      (far_stands : Stands old b) (inside : i < length old) where
    pub parts_of_end : (e : End V) → IsEndOf whole post x es old between a put near e →
        (u : Tree) × AreParts 2 between side near i far u b
    parts_of_end (Ended j) h = (
      h.exchanged.replaced.tree,
      next_parts side i a b old between root put near far (j.place ∷ []) [] h.before h.after can h.exchanged
          (λ k none. absurd none) tt far_is far_stands inside,
    )
    parts_of_end (Found v) h = (
      h.exchanged.replaced.tree,
      next_parts side i a b old between root put near far [] (items (alone put)) h.before h.after can h.exchanged
          (λ k at. at) (alone_distinct put) far_is far_stands inside,
    )

    pub kept_by_end : (e : End V) → IsEndOf whole post x es old between a put near e →
        slice_get between i ≡ slice_get old i
    kept_by_end (Ended j) h = top_kept side i a b old between root put near far (j.place ∷ []) [] h.before h.after can
        h.exchanged (λ k none. absurd none) tt far_is far_stands inside
    kept_by_end (Found v) h = top_kept side i a b old between root put near far [] (items (alone put)) h.before
        h.after can h.exchanged (λ k at. at) (alone_distinct put) far_is far_stands inside

    module _ (f : LiveEdge I V) (there : slice_get es i ≡ Some f) (live : int_lt x (whole f.b.x) ≡ true) (o : Ordering)
        (answered : post (f.a ∷ f.b ∷ []) o) (side_is : side ≡ side_of o) where
      -- the order's answer tells whether the entry passes
      passes_left : (o : Ordering) (t : Bool) → Left ≡ side_of o → not (is_gt o) ≡ t → t ≡ false
      passes_left Less t is says = absurd (subst is_left is tt)
        where
          is_left : Side → Type 0
          is_left Left = Unit {0}
          is_left Right = ⊥
      passes_left Equal t is says = absurd (subst is_left is tt)
        where
          is_left : Side → Type 0
          is_left Left = Unit {0}
          is_left Right = ⊥
      passes_left Greater t is says = sym says

      passes_right : (o : Ordering) (t : Bool) → Right ≡ side_of o → not (is_gt o) ≡ t → t ≡ true
      passes_right Less t is says = sym says
      passes_right Equal t is says = sym says
      passes_right Greater t is says = absurd (subst is_right is tt)
        where
          is_right : Side → Type 0
          is_right Right = Unit {0}
          is_right Left = ⊥

      tell_here : (passes : Entry V → Bool) (under above : List (Entry V)) →
          Tells whole post passes (under ++ plain_entry whole f ∷ above) → not (is_gt o) ≡ passes (plain_entry whole f)
      tell_here passes under above tells = All-head (Told passes) (plain_entry whole f) above
          (All-rest (Told passes) under (plain_entry whole f ∷ above) tells) f.a f.b refl refl o answered

      parted_on : (side : Side) → side ≡ side_of o → (before after : List ℕ) (v : Option V) (passes : Entry V → Bool) →
          (Tells whole post passes (L (items a)) → PassBefore passes (L (items a)) → IsParted passes (L before)
          (L after) v) →
          Tells whole post passes (L (items (fork_on side a i b))) → PassBefore passes
          (L (items (fork_on side a i b))) →
          IsParted passes (L (before_on side before i (items b))) (L (after_on side after i (items b)))
          (passed_on side f.value v)
      parted_on Left is before after v passes under tells front =
          let split = live-middle whole x es (items a) i (items b) f there live in
          let tells' = subst (Tells whole post passes) split tells in
          let front' = subst (PassBefore passes) split front in
          let fail = passes_left o (passes (plain_entry whole f)) is
          (tell_here passes (L (items a)) (L (items b)) tells') in
          subst (λ fs. IsParted passes (L before) fs (passed_on Left f.value v))
          (sym (live-middle whole x es after i (items b) f there live))
          (parted_left passes (plain_entry whole f) (L before) (L after) v
          (under (All-first (Told passes) (L (items a)) (plain_entry whole f ∷ L (items b)) tells')
          (before_part passes (L (items a)) (plain_entry whole f ∷ L (items b)) front'))
          (L (items b)) fail (all_after_fail passes (L (items a)) (plain_entry whole f) (L (items b)) front' fail))
      parted_on Right is before after v passes under tells front =
          let split = live-middle whole x es (items b) i (items a) f there live in
          let tells' = subst (Tells whole post passes) split tells in
          let front' = subst (PassBefore passes) split front in
          let pass = passes_right o (passes (plain_entry whole f)) is
          (tell_here passes (L (items b)) (L (items a)) tells') in
          subst (λ fs. IsParted passes fs (L after) (passed_on Right f.value v))
          (sym (live-middle whole x es (items b) i before f there live))
          (parted_right passes (plain_entry whole f) (L before) (L after) v
          (under (All-tail (Told passes) (plain_entry whole f) (L (items a))
          (All-rest (Told passes) (L (items b)) (plain_entry whole f ∷ L (items a)) tells'))
          (AllPairs-tail (λ y z. passes z ≡ true → passes y ≡ true) (plain_entry whole f) (L (items a))
          (after_part passes (L (items b)) (plain_entry whole f ∷ L (items a)) front')))
          (L (items b)) pass (all_before_pass passes (L (items b)) (plain_entry whole f) (L (items a)) front' pass))

      pub end_over : (e : End V) → IsEndOf whole post x es old between a put near e → (new : List Links)
          (top : Option NodeIndex) → ((u : Tree) → AreParts 2 between side near i far u b → IsRebalanced between new top
          side u i b) →
          IsEndOf whole post x es old new (fork_on side a i b) put top (end_above side f.value e)
      end_over (Ended j) h new top settled = record {
        before = before_on side h.before i (items b);
        after = after_on side h.after i (items b);
        exchanged = exchanged_above side i a b old between root put near far (j.place ∷ []) [] h.before h.after can
            h.exchanged
            (λ k none. absurd none) tt far_is far_stands inside new top
            (settled h.exchanged.replaced.tree
            (next_parts side i a b old between root put near far (j.place ∷ []) [] h.before h.after can h.exchanged
            (λ k none. absurd none) tt far_is far_stands inside));
        entry = h.entry;
        there = h.there;
        ended = h.ended;
      }
      end_over (Found v) h new top settled = record {
        before = before_on side h.before i (items b);
        after = after_on side h.after i (items b);
        exchanged = exchanged_above side i a b old between root put near far [] (items (alone put)) h.before h.after
            can h.exchanged
            (λ k at. at) (alone_distinct put) far_is far_stands inside new top
            (settled h.exchanged.replaced.tree
            (next_parts side i a b old between root put near far [] (items (alone put)) h.before h.after can
            h.exchanged (λ k at. at) (alone_distinct put) far_is far_stands inside));
        parted = λ passes tells front. parted_on side side_is h.before h.after v passes (h.parted passes) tells front;
      }

-- ---- where the order may be called

module _ {I V : Type 0} (whole : I → ℤ) (x : ℤ) (es : List (LiveEdge I V)) (pre : List (IntPoint I) → Type 0)
    (i : ℕ) (f : LiveEdge I V) (there : slice_get es i ≡ Some f) (live : int_lt x (whole f.b.x) ≡ true) where
  abbrev Callable : Entry V → Type 0
  Callable g = HoldsOfLine whole g.edge pre

  abbrev entries_of : Tree → List (Entry V)
  entries_of t = live_entries whole x es (items t)

  split_at : (a b : Tree) → IsCallableOn whole pre (entries_of (Fork a i b)) →
      IsCallableOn whole pre (entries_of a ++ plain_entry whole f ∷ entries_of b)
  split_at a b may = subst (IsCallableOn whole pre) (live-middle whole x es (items a) i (items b) f there live) may

  -- on the entry of a node
  pub callable_here : (side : Side) (a b : Tree) → IsCallableOn whole pre (entries_of (fork_on side a i b)) →
      pre (f.a ∷ f.b ∷ [])
  callable_here Left a b may = All-head Callable (plain_entry whole f) (entries_of b)
      (All-rest Callable (entries_of a) (plain_entry whole f ∷ entries_of b) (split_at a b may)) f.a f.b refl refl
  callable_here Right a b may = All-head Callable (plain_entry whole f) (entries_of a)
      (All-rest Callable (entries_of b) (plain_entry whole f ∷ entries_of a) (split_at b a may)) f.a f.b refl refl

  -- the order may be called on the entries of a side
  pub callable_on : (side : Side) (a b : Tree) → IsCallableOn whole pre (entries_of (fork_on side a i b)) →
      IsCallableOn whole pre (entries_of a)
  callable_on Left a b may = All-first Callable (entries_of a) (plain_entry whole f ∷ entries_of b) (split_at a b may)
  callable_on Right a b may = All-tail Callable (plain_entry whole f) (entries_of a)
      (All-rest Callable (entries_of b) (plain_entry whole f ∷ entries_of a) (split_at b a may))

-- ---- a way that ends

-- where nothing stands the node is put in
root_alone : (put : Option NodeIndex) → put ≡ root_of (alone put)
root_alone None = refl
root_alone (Some i) = refl

alone_balanced : (put : Option NodeIndex) → IsHeightBalanced (alone put)
alone_balanced None = tt
alone_balanced (Some i) = (tt, tt, (omega arith, omega arith))

alone_low : (put : Option NodeIndex) → height (alone put) ≤ 1
alone_low None = omega arith
alone_low (Some i) = omega arith

pub nothing_there : {I V : Type 0} (whole : I → ℤ) (post : List (IntPoint I) → Ordering → Type 0) (x : ℤ)
    (es : List (LiveEdge I V)) (ls : List Links) (root put : Option NodeIndex) (t : Tree) → t ≡ Leaf →
    CanDescend ls root put t → IsPassed whole post x es ls ls t put put None
nothing_there whole post x es ls root put t is can = subst (λ u. IsPassed whole post x es ls ls u put put None) (sym is)
    (record {
      before = [];
      after = [];
      exchanged = record {
        same = refl;
        replaced = record {
          tree = alone put;
          rebuilt = record {
            at_root = record {
              is_root = root_alone put;
              stands = can.put_stands;
              distinct = alone_distinct put;
              balanced = alone_balanced put;
            };
            same = sym (append-nil (items (alone put)));
            kept = record { others = λ k out. refl; length_kept = refl };
          };
          near = (omega arith, alone_low put);
        };
      };
      parted = λ passes tells front. record {
        pass = λ k d lt. absurd (omega arith);
        fail = λ k d lt. absurd (omega arith);
        value = refl;
      };
    })

-- the top has ended
pub split_top : (ls : List Links) (i : NodeIndex) (t : Tree) → IsTreeAt ls (Some i) t →
    (l : Tree) × (r : Tree) × (t ≡ Fork l i.place r)
split_top ls i Leaf at = absurd (subst (λ o. MatchOption o ⊥ (λ _. Unit {0})) at.is_root tt)
split_top ls i (Fork l k r) at = (l, r, ap (λ n. Fork l n r) (sym (ap place_of at.is_root)))

pub top_ended : {I V : Type 0} (whole : I → ℤ) (post : List (IntPoint I) → Ordering → Type 0) (x : ℤ)
    (es : List (LiveEdge I V)) (ls new : List Links) (put root : Option NodeIndex) (i : ℕ) (l r t : Tree)
    (f : LiveEdge I V) →
    t ≡ Fork l i r → slice_get es i ≡ Some f → int_lt x (whole f.b.x) ≡ false →
    IsReplaced (items (Fork l i r)) ls new (Fork l i r) root (items l ++ items r) →
    IsDropped whole post x es ls new t put root i
top_ended whole post x es ls new put root i l r t f is there ended replaced =
    subst (λ u. IsDropped whole post x es ls new u put root i) (sym is) (record {
      before = items l;
      after = items r;
      exchanged = record {
        same = refl;
        replaced = subst (λ changed. IsReplaced changed ls new (Fork l i r) root (items l ++ items r))
            (sym (append-nil (items (Fork l i r)))) replaced;
      };
      entry = f;
      there = there;
      ended = ended;
    })

-- the top is a node
pub top_place : (ls : List Links) (root : Option NodeIndex) (i : NodeIndex) (t : Tree) → root ≡ Some i →
    IsTreeAt ls root t → i.place < length ls
top_place ls root i t is at = subst (λ o. IfSome o (λ n. n.place < length ls)) is
    (top_inside ls t root at.is_root at.stands)
