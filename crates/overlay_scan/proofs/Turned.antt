-- A list that makes room for an edge, and a call after that.
use Rattle.std.proofs.Common.{◌≡◌, Bool, true, false, ℕ, ◌+◌, ◌*◌, ◌^◌, ◌<◌, ◌≤◌, ℤ, List}
use Rattle.std.proofs.Common.{length, Option, Some, refl, sym, ap, subst, ◌∙◌, arith}
use Rattle.std.proofs.lemmas.Int.{ints}
use Rattle.std.proofs.lemmas.Bool.{false≢true}
use Rattle.overlay_scan.specs.EitherScans.{EitherEdges, in_list, in_tree, HasTurnedInto, IsQuickInEither}
use Rattle.overlay_scan.specs.HeldEdges.{HeldEdges, held_sweep, IsQuick}
use Rattle.overlay_scan.specs.Lists.{plain_entries}
use Rattle.overlay_scan.specs.Scan.{Sweep, live_at, moved_to, MayMoveTo, IsSweep}
use Rattle.overlay_scan.specs.Turning.{IsReady, HasRoomOrTree, HasRoom}
use Rattle.overlay_scan.specs.declared.list.LiveEdge.{LiveEdge}
use Rattle.overlay_scan.proofs.Found.{live_twice}
use Rattle.overlay_scan.proofs.Moving.{sweep_moved}

-- a sweep that has moved to x is ready there
pub ready_moved : {V : Type 0} (limit : ℕ) (x : ℤ) (old new : Sweep V) → IsSweep limit old → MayMoveTo x old →
    new ≡ moved_to x old → IsReady limit x old new
ready_moved limit x old new state moves is = record {
  live = ap (λ s. live_at x s.entries) is ∙ live_twice x x (omega (arith, ints)) old.entries;
  state = sweep_moved limit x old new state moves is;
  moves = subst (MayMoveTo x) (sym is) (omega (arith, ints));
}

module _ {I V : Type 0} (whole : I → ℤ) (limit : ℕ) (x : ℤ) (most : ℕ) (es : List (LiveEdge I V)) (t : HeldEdges I V)
    (made : HasRoomOrTree whole limit x most es (Some t)) where
  -- a tree of the live edges too
  pub ready_in_tree : (old : Sweep V) → plain_entries whole es ≡ live_at x old.entries →
      IsReady limit x old (held_sweep whole t)
  ready_in_tree old are = record {
    live = ap (live_at x) (made.0.entries ∙ are) ∙ live_twice x x (omega (arith, ints)) old.entries;
    state = made.0.state;
    moves = made.0.moves;
  }

  -- a full list turns into it
  pub has_turned : (old : List (LiveEdge I V)) (reached : Option I) → most ≤ length old → length es ≤ length old →
      HasRoom (in_list old reached most) (in_tree t most)
  has_turned old reached full fewer = record {
    same = refl;
    tree = λ is. absurd (false≢true is);
    list = λ was is. absurd (false≢true (sym is));
    turns = λ was is. record {
      full = full;
      half = let half = made.1 in let count = made.0.count in omega arith;
      no_more = let count = made.0.count in omega arith;
      few = subst (λ n. (digits : ℕ) → n < 2 ^ digits → t.visits ≤ 0 + 2 * n * digits) (sym made.0.count)
          (λ digits low. let visits = made.0.few digits low in omega arith);
    };
  }

-- ---- a call that inserts `put` edges, after room was made

module _ {I V : Type 0} (old room : EitherEdges I V) (made : HasRoom old room) (most put : ℕ) where
  -- in a list
  pub quick_in_list : (es now : List (LiveEdge I V)) (reached from : Option I) → room ≡ in_list es reached most →
      put ≤ 1 → length now ≤ length es + put → IsQuickInEither old (in_list now from most) put
  quick_in_list es now reached from is few no_more = record {
    same = sym (ap (λ s. s.most) is) ∙ made.same;
    many = record { many = λ over. absurd (by old.is_tree refl over) };
    tree = λ was. absurd (false≢true (sym (in_room was)));
    list = λ was still. let kept = made.list was (ap (λ s. s.is_tree) is) in (
      let held = long in let fewer = kept.0 in omega arith,
      ap (λ s. s.held.visits) (sym is) ∙ kept.2,
    );
    turns = λ was turned. absurd (false≢true turned);
  }
    where
      in_room : old.is_tree ≡ true → true ≡ false
      in_room was = sym was ∙ ap (λ s. s.is_tree) (sym (made.tree was) ∙ is)

      long : length room.held.entries ≡ length es
      long = ap (λ s. length s.held.entries) is

      by : (b : Bool) → old.is_tree ≡ b → most < length now → ⊥
      by true was over = false≢true (sym (in_room was))
      by false was over =
          let kept = made.list was (ap (λ s. s.is_tree) is) in
          let less = kept.1 in
          let number : room.most ≡ most = ap (λ s. s.most) is in
          let held = long in
          omega arith

  -- in a tree
  pub quick_in_tree : (t now : HeldEdges I V) → room ≡ in_tree t most → IsQuick t now put →
      IsQuickInEither old (in_tree now most) put
  quick_in_tree t now is quick = record {
    same = sym (ap (λ s. s.most) is) ∙ made.same;
    many = record { many = λ over. refl };
    tree = λ was. (refl, subst (λ s. IsQuick s.held now put) (sym is ∙ made.tree was) quick);
    list = λ was still. absurd (false≢true (sym still));
    turns = λ was turned. record {
      tree = t;
      into = subst (λ s. HasTurnedInto old s.held) is (made.turns was (ap (λ s. s.is_tree) is));
      quick = quick;
    };
  }
