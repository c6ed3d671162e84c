-- The model of a scan that begins as a list and turns into a tree.
use Rattle.std.specs.Prelude.{◌≡◌, ℕ, ◌+◌, ◌*◌, ◌^◌, ◌<◌, ◌≤◌, ℤ, Bool, true, false, List, length}
use Rattle.std.specs.Prelude.{Option}
use Rattle.overlay_scan.specs.Scan.{Sweep}
use Rattle.overlay_scan.specs.HeldEdges.{HeldEdges, held_sweep, IsQuick}
use Rattle.overlay_scan.specs.declared.list.LiveEdge.{LiveEdge}
use Rattle.overlay_scan.specs.declared.tree.either.Kept.{Kept}
use Rattle.overlay_scan.specs.declared.tree.either.Kept.TheVariants.{Listed, Treed}

-- the held edges, in a list or in a tree, and the greatest number of edges that a list holds
pub record EitherEdges (I V : Type 0) : Type 0 where
  pub held : HeldEdges I V
  pub is_tree : Bool
  pub most : ℕ

-- the edges that a list or a tree holds. A list counts no visits
abbrev pub kept_edges : {I V A W U : Type 0} → Kept I V A W U → HeldEdges I V
kept_edges (Listed s) = record { entries = s.live; reached = s.reached; visits = 0 }
kept_edges (Treed s) = s

-- a tree keeps them
abbrev pub is_kept_in_tree : {I V A W U : Type 0} → Kept I V A W U → Bool
is_kept_in_tree (Listed s) = false
is_kept_in_tree (Treed s) = true

-- what a scan with this number holds
abbrev pub either_edges : {I V A W U : Type 0} → Kept I V A W U → ℕ → EitherEdges I V
either_edges kept most = record { held = kept_edges kept; is_tree = is_kept_in_tree kept; most = most }

-- a list of edges, which has come to an x
abbrev pub in_list : {I V : Type 0} → List (LiveEdge I V) → Option I → ℕ → EitherEdges I V
in_list es reached most = record {
  held = record { entries = es; reached = reached; visits = 0 };
  is_tree = false;
  most = most;
}

-- a tree of edges
abbrev pub in_tree : {I V : Type 0} → HeldEdges I V → ℕ → EitherEdges I V
in_tree t most = record { held = t; is_tree = true; most = most }

-- the sweep that a scan stands for
abbrev pub either_sweep : {I V : Type 0} → (I → ℤ) → EitherEdges I V → Sweep V
either_sweep whole s = held_sweep whole s.held

-- a scan that holds more edges than its number is a tree
pub record HoldsManyAsTree {I V : Type 0} (s : EitherEdges I V) : Type 0 where
  pub many : s.most < length s.held.entries → s.is_tree ≡ true

-- a full list has moved its live edges into a tree, by few visits. They were half of the number or more
pub record HasTurnedInto {I V : Type 0} (old : EitherEdges I V) (tree : HeldEdges I V) : Type 0 where
  pub full : old.most ≤ length old.held.entries
  pub half : old.most ≤ 2 * length tree.entries + 1
  pub no_more : length tree.entries ≤ length old.held.entries
  pub few : (digits : ℕ) → length tree.entries < 2 ^ digits →
      tree.visits ≤ old.held.visits + 2 * length tree.entries * digits

-- a list has turned into a tree, and then a call there that inserts `put` edges is quick
pub record HasTurned {I V : Type 0} (old new : EitherEdges I V) (put : ℕ) : Type 0 where
  pub tree : HeldEdges I V
  pub into : HasTurnedInto old tree
  pub quick : IsQuick tree new.held put

-- a call that inserts `put` edges leaves a tree a tree, and is quick there. A list holds at most `put` edges more, and
-- visits none, or it turns
pub record IsQuickInEither {I V : Type 0} (old new : EitherEdges I V) (put : ℕ) : Type 0 where
  pub same : new.most ≡ old.most
  pub many : HoldsManyAsTree new
  pub tree : old.is_tree ≡ true → (new.is_tree ≡ true) × IsQuick old.held new.held put
  pub list : old.is_tree ≡ false → new.is_tree ≡ false →
      (length new.held.entries ≤ length old.held.entries + put) × (new.held.visits ≡ old.held.visits)
  pub turns : old.is_tree ≡ false → new.is_tree ≡ true → HasTurned old new put
