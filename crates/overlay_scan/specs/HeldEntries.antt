-- Edges held from bottom to top, some of them perhaps ended, and the sweep that they stand for.
use Rattle.std.specs.Prelude.{◌≡◌, Bool, true, false, not, ℕ, ℤ, List, ◌++◌, length, All, Option, None, Some}
use Rattle.std.specs.Prelude.{option_map}
use Rattle.std.specs.List.{last_or}
use Rattle.std.specs.Ordering.{is_gt}
use Rattle.std.specs.declared.cmp.Ordering.{Ordering}
use Rattle.overlay_geom.specs.declared.point.IntPoint.{IntPoint}
use Rattle.overlay_scan.specs.Lists.{plain_entries, PassBefore}
use Rattle.overlay_scan.specs.Scan.{Entry, Sweep, live_at, HoldsOfLine}
use Rattle.overlay_scan.specs.declared.list.LiveEdge.{LiveEdge}
use Rattle.overlay_scan.specs.declared.list.ScanList.{ScanList}

-- the held edges that are live at x
abbrev pub live_of : {I V : Type 0} → (I → ℤ) → ℤ → List (LiveEdge I V) → List (Entry V)
live_of whole x es = live_at x (plain_entries whole es)

-- the entries that are live where the sweep is, and all entries before it begins
abbrev pub live_where : {V : Type 0} → Option ℤ → List (Entry V) → List (Entry V)
live_where None fs = fs
live_where (Some x) fs = live_at x fs

-- the sweep of held edges at the x-coordinate that it has come to: their live entries
abbrev pub sweep_of : {I V : Type 0} → (I → ℤ) → List (LiveEdge I V) → Option I → Sweep V
sweep_of whole es reached = record {
  entries = live_where (option_map whole reached) (plain_entries whole es);
  reached = option_map whole reached;
}

-- the sweep of a list
abbrev pub plain_sweep : {I V A W U : Type 0} → (I → ℤ) → ScanList I V A W U → Sweep V
plain_sweep whole s = sweep_of whole s.live s.reached

-- the number of edges that a list holds
abbrev pub held_count : {I V A W U : Type 0} → ScanList I V A W U → ℕ
held_count s = length s.live

-- the order's answers tell the entries that pass
abbrev pub Tells : {I V : Type 0} → (I → ℤ) → (List (IntPoint I) → Ordering → Type 0) → (Entry V → Bool) → List
    (Entry V) → Type 0
Tells whole post passes fs = All (λ f. HoldsOfLine whole f.edge
    (λ line. (o : Ordering) → post line o → not (is_gt o) ≡ passes f)) fs

-- the entries before pass, those after do not, and the value is that of the last entry before
pub record IsParted {V : Type 0} (passes : Entry V → Bool) (before after : List (Entry V)) (v : Option V) : Type 0 where
  pub pass : All (λ f. passes f ≡ true) before
  pub fail : All (λ f. passes f ≡ false) after
  pub value : v ≡ option_map (λ (f : Entry V). f.value) (last_or None before)

-- a look-up or an insert at x divides the live entries, and inserts others between the parts
pub record IsLookedUp {I V : Type 0} (whole : I → ℤ) (post : List (IntPoint I) → Ordering → Type 0) (x : ℤ)
    (old new : List (LiveEdge I V)) (put : List (Entry V)) (v : Option V) : Type 0 where
  pub before : List (Entry V)
  pub after : List (Entry V)
  pub was : live_of whole x old ≡ before ++ after
  pub now : live_of whole x new ≡ before ++ (put ++ after)
  pub parted : (passes : Entry V → Bool) → Tells whole post passes (live_of whole x old) →
      PassBefore passes (live_of whole x old) → IsParted passes before after v
