-- Look-ups and inserts in a tree one after another, and their total number of visits.
use Rattle.std.specs.Prelude.{◌≡◌, ℕ, ◌+◌, ◌*◌, ◌^◌, ◌<◌, ◌≤◌, ℤ, List, [], ◌∷◌, length}
use Rattle.overlay_scan.specs.Scan.{empty_sweep}
use Rattle.overlay_scan.specs.HeldEdges.{HeldEdges, held_sweep, IsQuick}

-- a call: the tree after it, and the number of edges that it inserts
pub record Call (I V : Type 0) : Type 0 where
  pub after : HeldEdges I V
  pub put : ℕ

-- each call is quick, beginning with the tree s
abbrev pub AreQuick : {I V : Type 0} → HeldEdges I V → List (Call I V) → Type 0
AreQuick s [] = Unit {0}
AreQuick s (c ∷ cs) = IsQuick s c.after c.put × AreQuick c.after cs

-- the tree after the last call
abbrev pub after_all : {I V : Type 0} → HeldEdges I V → List (Call I V) → HeldEdges I V
after_all s [] = s
after_all s (c ∷ cs) = after_all c.after cs

-- the number of edges that the calls insert
abbrev pub put_in_all : {I V : Type 0} → List (Call I V) → ℕ
put_in_all [] = 0
put_in_all (c ∷ cs) = c.put + put_in_all cs

-- let calls from an empty tree on insert k edges. They make at most 2 visits for each call and each inserted edge, for
-- each binary digit of k + 1
abbrev pub RunsAreQuick : {I : Type 0} → (I → ℤ) → Type 0 → Type 0
RunsAreQuick {I = I} whole V = (s : HeldEdges I V) (cs : List (Call I V)) → held_sweep whole s ≡ empty_sweep →
    AreQuick s cs → (digits : ℕ) → put_in_all cs + 1 < 2 ^ digits →
    (after_all s cs).visits ≤ s.visits + 2 * (length cs + put_in_all cs) * digits
