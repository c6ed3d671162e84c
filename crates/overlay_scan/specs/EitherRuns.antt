-- Look-ups and inserts one after another in a scan that may turn into a tree, and their total number of visits.
use Rattle.std.specs.Prelude.{◌≡◌, ℕ, ◌+◌, ◌*◌, ◌^◌, ◌<◌, ◌≤◌, ℤ, List, [], ◌∷◌, length}
use Rattle.overlay_scan.specs.EitherScans.{EitherEdges, either_sweep, IsQuickInEither}
use Rattle.overlay_scan.specs.Scan.{empty_sweep}

-- a call: the scan after it, and the number of edges that it inserts
pub record EitherCall (I V : Type 0) : Type 0 where
  pub after : EitherEdges I V
  pub put : ℕ

-- each call is quick, beginning with the scan s
abbrev pub AreQuickInEither : {I V : Type 0} → EitherEdges I V → List (EitherCall I V) → Type 0
AreQuickInEither s [] = Unit {0}
AreQuickInEither s (c ∷ cs) = IsQuickInEither s c.after c.put × AreQuickInEither c.after cs

-- the scan after the last call
abbrev pub after_each : {I V : Type 0} → EitherEdges I V → List (EitherCall I V) → EitherEdges I V
after_each s [] = s
after_each s (c ∷ cs) = after_each c.after cs

-- the number of edges that the calls insert
abbrev pub put_in_each : {I V : Type 0} → List (EitherCall I V) → ℕ
put_in_each [] = 0
put_in_each (c ∷ cs) = c.put + put_in_each cs

-- let calls from an empty scan on insert k edges. For each binary digit of k + 1 they make at most 2 visits for each
-- call and 4 for each inserted edge, also where the list turns into a tree
abbrev pub EitherRunsAreQuick : {I : Type 0} → (I → ℤ) → Type 0 → Type 0
EitherRunsAreQuick {I = I} whole V = (s : EitherEdges I V) (cs : List (EitherCall I V)) →
    either_sweep whole s ≡ empty_sweep → AreQuickInEither s cs → (digits : ℕ) → put_in_each cs + 1 < 2 ^ digits →
    (after_each s cs).held.visits ≤ s.held.visits + 2 * (length cs + 2 * put_in_each cs) * digits
