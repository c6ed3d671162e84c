-- Entries of a list and their places; the edges of a list that meet later edges in ends alone.
use Rattle.std.specs.Prelude.{◌≡◌, ℕ, ◌<◌, ◌≤◌, ℤ, ◌<ℤ◌, List, length, slice_index_or}
use Rattle.overlay_geom.specs.Edges.{CountedEdge}
use Rattle.overlay_pairs.specs.Settle.{AreSettled}

-- x is the entry at place i
abbrev pub IsAt : {X : Type 0} → List X → ℕ → X → Type 0
IsAt xs i x = (i < length xs) × (slice_index_or xs i x ≡ x)

-- the edge at the place `end`, which does not come before the place `first`, starts right of x
pub record IsRunEnd (es : List CountedEdge) (x : ℤ) (first end : ℕ) : Type 0 where
  pub ordered : first ≤ end
  pub within : end ≤ length es
  pub right : (f : CountedEdge) → IsAt es end f → x <ℤ f.a.x

-- the edge at place i meets the edges after it, up to place j, in ends alone
abbrev pub AreSettledUpTo : List CountedEdge → ℕ → ℕ → Type 0
AreSettledUpTo es i j = (k : ℕ) (e f : CountedEdge) → i < k → k < j → IsAt es i e → IsAt es k f → AreSettled e f

-- the edges before place n meet each later edge in ends alone
pub record AreSettledBefore (es : List CountedEdge) (n : ℕ) : Type 0 where
  pub within : n ≤ length es
  pub meet : (k : ℕ) → k < n → AreSettledUpTo es k (length es)
