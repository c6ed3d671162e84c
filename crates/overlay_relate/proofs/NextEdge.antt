-- The next edge of a sweep, read at its place.
use Rattle.std.proofs.Common.{◌≡◌, ℕ, ◌<◌, List, map, length, get_or, sym, subst}
use Rattle.std.proofs.lemmas.List.{length-map}
use Rattle.overlay_geom.specs.Plane.{Edge}
use Rattle.overlay_geom.proofs.Mapped.{read_mapped}
use Rattle.overlay_scan.specs.Scan.{Sweep, moved_to, IsSweep}
use Rattle.overlay_relate.specs.Sweeps.{AreSweepable, IsSwept}
use Rattle.overlay_relate.proofs.Swept.{may_move, later_starts, moved_on}

-- the first n edges are put in, and e is the one after them
pub record IsNextEdge (limit : ℕ) (fs : List Edge) (n : ℕ) (e : Edge) (s : Sweep ℕ) : Type 0 where
  pub within : n < length fs
  pub read : get_or fs n e ≡ e
  pub swept : IsSwept limit fs n s

pub next_read : {X : Type 0} (f : X → Edge) (limit : ℕ) (xs : List X) (m n : ℕ) (x : X) (s : Sweep ℕ) → n ≡ m →
    m < length xs → x ≡ get_or xs n x → IsSwept limit (map f xs) m s → IsNextEdge limit (map f xs) n (f x) s
next_read f limit xs m n x s same lt is swept =
    let within : n < length xs = subst (λ k. k < length xs) (sym same) lt in
    record {
      within = rw length-map within;
      read = read_mapped f xs n x (f x) within is;
      swept = subst (λ k. IsSwept limit (map f xs) k s) (sym same) swept;
    }

-- so it is once the sweep has moved on to where it starts
pub next_moved : (limit : ℕ) (fs : List Edge) → AreSweepable fs → (n : ℕ) (e : Edge) (s t : Sweep ℕ) →
    IsNextEdge limit fs n e s → t ≡ moved_to e.a.x s → IsSweep limit t → IsNextEdge limit fs n e t
next_moved limit fs sweepable n e s t next is state = record {
  within = next.within;
  read = next.read;
  swept = moved_on limit fs n s next.swept e.a.x (may_move fs sweepable n e next.within next.read limit s next.swept)
      (later_starts fs sweepable n e next.within next.read) t is state;
}
