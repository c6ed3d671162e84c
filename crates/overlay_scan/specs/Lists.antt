-- Lists of entries with the program's points as entries with whole points, and the test of the lower of two edges.
use Rattle.std.specs.Prelude.{◌≡◌, true, AllPairs, Bool, cond, not, ◌&&◌, ◌||◌, ℕ, ℤ, pos, int_lt, List, map}
use Rattle.std.specs.Ordering.{int_eq}
use Rattle.overlay_geom.specs.Plane.{Edge, cross_at}
use Rattle.overlay_geom.specs.Points.{plain_point, InRange}
use Rattle.overlay_scan.specs.Scan.{Entry}
use Rattle.overlay_scan.specs.declared.list.LiveEdge.{LiveEdge}

-- the edge between whole points, with the value
abbrev pub plain_entry : {I V : Type 0} → (I → ℤ) → LiveEdge I V → Entry V
plain_entry whole f = record { edge = record { a = plain_point whole f.a; b = plain_point whole f.b }; value = f.value }

-- the plain entry of each entry of a list
abbrev pub plain_entries : {I V : Type 0} → (I → ℤ) → List (LiveEdge I V) → List (Entry V)
plain_entries whole fs = map (plain_entry whole) fs

-- both ends of the edge are in the coordinate range
pub record IsInRange (limit : ℕ) (e : Edge) : Type 0 where
  pub a : InRange limit e.a
  pub b : InRange limit e.b

-- both edges are in the coordinate range, and f ends right of the start of e
pub record IsComparable (limit : ℕ) (f e : Edge) : Type 0 where
  pub one : IsInRange limit f
  pub other : IsInRange limit e
  pub ends : int_lt e.a.x f.b.x ≡ true

-- f is lower than e just right of the start of e: it passes below the start, or starts there to the right of e
abbrev pub is_lower_at_start : Edge → Edge → Bool
is_lower_at_start f e = int_lt (pos 0) (cross_at f.a f.b e.a) || (int_eq (cross_at f.a f.b e.a) (pos 0) && int_lt
    (pos 0) (cross_at e.a f.b e.b))

-- f is lower than e just right of the start of the edge that starts later
abbrev pub is_lower : Edge → Edge → Bool
is_lower f e = cond (int_lt e.a.x f.a.x) (not (is_lower_at_start e f)) (is_lower_at_start f e)

-- an item passes if a later item does
abbrev pub PassBefore : {X : Type 0} → (X → Bool) → List X → Type 0
PassBefore test xs = AllPairs (λ x y. test y ≡ true → test x ≡ true) xs
