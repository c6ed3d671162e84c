-- Closed contours of edges with data, in which an edge that goes straight on from the one before it is joined with it
-- where both have equal filled sides and equal data.
use Rattle.std.specs.Prelude.{◌≡◌, ℕ, suc, ◌≤◌, Bool, true, ⊤, List, [], ◌∷◌, ◌++◌, length, All}
use Rattle.std.specs.Prelude.{MatchBool}
use Rattle.overlay_geom.specs.Points.{InRange}
use Rattle.overlay_geom.specs.Thinned.{IsOnOneLine}
use Rattle.overlay_vector.specs.DataVectors.{DataVector}

-- the second edge begins where the first one ends, on the same line, and has equal filled sides and equal data
pub record AreJoinable {D : Type 0} (eq : D → D → Bool) (v w : DataVector D) : Type 0 where
  pub follows : w.a ≡ v.b
  pub straight : IsOnOneLine v.a v.b w.b
  pub same_fill : w.fill ≡ v.fill
  pub same_data : eq v.data_of w.data_of ≡ true

-- one edge for both, with the data of the first
abbrev pub joined : {D : Type 0} → DataVector D → DataVector D → DataVector D
joined v w = record { a = v.a; b = w.b; fill = v.fill; data_of = v.data_of }

-- the closed list becomes the other, up to where it begins, by joining neighbours, one pair after another
pub data Becomes {D : Type 0} (eq : D → D → Bool) : List (DataVector D) → List (DataVector D) → Type 0 where
  stays : {vs : List (DataVector D)} → Becomes eq vs vs
  begins_later : {v : DataVector D} {vs ws : List (DataVector D)} → Becomes eq (vs ++ v ∷ []) ws →
      Becomes eq (v ∷ vs) ws
  joins : {v w : DataVector D} {vs ws : List (DataVector D)} → AreJoinable eq v w →
      Becomes eq (joined v w ∷ vs) ws → Becomes eq (v ∷ w ∷ vs) ws

-- no two neighbours of the list can be joined
abbrev pub NoneJoinable : {D : Type 0} → (D → D → Bool) → List (DataVector D) → Type 0
NoneJoinable eq [] = ⊤
NoneJoinable eq (v ∷ []) = ⊤
NoneJoinable eq (v ∷ w ∷ vs) = (¬ (AreJoinable eq v w)) × NoneJoinable eq (w ∷ vs)

-- of two edges or more in a closed list no two neighbours can be joined, nor the last one and the first
abbrev pub NoneLeft : {D : Type 0} → (D → D → Bool) → List (DataVector D) → Type 0
NoneLeft eq [] = ⊤
NoneLeft eq (v ∷ []) = ⊤
NoneLeft eq (v ∷ w ∷ vs) = NoneJoinable eq (v ∷ w ∷ vs ++ v ∷ [])

-- the closed list becomes the other by joining neighbours, until none are left that can be joined
pub record IsJoined {D : Type 0} (eq : D → D → Bool) (vs ws : List (DataVector D)) : Type 0 where
  pub becomes : Becomes eq vs ws
  pub none_left : NoneLeft eq ws

-- the contour is taken as given where edges are kept, and joined otherwise
abbrev pub IsKeptOrJoined : {D : Type 0} → (D → D → Bool) → Bool → List (DataVector D) → List (DataVector D) → Type 0
IsKeptOrJoined eq keep given taken = MatchBool keep (taken ≡ given) (IsJoined eq given taken)

-- both ends of the edge are in range
pub record IsInRange {D : Type 0} (limit : ℕ) (v : DataVector D) : Type 0 where
  pub a : InRange limit v.a
  pub b : InRange limit v.b

-- the second list is what the first one becomes with the edge behind it, whatever follows; it has no neighbours that
-- can be joined, is in range, and has no more than one edge more
pub record IsAppended {D : Type 0} (eq : D → D → Bool) (limit : ℕ) (vs : List (DataVector D)) (v : DataVector D)
    (ws : List (DataVector D)) : Type 0 where
  pub becomes : (rest : List (DataVector D)) → Becomes eq (vs ++ v ∷ rest) (ws ++ rest)
  pub inside : NoneJoinable eq ws
  pub in_range : All (IsInRange limit) ws
  pub at_most : length ws ≤ suc (length vs)
