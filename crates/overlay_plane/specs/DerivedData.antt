-- Derived data: values that edges carry through cutting rounds. They are merged where equal edges are merged, split
-- where an edge is cut, and reversed where a piece runs against its edge.
use Rattle.std.specs.Prelude.{◌≡◌, MatchBool, List, [], ◌∷◌, ◌++◌, map, length, filter, All}
use Rattle.std.specs.List.Sorted.{IsPermutation}
use Rattle.overlay_geom.specs.Plane.{Step, Edge, edge_eq, is_forward, steps_through}
use Rattle.overlay_geom.specs.Edges.{CountedEdge, ends_of}
use Rattle.overlay_plane.specs.Carried.{Carried, edges_in}
use Rattle.overlay_plane.specs.CutPoints.{cut_points}
use Rattle.overlay_plane.specs.Cutting.{piece_along}
use Rattle.overlay_plane.specs.Rounds.{Round, chain_of}

-- ---- merging

-- the values of the edges of the list that have these ends
abbrev pub carried_between : {C : Type 0} → List (Carried C) → Edge → List C
carried_between xs e = map (λ x. x.carries) (filter (λ x. edge_eq (ends_of x.edge) e) xs)

-- merging the values two by two, in some order, can give this value
pub data IsMergeOf {C : Type 0} (merges : C → C → C → Type 0) : List C → C → Type 0 where
  one : {c : C} → IsMergeOf merges (c ∷ []) c
  two : {cs ks all : List C} {c k m : C} → IsPermutation (cs ++ ks) all → IsMergeOf merges cs c →
      IsMergeOf merges ks k →
      merges c k m → IsMergeOf merges all m

-- each edge of the second list carries a merge of the values of the first list's edges with its ends
abbrev pub CarriesMerged : {C : Type 0} → (C → C → C → Type 0) → List (Carried C) → List (Carried C) → Type 0
CarriesMerged merges old new = All (λ x. IsMergeOf merges (carried_between old (ends_of x.edge)) x.carries) new

-- ---- cutting

-- each entry of the first list gives a part of the second list, in order
pub data AreGiven {X Y : Type 0} (gives : X → List Y → Type 0) : List X → List Y → Type 0 where
  none : AreGiven gives [] []
  next : {x : X} {xs : List X} {part rest : List Y} → gives x part → AreGiven gives xs rest →
      AreGiven gives (x ∷ xs) (part ++ rest)

-- y is the piece of the edge x along a step of its chain. It carries the value of x where the chain is the edge itself,
-- else a split of it. Where the step leads back, this value is reversed
pub record IsPieceOf {C : Type 0} (splits reverses : C → C → Type 0) (IsWhole : Type 0) (x : Carried C) (s : Step)
    (y : Carried C) : Type 0 where
  pub edge : y.edge ≡ piece_along x.edge s
  pub part : C
  pub kept : IsWhole → part ≡ x.carries
  pub split : ¬ IsWhole → splits x.carries part
  pub reversed : MatchBool (is_forward s) (y.carries ≡ part) (reverses part y.carries)

-- the step gives exactly one piece
abbrev pub GivesPiece : {C : Type 0} → (C → C → Type 0) → (C → C → Type 0) → Type 0 → Carried C → Step →
    List (Carried C) → Type 0
GivesPiece {C} splits reverses IsWhole x s ys = (y : Carried C) × (ys ≡ y ∷ [])
    × IsPieceOf splits reverses IsWhole x s y

-- the pieces of an edge along its chain; a chain of one step is the edge itself
abbrev pub ArePieces : {C : Type 0} → (C → C → Type 0) → (C → C → Type 0) → (CountedEdge → List Step) → Carried C →
    List (Carried C) → Type 0
ArePieces splits reverses chain x ys = AreGiven (GivesPiece splits reverses (length (chain x.edge) ≡ 1) x)
    (chain x.edge) ys

-- the second list is the first with each edge replaced by its pieces
abbrev pub AreCutAlong : {C : Type 0} → (C → C → Type 0) → (C → C → Type 0) → (CountedEdge → List Step) →
    List (Carried C) → List (Carried C) → Type 0
AreCutAlong splits reverses chain xs ys = AreGiven (ArePieces splits reverses chain) xs ys

-- the chain of an edge through the points computed pair by pair
abbrev pub computed_chain : List CountedEdge → CountedEdge → List Step
computed_chain es e = steps_through e.a (cut_points es e ++ e.b ∷ [])

-- ---- rounds

-- the values of the second list derive, along these rounds, from those of the first. Each round merges, and cuts the
-- edges that it keeps along its chains; at the end the remaining edges are merged
pub data AreDerived {C : Type 0} (merges : C → C → C → Type 0) (splits reverses : C → C → Type 0) :
    List Round → List (Carried C) → List (Carried C) → Type 0 where
  done : {old new : List (Carried C)} → CarriesMerged merges old new → AreDerived merges splits reverses [] old new
  round : {r : Round} {rs : List Round} {old kept left new : List (Carried C)} → edges_in kept ≡ r.edges →
      CarriesMerged merges old kept → AreCutAlong splits reverses (chain_of r) kept left →
      AreDerived merges splits reverses rs left new → AreDerived merges splits reverses (r ∷ rs) old new
