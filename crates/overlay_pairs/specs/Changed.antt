-- The edges of a list that may meet other edges elsewhere than in ends, and those of the next list.
use Rattle.std.specs.Prelude.{◌≡◌, ◌⊎◌, ℕ, ◌<◌, ◌≤◌, ℤ, Bool, true, false, List, length, All, AllPairs, Contains}
use Rattle.std.specs.Prelude.{IfSome}
use Rattle.overlay_geom.specs.Counts.{Counts}
use Rattle.overlay_geom.specs.Edges.{CountedEdge, ends_of}
use Rattle.overlay_order.specs.Content.{plain_edges}
use Rattle.overlay_pairs.specs.Strips.{AreHeldStripsOf}
use Rattle.overlay_pairs.specs.Places.{IsAt}
use Rattle.overlay_pairs.specs.Settle.{AreSettled}
use Rattle.overlay_pairs.specs.declared.changed.Changed.{Changed}

-- ---- open edges

-- at least one of the two places is marked as open
abbrev pub IsOneOpen : List Bool → ℕ → ℕ → Type 0
IsOneOpen opens i j = IsAt opens i true ⊎ IsAt opens j true

-- of an edge before place n and a later edge, at least one is open, or they meet in ends alone
pub record AreOpenBefore (es : List CountedEdge) (n : ℕ) (opens : List Bool) : Type 0 where
  pub count : length opens ≡ length es
  pub all : (i j : ℕ) (e f : CountedEdge) → i < n → i < j → IsAt es i e → IsAt es j f →
      IsOneOpen opens i j ⊎ AreSettled e f

-- of any two edges at different places, at least one is open, or they meet in ends alone
abbrev pub AreOpenIn : List CountedEdge → List Bool → Type 0
AreOpenIn es opens = AreOpenBefore es (length es) opens

-- open places stay open
abbrev pub StayOpen : List Bool → List Bool → Type 0
StayOpen old new = (k : ℕ) → IsAt old k true → IsAt new k true

-- ---- changed edges

-- an edge of the list before, not open, has the ends of the edge e
pub record WasClosed (before : List CountedEdge) (opens : List Bool) (e : CountedEdge) : Type 0 where
  pub place : ℕ
  pub edge : CountedEdge
  pub at : IsAt before place edge
  pub closed : IsAt opens place false
  pub ends : ends_of edge ≡ ends_of e

-- ascending places before place n, including that of each edge there that was not closed
pub record AreChangedBefore (es before : List CountedEdge) (opens : List Bool) (n : ℕ) (places : List ℕ) : Type 0 where
  pub ascending : AllPairs (λ i j. i < j) places
  pub within : All (λ i. i < n) places
  pub all : (i : ℕ) (e : CountedEdge) → i < n → IsAt es i e → Contains places i ⊎ WasClosed before opens e

-- cs are the edges of the list at the places, in their order
pub record StandAt (es : List CountedEdge) (places : List ℕ) (cs : List CountedEdge) : Type 0 where
  pub count : length cs ≡ length places
  pub at : (k i : ℕ) (c : CountedEdge) → IsAt places k i → IsAt cs k c → IsAt es i c

-- cs are the edges of the list at the places, which ascend. Any two edges at other places meet in ends alone
pub record AreChangesOf (es : List CountedEdge) (places : List ℕ) (cs : List CountedEdge) : Type 0 where
  pub ascending : AllPairs (λ i j. i < j) places
  pub stand : StandAt es places cs
  pub all : (i j : ℕ) (e f : CountedEdge) → i < j → IsAt es i e → IsAt es j f →
      Contains places i ⊎ (Contains places j ⊎ AreSettled e f)

-- the program's changed edges, with their strips, are such edges
pub record AreHeldChangesOf {I C A : Type 0} (whole : I → ℤ) (counts : C → Counts) (limit : ℕ)
    (es : List CountedEdge) (changed : Changed I C A) : Type 0 where
  pub changes : AreChangesOf es changed.places.items (plain_edges whole counts changed.edges.items)
  pub strips : IfSome changed.strips (AreHeldStripsOf whole limit (plain_edges whole counts changed.edges.items))

-- ---- places

-- exactly the numbers of the list before place k are less than i
pub record IsFirstFrom (places : List ℕ) (i k : ℕ) : Type 0 where
  pub within : k ≤ length places
  pub earlier : (m j : ℕ) → m < k → IsAt places m j → j < i
  pub later : (m j : ℕ) → k ≤ m → IsAt places m j → i ≤ j

-- js are the places at the numbers ks
pub record ArePlacesAt (places ks js : List ℕ) : Type 0 where
  pub count : length js ≡ length ks
  pub at : (n k j : ℕ) → IsAt ks n k → IsAt places k j → IsAt js n j
