-- Lists whose entries have an edge each: lists that lead forward, meet in ends alone, or are balanced.
use Rattle.std.specs.Prelude.{◌≡◌, true, false, ℤ, pos, ◌-ℤ◌, ◌*ℤ◌, List, All, Contains}
use Rattle.overlay_geom.specs.Plane.{Point, Edge, point_lt, edge_eq, total}
use Rattle.overlay_geom.specs.Settled.{MeetInEnds}

-- each edge leads from its smaller end to its larger one
abbrev pub IsForwardBy : {X : Type 0} → (X → Edge) → List X → Type 0
IsForwardBy ends xs = All (λ x. point_lt (ends x).a (ends x).b ≡ true) xs

-- e meets each different edge of the list in ends alone
abbrev pub MeetsAll : {X : Type 0} → (X → Edge) → List X → Edge → Type 0
MeetsAll {X} ends xs e = (x : X) → Contains xs x → edge_eq e (ends x) ≡ false → MeetInEnds e (ends x)

-- the list is balanced: for every number g given to each point, the rises of the counted edges sum to 0
abbrev pub IsBalanced : {X : Type 0} → (X → Edge) → (X → ℤ) → List X → Type 0
IsBalanced ends count xs = (g : Point → ℤ) → total (λ x. count x *ℤ (g (ends x).b -ℤ g (ends x).a)) xs ≡ pos 0
