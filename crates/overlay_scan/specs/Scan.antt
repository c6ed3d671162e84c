-- The live edges of a sweep, from bottom to top, each with a value.
use Rattle.std.specs.Prelude.{◌≡◌, Bool, true, false, not, ℕ, ℤ, pos, ◌≤ℤ◌, int_lt, List, [], ◌∷◌, ◌++◌, filter, All}
use Rattle.std.specs.Prelude.{AllPairs, Option, Some, None, IfSome}
use Rattle.std.specs.Option.{MatchOption}
use Rattle.std.specs.List.{last_or}
use Rattle.std.specs.Ordering.{is_gt}
use Rattle.std.specs.declared.cmp.Ordering.{Ordering}
use Rattle.std.specs.declared.cmp.Ordering.TheVariants.{Less, Greater}
use Rattle.overlay_geom.specs.Plane.{Edge, edge_eq, point_lt}
use Rattle.overlay_geom.specs.Points.{plain_point, InRange}
use Rattle.overlay_geom.specs.Settled.{MeetInEnds}
use Rattle.overlay_geom.specs.declared.point.IntPoint.{IntPoint}
use Rattle.overlay_plane.specs.Anchors.{is_below_anchor}
use Rattle.overlay_plane.specs.Heights.{covers, is_under}

-- an edge, and the value inserted with it
pub record Entry (V : Type 0) : Type 0 where
  pub edge : Edge
  pub value : V

-- the entries from bottom to top, and the x-coordinate that the sweep has come to, or none before it begins
pub record Sweep (V : Type 0) : Type 0 where
  pub entries : List (Entry V)
  pub reached : Option ℤ

-- no entries, before the sweep begins
abbrev pub empty_sweep : {V : Type 0} → Sweep V
empty_sweep = record { entries = []; reached = None }

-- the entries live at x: those that end right of it
abbrev pub live_at : {V : Type 0} → ℤ → List (Entry V) → List (Entry V)
live_at x fs = filter (λ f. int_lt x f.edge.b.x) fs

-- the sweep has not come past x
abbrev pub MayMoveTo : {V : Type 0} → ℤ → Sweep V → Type 0
MayMoveTo x s = IfSome s.reached (λ reached. reached ≤ℤ x)

-- the sweep at x, with the entries live there
abbrev pub moved_to : {V : Type 0} → ℤ → Sweep V → Sweep V
moved_to x s = record { entries = live_at x s.entries; reached = Some x }

-- ---- valid sweeps

-- both ends are in the coordinate range, and x is in the edge's span without its right end
pub record IsOver (limit : ℕ) (x : ℤ) (e : Edge) : Type 0 where
  pub a_in_range : InRange limit e.a
  pub b_in_range : InRange limit e.b
  pub over : covers e x (pos 1) ≡ true

-- a forward edge that starts at x, perhaps vertical, with both ends in the coordinate range
pub record IsAsked (limit : ℕ) (x : ℤ) (e : Edge) : Type 0 where
  pub a_in_range : InRange limit e.a
  pub b_in_range : InRange limit e.b
  pub forward : point_lt e.a e.b ≡ true
  pub starts : e.a.x ≡ x

-- just right of x, each entry is under all later ones
abbrev pub IsFromBottomToTop : {V : Type 0} → ℤ → List (Entry V) → Type 0
IsFromBottomToTop x fs = AllPairs (λ f g. is_under f.edge g.edge x (pos 1) ≡ true) fs

-- the entries are over x, meet one another in ends alone, and are in order there
pub record AreLive {V : Type 0} (limit : ℕ) (x : ℤ) (fs : List (Entry V)) : Type 0 where
  pub over : All (λ f. IsOver limit x f.edge) fs
  pub apart : AllPairs (λ f g. MeetInEnds f.edge g.edge) fs
  pub order : IsFromBottomToTop x fs

-- the entries are live at the x-coordinate that the sweep has come to; before it begins there are none
abbrev pub IsSweep : {V : Type 0} → ℕ → Sweep V → Type 0
IsSweep limit s = MatchOption s.reached (s.entries ≡ []) (λ x. AreLive limit x s.entries)

-- e meets each entry with another edge in ends alone
abbrev pub MeetsOthers : {V : Type 0} → Edge → List (Entry V) → Type 0
MeetsOthers e fs = All (λ f. edge_eq e f.edge ≡ false → MeetInEnds e f.edge) fs

-- no entry has the edge e
abbrev pub IsNewAmong : {V : Type 0} → Edge → List (Entry V) → Type 0
IsNewAmong e fs = All (λ f. edge_eq e f.edge ≡ false) fs

-- ---- inserting

-- n is inserted above the entries that are under it at x, and below those that it is under
pub record IsPutIn {V : Type 0} (x : ℤ) (n : Entry V) (live new : List (Entry V)) : Type 0 where
  pub before : List (Entry V)
  pub after : List (Entry V)
  pub live_is : live ≡ before ++ after
  pub new_is : new ≡ before ++ n ∷ after
  pub under : All (λ f. is_under f.edge n.edge x (pos 1) ≡ true) before
  pub over : All (λ f. is_under n.edge f.edge x (pos 1) ≡ true) after

-- ---- looking up

-- the last entry that passes the test
abbrev pub last_entry : {V : Type 0} → (Entry V → Bool) → List (Entry V) → Option (Entry V)
last_entry test fs = last_or None (filter test fs)

-- the value of an entry, or the default if there is none
abbrev pub value_or : {V : Type 0} → V → Option (Entry V) → V
value_or default None = default
value_or default (Some f) = f.value

-- the last entry below the start of e: strictly below it, or starting there with a smaller slope. A vertical edge has
-- the greatest slope
abbrev pub entry_below : {V : Type 0} → Edge → List (Entry V) → Option (Entry V)
entry_below e fs = last_entry (λ f. is_below_anchor e f.edge) fs

-- the value of that entry, or the default if there is none
abbrev pub value_below : {V : Type 0} → V → Edge → List (Entry V) → V
value_below default e fs = value_or default (entry_below e fs)

-- the value of the last entry whose edge's answer is not Greater, or the default if there is none
abbrev pub value_up_to : {V : Type 0} → V → (Edge → Ordering) → List (Entry V) → V
value_up_to default answer fs = value_or default (last_entry (λ f. not (is_gt (answer f.edge))) fs)

-- in the order Less, Equal, Greater, o does not come after p
pub record IsAtMost (o p : Ordering) : Type 0 where
  pub greater : o ≡ Greater → p ≡ Greater
  pub less : p ≡ Less → o ≡ Less

-- from bottom to top the edges' answers are Less, then Equal, then Greater
abbrev pub AnswersRise : {V : Type 0} → (Edge → Ordering) → List (Entry V) → Type 0
AnswersRise answer fs = AllPairs (λ f g. IsAtMost (answer f.edge) (answer g.edge)) fs

-- a fact of each line between the ends of an edge
abbrev pub HoldsOfLine : {I : Type 0} → (I → ℤ) → Edge → (List (IntPoint I) → Type 0) → Type 0
HoldsOfLine whole e P = (a b : _) → plain_point whole a ≡ e.a → plain_point whole b ≡ e.b → P (a ∷ b ∷ [])

-- a closure with this precondition may be called with each entry's line
abbrev pub IsCallableOn : {I V : Type 0} → (I → ℤ) → (List (IntPoint I) → Type 0) → List (Entry V) → Type 0
IsCallableOn whole pre fs = All (λ f. HoldsOfLine whole f.edge pre) fs

-- a closure with this postcondition gives for each entry's line the answer of its edge
abbrev pub IsAnsweredBy : {I V : Type 0} → (I → ℤ) → (List (IntPoint I) → Ordering → Type 0) →
    (Edge → Ordering) → List (Entry V) → Type 0
IsAnsweredBy whole post answer fs =
    All (λ f. HoldsOfLine whole f.edge (λ line. (o : Ordering) → post line o → o ≡ answer f.edge)) fs
