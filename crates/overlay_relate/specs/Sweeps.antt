-- The sweep over the edges of a contour that tells where points lie.
use Rattle.std.specs.Prelude.{◌≡◌, ◌⊎◌, ℕ, ◌<◌, ◌≤◌, Bool, true, false, not, ℤ, pos, ◌<ℤ◌, ◌≤ℤ◌, int_lt, List, map}
use Rattle.std.specs.Prelude.{length, take, drop, slice_index_or, All, AllPairs, Contains}
use Rattle.std.specs.Ordering.{int_cmp}
use Rattle.std.specs.declared.cmp.Ordering.{Ordering}
use Rattle.overlay_geom.specs.Plane.{Point, Edge, point_lt, edge_eq, midpoint, side, cross_at, in_plane}
use Rattle.overlay_geom.specs.Points.{plain_point}
use Rattle.overlay_geom.specs.Resolved.{edges_of, IsResolved}
use Rattle.overlay_geom.specs.Settled.{IsSettledBy}
use Rattle.overlay_plane.specs.Anchors.{is_anchored_before}
use Rattle.overlay_plane.specs.Heights.{covers, is_under}
use Rattle.overlay_scan.specs.Scan.{Entry, Sweep, MayMoveTo, IsSweep}
use Rattle.overlay_relate.specs.Answers.{AnswersEach}
use Rattle.overlay_relate.specs.Locations.{odd_below}
use Rattle.overlay_relate.specs.declared.wide_edge.WideEdge.{WideEdge}

-- the edge at a wide edge's numbers, and those of a list
abbrev pub wide_edge : {I W U : Type 0} {i w u : _} → (I → ℤ) → WideEdge I W U i w u → Edge
wide_edge whole e = record { a = plain_point whole e.a; b = plain_point whole e.b }

abbrev pub wide_edges : {I W U : Type 0} {i w u : _} → (I → ℤ) → List (WideEdge I W U i w u) → List Edge
wide_edges whole es = map (wide_edge whole) es

-- the edge is not vertical
abbrev pub is_wide : Edge → Bool
is_wide e = int_lt e.a.x e.b.x

-- they are the edges of a resolved contour
pub record AreOfContour (es : List Edge) : Type 0 where
  pub contour : List Point
  pub is : es ≡ edges_of contour
  pub resolved : IsResolved contour
  pub forward : All (λ e. point_lt e.a e.b ≡ true) es

-- the edges may be put in one after the other: they are not vertical, meet in ends alone, stand once each, by their
-- starts
pub record AreSweepable (fs : List Edge) : Type 0 where
  pub wide : All (λ e. e.a.x <ℤ e.b.x) fs
  pub settled : IsSettledBy (λ e. e) fs
  pub distinct : AllPairs (λ e f. edge_eq e f ≡ false) fs
  pub order : AllPairs (λ e f. is_anchored_before f e ≡ false) fs

-- they are the edges of es that are not vertical, by their starts
pub record AreByStart (es fs : List Edge) : Type 0 where
  pub from : (e : Edge) → Contains fs e → Contains es e
  pub all : (e : Edge) → Contains es e → e.a.x <ℤ e.b.x → Contains fs e
  pub sweepable : AreSweepable fs

-- just above the middle of the edge an odd number of the edges is below
abbrev pub inside_above : List Edge → Edge → Bool
inside_above es e = not (odd_below es (midpoint e))

-- of each of the first edges it is told whether it is inside above it
abbrev pub AreTold : List Edge → List Edge → List Bool → Type 0
AreTold es fs inside = AnswersEach (λ e t. t ≡ inside_above es e) (take (length inside) fs) inside

-- the sweep holds those of the first n edges that have not ended, each with its place, and may move on to the others
pub record IsSwept (limit : ℕ) (fs : List Edge) (n : ℕ) (s : Sweep ℕ) : Type 0 where
  pub state : IsSweep limit s
  pub moves : All (λ e. MayMoveTo e.a.x s) (drop n fs)
  pub from : (f : Entry ℕ) → Contains s.entries f → (f.value < n) × (slice_index_or fs f.value f.edge ≡ f.edge)
  pub all : (i : ℕ) (e : Edge) → i < n → slice_index_or fs i e ≡ e → (x : ℤ) → MayMoveTo x s → x <ℤ e.b.x →
      Contains s.entries (record { edge = e; value = i })

-- how the edge's line and a point compare: Less where the line is below the point
abbrev pub side_answer : Point → Edge → Ordering
side_answer p e = int_cmp (cross_at e.b e.a p) (pos 0)

-- e is the highest of the edges over the abscissa of p that are not above it
pub record IsHighestUpTo (fs : List Edge) (p : Point) (e : Edge) : Type 0 where
  pub among : Contains fs e
  pub over : covers e p.x (pos 1) ≡ true
  pub up_to : pos 0 ≤ℤ side e (in_plane p)
  pub highest : (f : Edge) → Contains fs f → covers f p.x (pos 1) ≡ true → pos 0 ≤ℤ side f (in_plane p) →
      (f ≡ e) ⊎ (is_under f e p.x (pos 1) ≡ true)

-- it stands at the place, one of the first n
pub record IsFoundAt (fs : List Edge) (p : Point) (n i : ℕ) : Type 0 where
  pub edge : Edge
  pub within : i < n
  pub at : slice_index_or fs i edge ≡ edge
  pub is : IsHighestUpTo fs p edge

-- there is none, and the place is none of the first n
pub record IsNoneFound (fs : List Edge) (p : Point) (n i : ℕ) : Type 0 where
  pub past : n ≤ i
  pub none : (f : Edge) → Contains fs f → covers f p.x (pos 1) ≡ true → side f (in_plane p) <ℤ pos 0

abbrev pub IsFound : List Edge → Point → ℕ → ℕ → Type 0
IsFound fs p n i = IsFoundAt fs p n i ⊎ IsNoneFound fs p n i
