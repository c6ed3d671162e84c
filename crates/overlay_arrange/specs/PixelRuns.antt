-- Points sorted by height: those that an edge passes above, those that it passes below, and the run between them.
use Rattle.std.specs.Prelude.{◌≡◌, ◌⊎◌, ℕ, ◌<◌, ◌≤◌, Bool, true, ℤ, pos, ◌*ℤ◌, ◌-ℤ◌, ◌≤ℤ◌, int_lt}
use Rattle.std.specs.Prelude.{List, Contains}
use Rattle.overlay_geom.specs.Plane.{Point, Edge, cross_at}
use Rattle.overlay_geom.specs.Edges.{CountedEdge, ends_of}
use Rattle.overlay_plane.specs.SnapPoints.{half_girth, meets_pixel}
use Rattle.overlay_pairs.specs.Places.{IsAt}

-- v lies below the line of e by more than half its girth, or above it by as much
abbrev pub is_far_below : Edge → Point → Bool
is_far_below e v = int_lt (pos 2 *ℤ cross_at e.a e.b v) (pos 0 -ℤ half_girth e)

abbrev pub is_far_above : Edge → Point → Bool
is_far_above e v = int_lt (half_girth e) (pos 2 *ℤ cross_at e.a e.b v)

-- x lies in the span of the edge e
abbrev pub IsAmidX : CountedEdge → ℤ → Type 0
IsAmidX e x = (e.a.x ≤ℤ x) × (x ≤ℤ e.b.x)

-- e meets no pixel of a point up to the height y that lies from x on to the side to which e rises
abbrev pub PassesAbove : CountedEdge → ℤ → ℤ → Type 0
PassesAbove e x y = (v : Point) → v.y ≤ℤ y → pos 0 ≤ℤ ((e.b.y -ℤ e.a.y) *ℤ (v.x -ℤ x)) →
    ¬ (meets_pixel (ends_of e) v ≡ true)

-- e meets no pixel of a point from the height y on that lies up to x on that side
abbrev pub PassesBelow : CountedEdge → ℤ → ℤ → Type 0
PassesBelow e x y = (v : Point) → y ≤ℤ v.y → pos 0 ≤ℤ ((e.b.y -ℤ e.a.y) *ℤ (x -ℤ v.x)) →
    ¬ (meets_pixel (ends_of e) v ≡ true)

-- e passes so above the heights of the points from `from` up to `to`
abbrev pub ArePassedAbove : CountedEdge → ℤ → List Point → ℕ → ℕ → Type 0
ArePassedAbove e x vs from to = (k : ℕ) (v : Point) → from ≤ k → k < to → IsAt vs k v → PassesAbove e x v.y

-- e passes so below the heights of these points
abbrev pub ArePassedBelow : CountedEdge → ℤ → List Point → ℕ → ℕ → Type 0
ArePassedBelow e x vs from to = (k : ℕ) (v : Point) → from ≤ k → k < to → IsAt vs k v → PassesBelow e x v.y

-- the points from `from` up to `to` are sorted by their heights
abbrev pub AreUpwards : List Point → ℕ → ℕ → Type 0
AreUpwards vs from to = (j k : ℕ) (v w : Point) → from ≤ j → j ≤ k → k < to → IsAt vs j v → IsAt vs k w →
    v.y ≤ℤ w.y

-- v is a point of the list from `from` up to `to`
pub record IsAmong (vs : List Point) (from to : ℕ) (v : Point) : Type 0 where
  pub place : ℕ
  pub past : from ≤ place
  pub less : place < to
  pub at : IsAt vs place v

-- the points from `from` up to `to` are added
pub record AddsPoints (vs : List Point) (from to : ℕ) (old new : List Point) : Type 0 where
  pub kept : (v : Point) → Contains old v → Contains new v
  pub given : (v : Point) → Contains new v → Contains old v ⊎ IsAmong vs from to v
  pub all : (v : Point) → IsAmong vs from to v → Contains new v

-- takes points between two x-coordinates, and adds some of them, including each whose pixel e meets
pub record AddsRun (left right : ℤ) (e : CountedEdge) (vs : List Point) (from to : ℕ) (old new : List Point) : Type 0
  where
    pub kept : (v : Point) → Contains old v → Contains new v
    pub given : (v : Point) → Contains new v → Contains old v ⊎ IsAmong vs from to v
    pub all : (v : Point) → IsAmong vs from to v → left ≤ℤ v.x → v.x ≤ℤ right → meets_pixel (ends_of e) v ≡ true →
        Contains new v
