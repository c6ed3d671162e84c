-- Scales by which the edges of a list meet in whole points alone.
use Rattle.std.specs.Prelude.{ℤ, pos, ◌<ℤ◌, List}
use Rattle.overlay_geom.specs.Edges.{CountedEdge, ends_of}
use Rattle.overlay_plane.specs.EdgeLists.{IsForwardBy}
use Rattle.overlay_plane.specs.Meetings.{MeetInWholePoints}
use Rattle.overlay_scaled.specs.Scaled.{scaled}

-- the edges of a list that leads forward, scaled by some positive number, meet in whole points alone or overlap
abbrev pub SomeScaleIsWhole : Type 0
SomeScaleIsWhole = (es : List CountedEdge) → IsForwardBy ends_of es →
    (n : ℤ) × (pos 0 <ℤ n) × MeetInWholePoints (scaled n es)
