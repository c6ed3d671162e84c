-- Edges over the vertical line at an x-coordinate x / d: the edges that cover it, and the lower of two edges there.
use Rattle.std.specs.Prelude.{Bool, ◌&&◌, ℤ, pos, ◌+ℤ◌, ◌-ℤ◌, ◌*ℤ◌, ◌<ℤ◌, ◌≤ℤ◌, int_lt, int_le}
use Rattle.overlay_geom.specs.Plane.{Edge, line_form}

-- the width of the edge in x
abbrev pub width : Edge → ℤ
width e = e.b.x -ℤ e.a.x

-- positive where the line of e runs above the line of f at the x-coordinate, negative where it runs below, 0 where they
-- meet
abbrev pub gap : Edge → Edge → ℤ → ℤ → ℤ
gap f e x d = width e *ℤ line_form f x (pos 0) d -ℤ width f *ℤ line_form e x (pos 0) d

-- the x-coordinate is in the edge's span without its right end
abbrev pub covers : Edge → ℤ → ℤ → Bool
covers e x d = int_le (e.a.x *ℤ d) x && int_lt x (e.b.x *ℤ d)

-- just right of the x-coordinate, at (2x + 1) / 2d, f is lower than e
abbrev pub is_under : Edge → Edge → ℤ → ℤ → Bool
is_under f e x d = int_lt (pos 0) (gap f e (x +ℤ x +ℤ pos 1) (d +ℤ d))

-- the x-coordinate is in the edge's span, ends included
pub record Spans (e : Edge) (x d : ℤ) : Type 0 where
  pub from : (e.a.x *ℤ d) ≤ℤ x
  pub to : x ≤ℤ (e.b.x *ℤ d)

-- the x-coordinate is in the edge's span, and at neither of its ends
pub record IsInner (e : Edge) (x d : ℤ) : Type 0 where
  pub after : (e.a.x *ℤ d) <ℤ x
  pub before : x <ℤ (e.b.x *ℤ d)
