-- What the parts of an edge tell of its points.
use Rattle.std.specs.Prelude.{◌≡◌, ◌↔◌, true, pos, ◌<ℤ◌}
use Rattle.overlay_geom.specs.Plane.{PlanePoint, Edge, SamePlace, IsOn, point_lt}
use Rattle.overlay_plane.specs.Rounds.{IsSmaller}
use Rattle.overlay_exact.specs.Parts.{Fraction, IsPart, IsLess, AreEqual, LiesAt}

-- the points of an edge that leads forward are those at its parts
abbrev pub PointsLieAtParts : Type 0
PointsLieAtParts = (e : Edge) (p : PlanePoint) → point_lt e.a e.b ≡ true →
    IsOn e p ↔ ((s : Fraction) × IsPart s × LiesAt e s p)

-- points along it are in the order of their parts, by x and then by y, and are equal where their parts are
abbrev pub PartsOrderPoints : Type 0
PartsOrderPoints = (e : Edge) (s t : Fraction) (p q : PlanePoint) → point_lt e.a e.b ≡ true → pos 0 <ℤ s.d →
    pos 0 <ℤ t.d → LiesAt e s p → LiesAt e t q →
    (IsLess s t ↔ IsSmaller p q) × (AreEqual s t ↔ SamePlace p q)
