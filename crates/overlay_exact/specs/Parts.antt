-- Parts of the way along an edge, as fractions from 0 to 1, and the points that lie there.
use Rattle.std.specs.Prelude.{◌≡◌, ℤ, pos, ◌+ℤ◌, ◌-ℤ◌, ◌*ℤ◌, ◌<ℤ◌, ◌≤ℤ◌}
use Rattle.overlay_geom.specs.Plane.{Point, PlanePoint, Edge, SamePlace}
use Rattle.overlay_geom.specs.Settled.{IsCommon}

-- the fraction n / d
pub record Fraction : Type 0 where
  pub n : ℤ
  pub d : ℤ

-- the fraction of two numbers of the program
abbrev pub fraction : {W : Type 0} → (W → ℤ) → W → W → Fraction
fraction whole n d = record { n = whole n; d = whole d }

-- the fraction is a number from 0 to 1
pub record IsPart (s : Fraction) : Type 0 where
  pub begun : pos 0 ≤ℤ s.n
  pub within : s.n ≤ℤ s.d
  pub positive : pos 0 <ℤ s.d

-- s is less than t, both with positive denominators
abbrev pub IsLess : Fraction → Fraction → Type 0
IsLess s t = (s.n *ℤ t.d) <ℤ (t.n *ℤ s.d)

-- the two fractions are equal numbers
abbrev pub AreEqual : Fraction → Fraction → Type 0
AreEqual s t = s.n *ℤ t.d ≡ t.n *ℤ s.d

-- the parts at which an edge's ends lie: nothing of the way, and all of it
abbrev pub start_part : Fraction
start_part = record { n = pos 0; d = pos 1 }

abbrev pub end_part : Fraction
end_part = record { n = pos 1; d = pos 1 }

-- p lies this part of the way from e's smaller end to its larger
pub record LiesAt (e : Edge) (s : Fraction) (p : PlanePoint) : Type 0 where
  pub x : p.x *ℤ s.d ≡ (e.a.x *ℤ s.d +ℤ (e.b.x -ℤ e.a.x) *ℤ s.n) *ℤ p.d
  pub y : p.y *ℤ s.d ≡ (e.a.y *ℤ s.d +ℤ (e.b.y -ℤ e.a.y) *ℤ s.n) *ℤ p.d

-- the edges share one point alone, and it lies at this part of e
pub record ShareOneAt (e f : Edge) (s : Fraction) : Type 0 where
  pub point : PlanePoint
  pub common : IsCommon e f point
  pub place : LiesAt e s point
  pub alone : (q : PlanePoint) → IsCommon e f q → SamePlace q point

-- the product of e's direction with the way from e's smaller end to v
abbrev pub way_to : Edge → Point → ℤ
way_to e v = (e.b.x -ℤ e.a.x) *ℤ (v.x -ℤ e.a.x) +ℤ (e.b.y -ℤ e.a.y) *ℤ (v.y -ℤ e.a.y)
