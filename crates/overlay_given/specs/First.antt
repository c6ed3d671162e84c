-- The first edges of two shapes in a list, and tests of the filled sides of their pieces.
use Rattle.std.specs.Prelude.{◌≡◌, Bool, true, ℕ, ◌<◌, ◌≤◌, ℤ, pos, List, length}
use Rattle.overlay_geom.specs.Edges.{CountedEdge, subj_of, clip_of}
use Rattle.overlay_geom.specs.Plane.{PlanePoint}
use Rattle.overlay_geom.specs.declared.options.ShapeType.{ShapeType}
use Rattle.overlay_geom.specs.declared.options.ShapeType.TheVariants.{Subject, Clip}
use Rattle.overlay_pairs.specs.Places.{IsAt}
use Rattle.overlay_scaled.specs.PlainContacts.{passes_at}
use Rattle.overlay_scaled.specs.PlainPoints.{IsPlain}
use Rattle.overlay_given.specs.Sides.{passing}
use Rattle.overlay_given.specs.declared.sides.SideTest.{SideTest}

-- how often the shape passes the edge
abbrev pub count_of : ShapeType → CountedEdge → ℤ
count_of Subject e = subj_of e
count_of Clip e = clip_of e

-- the first edge that the shape passes is at place i, behind the last edge if there is none
pub record IsFirstOf (shape : ShapeType) (es : List CountedEdge) (i : ℕ) : Type 0 where
  pub within : i ≤ length es
  pub before : (k : ℕ) (e : CountedEdge) → k < i → IsAt es k e → count_of shape e ≡ pos 0
  pub at : (e : CountedEdge) → IsAt es i e → ¬ (count_of shape e ≡ pos 0)

-- the sides of some piece of the edge at place i pass the test
abbrev pub PassesOn : SideTest → (ℤ → Bool) → List CountedEdge → ℕ → Type 0
PassesOn test filled es i = (e : CountedEdge) × (p : PlanePoint) × IsAt es i e × IsPlain es e p
    × (passes_at (passing test) filled es p ≡ true)

-- so do those of the first edge that a shape passes
abbrev pub SomeFirstPasses : SideTest → (ℤ → Bool) → List CountedEdge → Type 0
SomeFirstPasses test filled es = (shape : ShapeType) × (i : ℕ) × IsFirstOf shape es i × PassesOn test filled es i
