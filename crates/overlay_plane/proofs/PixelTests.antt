-- The test for the pixel of a whole point: the position of the point relative to the edge's bounding box, and bounds of
-- twice its cross product, by the direction of the edge.
use Rattle.std.proofs.Common.{◌≡◌, ◌⊎◌, Bool, true, false, cond, ◌&&◌, ℤ, pos, ◌+ℤ◌, ◌-ℤ◌, ◌*ℤ◌, ◌<ℤ◌}
use Rattle.std.proofs.Common.{◌≤ℤ◌, int_lt, int_le, ap, ap₂}
use Rattle.std.specs.Bool.{Decides}
use Rattle.std.proofs.lemmas.Bool.Decides.{Decides-and, Decides-or, Decides-at}
use Rattle.overlay_geom.specs.Plane.{Point, Edge, IsBetween, cross_at}
use Rattle.overlay_geom.proofs.Comparisons.{Decides-int_lt}
use Rattle.overlay_geom.proofs.Orders.{Decides-point_eq}
use Rattle.overlay_geom.proofs.Signs.{linear}
use Rattle.overlay_plane.specs.SnapPoints.{is_amid, is_in_box, half_girth, line_meets, meets_pixel}
use Rattle.overlay_plane.proofs.CrossingPoints.{abs_up, abs_down}
use Rattle.overlay_plane.proofs.Tests.{Decides-int_le, test_from_lt, test_from_ge}

-- ---- the box

-- the test tells whether a number is between two
pub Decides-is_amid : (z u v : ℤ) → Decides (is_amid z u v) (IsBetween z u v)
Decides-is_amid z u v = Decides-or _ _ (Decides-and _ _ (Decides-int_le u z) (Decides-int_le z v))
    (Decides-and _ _ (Decides-int_le v z) (Decides-int_le z u))

-- v is in the bounding box of e
abbrev pub IsInBox : Edge → Point → Type 0
IsInBox e v = IsBetween v.x e.a.x e.b.x × IsBetween v.y e.a.y e.b.y

-- the test tells it
pub Decides-is_in_box : (e : Edge) (v : Point) → Decides (is_in_box e v) (IsInBox e v)
Decides-is_in_box e v = Decides-and _ _ (Decides-is_amid v.x e.a.x e.b.x) (Decides-is_amid v.y e.a.y e.b.y)

-- ---- the line

-- twice the cross product of v
abbrev pub twice_cross : Edge → Point → ℤ
twice_cross e v = pos 2 *ℤ cross_at e.a e.b v

-- it is above the lower bound, or at it
abbrev is_above : Edge → Point → Bool
is_above e v = int_lt (pos 0 -ℤ half_girth e) (twice_cross e v)

abbrev is_at_least : Edge → Point → Bool
is_at_least e v = int_le (pos 0 -ℤ half_girth e) (twice_cross e v)

-- it is below the upper bound, or at it
abbrev is_below : Edge → Point → Bool
is_below e v = int_lt (twice_cross e v) (half_girth e)

abbrev is_at_most : Edge → Point → Bool
is_at_most e v = int_le (twice_cross e v) (half_girth e)

-- the test of the line, where these tests tell how the edge leads
abbrev line_test : Edge → Point → Bool → Bool → Bool
line_test e v wide rises = cond wide (is_above e v && cond rises (is_below e v) (is_at_most e v))
    (is_at_least e v && is_below e v)

-- the test tells, of an edge that rises to the right, whether that is strictly between the bounds
pub Decides-rising : (e : Edge) (v : Point) → e.a.x <ℤ e.b.x → e.a.y <ℤ e.b.y →
    Decides (line_meets e v) (((pos 0 -ℤ half_girth e) <ℤ twice_cross e v) × (twice_cross e v <ℤ half_girth e))
Decides-rising e v wide rises =
    Decides-at (line_meets e v) (line_test e v true true)
    (ap₂ (line_test e v) (test_from_lt e.a.x e.b.x wide) (test_from_lt e.a.y e.b.y rises))
    (Decides-and _ _ (Decides-int_lt (pos 0 -ℤ half_girth e) (twice_cross e v))
    (Decides-int_lt (twice_cross e v) (half_girth e)))

-- of one that does not rise, whether it is between them or the upper
pub Decides-falling : (e : Edge) (v : Point) → e.a.x <ℤ e.b.x → e.b.y ≤ℤ e.a.y →
    Decides (line_meets e v) (((pos 0 -ℤ half_girth e) <ℤ twice_cross e v) × (twice_cross e v ≤ℤ half_girth e))
Decides-falling e v wide falls =
    Decides-at (line_meets e v) (line_test e v true false)
    (ap₂ (line_test e v) (test_from_lt e.a.x e.b.x wide) (test_from_ge e.a.y e.b.y falls))
    (Decides-and _ _ (Decides-int_lt (pos 0 -ℤ half_girth e) (twice_cross e v))
    (Decides-int_le (twice_cross e v) (half_girth e)))

-- and of an upright one, whether it is between them or the lower
pub Decides-upright : (e : Edge) (v : Point) → e.b.x ≤ℤ e.a.x →
    Decides (line_meets e v) (((pos 0 -ℤ half_girth e) ≤ℤ twice_cross e v) × (twice_cross e v <ℤ half_girth e))
Decides-upright e v upright =
    Decides-at (line_meets e v) (line_test e v false (int_lt e.a.y e.b.y))
    (ap (λ t. line_test e v t (int_lt e.a.y e.b.y)) (test_from_ge e.a.x e.b.x upright))
    (Decides-and _ _ (Decides-int_le (pos 0 -ℤ half_girth e) (twice_cross e v))
    (Decides-int_lt (twice_cross e v) (half_girth e)))

-- ---- the bounds

-- the bound of an edge that does not fall
pub girth_rising : (e : Edge) → e.a.y ≤ℤ e.b.y → half_girth e ≡ (e.b.x -ℤ e.a.x) +ℤ (e.b.y -ℤ e.a.y)
girth_rising e rises = ap (λ z. (e.b.x -ℤ e.a.x) +ℤ z) (abs_up (e.b.y -ℤ e.a.y) (omega linear))

-- and of one that does not rise
pub girth_falling : (e : Edge) → e.b.y ≤ℤ e.a.y → half_girth e ≡ (e.b.x -ℤ e.a.x) +ℤ (e.a.y -ℤ e.b.y)
girth_falling e falls =
    let size = abs_down (e.b.y -ℤ e.a.y) (omega linear) in
    ap (λ z. (e.b.x -ℤ e.a.x) +ℤ z) (omega linear)

-- ---- the whole test

-- the test tells whether v is an end of e, or in its box where its line passes through the pixel
pub Decides-meets_pixel : (e : Edge) (v : Point) →
    Decides (meets_pixel e v) (((v ≡ e.a) ⊎ (v ≡ e.b)) ⊎ (IsInBox e v × (line_meets e v ≡ true)))
Decides-meets_pixel e v =
    Decides-or _ _ (Decides-or _ _ (Decides-point_eq v e.a) (Decides-point_eq v e.b))
    (Decides-and (is_in_box e v) (line_meets e v) (Decides-is_in_box e v) (λ h. h, λ h. h))
