-- The side of a point and the gap of two edges as forms: how they hang together, and that they are linear in the point.
use Rattle.std.proofs.Common.{◌≡◌, ℤ, pos, ◌+ℤ◌, ◌*ℤ◌, neg_ℤ}
use Rattle.overlay_geom.specs.Plane.{Edge, side, in_plane, line_form}
use Rattle.overlay_geom.proofs.Identities.{solve, Expr, number, ◌⊕◌, ◌⊗◌, ◌⊖◌, ⊝◌, ◌≗◌}
use Rattle.overlay_plane.specs.Heights.{width, gap}

-- line_form and gap as they are written
abbrev pub formE : (ax ay bx by x y d : Expr) → Expr
formE ax ay bx by x y d = (bx ⊖ ax) ⊗ (y ⊖ ay ⊗ d) ⊖ (by ⊖ ay) ⊗ (x ⊖ ax ⊗ d)

-- gap as it is written
abbrev pub gapE : (px py qx qy ax ay bx by x d : Expr) → Expr
gapE px py qx qy ax ay bx by x d = (bx ⊖ ax) ⊗ formE px py qx qy x (number (pos 0)) d ⊖ (qx ⊖ px) ⊗ formE ax ay bx by x
    (number (pos 0)) d

-- the gap of two edges is the difference of a point's sides, each times the other's width, at any height
pub gap-line_form : (f e : Edge) (x y d : ℤ) → width e *ℤ line_form f x y d ≡ gap f e x d +ℤ width f *ℤ line_form e x y
    d
gap-line_form f e x y d = solve 11
    (λ px py qx qy ax ay bx by x y d. (bx ⊖ ax) ⊗ formE px py qx qy x y d ≗ gapE px py qx qy ax ay bx by x d ⊕
    (qx ⊖ px) ⊗ formE ax ay bx by x y d) tt f.a.x f.a.y f.b.x f.b.y e.a.x e.a.y e.b.x e.b.y x y d

-- the gap to an edge itself is 0
pub gap-same : (e : Edge) (x d : ℤ) → gap e e x d ≡ pos 0
gap-same e x d = solve 6 (λ ax ay bx by x d. gapE ax ay bx by ax ay bx by x d ≗ number (pos 0)) tt e.a.x e.a.y
    e.b.x e.b.y x d

-- the gap the other way round is the opposite one
pub gap_exchanged : (f e : Edge) (x d : ℤ) → gap f e x d ≡ neg_ℤ (gap e f x d)
gap_exchanged f e x d = solve 10 (λ px py qx qy ax ay bx by x d. gapE px py qx qy ax ay bx by x d ≗ ⊝ gapE ax ay bx by
    px py qx qy x d) tt f.a.x f.a.y f.b.x f.b.y e.a.x e.a.y e.b.x e.b.y x d

-- gaps at one x-coordinate add up, weighted by widths
pub gap_through : (f g h : Edge) (x d : ℤ) → width g *ℤ gap f h x d ≡ width h *ℤ gap f g x d +ℤ width f *ℤ gap g h x d
gap_through f g h x d = solve 6 (λ wf wg wh lf lg lh. wg ⊗ (wh ⊗ lf ⊖ wf ⊗ lh) ≗ wh ⊗ (wg ⊗ lf ⊖ wf ⊗ lg) ⊕ wf ⊗
    (wh ⊗ lg ⊖ wg ⊗ lh)) tt (width f)
    (width g) (width h) (line_form f x (pos 0) d) (line_form g x (pos 0) d) (line_form h x (pos 0) d)

-- the side is linear in the point
pub line_form_linear : (e : Edge) (s x y d t x' y' d' : ℤ) →
    line_form e (s *ℤ x +ℤ t *ℤ x') (s *ℤ y +ℤ t *ℤ y') (s *ℤ d +ℤ t *ℤ d') ≡ s *ℤ line_form e x y d +ℤ t *ℤ line_form e
    x' y' d'
line_form_linear e s x y d t x' y' d' = solve 12
    (λ ax ay bx by s x y d t x' y' d'. formE ax ay bx by (s ⊗ x ⊕ t ⊗ x') (s ⊗ y ⊕ t ⊗ y') (s ⊗ d ⊕ t ⊗ d') ≗ s ⊗ formE
    ax ay bx by x y d ⊕ t ⊗ formE ax ay bx by x' y' d') tt e.a.x e.a.y e.b.x e.b.y s x y d t x' y' d'

-- the gap is linear in the x-coordinate
pub gap_linear : (f e : Edge) (s x d t x' d' : ℤ) → gap f e (s *ℤ x +ℤ t *ℤ x') (s *ℤ d +ℤ t *ℤ d') ≡ s *ℤ gap f e x
    d +ℤ t *ℤ gap f e x' d'
gap_linear f e s x d t x' d' = solve 14
    (λ px py qx qy ax ay bx by s x d t x' d'. gapE px py qx qy ax ay bx by (s ⊗ x ⊕ t ⊗ x') (s ⊗ d ⊕ t ⊗ d') ≗ s ⊗ gapE
    px py qx qy ax ay bx by x d ⊕ t ⊗ gapE px py qx qy ax ay bx by x' d') tt f.a.x f.a.y f.b.x f.b.y e.a.x e.a.y
    e.b.x e.b.y s x d t x' d'

-- at an end of f the gap is, but for its sign and f's width, the side of that end
pub gap-at_start : (f e : Edge) → gap f e f.a.x (pos 1) ≡ neg_ℤ (width f *ℤ side e (in_plane f.a))
gap-at_start f e = solve 8
    (λ px py qx qy ax ay bx by. gapE px py qx qy ax ay bx by px (number (pos 1)) ≗ ⊝
    ((qx ⊖ px) ⊗ formE ax ay bx by px py (number (pos 1)))) tt f.a.x f.a.y f.b.x f.b.y e.a.x e.a.y e.b.x e.b.y

-- and at its larger end
pub gap-at_end : (f e : Edge) → gap f e f.b.x (pos 1) ≡ neg_ℤ (width f *ℤ side e (in_plane f.b))
gap-at_end f e = solve 8
    (λ px py qx qy ax ay bx by. gapE px py qx qy ax ay bx by qx (number (pos 1)) ≗ ⊝
    ((qx ⊖ px) ⊗ formE ax ay bx by qx qy (number (pos 1)))) tt f.a.x f.a.y f.b.x f.b.y e.a.x e.a.y e.b.x e.b.y

-- both ends are on the line, and so is the midpoint
pub side-start : (e : Edge) → side e (in_plane e.a) ≡ pos 0
side-start e = solve 4 (λ ax ay bx by. formE ax ay bx by ax ay (number (pos 1)) ≗ number (pos 0)) tt e.a.x
    e.a.y e.b.x e.b.y

-- the larger end is on the line
pub side-end : (e : Edge) → side e (in_plane e.b) ≡ pos 0
side-end e = solve 4 (λ ax ay bx by. formE ax ay bx by bx by (number (pos 1)) ≗ number (pos 0)) tt e.a.x
    e.a.y e.b.x e.b.y

-- the midpoint is on the line
pub side-midpoint : (e : Edge) → line_form e (e.a.x +ℤ e.b.x) (e.a.y +ℤ e.b.y) (pos 2) ≡ pos 0
side-midpoint e = solve 4 (λ ax ay bx by. formE ax ay bx by (ax ⊕ bx) (ay ⊕ by) (number (pos 2)) ≗ number (pos 0)) tt
    e.a.x e.a.y e.b.x e.b.y
