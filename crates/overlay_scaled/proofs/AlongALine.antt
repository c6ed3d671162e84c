-- The winding at a point of a line, told by the edges across the line before the point: whether an edge is below the
-- point depends on its ends, which lie left or right of the line, and left or right of the point.
use Rattle.std.proofs.Common.{◌≡◌, Bool, true, false, not, cond, ◌&&◌, ℤ, pos, negsuc, ◌+ℤ◌, ◌-ℤ◌, ◌*ℤ◌, neg_ℤ}
use Rattle.std.proofs.Common.{◌<ℤ◌, ◌≤ℤ◌, int_lt, int_le, Contains, refl, sym, ap, ◌∙◌}
use lib.IntN.{*ℤ_comm, +ℤ_idr}
use Rattle.std.proofs.lemmas.Int.{by_lt_z}
use Rattle.std.proofs.lemmas.List.Elements.{All-contains}
use Rattle.overlay_geom.specs.Edges.{CountedEdge, ends_of, winding_by}
use Rattle.overlay_geom.specs.Plane.{Point, PlanePoint, Edge, side, cross_at, is_strictly_below, point_lt}
use Rattle.overlay_geom.proofs.AlongEdge.{sideE, over_le, over_lt}
use Rattle.overlay_geom.proofs.Cross.{crossE}
use Rattle.overlay_geom.proofs.Identities.{solve, ◌⊕◌, ◌⊗◌, ◌⊖◌, ⊝◌, ◌≗◌}
use Rattle.overlay_geom.proofs.PointOrder.{IsBefore}
use Rattle.overlay_geom.proofs.Signs.{linear, mul-pos, mul-neg, mul-nonneg, mul-nonpos, mul-zero, pos_of_mul-pos}
use Rattle.overlay_geom.proofs.Signs.{nonpos_of_mul-nonpos, zero_of_mul-zero}
use Rattle.overlay_plane.specs.Regions.{one_if}
use Rattle.overlay_plane.proofs.NodeWindings.{count-times}
use Rattle.overlay_plane.proofs.Tests.{lt_from_test, ge_from_test, le_from_test, gt_from_test, int_le-not}
use Rattle.overlay_plane.proofs.Totals.{total-same, total-add}
use Rattle.overlay_plane.proofs.WholeOnEdges.{forward_from_test}
use Rattle.overlay_scaled.specs.BesidePieces.{is_right_of, crossing_before, WindingAlongALine}

-- ---- signs, where the line is not upright

-- the distance the other way round
turned : (x v a : ℤ) → (x -ℤ v) *ℤ a ≡ neg_ℤ ((v -ℤ x) *ℤ a)
turned = solve 3 (λ x v a. (x ⊖ v) ⊗ a ≗ ⊝ ((v ⊖ x) ⊗ a)) tt

-- an edge from u to v, with the sides a and b of its ends, and the side s of a point over x
module _ (x u v a b w s : ℤ) (some : pos 0 <ℤ w) (is : w *ℤ s ≡ (x -ℤ v) *ℤ a -ℤ (x -ℤ u) *ℤ b) (order : u ≤ℤ v)
  where
    left_within : u ≤ℤ x → x <ℤ v → pos 0 ≤ℤ a → pos 0 ≤ℤ b → s ≤ℤ pos 0
    left_within from to a_left b_left =
        let at_a = mul-nonneg (v -ℤ x) a (omega linear) a_left in
        let at_b = mul-nonneg (x -ℤ u) b (omega linear) b_left in
        let back = turned x v a in
        nonpos_of_mul-nonpos w s some (omega linear)

    right_within : u ≤ℤ x → x <ℤ v → a <ℤ pos 0 → b <ℤ pos 0 → pos 0 <ℤ s
    right_within from to a_right b_right =
        let at_a = mul-neg (v -ℤ x) a (omega linear) a_right in
        let at_b = mul-nonpos (x -ℤ u) b (omega linear) (omega linear) in
        let back = turned x v a in
        pos_of_mul-pos w s some (omega linear)

    down_past : v ≤ℤ x → u <ℤ x → pos 0 ≤ℤ a → b <ℤ pos 0 → pos 0 <ℤ s
    down_past past after a_left b_right =
        let at_a = mul-nonneg (x -ℤ v) a (omega linear) a_left in
        let at_b = mul-neg (x -ℤ u) b (omega linear) b_right in
        pos_of_mul-pos w s some (omega linear)

    down_ahead : x <ℤ u → pos 0 ≤ℤ a → b <ℤ pos 0 → s ≤ℤ pos 0
    down_ahead ahead a_left b_right =
        let at_a = mul-nonneg (v -ℤ x) a (omega linear) a_left in
        let at_b = mul-neg (u -ℤ x) b (omega linear) b_right in
        let back_a = turned x v a in
        let back_b = turned x u b in
        nonpos_of_mul-nonpos w s some (omega linear)

    up_ahead : x <ℤ u → a <ℤ pos 0 → pos 0 ≤ℤ b → pos 0 <ℤ s
    up_ahead ahead a_right b_left =
        let at_a = mul-neg (v -ℤ x) a (omega linear) a_right in
        let at_b = mul-nonneg (u -ℤ x) b (omega linear) b_left in
        let back_a = turned x v a in
        let back_b = turned x u b in
        pos_of_mul-pos w s some (omega linear)

    up_past : v ≤ℤ x → a <ℤ pos 0 → pos 0 ≤ℤ b → s ≤ℤ pos 0
    up_past past a_right b_left =
        let at_a = mul-nonpos (x -ℤ v) a (omega linear) (omega linear) in
        let at_b = mul-nonneg (x -ℤ u) b (omega linear) b_left in
        nonpos_of_mul-nonpos w s some (omega linear)

-- ---- of one edge

-- which ends p has come to (`a`, and not `b`), whether it is left of the edge (`l`), and which ends lie right of the
-- line
record Lies (a b l ra rb : Bool) : Type 0 where
  begun : a ≡ false → b ≡ false → ⊥
  left_within : a ≡ true → b ≡ true → ra ≡ false → rb ≡ false → l ≡ true → ⊥
  right_within : a ≡ true → b ≡ true → ra ≡ true → rb ≡ true → l ≡ false → ⊥
  down_past : b ≡ false → ra ≡ false → rb ≡ true → l ≡ false → ⊥
  down_ahead : a ≡ false → ra ≡ false → rb ≡ true → l ≡ true → ⊥
  up_ahead : a ≡ false → ra ≡ true → rb ≡ false → l ≡ false → ⊥
  up_past : b ≡ false → ra ≡ true → rb ≡ false → l ≡ true → ⊥

-- the edge below p, and its rise from the part right of the line that p has come to
abbrev rise : (a b l ra rb : Bool) → ℤ
rise a b l ra rb = one_if (a && b && l) +ℤ (one_if (not b && rb) -ℤ one_if (a && ra))

abbrev pub crossed : (l ra rb : Bool) → ℤ
crossed l ra rb = cond ra (cond rb (pos 0) (cond l (pos 0) (negsuc 0))) (cond rb (one_if l) (pos 0))

rise_is : (a b l ra rb : Bool) → Lies a b l ra rb → rise a b l ra rb ≡ crossed l ra rb
rise_is false false l ra rb h = absurd (h.begun refl refl)
rise_is true true true false false h = absurd (h.left_within refl refl refl refl refl)
rise_is true true false false false h = refl
rise_is true false l false false h = refl
rise_is false true l false false h = refl
rise_is true true true false true h = refl
rise_is true true false false true h = refl
rise_is true false true false true h = refl
rise_is true false false false true h = absurd (h.down_past refl refl refl refl)
rise_is false true true false true h = absurd (h.down_ahead refl refl refl refl)
rise_is false true false false true h = refl
rise_is true true true true false h = refl
rise_is true true false true false h = refl
rise_is true false true true false h = absurd (h.up_past refl refl refl refl)
rise_is true false false true false h = refl
rise_is false true true true false h = refl
rise_is false true false true false h = absurd (h.up_ahead refl refl refl refl)
rise_is true true true true true h = refl
rise_is true true false true true h = absurd (h.right_within refl refl refl refl refl)
rise_is true false l true true h = refl
rise_is false true l true true h = refl

-- an edge f, and a point p on the line of e
module _ (e f : Edge) (p : PlanePoint) (e_before : IsBefore e.a e.b) (f_before : IsBefore f.a f.b)
    (level : side e p ≡ pos 0) where
  abbrev at_a : ℤ
  at_a = cross_at e.a e.b f.a

  abbrev at_b : ℤ
  at_b = cross_at e.a e.b f.b

  abbrev come_to : Point → Bool
  come_to v = int_le (v.x *ℤ p.d) p.x

  abbrev to_come : Bool
  to_come = int_lt p.x (f.b.x *ℤ p.d)

  abbrev is_left : Bool
  is_left = int_lt (pos 0) (side f p)

  in_order : (f.a.x *ℤ p.d) ≤ℤ (f.b.x *ℤ p.d)
  in_order = over_le f.a.x f.b.x p.d p.positive f_before.x

  begins : come_to f.a ≡ false → to_come ≡ false → ⊥
  begins none past =
      let ahead = gt_from_test (f.a.x *ℤ p.d) p.x none in
      let behind = ge_from_test p.x (f.b.x *ℤ p.d) past in
      let le = in_order in
      omega linear

  module _ (wide : e.a.x <ℤ e.b.x) where
    by_ends : (e.b.x -ℤ e.a.x) *ℤ side f p ≡
        (p.x -ℤ f.b.x *ℤ p.d) *ℤ at_a -ℤ (p.x -ℤ f.a.x *ℤ p.d) *ℤ at_b
    by_ends =
        let none = mul-zero (f.b.x -ℤ f.a.x) (side e p) level in
        let identity = solve 11 (λ ax ay bx by cx cy dx dy x y d. (bx ⊖ ax) ⊗ sideE cx cy dx dy x y d ≗
        (dx ⊖ cx) ⊗ sideE ax ay bx by x y d ⊕ ((x ⊖ dx ⊗ d) ⊗ crossE ax ay bx by cx cy ⊖
        (x ⊖ cx ⊗ d) ⊗ crossE ax ay bx by dx dy))
        tt e.a.x e.a.y e.b.x e.b.y f.a.x f.a.y f.b.x f.b.y p.x p.y p.d in
        omega linear

    -- an edge that leads down across the line is not upright
    leans : pos 0 ≤ℤ at_a → at_b <ℤ pos 0 → f.a.x <ℤ f.b.x
    leans a_left b_right = by_lt_z f.a.x f.b.x (λ less. less) (λ le. absurd (upright le (f_before.y le)))
      where
        upright : f.b.x ≤ℤ f.a.x → f.a.y <ℤ f.b.y → ⊥
        upright le up =
            let x = f_before.x in
            let rises = mul-pos (e.b.x -ℤ e.a.x) (f.b.y -ℤ f.a.y) (omega linear) (omega linear) in
            let level = mul-zero (e.b.y -ℤ e.a.y) (f.b.x -ℤ f.a.x) (omega linear) in
            let identity = solve 8 (λ ax ay bx by cx cy dx dy. crossE ax ay bx by dx dy ⊖ crossE ax ay bx by cx cy ≗
            (bx ⊖ ax) ⊗ (dy ⊖ cy) ⊖ (by ⊖ ay) ⊗ (dx ⊖ cx))
            tt e.a.x e.a.y e.b.x e.b.y f.a.x f.a.y f.b.x f.b.y in
            omega linear

    lies_wide : Lies (come_to f.a) to_come is_left (is_right_of e f.a) (is_right_of e f.b)
    lies_wide = record {
      begun = begins;
      left_within = λ a b ra rb l.
          let s = left_within p.x (f.a.x *ℤ p.d) (f.b.x *ℤ p.d) at_a at_b (e.b.x -ℤ e.a.x) (side f p) (omega linear)
          by_ends in_order (le_from_test (f.a.x *ℤ p.d) p.x a) (lt_from_test p.x (f.b.x *ℤ p.d) b)
          (ge_from_test at_a (pos 0) ra) (ge_from_test at_b (pos 0) rb) in
          let more = lt_from_test (pos 0) (side f p) l in omega linear;
      right_within = λ a b ra rb l.
          let s = right_within p.x (f.a.x *ℤ p.d) (f.b.x *ℤ p.d) at_a at_b (e.b.x -ℤ e.a.x) (side f p) (omega linear)
          by_ends in_order (le_from_test (f.a.x *ℤ p.d) p.x a) (lt_from_test p.x (f.b.x *ℤ p.d) b)
          (lt_from_test at_a (pos 0) ra) (lt_from_test at_b (pos 0) rb) in
          let less = ge_from_test (pos 0) (side f p) l in omega linear;
      down_past = λ b ra rb l.
          let past = ge_from_test p.x (f.b.x *ℤ p.d) b in
          let left = ge_from_test at_a (pos 0) ra in
          let right = lt_from_test at_b (pos 0) rb in
          let less = over_lt f.a.x f.b.x p.d p.positive (leans left right) in
          let s = down_past p.x (f.a.x *ℤ p.d) (f.b.x *ℤ p.d) at_a at_b (e.b.x -ℤ e.a.x) (side f p) (omega linear)
          by_ends in_order past (omega linear) left right in
          let low = ge_from_test (pos 0) (side f p) l in omega linear;
      down_ahead = λ a ra rb l.
          let s = down_ahead p.x (f.a.x *ℤ p.d) (f.b.x *ℤ p.d) at_a at_b (e.b.x -ℤ e.a.x) (side f p) (omega linear)
          by_ends in_order (gt_from_test (f.a.x *ℤ p.d) p.x a) (ge_from_test at_a (pos 0) ra)
          (lt_from_test at_b (pos 0) rb) in
          let more = lt_from_test (pos 0) (side f p) l in omega linear;
      up_ahead = λ a ra rb l.
          let s = up_ahead p.x (f.a.x *ℤ p.d) (f.b.x *ℤ p.d) at_a at_b (e.b.x -ℤ e.a.x) (side f p) (omega linear)
          by_ends in_order (gt_from_test (f.a.x *ℤ p.d) p.x a) (lt_from_test at_a (pos 0) ra)
          (ge_from_test at_b (pos 0) rb) in
          let less = ge_from_test (pos 0) (side f p) l in omega linear;
      up_past = λ b ra rb l.
          let s = up_past p.x (f.a.x *ℤ p.d) (f.b.x *ℤ p.d) at_a at_b (e.b.x -ℤ e.a.x) (side f p) (omega linear)
          by_ends in_order (ge_from_test p.x (f.b.x *ℤ p.d) b) (lt_from_test at_a (pos 0) ra)
          (ge_from_test at_b (pos 0) rb) in
          let more = lt_from_test (pos 0) (side f p) l in omega linear;
    }

  -- the right of an upright line is ahead of p
  module _ (upright : e.b.x ≤ℤ e.a.x) where
    up : e.a.y <ℤ e.b.y
    up = e_before.y upright

    over_line : p.x -ℤ e.a.x *ℤ p.d ≡ pos 0
    over_line =
        let x = e_before.x in
        let none = mul-zero (p.y -ℤ e.a.y *ℤ p.d) (e.b.x -ℤ e.a.x) (omega linear) in
        let same = *ℤ_comm (e.b.x -ℤ e.a.x) (p.y -ℤ e.a.y *ℤ p.d) in
        let zero = level in
        let rises = up in
        zero_of_mul-zero (e.b.y -ℤ e.a.y) (p.x -ℤ e.a.x *ℤ p.d) (omega linear) (omega linear)

    is_across : (v : Point) → cross_at e.a e.b v ≡ (e.b.y -ℤ e.a.y) *ℤ (e.a.x -ℤ v.x)
    is_across v =
        let x = e_before.x in
        let none = mul-zero (v.y -ℤ e.a.y) (e.b.x -ℤ e.a.x) (omega linear) in
        let identity = solve 6 (λ ax ay bx by x y. crossE ax ay bx by x y ≗
        (y ⊖ ay) ⊗ (bx ⊖ ax) ⊕ (by ⊖ ay) ⊗ (ax ⊖ x)) tt e.a.x e.a.y e.b.x e.b.y v.x v.y in
        omega linear

    ahead : (v : Point) → is_right_of e v ≡ true → p.x <ℤ (v.x *ℤ p.d)
    ahead v t = by_lt_z e.a.x v.x
        (λ less. let more = over_lt e.a.x v.x p.d p.positive less in let at = over_line in omega linear)
        (λ ge. absurd (
        let is = is_across v in
        let rises = up in
        let right = lt_from_test (cross_at e.a e.b v) (pos 0) t in
        let left = mul-nonneg (e.b.y -ℤ e.a.y) (e.a.x -ℤ v.x) (omega linear) (omega linear) in
        omega linear))

    behind : (v : Point) → is_right_of e v ≡ false → (v.x *ℤ p.d) ≤ℤ p.x
    behind v t = by_lt_z e.a.x v.x
        (λ less. absurd (
        let is = is_across v in
        let rises = up in
        let left = ge_from_test (cross_at e.a e.b v) (pos 0) t in
        let right = mul-neg (e.b.y -ℤ e.a.y) (e.a.x -ℤ v.x) (omega linear) (omega linear) in
        omega linear))
        (λ ge. let le = over_le v.x e.a.x p.d p.positive ge in let at = over_line in omega linear)

    lies_upright : Lies (come_to f.a) to_come is_left (is_right_of e f.a) (is_right_of e f.b)
    lies_upright = record {
      begun = begins;
      left_within = λ a b ra rb l.
          let at = behind f.b rb in let less = lt_from_test p.x (f.b.x *ℤ p.d) b in omega linear;
      right_within = λ a b ra rb l.
          let at = ahead f.a ra in let le = le_from_test (f.a.x *ℤ p.d) p.x a in omega linear;
      down_past = λ b ra rb l.
          let at = ahead f.b rb in let le = ge_from_test p.x (f.b.x *ℤ p.d) b in omega linear;
      down_ahead = λ a ra rb l.
          let at = behind f.a ra in let less = gt_from_test (f.a.x *ℤ p.d) p.x a in omega linear;
      up_ahead = λ a ra rb l.
          let at = behind f.b rb in let le = in_order in
          let less = gt_from_test (f.a.x *ℤ p.d) p.x a in omega linear;
      up_past = λ b ra rb l.
          let at = ahead f.a ra in let le = in_order in
          let past = ge_from_test p.x (f.b.x *ℤ p.d) b in omega linear;
    }

  -- the edge below p, and its rise from the part right of the line that p has come to, are its way across the line
  across : one_if (is_strictly_below f p) +ℤ
      (one_if (come_to f.b && is_right_of e f.b) -ℤ one_if (come_to f.a && is_right_of e f.a)) ≡ crossing_before e p f
  across = ap (λ t. one_if (is_strictly_below f p) +ℤ
      (one_if (t && is_right_of e f.b) -ℤ one_if (come_to f.a && is_right_of e f.a))) (int_le-not (f.b.x *ℤ p.d) p.x)
      ∙ rise_is (come_to f.a) to_come is_left (is_right_of e f.a) (is_right_of e f.b)
      (by_lt_z e.a.x e.b.x lies_wide lies_upright)

-- ---- of a balanced list

pub winding_along_a_line : WindingAlongALine
winding_along_a_line count es forward balanced line before p level = sym (
    total-same (λ f. count f *ℤ crossing_before line p (ends_of f))
    (λ f. cond (is_strictly_below (ends_of f) p) (count f) (pos 0) +ℤ count f *ℤ (g f.b -ℤ g f.a)) es each
    ∙ total-add (λ f. cond (is_strictly_below (ends_of f) p) (count f) (pos 0))
    (λ f. count f *ℤ (g f.b -ℤ g f.a)) es
    ∙ ap (λ z. winding_by count es p +ℤ z) (balanced g)
    ∙ +ℤ_idr (winding_by count es p))
  where
    g : Point → ℤ
    g v = one_if (int_le (v.x *ℤ p.d) p.x && is_right_of line v)

    each : (f : CountedEdge) → Contains es f → count f *ℤ crossing_before line p (ends_of f) ≡
        cond (is_strictly_below (ends_of f) p) (count f) (pos 0) +ℤ count f *ℤ (g f.b -ℤ g f.a)
    each f c =
        let is = across line (ends_of f) p (forward_from_test line before) (forward_from_test (ends_of f)
        (All-contains (λ h. point_lt h.a h.b ≡ true) es f forward c)) level in
        ap (λ z. count f *ℤ z) (sym is)
        ∙ solve 3 (λ c s t. c ⊗ (s ⊕ t) ≗ c ⊗ s ⊕ c ⊗ t) tt (count f) (one_if (is_strictly_below (ends_of f) p))
        (g f.b -ℤ g f.a)
        ∙ ap (λ z. z +ℤ count f *ℤ (g f.b -ℤ g f.a))
        (sym (count-times (is_strictly_below (ends_of f) p) (count f)))
