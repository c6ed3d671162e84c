-- A point just above the midpoint of an edge that is not vertical: off all edges of a settled list, with that edge as
-- the greatest below it.
use Rattle.std.proofs.Common.{◌≡◌, ◌⊎◌, inl, inr, ℕ, Bool, true, false, ℤ, pos, negsuc, nat_abs, ◌+ℤ◌, ◌-ℤ◌, ◌*ℤ◌, ◌<ℤ◌}
use Rattle.std.proofs.Common.{◌≤ℤ◌, int_lt, int_le, List, [], ◌∷◌, Contains, ⊎_elim, refl, sym, ap, ◌∙◌, subst, arith}
use Rattle.std.proofs.lemmas.Bool.{and_parts, and_from}
use Rattle.std.proofs.lemmas.Int.{ints}
use Rattle.std.proofs.lemmas.List.Elements.{All-contains, All-contains_itself, All-map, All-weaker}
use lib.IntN.{*ℤ-zero}
use Rattle.overlay_geom.specs.Plane.{PlanePoint, Edge, IsOn, IsOff, side, midpoint, point_lt, edge_eq}
use Rattle.overlay_geom.specs.Plane.{is_strictly_below}
use Rattle.overlay_geom.specs.Edges.{CountedEdge, ends_of, all_ends}
use Rattle.overlay_geom.specs.Settled.{IsSettled}
use Rattle.overlay_geom.proofs.AlongEdge.{sideE, over_le, in_order_between}
use Rattle.overlay_geom.proofs.Identities.{solve, number, ◌⊕◌, ◌⊗◌, ◌⊖◌, ◌≗◌}
use Rattle.overlay_geom.proofs.Orders.{edge_eq-exchanged, edge_eq-same}
use Rattle.overlay_geom.proofs.Signs.{linear, by_sign, mul-pos, mul-le, mul-lt, le_of_mul-le, lt_of_mul-lt}
use Rattle.overlay_plane.specs.EdgeLists.{IsForwardBy}
use Rattle.overlay_plane.specs.GreatestBelow.{IsGreatestBelow}
use Rattle.overlay_plane.specs.Heights.{width, covers, is_under, Spans, IsInner}
use Rattle.overlay_plane.specs.Regions.{HasDistinctEnds}
use Rattle.overlay_plane.proofs.Crossing.{between_on_line}
use Rattle.overlay_plane.proofs.Ends.{off_inside}
use Rattle.overlay_plane.proofs.LineForms.{side-midpoint}
use Rattle.overlay_plane.proofs.NodeStarts.{rises_upright}
use Rattle.overlay_plane.proofs.Sides.{inner_midpoint, inner_covers, below_point}
use Rattle.overlay_plane.proofs.SingleEntries.{one_entry}
use Rattle.overlay_plane.proofs.Strip.{starts_first}
use Rattle.overlay_plane.proofs.Tests.{lt_from_test, test_from_lt, test_from_le}
use Rattle.overlay_plane.proofs.LaterEntries.{Contains-cases}
use Rattle.overlay_plane.proofs.Under.{covers_from, covers_to, covers_wide, same_under}

-- a number that is greater than 1 and than the width of each edge
room : List CountedEdge → ℤ
room [] = pos 2
room (e ∷ es) = room es +ℤ pos (nat_abs (width (ends_of e)))

more_than_one : (es : List CountedEdge) → pos 1 <ℤ room es
unfolding room
more_than_one [] = record { lt = tt }
more_than_one (e ∷ es) = let rest = more_than_one es in let some = nonneg (nat_abs (width (ends_of e))) in omega linear
  where
    nonneg : (n : ℕ) → pos 0 ≤ℤ pos n
    nonneg n = omega (arith, ints)

wider : (es : List CountedEdge) (e : CountedEdge) → Contains es e → width (ends_of e) <ℤ room es
unfolding room
wider [] e c = elim c.1 [ ]
wider (f ∷ es) e c = ⊎_elim
    (λ is. subst (λ (g : CountedEdge). width (ends_of g) <ℤ room (f ∷ es)) is
    (let up = up_to (width (ends_of f)) in let rest = more_than_one es in omega linear))
    (λ later. let rest = wider es e later in let some = nonneg (nat_abs (width (ends_of f))) in omega linear)
    (Contains-cases f es e c)
  where
    nonneg : (n : ℕ) → pos 0 ≤ℤ pos n
    nonneg n = omega (arith, ints)

    up_to : (z : ℤ) → z ≤ℤ pos (nat_abs z)
    up_to (pos n) = omega (arith, ints)
    up_to (negsuc n) = omega (arith, ints)

-- a point off each edge of a list is off the list
off_all : (es : List CountedEdge) (p : PlanePoint) → ((e : CountedEdge) → Contains es e → ¬ (IsOn (ends_of e) p)) →
    IsOff (all_ends es) p
off_all es p h = All-map (λ e. ¬ (IsOn e p)) ends_of es (All-weaker (Contains es) (λ e. ¬ (IsOn (ends_of e) p)) h es
    (All-contains_itself es))

-- n times a number that is not above -1 is at most -n
pub times_below : (n s : ℤ) → pos 0 <ℤ n → s <ℤ pos 0 → (n *ℤ s +ℤ n) ≤ℤ pos 0
times_below n s positive low =
    let le = mul-le n (s +ℤ pos 1) (pos 0) (omega linear) (omega linear) in
    let sum = solve 2 (λ n s. n ⊗ (s ⊕ number (pos 1)) ≗ n ⊗ s ⊕ n) tt n s in
    let none = *ℤ-zero n in
    omega linear

-- and n times one above 0 is n or more
pub times_above : (n s : ℤ) → pos 0 <ℤ n → pos 0 <ℤ s → n ≤ℤ (n *ℤ s)
times_above n s positive high =
    let le = mul-le n (pos 0) (s -ℤ pos 1) (omega linear) (omega linear) in
    let sum = solve 2 (λ n s. n ⊗ (s ⊖ number (pos 1)) ≗ n ⊗ s ⊖ n) tt n s in
    let none = *ℤ-zero n in
    omega linear

-- the point just above p, at n times the numbers of p
abbrev just_above : (n : ℤ) (p : PlanePoint) → pos 0 <ℤ (n *ℤ p.d) → PlanePoint
just_above n p positive = record { x = n *ℤ p.x; y = n *ℤ p.y +ℤ pos 1; d = n *ℤ p.d; positive = positive }

-- ---- an edge seen from p and from the point just above it

module _ (n : ℤ) (more : pos 1 <ℤ n) (p : PlanePoint) (scaled : pos 0 <ℤ (n *ℤ p.d)) (g : Edge)
    (forward : point_lt g.a g.b ≡ true)
    (narrow : width g <ℤ n) where
  -- the number is positive
  positive : pos 0 <ℤ n
  positive = let m = more in omega linear

  -- the width is not negative
  some_width : pos 0 ≤ℤ width g
  some_width = let first = starts_first g forward in omega linear

  -- the side there is n times that of p, and the width more
  side_above : side g (just_above n p scaled) ≡ n *ℤ side g p +ℤ width g
  side_above = solve 8 (λ ax ay bx by x y d n. sideE ax ay bx by (n ⊗ x) (n ⊗ y ⊕ number (pos 1)) (n ⊗ d) ≗ n ⊗ sideE ax
      ay bx by x y d ⊕ (bx ⊖ ax))
      tt g.a.x g.a.y g.b.x g.b.y p.x p.y p.d n

  times_d : (z : ℤ) → z *ℤ (n *ℤ p.d) ≡ n *ℤ (z *ℤ p.d)
  times_d z = solve 3 (λ z n d. z ⊗ (n ⊗ d) ≗ n ⊗ (z ⊗ d)) tt z n p.d

  -- it covers both x-coordinates or neither
  covers_back : covers g (n *ℤ p.x) (n *ℤ p.d) ≡ true → covers g p.x p.d ≡ true
  covers_back over =
      let from = covers_from g (n *ℤ p.x) (n *ℤ p.d) over in
      let to = covers_to g (n *ℤ p.x) (n *ℤ p.d) over in
      let at_a = times_d g.a.x in
      let at_b = times_d g.b.x in
      and_from (int_le (g.a.x *ℤ p.d) p.x) (int_lt p.x (g.b.x *ℤ p.d))
      (test_from_le (g.a.x *ℤ p.d) p.x (le_of_mul-le n (g.a.x *ℤ p.d) p.x positive (omega linear)))
      (test_from_lt p.x (g.b.x *ℤ p.d) (lt_of_mul-lt n p.x (g.b.x *ℤ p.d) positive (omega linear)))

  covers_there : covers g p.x p.d ≡ true → covers g (n *ℤ p.x) (n *ℤ p.d) ≡ true
  covers_there over =
      let from = mul-le n (g.a.x *ℤ p.d) p.x (let k = positive in omega linear) (covers_from g p.x p.d over) in
      let to = mul-lt n p.x (g.b.x *ℤ p.d) positive (covers_to g p.x p.d over) in
      let at_a = times_d g.a.x in
      let at_b = times_d g.b.x in
      and_from (int_le (g.a.x *ℤ (n *ℤ p.d)) (n *ℤ p.x)) (int_lt (n *ℤ p.x) (g.b.x *ℤ (n *ℤ p.d)))
      (test_from_le (g.a.x *ℤ (n *ℤ p.d)) (n *ℤ p.x) (omega linear))
      (test_from_lt (n *ℤ p.x) (g.b.x *ℤ (n *ℤ p.d)) (omega linear))

  -- an edge on whose line p lies, and whose span p is in, has p on it
  on_if_level : side g p ≡ pos 0 → covers g p.x p.d ≡ true → IsOn g p
  on_if_level level over = record {
    on_line = level;
    in_x = inl (spans.from, spans.to);
    in_y = between_on_line g p.x p.y
        p.d wide level spans;
  }
    where
      wide : pos 0 <ℤ width g
      wide = covers_wide g p.x p.d p.positive over

      spans : Spans g p.x p.d
      spans = record { from = covers_from g p.x p.d over; to = let r = covers_to g p.x p.d over in omega linear }

  -- edges strictly below the point above are strictly below p, for an edge off p
  below_back : ¬ (IsOn g p) → is_strictly_below g (just_above n p scaled) ≡ true → is_strictly_below g p ≡ true
  below_back off t =
      let parts = and_parts (covers g (n *ℤ p.x) (n *ℤ p.d)) (int_lt (pos 0) (side g (just_above n p scaled))) t in
      let high = lt_from_test (pos 0) (side g (just_above n p scaled)) parts.1 in
      let is = side_above in
      let over = covers_back parts.0 in
      by_sign (side g p)
      (λ low. absurd (let le = times_below n (side g p) positive low in let small = narrow in omega linear))
      (λ level. absurd (off (on_if_level level over)))
      (λ above. and_from (covers g p.x p.d) (int_lt (pos 0) (side g p)) over (test_from_lt (pos 0) (side g p) above))

  -- the point above is off it too
  still_off : ¬ (IsOn g p) → ¬ (IsOn g (just_above n p scaled))
  still_off off on = by_sign (side g p)
      (λ low. let i = is in let le = times_below n (side g p) positive low in let small = narrow in omega linear)
      (λ level. off (on_upright level (times_none level)))
      (λ high. let i = is in let ge = times_above n (side g p) positive high in let wide = some_width in
      let k = positive in omega linear)
    where
      is : n *ℤ side g p +ℤ width g ≡ pos 0
      is = sym side_above ∙ on.on_line

      times_none : side g p ≡ pos 0 → n *ℤ side g p ≡ pos 0
      times_none level = ap (λ z. n *ℤ z) level ∙ *ℤ-zero n

      on_upright : side g p ≡ pos 0 → n *ℤ side g p ≡ pos 0 → IsOn g p
      on_upright level none =
          let narrow_there : width g ≤ℤ pos 0 = let i = is in omega linear in
          let rises = rises_upright g forward narrow_there in
          let there = in_order_between (n *ℤ p.x) (g.a.x *ℤ (n *ℤ p.d)) (g.b.x *ℤ (n *ℤ p.d))
          (over_le g.a.x g.b.x (n *ℤ p.d) scaled (starts_first g forward)) on.in_x in
          let high = in_order_between (n *ℤ p.y +ℤ pos 1) (g.a.y *ℤ (n *ℤ p.d)) (g.b.y *ℤ (n *ℤ p.d))
          (over_le g.a.y g.b.y (n *ℤ p.d) scaled (omega linear)) on.in_y in
          let from_x = there.0 in
          let to_x = there.1 in
          let from_y = high.0 in
          let to_y = high.1 in
          let ax = times_d g.a.x in
          let bx = times_d g.b.x in
          let ay = times_d g.a.y in
          let by = times_d g.b.y in
          let next = solve 2 (λ n y. n ⊗ (y ⊕ number (pos 1)) ≗ n ⊗ y ⊕ n) tt n p.y in
          let k = more in
          record {
            on_line = level;
            in_x = inl (
              le_of_mul-le n (g.a.x *ℤ p.d) p.x positive (omega linear),
              le_of_mul-le n p.x
                  (g.b.x *ℤ p.d) positive (omega linear),
            );
            in_y = inl (
              (let less = lt_of_mul-lt n (g.a.y *ℤ p.d) (p.y +ℤ pos 1) positive (omega linear) in omega linear),
              le_of_mul-le n p.y (g.b.y *ℤ p.d) positive (omega linear),
            );
          }

-- ---- above an edge

module _ (es : List CountedEdge) (forward : IsForwardBy ends_of es) (settled : IsSettled es)
    (distinct : HasDistinctEnds es) (e : CountedEdge)
    (at : Contains es e) (wide : pos 0 <ℤ width (ends_of e)) where
  -- the number by which the midpoint's numbers are taken
  abbrev n : ℤ
  n = room es

  abbrev middle : PlanePoint
  middle = midpoint (ends_of e)

  inner : IsInner (ends_of e) middle.x middle.d
  inner = inner_midpoint (ends_of e) wide

  scaled : pos 0 <ℤ (n *ℤ pos 2)
  scaled = mul-pos n (pos 2) (let k = more_than_one es in omega linear) (record { lt = tt })

  abbrev above : PlanePoint
  above = just_above n middle scaled

  forward_at : (g : CountedEdge) → Contains es g → point_lt g.a g.b ≡ true
  forward_at g c = All-contains (λ f. point_lt f.a f.b ≡ true) es g forward c

  -- another edge does not have the midpoint
  middle_off : (g : CountedEdge) → Contains es g → edge_eq (ends_of e) (ends_of g) ≡ false → ¬ (IsOn (ends_of g) middle)
  middle_off g c apart on = off_inside (ends_of e) (ends_of g) middle wide (settled e g at c apart) on inner
      (side-midpoint (ends_of e))

  -- e is below the point above it, which is not on it
  high : pos 0 <ℤ side (ends_of e) above
  high =
      let is = side_above n (more_than_one es) middle scaled (ends_of e) (forward_at e at) (wider es e at) in
      let none = ap (λ z. n *ℤ z) (side-midpoint (ends_of e)) ∙ *ℤ-zero n in
      let w = wide in
      omega linear

  over_e : covers (ends_of e) above.x above.d ≡ true
  over_e = covers_there n (more_than_one es) middle scaled (ends_of e) (forward_at e at) (wider es e at)
      (inner_covers (ends_of e) middle (side-midpoint (ends_of e)) inner)

  off_each : (g : CountedEdge) → Contains es g → ¬ (IsOn (ends_of g) above)
  off_each g c = by (edge_eq (ends_of e) (ends_of g)) refl
    where
      by : (t : Bool) → edge_eq (ends_of e) (ends_of g) ≡ t → ¬ (IsOn (ends_of g) above)
      by true same on =
          let on_e : IsOn (ends_of e) above = subst (λ (f : Edge). IsOn f above)
          (sym (edge_eq-same (ends_of e) (ends_of g) same)) on in
          let level = on_e.on_line in
          let h = high in
          omega linear
      by false apart on = still_off n (more_than_one es) middle scaled (ends_of g) (forward_at g c) (wider es g c)
          (middle_off g c apart) on

  greatest_there : (f : CountedEdge) → Contains es f → is_strictly_below (ends_of f) above ≡ true →
      (f ≡ e) ⊎ (is_under (ends_of f) (ends_of e) above.x above.d ≡ true)
  greatest_there f c below = by (edge_eq (ends_of e) (ends_of f)) refl
    where
      by : (t : Bool) → edge_eq (ends_of e) (ends_of f) ≡ t →
          (f ≡ e) ⊎ (is_under (ends_of f) (ends_of e) above.x above.d ≡ true)
      by true same = inl (one_entry es distinct f e c at (edge_eq-exchanged (ends_of e) (ends_of f) same))
      by false apart =
          let back = below_back n (more_than_one es) middle scaled (ends_of f) (forward_at f c) (wider es f c)
          (middle_off f c apart) below in
          let parts = and_parts (covers (ends_of f) middle.x middle.d)
          (is_under (ends_of f) (ends_of e) middle.x middle.d)
          (sym (below_point (ends_of e) middle (side-midpoint (ends_of e)) inner (ends_of f)
          (λ other. settled e f at c other)) ∙ back) in
          let there = (and_parts (covers (ends_of f) above.x above.d) (int_lt (pos 0) (side (ends_of f) above))
          below).0 in
          inr (sym (same_under (ends_of f) (ends_of e) middle.x middle.d above.x above.d middle.positive scaled
          (settled e f at c apart) parts.0
          (inner_covers (ends_of e) middle (side-midpoint (ends_of e)) inner) there over_e) ∙ parts.1)

  -- a point off the edges with e as the greatest below
  pub near_above : (p : PlanePoint) × IsOff (all_ends es) p × IsGreatestBelow es p e
  near_above = (
    above,
    off_all es above off_each,
    record {
      entry = at;
      below = and_from (covers (ends_of e) above.x above.d) (int_lt (pos 0) (side (ends_of e) above)) over_e
          (test_from_lt (pos 0) (side (ends_of e) above) high);
      greatest = greatest_there;
    },
  )
