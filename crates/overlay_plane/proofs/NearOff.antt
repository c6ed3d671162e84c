-- A point off the edges of one list has a point near it that is off those of a second list too, with equal windings of
-- the first. The way to it is so short that no edge comes below or stops being below, and its slope is that of no edge.
use Rattle.std.proofs.Common.{◌≡◌, inl, inr, ⊎_elim, ℕ, true, cond, ℤ, pos, negsuc, nat_abs, ◌+ℤ◌, ◌-ℤ◌}
use Rattle.std.proofs.Common.{◌*ℤ◌, neg_ℤ, ◌<ℤ◌, ◌≤ℤ◌, int_lt, int_le, List, [], ◌∷◌, ◌++◌, Contains, ap, ◌∙◌}
use Rattle.std.proofs.Common.{subst, arith}
use Rattle.std.proofs.lemmas.Bool.{and_parts, and_from}
use Rattle.std.proofs.lemmas.Int.{ints, by_lt_z}
use Rattle.std.proofs.lemmas.List.Elements.{All-contains, All-map, Contains-append_left, Contains-append_right}
use lib.IntN.{*ℤ-zero}
use Rattle.overlay_geom.specs.Plane.{PlanePoint, Edge, IsOn, IsOff, IsBetween, side, is_strictly_below}
use Rattle.overlay_geom.specs.Edges.{CountedEdge, ends_of, all_ends, winding_by}
use Rattle.overlay_geom.proofs.AlongEdge.{sideE}
use Rattle.overlay_geom.proofs.Identities.{solve, number, ◌⊕◌, ◌⊗◌, ◌⊖◌, ◌≗◌}
use Rattle.overlay_geom.proofs.Signs.{linear, by_sign, mul-pos, mul-le, lt_of_mul-lt}
use Rattle.overlay_plane.specs.Heights.{width, covers, Spans}
use Rattle.overlay_plane.proofs.Crossing.{between_on_line}
use Rattle.overlay_plane.proofs.Entries.{Contains-map, all_of_entries}
use Rattle.overlay_plane.proofs.LaterEntries.{Contains-cases}
use Rattle.overlay_plane.proofs.NearAbove.{times_below, times_above}
use Rattle.overlay_plane.proofs.Tests.{lt_from_test, test_from_lt, test_from_le, same_tests}
use Rattle.overlay_plane.proofs.Totals.{total-same}
use Rattle.overlay_plane.proofs.Under.{covers_from, covers_to, covers_wide}

-- ---- a number above all

-- z is nearer to 0 than n
record IsLess (z n : ℤ) : Type 0 where
  above : neg_ℤ n <ℤ z
  below : z <ℤ n

-- a number above 1 that is greater than those of the entries, and than these turned over
beyond : {X : Type 0} → (X → ℤ) → List X → ℤ
beyond f [] = pos 2
beyond f (x ∷ xs) = beyond f xs +ℤ pos (nat_abs (f x))

nonneg : (n : ℕ) → pos 0 ≤ℤ pos n
nonneg n = omega (arith, ints)

above_one : {X : Type 0} (f : X → ℤ) (xs : List X) → pos 1 <ℤ beyond f xs
unfolding beyond
above_one f [] = record { lt = tt }
above_one f (x ∷ xs) = let rest = above_one f xs in let some = nonneg (nat_abs (f x)) in omega linear

less_than_beyond : {X : Type 0} (f : X → ℤ) (xs : List X) (x : X) → Contains xs x → IsLess (f x) (beyond f xs)
unfolding beyond
less_than_beyond f [] x c = elim c.1 [ ]
less_than_beyond {X} f (y ∷ ys) x c = ⊎_elim
    (λ is. subst (λ (z : X). IsLess (f z) (beyond f (y ∷ ys))) is
    (let rest = above_one f ys in
    let high = up_to (f y) in
    let low = from_below (f y) in
    record { above = omega linear; below = omega linear }))
    (λ later. let rest = less_than_beyond f ys x later in
    let low = rest.above in
    let high = rest.below in
    let some = nonneg (nat_abs (f y)) in
    record { above = omega linear; below = omega linear })
    (Contains-cases y ys x c)
  where
    up_to : (z : ℤ) → z ≤ℤ pos (nat_abs z)
    up_to (pos n) = omega (arith, ints)
    up_to (negsuc n) = omega (arith, ints)

    from_below : (z : ℤ) → neg_ℤ (pos (nat_abs z)) ≤ℤ z
    from_below (pos n) = omega (arith, ints)
    from_below (negsuc n) = omega (arith, ints)

-- ---- the point k / (n d) to the right of p, and 1 / (n d) above

abbrev aside : (n k : ℤ) (p : PlanePoint) → pos 0 <ℤ (n *ℤ p.d) → PlanePoint
aside n k p positive = record { x = n *ℤ p.x +ℤ k; y = n *ℤ p.y +ℤ pos 1; d = n *ℤ p.d; positive = positive }

-- by how much the way to it leads to the left of the edge
abbrev slant : ℤ → Edge → ℤ
slant k g = width g -ℤ k *ℤ (g.b.y -ℤ g.a.y)

module _ (n k : ℤ) (some : pos 0 <ℤ k) (few : k <ℤ n) (p : PlanePoint) (scaled : pos 0 <ℤ (n *ℤ p.d)) (g : Edge)
    (small : IsLess (slant k g) n) where
  abbrev there : PlanePoint
  there = aside n k p scaled

  positive : pos 0 <ℤ n
  positive = let s = some in let f = few in omega linear

  -- the side there is n times that of p, and the slant more
  side_aside : side g there ≡ n *ℤ side g p +ℤ slant k g
  side_aside = solve 9 (λ ax ay bx by x y d n k. sideE ax ay bx by (n ⊗ x ⊕ k) (n ⊗ y ⊕ number (pos 1)) (n ⊗ d) ≗
      n ⊗ sideE ax ay bx by x y d ⊕ ((bx ⊖ ax) ⊖ k ⊗ (by ⊖ ay)))
      tt g.a.x g.a.y g.b.x g.b.y p.x p.y p.d n k

  times_d : (z : ℤ) → z *ℤ (n *ℤ p.d) ≡ n *ℤ (z *ℤ p.d)
  times_d z = solve 3 (λ z n d. z ⊗ (n ⊗ d) ≗ n ⊗ (z ⊗ d)) tt z n p.d

  next_x : n *ℤ (p.x +ℤ pos 1) ≡ n *ℤ p.x +ℤ n
  next_x = solve 2 (λ n x. n ⊗ (x ⊕ number (pos 1)) ≗ n ⊗ x ⊕ n) tt n p.x

  -- a multiple of n up to there is up to p, and one after p is after there
  from_there : (z : ℤ) → (n *ℤ z) ≤ℤ (n *ℤ p.x +ℤ k) → z ≤ℤ p.x
  from_there z le =
      let f = few in
      let next = next_x in
      let less = lt_of_mul-lt n z (p.x +ℤ pos 1) positive (omega linear) in
      omega linear

  after_there : (z : ℤ) → p.x <ℤ z → (n *ℤ p.x +ℤ k) <ℤ (n *ℤ z)
  after_there z less =
      let f = few in
      let next = next_x in
      let le = mul-le n (p.x +ℤ pos 1) z (let h = positive in omega linear) (omega linear) in
      omega linear

  -- the edge covers both x-coordinates or neither
  covers_back : covers g there.x there.d ≡ true → covers g p.x p.d ≡ true
  covers_back over =
      let from = covers_from g there.x there.d over in
      let to = covers_to g there.x there.d over in
      let at_a = times_d g.a.x in
      let at_b = times_d g.b.x in
      let s = some in
      and_from (int_le (g.a.x *ℤ p.d) p.x) (int_lt p.x (g.b.x *ℤ p.d))
      (test_from_le (g.a.x *ℤ p.d) p.x (from_there (g.a.x *ℤ p.d) (omega linear)))
      (test_from_lt p.x (g.b.x *ℤ p.d) (lt_of_mul-lt n p.x (g.b.x *ℤ p.d) positive (omega linear)))

  covers_there : covers g p.x p.d ≡ true → covers g there.x there.d ≡ true
  covers_there over =
      let from = mul-le n (g.a.x *ℤ p.d) p.x (let h = positive in omega linear) (covers_from g p.x p.d over) in
      let to = after_there (g.b.x *ℤ p.d) (covers_to g p.x p.d over) in
      let at_a = times_d g.a.x in
      let at_b = times_d g.b.x in
      let s = some in
      and_from (int_le (g.a.x *ℤ there.d) there.x) (int_lt there.x (g.b.x *ℤ there.d))
      (test_from_le (g.a.x *ℤ there.d) there.x (omega linear))
      (test_from_lt there.x (g.b.x *ℤ there.d) (omega linear))

  -- an edge on whose line p lies, and whose span p is in, has p on it
  on_if_level : side g p ≡ pos 0 → covers g p.x p.d ≡ true → IsOn g p
  on_if_level level over = record {
    on_line = level;
    in_x = inl (spans.from, spans.to);
    in_y = between_on_line g p.x p.y p.d (covers_wide g p.x p.d p.positive over) level spans;
  }
    where
      spans : Spans g p.x p.d
      spans = record { from = covers_from g p.x p.d over; to = let r = covers_to g p.x p.d over in omega linear }

  -- an edge that does not have p is strictly below both points or neither
  below_back : ¬ (IsOn g p) → is_strictly_below g there ≡ true → is_strictly_below g p ≡ true
  below_back off t =
      let parts = and_parts (covers g there.x there.d) (int_lt (pos 0) (side g there)) t in
      let high = lt_from_test (pos 0) (side g there) parts.1 in
      let is = side_aside in
      let over = covers_back parts.0 in
      by_sign (side g p)
      (λ low. absurd (let le = times_below n (side g p) positive low in let less = small.below in omega linear))
      (λ level. absurd (off (on_if_level level over)))
      (λ above. and_from (covers g p.x p.d) (int_lt (pos 0) (side g p)) over (test_from_lt (pos 0) (side g p) above))

  below_there : is_strictly_below g p ≡ true → is_strictly_below g there ≡ true
  below_there t =
      let parts = and_parts (covers g p.x p.d) (int_lt (pos 0) (side g p)) t in
      let high = times_above n (side g p) positive (lt_from_test (pos 0) (side g p) parts.1) in
      let is = side_aside in
      let more = small.above in
      and_from (covers g there.x there.d) (int_lt (pos 0) (side g there)) (covers_there parts.0)
      (test_from_lt (pos 0) (side g there) (omega linear))

  same_below : ¬ (IsOn g p) → is_strictly_below g there ≡ is_strictly_below g p
  same_below off = same_tests (is_strictly_below g there) (is_strictly_below g p) (below_back off) below_there

  -- no upright edge has the point there, nor one to whose slope its way is not parallel
  off_upright : width g ≡ pos 0 → ¬ (IsOn g there)
  off_upright narrow on =
      let at_a = times_d g.a.x in
      let s = some in
      let le = from_there (g.a.x *ℤ p.d) (let is = same_x on.in_x in omega linear) in
      let most = mul-le n (g.a.x *ℤ p.d) p.x (let h = positive in omega linear) le in
      let is = same_x on.in_x in
      omega linear
    where
      both : g.a.x *ℤ there.d ≡ g.b.x *ℤ there.d
      both = ap (λ z. z *ℤ there.d) (let is : g.a.x ≡ g.b.x = omega linear in is)

      same_x : IsBetween there.x (g.a.x *ℤ there.d) (g.b.x *ℤ there.d) → there.x ≡ g.a.x *ℤ there.d
      same_x (inl (from, to)) = let is = both in omega linear
      same_x (inr (from, to)) = let is = both in omega linear

  off_slanted : ¬ (slant k g ≡ pos 0) → ¬ (IsOn g there)
  off_slanted slanted on =
      let is = side_aside in
      let level = on.on_line in
      let above = small.above in
      let below = small.below in
      by_sign (side g p)
      (λ low. let le = times_below n (side g p) positive low in omega linear)
      (λ zero. slanted (let none = ap (λ z. n *ℤ z) zero ∙ *ℤ-zero n in omega linear))
      (λ high. let ge = times_above n (side g p) positive high in omega linear)

-- where the way leads further to the right than the edge, the way is not parallel to an edge that is not upright
not_parallel : (k w h : ℤ) → pos 0 <ℤ k → IsLess w k → ¬ (w ≡ pos 0) → ¬ (w -ℤ k *ℤ h ≡ pos 0)
not_parallel k w h positive small wide zero =
    let above = small.above in
    let below = small.below in
    by_sign h
    (λ low. let le = times_below k h positive low in omega linear)
    (λ level. wide (let none = ap (λ z. k *ℤ z) level ∙ *ℤ-zero k in omega linear))
    (λ high. let ge = times_above k h positive high in omega linear)

-- ---- near a point off the edges

module _ (es more : List CountedEdge) (p : PlanePoint) (off : IsOff (all_ends es) p) where
  abbrev both : List CountedEdge
  both = es ++ more

  -- the way is k / (n d) to the right
  abbrev k : ℤ
  k = beyond (λ e. width (ends_of e)) both

  abbrev n : ℤ
  n = k +ℤ beyond (λ e. slant k (ends_of e)) both

  some : pos 0 <ℤ k
  some = let one = above_one (λ e. width (ends_of e)) both in omega linear

  few : k <ℤ n
  few = let one = above_one (λ e. slant k (ends_of e)) both in omega linear

  scaled : pos 0 <ℤ (n *ℤ p.d)
  scaled = mul-pos n p.d (let s = some in let f = few in omega linear) p.positive

  abbrev near : PlanePoint
  near = aside n k p scaled

  small : (e : CountedEdge) → Contains both e → IsLess (slant k (ends_of e)) n
  small e c =
      let less = less_than_beyond (λ f. slant k (ends_of f)) both e c in
      let above = less.above in
      let below = less.below in
      let s = some in
      record { above = omega linear; below = omega linear }

  off_entry : (e : CountedEdge) → Contains both e → ¬ (IsOn (ends_of e) near)
  off_entry e c = by_lt_z (width (ends_of e)) (pos 0)
      (λ less. wide (let l = less in λ zero. omega linear))
      (λ ge. by_lt_z (pos 0) (width (ends_of e)) (λ more. wide (λ zero. omega linear))
      (λ le. off_upright n k some few p scaled (ends_of e) (small e c) (omega linear)))
    where
      wide : ¬ (width (ends_of e) ≡ pos 0) → ¬ (IsOn (ends_of e) near)
      wide is = off_slanted n k some few p scaled (ends_of e) (small e c)
          (not_parallel k (width (ends_of e)) (e.b.y -ℤ e.a.y) some
          (less_than_beyond (λ f. width (ends_of f)) both e c) is)

  off_p : (e : CountedEdge) → Contains es e → ¬ (IsOn (ends_of e) p)
  off_p e c = All-contains (λ f. ¬ (IsOn f p)) (all_ends es) (ends_of e) off (Contains-map ends_of es e c)

  off_first : IsOff (all_ends es) near
  off_first = All-map (λ f. ¬ (IsOn f near)) ends_of es (all_of_entries (λ e. ¬ (IsOn (ends_of e) near)) es
      (λ e c. off_entry e (Contains-append_left es more e c)))

  off_second : IsOff (all_ends more) near
  off_second = All-map (λ f. ¬ (IsOn f near)) ends_of more (all_of_entries (λ e. ¬ (IsOn (ends_of e) near)) more
      (λ e c. off_entry e (Contains-append_right es more e c)))

  same_winding : (count : CountedEdge → ℤ) → winding_by count es near ≡ winding_by count es p
  same_winding count = total-same (λ f. cond (is_strictly_below (ends_of f) near) (count f) (pos 0))
      (λ f. cond (is_strictly_below (ends_of f) p) (count f) (pos 0)) es
      (λ f c. ap (λ t. cond t (count f) (pos 0))
      (same_below n k some few p scaled (ends_of f) (small f (Contains-append_left es more f c)) (off_p f c)))

-- near a point off the edges of one list there is one off those of a second too, round which the first winds as there
pub record IsNearOff (es more : List CountedEdge) (p : PlanePoint) : Type 0 where
  pub near : PlanePoint
  pub off : IsOff (all_ends es) near
  pub off_more : IsOff (all_ends more) near
  pub same : (count : CountedEdge → ℤ) → winding_by count es near ≡ winding_by count es p

pub near_off : (es more : List CountedEdge) (p : PlanePoint) → IsOff (all_ends es) p → IsNearOff es more p
near_off es more p off = record {
  near = near es more p off;
  off = off_first es more p off;
  off_more = off_second es more p off;
  same = same_winding es more p off;
}
