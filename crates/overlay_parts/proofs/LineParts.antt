-- Parts on one line, one behind the other: what is left of them behind a point, and lists that follow each other.
use Rattle.std.proofs.Common.{◌≡◌, ◌⊎◌, inl, inr, ℕ, ◌+◌, ◌≤◌, ◌<◌, Bool, true, false, cond, pos, List, [], ◌∷◌}
use Rattle.std.proofs.Common.{◌++◌, All, AllPairs, Contains, ⊎_elim, refl, sym, ap, ◌∙◌, subst, arith}
use Rattle.std.proofs.lemmas.Bool.{both_ways}
use Rattle.std.proofs.lemmas.List.Elements.{All-append, All-cons, All-contains, All-head, All-nil, All-tail, All-weaker}
use Rattle.std.proofs.lemmas.List.Elements.{Contains-append_cases}
use Rattle.std.proofs.lemmas.List.Kept.{AllPairs-cons}
use Rattle.overlay_geom.specs.Plane.{Point, Edge, cross_at, point_lt}
use Rattle.overlay_geom.specs.Points.{InRange}
use Rattle.overlay_geom.proofs.Entries.{Contains-head, Contains-later}
use Rattle.overlay_geom.proofs.Merging.{AllPairs-head, AllPairs-tail}
use Rattle.overlay_geom.proofs.Orders.{point_lt-itself, point_lt-order}
use Rattle.overlay_geom.proofs.PointOrder.{point_lt-after_up_to, point_lt-before_up_to, point_lt-transitive}
use Rattle.overlay_plane.proofs.LaterEntries.{Each, AllPairs-from_each, Each-from_all_pairs}
use Rattle.overlay_parts.specs.Parts.{Part, ends_of_part, last_of, part_behind, part_between, rest_behind}
use Rattle.overlay_parts.specs.LineParts.{parts_behind, ArePartsOn, EndsUpTo, IsPartOn}
use Rattle.overlay_parts.proofs.PartFronts.{not_back}

-- the part starts in the point, or behind it
abbrev pub StartsFrom : {C : Type 0} → Point → Part C → Type 0
StartsFrom v part = point_lt (ends_of_part part).a v ≡ false

-- the part ends in the point, or before
abbrev pub EndsBy : {C : Type 0} → Point → Part C → Type 0
EndsBy v part = point_lt v (ends_of_part part).b ≡ false

-- ---- parts behind a point

-- a part that starts behind it stays
behind_unmoved : {C : Type 0} (part : Part C) (v : Point) → StartsFrom v part → part_behind part v ≡ part
behind_unmoved part v from = ap (λ c. part_between part (cond c v (ends_of_part part).a) (ends_of_part part).b) from

-- so do all of them
pub unmoved : {C : Type 0} (v : Point) (ps : List (Part C)) → All (StartsFrom v) ps → parts_behind v ps ≡ ps
unmoved v [] from = refl
unmoved v (p ∷ ps) from =
    ap (λ q. q ∷ parts_behind v ps) (behind_unmoved p v (All-head (StartsFrom v) p ps from))
    ∙ ap (λ qs. p ∷ qs) (unmoved v ps (All-tail (StartsFrom v) p ps from))

-- the last point of three is that of two, where the second comes before the third
last_again : (a v w : Point) → point_lt v w ≡ true → last_of (last_of a v) w ≡ last_of a w
last_again a v w less = by (point_lt a v) refl
  where
    by : (b : Bool) → point_lt a v ≡ b → last_of (cond b v a) w ≡ last_of a w
    by true before =
        ap (λ c. cond c w v) less ∙ sym (ap (λ c. cond c w a) (point_lt-transitive a v w before less))
    by false from = refl

-- behind a point and then behind a later point is behind the later point
behind_again : {C : Type 0} (part : Part C) (v w : Point) → point_lt v w ≡ true →
    part_behind (part_behind part v) w ≡ part_behind part w
behind_again part v w less =
    ap (λ u. part_between part u (ends_of_part part).b) (last_again (ends_of_part part).a v w less)

module _ {C : Type 0} (v w b : Point) (less : point_lt v w ≡ true) (up : point_lt b w ≡ false) where
  -- a part that starts behind b stays
  stays_behind : (q : Part C) → StartsFrom b (part_behind q v) → part_behind q w ≡ part_behind q v
  stays_behind q from = by (point_lt (ends_of_part q).a v) refl
    where
      start_at : (t : Bool) → point_lt (ends_of_part q).a v ≡ t → point_lt (cond t v (ends_of_part q).a) b ≡ false
      start_at t is = subst (λ c. point_lt (cond c v (ends_of_part q).a) b ≡ false) is from

      by : (t : Bool) → point_lt (ends_of_part q).a v ≡ t → part_behind q w ≡ part_behind q v
      by true before =
          absurd (both_ways (point_lt v b) (start_at true before) (point_lt-before_up_to v w b less up))
      by false behind =
          behind_unmoved q w (point_lt-order.chain (ends_of_part q).a b w (start_at false behind) up)
          ∙ sym (behind_unmoved q v behind)

  -- and so do all of them
  all_stay_behind : (qs : List (Part C)) → All (StartsFrom b) (parts_behind v qs) →
      parts_behind w qs ≡ parts_behind v qs
  all_stay_behind [] from = refl
  all_stay_behind (q ∷ qs) from =
      ap (λ p. p ∷ parts_behind w qs)
      (stays_behind q (All-head (StartsFrom b) (part_behind q v) (parts_behind v qs) from))
      ∙ ap (λ ps. part_behind q v ∷ ps)
      (all_stay_behind qs (All-tail (StartsFrom b) (part_behind q v) (parts_behind v qs) from))

-- a part and those behind it, behind a point up to its end
pub next_left : {C : Type 0} (s : Part C) (qs : List (Part C)) (v w : Point) → point_lt v w ≡ true →
    point_lt (ends_of_part s).b w ≡ false → All (StartsFrom (ends_of_part s).b) (parts_behind v qs) →
    parts_behind w (cond (point_lt w (ends_of_part s).b) (s ∷ qs) qs)
    ≡ rest_behind (part_behind s v) w ++ parts_behind v qs
next_left {C} s qs v w less up from = by (point_lt w (ends_of_part s).b)
  where
    stay : parts_behind w qs ≡ parts_behind v qs
    stay = all_stay_behind v w (ends_of_part s).b less up qs from

    by : (t : Bool) → parts_behind w (cond t (s ∷ qs) qs)
        ≡ cond t (part_behind (part_behind s v) w ∷ []) [] ++ parts_behind v qs
    by true =
        ap (λ p. p ∷ parts_behind w qs) (sym (behind_again s v w less))
        ∙ ap (λ ps. part_behind (part_behind s v) w ∷ ps) stay
    by false = stay

-- ---- parts in order

-- what starts behind the start of the first starts there too
pub all_from_first : {C : Type 0} (s : Part C) (ps : List (Part C)) (v : Point) → StartsFrom v s →
    point_lt (ends_of_part s).a (ends_of_part s).b ≡ true → AllPairs EndsUpTo (s ∷ ps) → All (StartsFrom v) (s ∷ ps)
all_from_first s ps v from forward order =
    let up = not_back v (ends_of_part s).b
    (point_lt-after_up_to v (ends_of_part s).a (ends_of_part s).b from forward) in
    All-cons (StartsFrom v) s ps from (All-weaker (EndsUpTo s) (StartsFrom v)
    (λ p after. point_lt-order.chain (ends_of_part p).a (ends_of_part s).b v after up) ps
    (AllPairs-head EndsUpTo s ps order))

-- a relation holds of the pairs of two lists joined, if it holds of the pairs of each, and of each entry of the first
-- with each of the second
each_joined : {X : Type 0} (R : X → X → Type 0) (xs ys : List X) → Each R xs → Each R ys →
    ((x y : X) → Contains xs x → Contains ys y → R x y) → Each R (xs ++ ys)
each_joined R [] ys h k between = k
each_joined R (x ∷ xs) ys h k between = (
  λ z at. ⊎_elim (λ old. h.0 z old) (λ new. between x z (Contains-head x xs) new) (Contains-append_cases xs ys z at),
  each_joined R xs ys h.1 k (λ a b in_a in_b. between a b (Contains-later x xs a in_a) in_b),
)

module _ {C : Type 0} (limit : ℕ) (line : Edge) where
  -- more parts behind the others
  pub joined_on : (most : ℕ) (made ps : List (Part C)) (v : Point) → ArePartsOn limit most line made →
      All (EndsBy v) made → ArePartsOn limit most line ps → All (StartsFrom v) ps →
      ArePartsOn limit most line (made ++ ps)
  joined_on most made ps v made_on ended on from = record {
    on = All-append (IsPartOn limit most line) made ps made_on.on on.on;
    in_order = AllPairs-from_each EndsUpTo (made ++ ps)
        (each_joined EndsUpTo made ps (Each-from_all_pairs EndsUpTo made made_on.in_order)
        (Each-from_all_pairs EndsUpTo ps on.in_order)
        (λ x y in_made in_ps. point_lt-order.chain (ends_of_part y).a v (ends_of_part x).b
        (All-contains (StartsFrom v) ps y from in_ps) (All-contains (EndsBy v) made x ended in_made)));
  }

  -- one part alone
  pub alone_on : (most : ℕ) (s : Part C) → IsPartOn limit most line s → ArePartsOn limit most line (s ∷ [])
  alone_on most s on = record {
    on = All-cons (IsPartOn limit most line) s [] on (All-nil (IsPartOn limit most line));
    in_order = AllPairs-cons EndsUpTo s [] (All-nil (EndsUpTo s)) (λ i j d before inside. absurd (omega arith));
  }

  -- parts are lighter than more
  pub lighter_on : (few most : ℕ) (ps : List (Part C)) → few ≤ most → ArePartsOn limit few line ps →
      ArePartsOn limit most line ps
  lighter_on few most ps le on = record {
    on = All-weaker (IsPartOn limit few line) (IsPartOn limit most line)
        (λ p is. record { held = is.held; cover = omega (arith, le, is.cover); along = is.along }) ps on.on;
    in_order = on.in_order;
  }

  module _ (most : ℕ) (s : Part C) (w : Point) (range : InRange limit w)
      (on_line : cross_at line.a line.b w ≡ pos 0) where
    -- a part from a point on
    behind_on : IsPartOn limit most line s → point_lt w (ends_of_part s).b ≡ true →
        IsPartOn limit most line (part_behind s w)
    behind_on on less = by (point_lt (ends_of_part s).a w)
      where
        by : (t : Bool) → IsPartOn limit most line
            (part_between s (cond t w (ends_of_part s).a) (ends_of_part s).b)
        by true = record {
          held = record {
            held = record { forward = less; a_in_range = range; b_in_range = on.held.held.b_in_range };
            light = on.held.light;
          };
          cover = on.cover;
          along = (on_line, on.along.1);
        }
        by false = on

    behind_from : StartsFrom w (part_behind s w)
    behind_from = by (point_lt (ends_of_part s).a w) refl
      where
        by : (t : Bool) → point_lt (ends_of_part s).a w ≡ t → point_lt (cond t w (ends_of_part s).a) w ≡ false
        by true before = point_lt-itself w
        by false from = from

    -- a part and those behind it, from a point up to its end on
    module _ (ps : List (Part C)) (on : ArePartsOn limit most line (s ∷ ps))
        (up : point_lt (ends_of_part s).b w ≡ false) where
      later_on : ArePartsOn limit most line ps
      later_on = record {
        on = All-tail (IsPartOn limit most line) s ps on.on;
        in_order = AllPairs-tail EndsUpTo s ps on.in_order;
      }

      later_from : All (StartsFrom w) ps
      later_from = All-weaker (EndsUpTo s) (StartsFrom w)
          (λ p after. point_lt-order.chain (ends_of_part p).a (ends_of_part s).b w after up) ps
          (AllPairs-head EndsUpTo s ps on.in_order)

      pub rest_on : ArePartsOn limit most line (rest_behind s w ++ ps)
      rest_on = by (point_lt w (ends_of_part s).b) refl
        where
          by : (t : Bool) → point_lt w (ends_of_part s).b ≡ t →
              ArePartsOn limit most line (cond t (part_behind s w ∷ []) [] ++ ps)
          by true less = record {
            on = All-cons (IsPartOn limit most line) (part_behind s w) ps
                (behind_on (All-head (IsPartOn limit most line) s ps on.on) less) later_on.on;
            in_order = AllPairs-cons EndsUpTo (part_behind s w) ps (AllPairs-head EndsUpTo s ps on.in_order)
                later_on.in_order;
          }
          by false past = later_on

      pub rest_from : All (StartsFrom w) (rest_behind s w ++ ps)
      rest_from = by (point_lt w (ends_of_part s).b)
        where
          by : (t : Bool) → All (StartsFrom w) (cond t (part_behind s w ∷ []) [] ++ ps)
          by true = All-cons (StartsFrom w) (part_behind s w) ps behind_from later_from
          by false = later_from

-- ---- ends that are left

-- number of ends of parts behind a point, where each part ends behind it
abbrev pub ends_left : {C : Type 0} → Point → List (Part C) → ℕ
ends_left v [] = 0
ends_left v (p ∷ ps) = cond (point_lt v (ends_of_part p).a) 2 1 + ends_left v ps

-- the number of ends of a part behind a later point is no greater
fewer_of : (v w a : Point) → point_lt v w ≡ true → cond (point_lt w a) 2 1 ≤ cond (point_lt v a) 2 1
fewer_of v w a less = by (point_lt w a) (point_lt v a) refl refl
  where
    by : (t u : Bool) → point_lt w a ≡ t → point_lt v a ≡ u → cond t 2 1 ≤ cond u 2 1
    by true true e f = omega arith
    by true false e f = absurd (both_ways (point_lt v a) f (point_lt-transitive v w a less e))
    by false true e f = omega arith
    by false false e f = omega arith

-- so there are fewer ends behind it
fewer_left : {C : Type 0} (v w : Point) (ps : List (Part C)) → point_lt v w ≡ true → ends_left w ps ≤ ends_left v ps
fewer_left v w [] less = omega arith
fewer_left v w (p ∷ ps) less =
    let first = fewer_of v w (ends_of_part p).a less in
    let rest = fewer_left v w ps less in
    omega (arith, first, rest)

-- the number of ends of a part
some_ends : (t : Bool) → 1 ≤ cond t 2 1
some_ends true = omega arith
some_ends false = omega arith

module _ {C : Type 0} (v w : Point) (s : Part C) (ps : List (Part C)) (less : point_lt v w ≡ true) where
  -- of the part and those behind it
  pub fewer_behind : ends_left w (rest_behind s w ++ ps) ≤ ends_left v (s ∷ ps)
  fewer_behind = by (point_lt w (ends_of_part s).b)
    where
      rest : ends_left w ps ≤ ends_left v ps
      rest = fewer_left v w ps less

      start : (t : Bool) → point_lt (ends_of_part s).a w ≡ t →
          cond (point_lt w (cond t w (ends_of_part s).a)) 2 1 ≤ cond (point_lt v (ends_of_part s).a) 2 1
      start true before = subst (λ c. cond c 2 1 ≤ cond (point_lt v (ends_of_part s).a) 2 1) (sym (point_lt-itself w))
          (some_ends (point_lt v (ends_of_part s).a))
      start false from = fewer_of v w (ends_of_part s).a less

      by : (t : Bool) → ends_left w (cond t (part_behind s w ∷ []) [] ++ ps) ≤ ends_left v (s ∷ ps)
      by true = let first = start (point_lt (ends_of_part s).a w) refl in omega (arith, first, rest)
      by false = let some = some_ends (point_lt v (ends_of_part s).a) in omega (arith, some, rest)

  -- fewer, where the point is an end of it
  pub fewer_at_end : (w ≡ (ends_of_part s).a) ⊎ (w ≡ (ends_of_part s).b) →
      ends_left w (rest_behind s w ++ ps) < ends_left v (s ∷ ps)
  fewer_at_end (inl is) = by (point_lt w (ends_of_part s).b)
    where
      rest : ends_left w ps ≤ ends_left v ps
      rest = fewer_left v w ps less

      two : ◌≡◌ {A = ℕ} (cond (point_lt v (ends_of_part s).a) 2 1) 2
      two = ap (λ c. cond c 2 1) (subst (λ p. point_lt v p ≡ true) is less)

      one : ◌≡◌ {A = ℕ} (cond (point_lt w (last_of (ends_of_part s).a w)) 2 1) 1
      one = ap (λ c. cond (point_lt w (cond c w (ends_of_part s).a)) 2 1)
          (subst (λ p. point_lt p w ≡ false) is (point_lt-itself w))
          ∙ ap (λ c. cond c 2 1) (subst (λ p. point_lt w p ≡ false) is (point_lt-itself w))

      by : (t : Bool) → ends_left w (cond t (part_behind s w ∷ []) [] ++ ps) < ends_left v (s ∷ ps)
      by true = omega (arith, one, two, rest)
      by false = omega (arith, two, rest)
  fewer_at_end (inr is) =
      let rest = fewer_left v w ps less in
      let some = some_ends (point_lt v (ends_of_part s).a) in
      subst (λ c. ends_left w (cond c (part_behind s w ∷ []) [] ++ ps) < ends_left v (s ∷ ps))
      (sym (subst (λ p. point_lt w p ≡ false) is (point_lt-itself w))) (omega (arith, some, rest))
