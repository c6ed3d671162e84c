-- A closed list without spikes has one thinning: each point collinear with its neighbours stays so, and the way still
-- goes on there, where other such points are left out.
use Rattle.std.proofs.Common.{◌≡◌, ◌⊎◌, inl, inr, ◌+ℤ◌, ◌-ℤ◌, ◌*ℤ◌, ◌<ℤ◌, ℤ, pos, List, [], ◌∷◌, ◌++◌, append_assoc}
use Rattle.std.proofs.Common.{refl, sym}
use Rattle.std.proofs.Common.{ap, subst, ◌∙◌}
use Rattle.std.proofs.lemmas.List.{append-nil}
use Rattle.overlay_geom.specs.Plane.{Point, cross_at}
use Rattle.overlay_geom.specs.Thinned.{IsOnOneLine}
use Rattle.overlay_geom.proofs.Cross.{cross_at_same, crossE}
use Rattle.overlay_geom.proofs.Entries.{same_head, same_tail}
use Rattle.overlay_geom.proofs.Identities.{solve, number, ◌⊕◌, ◌⊗◌, ◌⊖◌, ⊝◌, ◌≗◌}
use Rattle.overlay_geom.proofs.Signs.{linear, mul-pos, mul-zero, zero_of_mul-zero, pos_of_mul-pos}
use Rattle.overlay_plane.specs.Thinning.{ahead}
use Rattle.overlay_plane.proofs.BegunElsewhere.{PartedLater, two_partings, first_from, IsStraightIn, last_from-joined}
use Rattle.overlay_plane.proofs.FourInARow.{square, square_of_ahead, aheadE, squareE, past_second, ahead_past}
use Rattle.overlay_plane.proofs.OneThinning.{EachWithout, AreEqualBeside, two_straight}
use Rattle.overlay_plane.proofs.Walks.{last_from}

-- ---- points of the plane

-- the way goes on at p, from the last of the others to the first
abbrev pub GoesOnIn : Point → List Point → Type 0
GoesOnIn p others = pos 0 <ℤ ahead (last_from p others) p (first_from p others)

-- it goes on at no point that equals the next, or the one before
none_ahead_next : (u p : Point) → ahead u p p ≡ pos 0
none_ahead_next u p = solve 4 (λ ux uy px py. aheadE ux uy px py px py ≗ number (pos 0)) tt u.x u.y p.x p.y

none_ahead_before : (p w : Point) → ahead p p w ≡ pos 0
none_ahead_before p w = solve 4 (λ px py wx wy. aheadE px py px py wx wy ≗ number (pos 0)) tt p.x p.y w.x w.y

-- it does not go on towards where it came from
none_ahead_back : (p q : Point) → ahead q p q ≡ pos 0 -ℤ square p q
none_ahead_back p q = solve 4 (λ px py qx qy. aheadE qx qy px py qx qy ≗ number (pos 0) ⊖ squareE px py qx qy) tt p.x
    p.y
    q.x q.y

-- the way back
ahead_turned : (u v w : Point) → ahead w v u ≡ ahead u v w
ahead_turned u v w = solve 6 (λ ux uy vx vy wx wy. aheadE wx wy vx vy ux uy ≗ aheadE ux uy vx vy wx wy) tt u.x u.y v.x
    v.y
    w.x w.y

line_turned : (u v w : Point) → IsOnOneLine u v w → IsOnOneLine w v u
line_turned u v w line =
    let e = solve 6 (λ ux uy vx vy wx wy. crossE wx wy vx vy ux uy ≗ ⊝ crossE ux uy vx vy wx wy) tt u.x u.y v.x v.y w.x
    w.y in
    omega linear

-- where the way goes on at p from a to q, it is straight at q from p on where it is straight from a on, and goes on
-- then
module _ (a p q b : Point) (line : IsOnOneLine a p q) (on : pos 0 <ℤ ahead a p q) where
  apart : pos 0 <ℤ square p q
  apart = square_of_ahead a p q on

  pub straight_from_next : IsOnOneLine a q b → IsOnOneLine p q b
  straight_from_next straight = zero_of_mul-zero (square p q +ℤ ahead a p q) (cross_at p q b)
      (let far = apart in omega linear)
      (let e = past_second a p q b in
      let x = mul-zero (square p q) (cross_at a q b) straight in
      let y = mul-zero (ahead p q b) (cross_at a p q) line in
      let z = solve 3 (λ s t c. (s ⊕ t) ⊗ c ≗ s ⊗ c ⊕ t ⊗ c) tt (square p q) (ahead a p q) (cross_at p q b) in
      omega linear)

  pub on_from_next : IsOnOneLine p q b → pos 0 <ℤ ahead p q b → pos 0 <ℤ ahead a q b
  on_from_next straight goes_on = pos_of_mul-pos (square p q) (ahead a q b) apart
      (let e = ahead_past a p q b in
      let x = mul-pos (ahead a p q) (ahead p q b) on goes_on in
      let y = mul-pos (square p q) (ahead p q b) apart goes_on in
      let z = mul-zero (cross_at a p q) (cross_at p q b) straight in
      omega linear)

-- ---- a point beside one that is left out

-- the way goes on at the point if it is straight there
abbrev pub HasNoSpikeIn : Point → List Point → Type 0
HasNoSpikeIn p others = IsStraightIn p others → GoesOnIn p others

-- the way from the last of joined lists on to the first
neighbours_as : (q u v : Point) (others : List Point) → last_from q others ≡ u → first_from q others ≡ v →
    (IsStraightIn q others → IsOnOneLine u q v) × (IsOnOneLine u q v → IsStraightIn q others)
    × (GoesOnIn q others → pos 0 <ℤ ahead u q v) × (pos 0 <ℤ ahead u q v → GoesOnIn q others)
neighbours_as q u v others last first = (
  λ straight. subst (λ z. IsOnOneLine u q z) first (subst (λ z. IsOnOneLine z q (first_from q others)) last straight),
  λ straight. subst (λ z. IsOnOneLine z q (first_from q others)) (sym last)
      (subst (λ z. IsOnOneLine u q z) (sym first) straight),
  λ on. subst (λ z. pos 0 <ℤ ahead u q z) first (subst (λ z. pos 0 <ℤ ahead z q (first_from q others)) last on),
  λ on. subst (λ z. pos 0 <ℤ ahead z q (first_from q others)) (sym last)
      (subst (λ z. pos 0 <ℤ ahead u q z) (sym first) on),
)

-- without a point at which the way goes straight on, no spike comes up at another
pub no_spike_without : (p q : Point) (us vs : List Point) → IsStraightIn p (us ++ q ∷ vs) → GoesOnIn p (us ++ q ∷ vs) →
    HasNoSpikeIn q (vs ++ p ∷ us) → HasNoSpikeIn q (vs ++ us)
no_spike_without p q [] [] line on none straight =
    let back = none_ahead_back p q in
    let far = square_of_ahead q p q on in
    absurd (omega linear)
no_spike_without p q (u ∷ us) (v ∷ vs) line on none straight =
    let z = last_from u us in
    let long = neighbours_as q z v ((v ∷ vs) ++ p ∷ u ∷ us) (last_from-joined v vs p (u ∷ us)) refl in
    let short = neighbours_as q z v ((v ∷ vs) ++ u ∷ us) (last_from-joined v vs u us) refl in
    short.3 (long.2 (none (long.1 (short.0 straight))))
no_spike_without p q [] (v ∷ vs) line on none straight =
    let a = last_from v vs in
    let long = neighbours_as q p v ((v ∷ vs) ++ p ∷ []) (last_from-joined v vs p []) refl in
    let short = neighbours_as q a v ((v ∷ vs) ++ []) (ap (last_from q) (append-nil (v ∷ vs))) refl in
    let from = straight_from_next a p q v line on (short.0 straight) in
    short.3 (on_from_next a p q v line on from (long.2 (none (long.1 from))))
no_spike_without p q (u ∷ us) [] line on none straight =
    let z = last_from u us in
    let at_p = neighbours_as p q u ((u ∷ us) ++ q ∷ []) (last_from-joined u us q []) refl in
    let back = line_turned q p u (at_p.0 line) in
    let back_on = subst (λ n. pos 0 <ℤ n) (sym (ahead_turned q p u)) (at_p.2 on) in
    let from = straight_from_next u p q z back back_on (line_turned z q u straight) in
    let here = subst (λ n. pos 0 <ℤ n) (sym (ahead_turned z q p)) (none (line_turned p q z from)) in
    subst (λ n. pos 0 <ℤ n) (ahead_turned z q u) (on_from_next u p q z back back_on from here)

-- ---- lists

-- a list has no spike round any of its points
abbrev pub HasNoSpikesIn : List Point → Type 0
HasNoSpikesIn ps = (front : List Point) (p : Point) (rest : List Point) → ps ≡ front ++ p ∷ rest →
    HasNoSpikeIn p (rest ++ front)

-- the second list is the first without a point that is collinear with its neighbours
pub record IsShorterByOne (ps qs : List Point) : Type 0 where
  pub front : List Point
  pub point : Point
  pub rest : List Point
  pub before : ps ≡ front ++ point ∷ rest
  pub straight : IsStraightIn point (rest ++ front)
  pub after : qs ≡ front ++ rest

-- it has no spikes either
pub shorter_without_spikes : (ps qs : List Point) → HasNoSpikesIn ps → IsShorterByOne ps qs → HasNoSpikesIn qs
shorter_without_spikes ps qs none s cs q ds parted = by (two_partings xs ys cs (q ∷ ds) (sym s.after ∙ parted))
  where
    xs : List Point
    xs = s.front

    ys : List Point
    ys = s.rest

    p : Point
    p = s.point

    on : GoesOnIn s.point (s.rest ++ s.front)
    on = none s.front s.point s.rest s.before s.straight

    -- q stands behind the point
    behind : (ms : List Point) → cs ≡ s.front ++ ms → s.rest ≡ ms ++ q ∷ ds → HasNoSpikeIn q (ds ++ cs)
    behind ms first second =
        let round = ap (λ l. l ++ xs) second ∙ append_assoc ms (q ∷ ds) xs in
        let none_at = none (xs ++ p ∷ ms) q ds
        (s.before ∙ ap (λ l. xs ++ p ∷ l) second ∙ sym (append_assoc xs (p ∷ ms) (q ∷ ds))) in
        subst (HasNoSpikeIn q) (append_assoc ds xs ms ∙ ap (λ l. ds ++ l) (sym first))
        (no_spike_without p q ms (ds ++ xs) (subst (IsStraightIn p) round s.straight) (subst (GoesOnIn p) round on)
        (subst (HasNoSpikeIn q) (sym (append_assoc ds xs (p ∷ ms))) none_at))

    -- q stands before it
    ahead_of : (ms : List Point) → s.front ≡ cs ++ q ∷ ms → ds ≡ ms ++ s.rest → HasNoSpikeIn q (ds ++ cs)
    ahead_of ms first second =
        let round = ap (λ l. ys ++ l) first ∙ sym (append_assoc ys cs (q ∷ ms)) in
        let none_at = none cs q (ms ++ p ∷ ys)
        (s.before ∙ ap (λ l. l ++ p ∷ ys) first ∙ append_assoc cs (q ∷ ms) (p ∷ ys)) in
        subst (HasNoSpikeIn q) (sym (append_assoc ms ys cs) ∙ ap (λ l. l ++ cs) (sym second))
        (no_spike_without p q (ys ++ cs) ms (subst (IsStraightIn p) round s.straight) (subst (GoesOnIn p) round on)
        (subst (HasNoSpikeIn q) (append_assoc ms (p ∷ ys) cs) none_at))

    by : PartedLater s.front s.rest cs (q ∷ ds) ⊎ PartedLater cs (q ∷ ds) s.front s.rest → HasNoSpikeIn q (ds ++ cs)
    by (inl m) = behind m.0 m.1 m.2
    by (inr ([], first, second)) = behind [] (sym (append-nil cs) ∙ sym first ∙ sym (append-nil s.front)) (sym second)
    by (inr (m ∷ ms, first, second)) =
        let same = same_head q m ds (ms ++ s.rest) second in
        ahead_of ms (first ∙ ap (λ z. cs ++ z ∷ ms) (sym same)) (same_tail q m ds (ms ++ s.rest) second)

-- two lists shorter by one are one list, or have a common list shorter by one more
pub record MeetShorter (qs rs : List Point) : Type 0 where
  pub common : List Point
  pub first : IsShorterByOne qs common
  pub second : IsShorterByOne rs common

-- of two points of a list each may be left out after the other
pub both_shorter : (xs : List Point) (p : Point) (ms : List Point) (q : Point) (ds : List Point) →
    HasNoSpikesIn (xs ++ p ∷ (ms ++ q ∷ ds)) → IsStraightIn p ((ms ++ q ∷ ds) ++ xs) →
    IsStraightIn q (ds ++ (xs ++ p ∷ ms)) → MeetShorter (xs ++ (ms ++ q ∷ ds)) ((xs ++ p ∷ ms) ++ ds)
both_shorter xs p ms q ds none first second = by (two_straight p q ms (ds ++ xs) at_p at_q)
  where
    round : (ms ++ q ∷ ds) ++ xs ≡ ms ++ q ∷ (ds ++ xs)
    round = append_assoc ms (q ∷ ds) xs

    at_p : IsStraightIn p (ms ++ q ∷ (ds ++ xs))
    at_p = subst (IsStraightIn p) round first

    at_q : IsStraightIn q ((ds ++ xs) ++ p ∷ ms)
    at_q = subst (IsStraightIn q) (sym (append_assoc ds xs (p ∷ ms))) second

    on : GoesOnIn p (ms ++ q ∷ (ds ++ xs))
    on = subst (GoesOnIn p) round (none xs p (ms ++ q ∷ ds) refl first)

    apart : AreEqualBeside p ms q (ds ++ xs) → ⊥
    apart (same, inl empty) =
        let next = subst
        (λ l. pos 0 <ℤ ahead (last_from p (ms ++ q ∷ (ds ++ xs))) p (first_from p (l ++ q ∷ (ds ++ xs)))) empty on in
        let zero = none_ahead_next (last_from p (ms ++ q ∷ (ds ++ xs))) p in
        let is = subst (λ z. pos 0 <ℤ ahead (last_from p (ms ++ q ∷ (ds ++ xs))) p z) (sym same) next in
        absurd (omega linear)
    apart (same, inr empty) =
        let last = ap (λ l. last_from p (ms ++ q ∷ l)) empty ∙ last_from-joined p ms q [] ∙ sym same in
        let is = subst (λ z. pos 0 <ℤ ahead z p (first_from p (ms ++ q ∷ (ds ++ xs)))) last on in
        let zero = none_ahead_before p (first_from p (ms ++ q ∷ (ds ++ xs))) in
        absurd (omega linear)

    by : EachWithout p ms q (ds ++ xs) ⊎ AreEqualBeside p ms q (ds ++ xs) →
        MeetShorter (xs ++ (ms ++ q ∷ ds)) ((xs ++ p ∷ ms) ++ ds)
    by (inr equal) = absurd (apart equal)
    by (inl each) = record {
      common = xs ++ (ms ++ ds);
      first = record {
        front = xs ++ ms;
        point = q;
        rest = ds;
        before = sym (append_assoc xs ms (q ∷ ds));
        straight = subst (IsStraightIn q) (append_assoc ds xs ms) each.1;
        after = sym (append_assoc xs ms ds);
      };
      second = record {
        front = xs;
        point = p;
        rest = ms ++ ds;
        before = append_assoc xs (p ∷ ms) ds;
        straight = subst (IsStraightIn p) (sym (append_assoc ms ds xs)) each.0;
        after = refl;
      };
    }
