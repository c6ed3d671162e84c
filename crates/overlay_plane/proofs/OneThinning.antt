-- A closed list has one thinning, but for where it begins. Of two points that may be left out each may be left out
-- after
-- the other, or they are equal neighbours.
use Rattle.std.proofs.Common.{◌≡◌, ◌⊎◌, inl, inr, ℕ, zero, suc, ◌+◌, ◌-◌, ◌<◌, ◌≤◌, ℤ, pos, ◌+ℤ◌, ◌*ℤ◌, ◌<ℤ◌, Bool}
use Rattle.std.proofs.Common.{true, false}
use Rattle.std.proofs.Common.{List, [], ◌∷◌, ◌++◌, length, length-append, append_assoc, refl, sym, ap, ap₂, subst}
use Rattle.std.proofs.Common.{◌∙◌, arith}
use Rattle.std.proofs.lemmas.List.{append-nil}
use Rattle.overlay_geom.specs.Plane.{Point, cross_at, point_eq}
use Rattle.overlay_geom.specs.Thinned.{IsOnOneLine}
use Rattle.overlay_geom.proofs.Cross.{cross_at_same}
use Rattle.overlay_geom.proofs.Entries.{same_head, same_tail}
use Rattle.overlay_geom.proofs.Orders.{point_eq-same}
use Rattle.overlay_geom.proofs.Signs.{linear, mul-zero, zero_of_mul-zero}
use Rattle.overlay_plane.specs.Thinning.{AreOneRound, ahead}
use Rattle.overlay_plane.proofs.BegunElsewhere.{PartedLater, two_partings, one_round_itself, one_round_back}
use Rattle.overlay_plane.proofs.BegunElsewhere.{one_round_of_same}
use Rattle.overlay_plane.proofs.BegunElsewhere.{one_round_twice, first_from, IsStraightIn, last_from-joined}
use Rattle.overlay_plane.proofs.FourInARow.{square, square_of_other, past_third, past_second}
use Rattle.overlay_plane.proofs.Walks.{last_from}

-- ---- two points of a closed list

-- with other points between, each point keeps its neighbours where the other is left out
straight_without : (p q : Point) (us vs : List Point) (u v : Point) → IsStraightIn p ((u ∷ us) ++ q ∷ v ∷ vs) →
    IsStraightIn p ((u ∷ us) ++ v ∷ vs)
straight_without p q us vs u v straight = subst (λ w. IsOnOneLine w p u)
    (last_from-joined u us q (v ∷ vs) ∙ sym (last_from-joined u us v vs)) straight

-- neighbours on one line with those beside them
module _ (a p q b : Point) (before : IsOnOneLine a p q) (after : IsOnOneLine p q b) (apart : pos 0 <ℤ square p q) where
  first_straight : IsOnOneLine a p b
  first_straight = zero_of_mul-zero (square p q) (cross_at a p b) apart
      (let e = past_third a p q b in
      let x = mul-zero (square p q) (cross_at a p q) before in
      let y = mul-zero (ahead p q b) (cross_at a p q) before in
      let z = mul-zero (ahead a p q) (cross_at p q b) after in
      omega linear)

  second_straight : IsOnOneLine a q b
  second_straight = zero_of_mul-zero (square p q) (cross_at a q b) apart
      (let e = past_second a p q b in
      let x = mul-zero (square p q) (cross_at p q b) after in
      let y = mul-zero (ahead a p q) (cross_at p q b) after in
      let z = mul-zero (ahead p q b) (cross_at a p q) before in
      omega linear)

-- both of two points may be left out one after the other
abbrev pub EachWithout : Point → List Point → Point → List Point → Type 0
EachWithout p us q vs = IsStraightIn p (us ++ vs) × IsStraightIn q (vs ++ us)

-- they are equal and neighbours
abbrev pub AreEqualBeside : Point → List Point → Point → List Point → Type 0
AreEqualBeside p us q vs = (p ≡ q) × ((us ≡ []) ⊎ (vs ≡ []))

pub two_straight : (p q : Point) (us vs : List Point) → IsStraightIn p (us ++ q ∷ vs) → IsStraightIn q (vs ++ p ∷ us) →
    EachWithout p us q vs ⊎ AreEqualBeside p us q vs
two_straight p q [] [] first second = inl (cross_at_same p p, cross_at_same q q)
two_straight p q (u ∷ us) (v ∷ vs) first second =
    inl (straight_without p q us vs u v first, straight_without q p vs us v u second)
two_straight p q [] (v ∷ vs) first second = by (point_eq p q) refl
  where
    by : (t : Bool) → point_eq p q ≡ t → EachWithout p [] q (v ∷ vs) ⊎ AreEqualBeside p [] q (v ∷ vs)
    by true e = inr (point_eq-same p q e, inl refl)
    by false e =
        let apart = square_of_other p q e in
        let line = subst (λ w. IsOnOneLine w q v) (last_from-joined v vs p []) second in
        inl (
          first_straight (last_from v vs) p q v first line apart,
          subst (λ l. IsStraightIn q l) (sym (append-nil (v ∷ vs)))
              (second_straight (last_from v vs) p q v first line apart),
        )
two_straight p q (u ∷ us) [] first second = by (point_eq q p) refl
  where
    by : (t : Bool) → point_eq q p ≡ t → EachWithout p (u ∷ us) q [] ⊎ AreEqualBeside p (u ∷ us) q []
    by true e = inr (sym (point_eq-same q p e), inr refl)
    by false e =
        let apart = square_of_other q p e in
        let line = subst (λ w. IsOnOneLine w p u) (last_from-joined u us q []) first in
        inl (
          subst (λ l. IsStraightIn p l) (sym (append-nil (u ∷ us)))
              (second_straight (last_from u us) q p u second line apart),
          first_straight (last_from u us) q p u second line apart,
        )

-- ---- leaving out one point

-- the second closed list is the first, but for where it begins, without a point collinear with its neighbours
pub record IsWithoutOne (ps qs : List Point) : Type 0 where
  pub point : Point
  pub others : List Point
  pub before : AreOneRound ps (point ∷ others)
  pub straight : IsStraightIn point others
  pub after : AreOneRound others qs

-- no point is collinear with its neighbours
abbrev pub IsBentRound : List Point → Type 0
IsBentRound ps = (p : Point) (others : List Point) → AreOneRound ps (p ∷ others) → ¬ (IsStraightIn p others)

-- points are left out one by one until none is collinear with its neighbours
pub data Thins : List Point → List Point → Type 0 where
  ended : {ps qs : List Point} → AreOneRound ps qs → IsBentRound ps → Thins ps qs
  one_less : {ps qs rs : List Point} → IsWithoutOne ps qs → Thins qs rs → Thins ps rs

-- so it is from a list that begins elsewhere
pub thins_elsewhere : (ps qs rs : List Point) → AreOneRound ps qs → Thins qs rs → Thins ps rs
thins_elsewhere ps qs rs r (ended s bent) = ended (one_round_twice ps qs rs r s)
    (λ p others t. bent p others (one_round_twice qs ps (p ∷ others) (one_round_back ps qs r) t))
thins_elsewhere ps qs rs r (one_less w rest) = one_less (record {
  point = w.point;
  others = w.others;
  before = one_round_twice ps qs (w.point ∷ w.others) r w.before;
  straight = w.straight;
  after = w.after;
}) rest

-- of two lists without one point, both are one round, or leave a common list without one more
record MeetAgain (qs rs : List Point) : Type 0 where
  common : List Point
  first : IsWithoutOne qs common
  second : IsWithoutOne rs common

two_without : (ps qs rs : List Point) → IsWithoutOne ps qs → IsWithoutOne ps rs → AreOneRound qs rs ⊎ MeetAgain qs rs
two_without ps qs rs v w = by_front turned.front turned.rest turned.before turned.after
  where
    p : Point
    p = v.point

    q : Point
    q = w.point

    turned : AreOneRound (v.point ∷ v.others) (w.point ∷ w.others)
    turned = one_round_twice (v.point ∷ v.others) ps (w.point ∷ w.others)
        (one_round_back ps (v.point ∷ v.others) v.before)
        w.before

    -- the others are one list
    alike : v.others ≡ w.others → AreOneRound qs rs
    alike same = one_round_twice qs v.others rs (one_round_back v.others qs v.after)
        (one_round_twice v.others w.others rs (one_round_of_same v.others w.others same) w.after)

    -- the closed list is p, us, q and vs
    apart : (us vs : List Point) → v.others ≡ us ++ q ∷ vs → w.others ≡ vs ++ p ∷ us →
        AreOneRound qs rs ⊎ MeetAgain qs rs
    apart us vs first second = by (two_straight p q us vs (subst (IsStraightIn p) first v.straight)
        (subst (IsStraightIn q) second w.straight))
      where
        by : EachWithout p us q vs ⊎ AreEqualBeside p us q vs → AreOneRound qs rs ⊎ MeetAgain qs rs
        by (inl each) = inr (record {
          common = us ++ vs;
          first = record {
            point = q;
            others = vs ++ us;
            before = one_round_twice qs v.others (q ∷ vs ++ us) (one_round_back v.others qs v.after)
                (record { front = us; rest = q ∷ vs; before = first; after = refl });
            straight = each.1;
            after = record { front = vs; rest = us; before = refl; after = refl };
          };
          second = record {
            point = p;
            others = us ++ vs;
            before = one_round_twice rs w.others (p ∷ us ++ vs) (one_round_back w.others rs w.after)
                (record { front = vs; rest = p ∷ us; before = second; after = refl });
            straight = each.0;
            after = one_round_itself (us ++ vs);
          };
        })
        by (inr equal) = inl (one_round_twice qs v.others rs (one_round_back v.others qs v.after)
            (one_round_twice v.others w.others rs (shift equal.1) w.after))
          where
            shift : (us ≡ []) ⊎ (vs ≡ []) → AreOneRound v.others w.others
            shift (inl none) = record {
              front = q ∷ [];
              rest = vs;
              before = first ∙ ap (λ l. l ++ q ∷ vs) none;
              after = second ∙ ap₂ (λ a l. vs ++ a ∷ l) equal.0 none;
            }
            shift (inr none) = record {
              front = us;
              rest = q ∷ [];
              before = first ∙ ap (λ l. us ++ q ∷ l) none;
              after = second ∙ ap₂ (λ a l. l ++ a ∷ us) equal.0 none;
            }

    by_front : (front rest : List Point) → v.point ∷ v.others ≡ front ++ rest → w.point ∷ w.others ≡ rest ++ front →
        AreOneRound qs rs ⊎ MeetAgain qs rs
    by_front [] rest first second = inl (alike (same_tail p q v.others w.others
        (first ∙ sym (second ∙ append-nil rest))))
    by_front (u ∷ us) [] first second = inl (alike (same_tail p q v.others w.others
        (first ∙ append-nil (u ∷ us) ∙ sym second)))
    by_front (u ∷ us) (x ∷ vs) first second = apart us vs
        (same_tail p u v.others (us ++ x ∷ vs) first
        ∙ ap (λ z. us ++ z ∷ vs) (sym (same_head q x w.others (vs ++ u ∷ us) second)))
        (same_tail q x w.others (vs ++ u ∷ us) second
        ∙ ap (λ z. vs ++ z ∷ us) (sym (same_head p u v.others (us ++ x ∷ vs) first)))

-- ---- one end

-- a list without one point thins to the same end
pub thins_without : (ps qs rs : List Point) → Thins ps rs → IsWithoutOne ps qs → Thins qs rs
thins_without ps qs rs (ended r bent) w = absurd (bent w.point w.others w.before w.straight)
thins_without ps qs rs (one_less {qs = ts} v rest) w =
    by (two_without ps qs ts w v) (λ common u. thins_without ts common rs rest u)
  where
    by : AreOneRound qs ts ⊎ MeetAgain qs ts → ((common : List Point) → IsWithoutOne ts common → Thins common rs) →
        Thins qs rs
    by (inl same) later = thins_elsewhere qs ts rs same rest
    by (inr meet) later = one_less meet.first (later meet.common meet.second)

-- two ends are one round
pub one_end : (ps rs ts : List Point) → Thins ps rs → Thins ps ts → AreOneRound rs ts
one_end ps rs ts (ended r bent) (ended s other) = one_round_twice rs ps ts (one_round_back ps rs r) s
one_end ps rs ts (ended r bent) (one_less w rest) = absurd (bent w.point w.others w.before w.straight)
one_end ps rs ts (one_less {qs = qs} w rest) other = one_end qs rs ts rest (thins_without ps qs ts other w)
