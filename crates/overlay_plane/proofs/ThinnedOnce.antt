-- A closed list without spikes has one thinning.
use Rattle.std.proofs.Common.{◌≡◌, ◌⊎◌, inl, inr, ℕ, suc, ◌+◌, ◌-◌, ◌<◌, ℤ, pos, ◌<ℤ◌, List, [], ◌∷◌, ◌++◌, length}
use Rattle.std.proofs.Common.{get_or}
use Rattle.std.proofs.Common.{take, drop, append_assoc, refl, sym, ap, subst, ◌∙◌}
use Rattle.std.proofs.lemmas.List.{append-nil}
use Rattle.overlay_geom.specs.Plane.{Point}
use Rattle.overlay_geom.specs.Thinned.{IsStraightAt, IsThinned, point_round}
use Rattle.overlay_geom.specs.Thinned.IsThinned.{thin, drop_one}
use Rattle.overlay_geom.proofs.Entries.{same_head, same_tail}
use Rattle.overlay_plane.specs.Thinning.{ahead, HasNoSpikes, OneThinningWithoutSpikes}
use Rattle.overlay_plane.proofs.BegunElsewhere.{PartedLater, two_partings, first_from, IsStraightIn}
use Rattle.overlay_plane.proofs.Dropping.{origin, others_from}
use Rattle.overlay_plane.proofs.ThinnedRound.{neighbours, straight_at, parted_at, place_parted}
use Rattle.overlay_plane.proofs.Walks.{last_from}
use Rattle.overlay_plane.proofs.WithoutSpikes.{GoesOnIn, HasNoSpikeIn, HasNoSpikesIn, IsShorterByOne, MeetShorter}
use Rattle.overlay_plane.proofs.WithoutSpikes.{shorter_without_spikes, both_shorter}

-- two lists shorter by one are one list, or can be shortened to a common list
two_shorter : (ps qs rs : List Point) → HasNoSpikesIn ps → IsShorterByOne ps qs → IsShorterByOne ps rs →
    (qs ≡ rs) ⊎ MeetShorter qs rs
two_shorter ps qs rs none s t =
    by (two_partings s.front (s.point ∷ s.rest) t.front (t.point ∷ t.rest) (sym s.before ∙ t.before))
  where
    -- the one place is behind the other
    behind : (u v : List Point) (a : IsShorterByOne ps u) (b : IsShorterByOne ps v) (ms : List Point) →
        b.front ≡ a.front ++ a.point ∷ ms → a.rest ≡ ms ++ b.point ∷ b.rest → MeetShorter u v
    behind u v a b ms first second =
        let front = subst (λ l. IsStraightIn b.point (b.rest ++ l)) first b.straight in
        let rest = subst (λ l. IsStraightIn a.point (l ++ a.front)) second a.straight in
        let met = both_shorter a.front a.point ms b.point b.rest
        (subst HasNoSpikesIn (a.before ∙ ap (λ l. a.front ++ a.point ∷ l) second) none) rest front in
        subst (λ l. MeetShorter l v) (sym (a.after ∙ ap (λ l. a.front ++ l) second))
        (subst (λ l. MeetShorter (a.front ++ (ms ++ b.point ∷ b.rest)) l)
        (sym (b.after ∙ ap (λ l. l ++ b.rest) first)) met)

    turned : MeetShorter rs qs → MeetShorter qs rs
    turned m = record { common = m.common; first = m.second; second = m.first }

    by : PartedLater s.front (s.point ∷ s.rest) t.front (t.point ∷ t.rest) ⊎
        PartedLater t.front (t.point ∷ t.rest) s.front (s.point ∷ s.rest) → (qs ≡ rs) ⊎ MeetShorter qs rs
    by (inl ([], first, second)) = inl (same_place first (same_tail s.point t.point s.rest t.rest second))
      where
        same_place : t.front ≡ s.front ++ [] → s.rest ≡ t.rest → qs ≡ rs
        same_place front rest = s.after ∙ ap (λ l. s.front ++ l) rest ∙ ap (λ l. l ++ t.rest)
            (sym (front ∙ append-nil s.front)) ∙ sym t.after
    by (inl (m ∷ ms, first, second)) =
        let same = same_head s.point m s.rest (ms ++ t.point ∷ t.rest) second in
        inr (behind qs rs s t ms (first ∙ ap (λ z. s.front ++ z ∷ ms) (sym same))
        (same_tail s.point m s.rest (ms ++ t.point ∷ t.rest) second))
    by (inr ([], first, second)) = inl (same_place first (same_tail t.point s.point t.rest s.rest second))
      where
        same_place : s.front ≡ t.front ++ [] → t.rest ≡ s.rest → qs ≡ rs
        same_place front rest = s.after ∙ ap (λ l. l ++ s.rest) (front ∙ append-nil t.front)
            ∙ ap (λ l. t.front ++ l) (sym rest) ∙ sym t.after
    by (inr (m ∷ ms, first, second)) =
        let same = same_head t.point m t.rest (ms ++ s.point ∷ s.rest) second in
        inr (turned (behind rs qs t s ms (first ∙ ap (λ z. t.front ++ z ∷ ms) (sym same))
        (same_tail t.point m t.rest (ms ++ s.point ∷ s.rest) second)))

-- ---- one end

-- no point is collinear with its neighbours
abbrev IsBentIn : List Point → Type 0
IsBentIn ps = (s : (qs : List Point) × IsShorterByOne ps qs) → ⊥

-- points are left out one by one until none is collinear with its neighbours
data Shortens : List Point → List Point → Type 0 where
  ended : {ps : List Point} → IsBentIn ps → Shortens ps ps
  one_less : {ps qs rs : List Point} → IsShorterByOne ps qs → Shortens qs rs → Shortens ps rs

-- a list shorter by one ends as the list does
shorter_ends : (ps qs rs : List Point) → HasNoSpikesIn ps → Shortens ps rs → IsShorterByOne ps qs → Shortens qs rs
shorter_ends ps qs rs none (ended bent) s = absurd (bent (qs, s))
shorter_ends ps qs rs none (one_less {qs = ts} t rest) s = by (two_shorter ps qs ts none s t)
    (λ common u. shorter_ends ts common rs (shorter_without_spikes ps ts none t) rest u)
  where
    by : (qs ≡ ts) ⊎ MeetShorter qs ts → ((common : List Point) → IsShorterByOne ts common → Shortens common rs) →
        Shortens qs rs
    by (inl same) later = subst (λ l. Shortens l rs) (sym same) rest
    by (inr meet) later = one_less meet.first (later meet.common meet.second)

-- two ends are one
one_end : (ps rs ts : List Point) → HasNoSpikesIn ps → Shortens ps rs → Shortens ps ts → rs ≡ ts
one_end ps rs ts none (ended bent) other = by other
  where
    by : {qs : List Point} → Shortens ps qs → ps ≡ qs
    by (ended bent_too) = refl
    by (one_less {qs = qs} s rest) = absurd (bent (qs, s))
one_end ps rs ts none (one_less {qs = qs} s rest) other =
    one_end qs rs ts (shorter_without_spikes ps qs none s) rest (shorter_ends ps qs ts none other s)

-- ---- thinned place by place

-- a list without spikes at its places has none round its points
no_spikes_in : (ps : List Point) → HasNoSpikes ps → HasNoSpikesIn ps
no_spikes_in ps none front p rest parted straight =
    let at = place_parted front p rest in
    let here = (straight_at (front ++ p ∷ rest) (length front) at.0).0
    (subst (λ l. IsStraightIn (get_or (front ++ p ∷ rest) (length front) origin) l) (sym at.2)
    (subst (λ v. IsStraightIn v (rest ++ front)) (sym at.1) straight)) in
    let on = subst HasNoSpikes parted none (length front) at.0 here in
    let near = neighbours (front ++ p ∷ rest) (length front) at.0 in
    let round : GoesOnIn (get_or (front ++ p ∷ rest) (length front) origin)
    (others_from (front ++ p ∷ rest) (length front))
    = goes_on (front ++ p ∷ rest) (length front) near on in
    subst (λ v. GoesOnIn v (rest ++ front)) at.1
    (subst (λ l. GoesOnIn (get_or (front ++ p ∷ rest) (length front) origin) l) at.2 round)
  where
    goes_on : (qs : List Point) (k : ℕ) → (last_from (get_or qs k origin) (others_from qs k) ≡ point_round qs
        (k + length qs - 1)) × (get_or qs k origin ≡ point_round qs k)
        × (first_from (get_or qs k origin) (others_from qs k) ≡ point_round qs (k + 1)) →
        pos 0 <ℤ ahead (point_round qs (k + length qs - 1)) (point_round qs k) (point_round qs (k + 1)) →
        GoesOnIn (get_or qs k origin) (others_from qs k)
    goes_on qs k at on = subst (λ u. pos 0 <ℤ ahead u (get_or qs k origin) (first_from (get_or qs k origin) (others_from
        qs k))) (sym at.0) (subst (λ v. pos 0 <ℤ ahead (point_round qs (k + length qs - 1)) v
        (first_from (get_or qs k origin) (others_from qs k))) (sym at.1)
        (subst (λ w. pos 0 <ℤ ahead (point_round qs (k + length qs - 1)) (point_round qs k) w) (sym at.2) on))

-- a thinned list is shortened point by point
thinned_shortens : (ps qs : List Point) → IsThinned ps qs → Shortens ps qs
thinned_shortens ps qs (thin bent) = ended (λ s. straight_somewhere s.1)
  where
    straight_somewhere : {rs : List Point} → IsShorterByOne ps rs → ⊥
    straight_somewhere s =
        let at = place_parted s.front s.point s.rest in
        bent (length s.front) (subst (λ l. length s.front < length l) (sym s.before) at.0)
        (subst (λ l. IsStraightAt l (length s.front)) (sym s.before)
        ((straight_at (s.front ++ s.point ∷ s.rest) (length s.front) at.0).0
        (subst (λ l. IsStraightIn (get_or (s.front ++ s.point ∷ s.rest) (length s.front) origin) l) (sym at.2)
        (subst (λ v. IsStraightIn v (s.rest ++ s.front)) (sym at.1) s.straight))))
thinned_shortens ps qs (drop_one k within straight rest) = one_less (record {
  front = take k ps;
  point = get_or ps k origin;
  rest = drop (suc k) ps;
  before = parted_at ps k within;
  straight = (straight_at ps k within).1 straight;
  after = refl;
}) (thinned_shortens (take k ps ++ drop (suc k) ps) qs rest)

-- the law of one thinning without spikes
pub one_thinning_without_spikes : OneThinningWithoutSpikes
one_thinning_without_spikes ps none first second a b =
    one_end ps first second (no_spikes_in ps none) (thinned_shortens ps first a) (thinned_shortens ps second b)
