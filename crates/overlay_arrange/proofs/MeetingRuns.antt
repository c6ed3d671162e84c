-- Meetings sorted by their places: those of an edge stand side by side.
use Rattle.std.proofs.Common.{◌≡◌, ⊎_elim, ℕ, ◌+◌, ◌-◌, ◌<◌, ◌≤◌, Bool, true, false, ℤ, nat_lt, nat_le, List, length}
use Rattle.std.proofs.Common.{get_or, ap, sym, ◌∙◌, subst, arith}
use Rattle.std.specs.Cmp.{IsStrictWeakOrder}
use Rattle.std.specs.List.{AllWithin}
use Rattle.std.specs.List.Sorted.{IsSortedBy, IsPartitionedBy, IsPartitionPoint}
use Rattle.std.specs.Ordering.{is_lt, nat_cmp}
use Rattle.std.proofs.lemmas.Bool.{cases_lt}
use Rattle.std.proofs.lemmas.List.{length-map, get_or-map}
use Rattle.std.proofs.lemmas.List.Sorted.{sorted_far}
use Rattle.std.proofs.Math.Nat.{eq-or-lt_of_le}
use Rattle.overlay_geom.proofs.Entries.{some_entry}
use Rattle.overlay_geom.proofs.Mapped.{AllPairs-map, read_mapped}
use Rattle.overlay_pairs.specs.Places.{IsAt}
use Rattle.overlay_arrange.specs.Meetings.{plain_meeting, plain_meetings, AreByPlace, IsRunAt, Meeting}
use Rattle.overlay_arrange.specs.declared.meetings.Meeting.{Meeting as HeldMeeting}

-- the comparison answers `Less` where the first number is below the second
pub is_lt-nat_cmp : (x y : ℕ) → is_lt (nat_cmp x y) ≡ nat_lt x y
is_lt-nat_cmp x y = grind arith

module _ {I : Type 0} (whole : I → ℤ) where
  -- meetings by their places
  abbrev pub is_earlier : HeldMeeting I → HeldMeeting I → Bool
  is_earlier m n = nat_lt m.place n.place

  -- that is an order in which any two meetings compare
  pub is_earlier-order : IsStrictWeakOrder is_earlier
  is_earlier-order = record {
    one_way = λ m n less. grind (arith, less);
    chain = λ m n o first second. grind (arith, first, second);
  }

  -- sorted by it, meetings stand by their places
  pub AreByPlace-from_sorted : (ms : List (HeldMeeting I)) → IsSortedBy is_earlier ms →
      AreByPlace (plain_meetings whole ms)
  AreByPlace-from_sorted ms up = AllPairs-map (λ (m n : Meeting). m.place ≤ n.place) (plain_meeting whole) ms
      (λ j k d less within. let not_less = sorted_far is_earlier is_earlier-order ms up j k d (omega arith) within in
      grind (arith, not_less))

  -- the meeting's place comes before i, or is at most i
  abbrev pub is_before : ℕ → HeldMeeting I → Bool
  is_before i m = nat_lt m.place i

  abbrev pub is_up_to : ℕ → HeldMeeting I → Bool
  is_up_to i m = nat_le m.place i

  module _ (ms : List (HeldMeeting I)) (by_place : AreByPlace (plain_meetings whole ms)) where
    -- a place of the list and that of its numbers
    plain_at : (k : ℕ) (d : HeldMeeting I) (m : Meeting) → k < length ms →
        get_or (plain_meetings whole ms) k m ≡ plain_meeting whole (get_or ms k d)
    plain_at k d m within = get_or-map (plain_meeting whole) ms k d m within

    -- no later meeting has a smaller place
    no_smaller_later : (j k : ℕ) (d : HeldMeeting I) → j ≤ k → k < length ms →
        (get_or ms j d).place ≤ (get_or ms k d).place
    no_smaller_later j k d le within =
        ⊎_elim (λ (same : j ≡ k). subst (λ n. (get_or ms j d).place ≤ (get_or ms n d).place) same (omega arith))
        (λ (less : j < k).
        let e = plain_meeting whole d in
        let first = ap (λ (m : Meeting). m.place) (plain_at j d e (omega arith)) in
        let second = ap (λ (m : Meeting). m.place) (plain_at k d e within) in
        let up = by_place j k e less (let l = length-map ms (plain_meeting whole) in omega arith) in
        omega (arith, first, second, up))
        (eq-or-lt_of_le le)

    -- meetings before i stand in the front of the list alone
    pub before-parted : (i : ℕ) → IsPartitionedBy (is_before i) ms
    before-parted i j k d le within less = let up = no_smaller_later j k d le within in grind (arith, up, less)

    -- the place of the meeting that stands there
    pub place_at : (k : ℕ) (m d : HeldMeeting I) → k < length ms → m ≡ get_or ms k m →
        (get_or ms k d).place ≡ m.place
    place_at k m d within is = let e = plain_meeting whole d in
        ap (λ (n : Meeting). n.place)
        (sym (plain_at k d e within) ∙ read_mapped (plain_meeting whole) ms k m e within is)

    -- the meeting right before a place, where that comes before i
    pub smaller_before : (n i : ℕ) (m : HeldMeeting I) → m ≡ get_or ms (n - 1) m → n ≤ length ms →
        (get_or ms (n - 1) m).place < i → (k : ℕ) (d : HeldMeeting I) → k + 1 ≡ n → (get_or ms k d).place < i
    smaller_before n i m is within less k d next =
        let last : n - 1 ≡ k = omega (arith, next) in
        let own = place_at (n - 1) m m (omega (arith, next, within)) is in
        let read = place_at k m d (omega (arith, next, within)) (subst (λ j. m ≡ get_or ms j m) last is) in
        grind (arith, own, read, less)

    -- a place parts the meetings by i if the one right before it comes before i, and the one at it does not
    pub parted_at : (i n : ℕ) → n ≤ length ms →
        ((k : ℕ) (d : HeldMeeting I) → k + 1 ≡ n → (get_or ms k d).place < i) →
        ((d : HeldMeeting I) → n < length ms → i ≤ (get_or ms n d).place) →
        IsPartitionPoint (λ m. is_before i m ≡ true) (λ m. is_before i m ≡ false) ms n
    parted_at i n within before at = (
      λ k d from less. let last = before (n - 1) d (omega arith) in
          let up = no_smaller_later k (n - 1) d (omega arith) (omega arith) in
          grind (arith, last, up),
      λ k d from inside. let here = at d (omega arith) in
          let up = no_smaller_later n k d from inside in
          grind (arith, here, up),
    )

    -- a place parts the meetings behind i if all before it come up to i, and the one at it does not
    pub ended_at : (i n : ℕ) → AllWithin (λ m. is_up_to i m ≡ true) ms 0 n →
        ((d : HeldMeeting I) → n < length ms → i < (get_or ms n d).place) →
        IsPartitionPoint (λ m. is_up_to i m ≡ true) (λ m. is_up_to i m ≡ false) ms n
    ended_at i n before at = (
      before,
      λ k d from inside. let here = at d (omega arith) in
          let up = no_smaller_later n k d from inside in
          grind (arith, here, up),
    )

    -- between the two fronts stand the meetings of the edge at place i
    pub run_between : (i low high : ℕ) → low ≤ length ms → high ≤ length ms →
        IsPartitionPoint (λ m. is_before i m ≡ true) (λ m. is_before i m ≡ false) ms low →
        IsPartitionPoint (λ m. is_up_to i m ≡ true) (λ m. is_up_to i m ≡ false) ms high →
        IsRunAt (plain_meetings whole ms) i low high
    run_between i low high low_in high_in before up_to = record {
      ordered = ordered;
      within = let l = length-map ms (plain_meeting whole) in omega arith;
      from = from;
      all = stands;
    }
      where
        ordered : low ≤ high
        ordered = ⊎_elim
            (λ (back : high < low).
            let d = some_entry ms high (omega arith) in
            let less = before.0 high d (omega arith) back in
            let more = up_to.1 high d (omega arith) (omega arith) in
            absurd (grind (arith, less, more)))
            (λ le. le) (cases_lt high low)

        from : (k : ℕ) (m : Meeting) → low ≤ k → k < high → IsAt (plain_meetings whole ms) k m → m.place ≡ i
        from k m past inside at =
            let d = some_entry ms k (omega arith) in
            let is = ap (λ (n : Meeting). n.place) (sym at.1 ∙ plain_at k d m (omega arith)) in
            let not_less = before.1 k d past (omega arith) in
            let not_more = up_to.0 k d (omega arith) inside in
            grind (arith, is, not_less, not_more)

        stands : (k : ℕ) (m : Meeting) → IsAt (plain_meetings whole ms) k m → m.place ≡ i → (low ≤ k) × (k < high)
        stands k m at is_i = (
          ⊎_elim (λ (less : k < low). let small = before.0 k d (omega arith) less in
              absurd (grind (arith, here, small))) (λ le. le) (cases_lt k low),
          ⊎_elim (λ less. less) (λ (past : high ≤ k). let large = up_to.1 k d past within in
              absurd (grind (arith, here, large))) (cases_lt k high),
        )
          where
            within : k < length ms
            within = let l = length-map ms (plain_meeting whole) in omega (arith, at.0)

            d : HeldMeeting I
            d = some_entry ms k within

            here : (get_or ms k d).place ≡ i
            here = ap (λ (n : Meeting). n.place) (sym (plain_at k d m within) ∙ at.1) ∙ is_i
