-- The sides at the meeting points of one more edge are added to those of the edges before it.
use Rattle.std.proofs.Common.{◌≡◌, ⊎_elim, ℕ, ◌+◌, ◌-◌, ◌<◌, ◌≤◌, Bool, ℤ, List, [], ◌++◌, length, slice_range}
use Rattle.std.proofs.Common.{sym, ◌∙◌, ap, subst, arith}
use Rattle.std.proofs.lemmas.List.{get_or_default, get_or_append_left, get_or-append_right, length-append}
use Rattle.std.proofs.Math.Nat.{eq-or-lt_of_le}
use Rattle.overlay_geom.specs.Edges.{CountedEdge}
use Rattle.overlay_pairs.specs.Places.{IsAt}
use Rattle.overlay_pairs.proofs.Entries.{one_entry}
use Rattle.overlay_exact.specs.AllMet.{IsMetBefore, AreMetByStarts}
use Rattle.overlay_exact.specs.Along.{Met}
use Rattle.overlay_exact.proofs.MetByStarts.{entry_at}
use Rattle.overlay_given.specs.Places.{AreSidesAt, AddsPlaces, ArePlacesBy, AreRangesBy}
use Rattle.overlay_given.specs.declared.sides.SidesAtPlace.{SidesAtPlace}
use Rattle.overlay_given.proofs.Ranges.{in_range}
use Rattle.overlay_given.proofs.WalkSteps.{range_count, start_within}

module _ (filled : ℤ → Bool) (es : List CountedEdge) (starts : List ℕ) (ms : List Met)
    (by : AreMetByStarts es (length es) starts ms) where
  -- before the first edge there are none
  pub places_none : ArePlacesBy filled es 0 starts ms []
  places_none = record {
    last = by.first;
    each = λ i s t k e m a less at at_s at_t after before at_m at_a. absurd (omega (arith, less));
  }

  -- no start comes behind a later one
  start_up : (i n t s : ℕ) → i < n → IsAt starts (i + 1) t → IsAt starts n s → t ≤ s
  start_up i n t s less at_t at_s = ⊎_elim
      (λ (same : i + 1 ≡ n).
      let is = one_entry starts n t s (subst (λ k. IsAt starts k t) same at_t) at_s in
      omega (arith, is))
      (λ (more : i + 1 < n).
      let up = by.rises (i + 1) n s more at_s.0 in
      let here = get_or_default starts (i + 1) s t at_t.0 ∙ at_t.1 in
      let last = at_s.1 in
      omega (arith, up, here, last))
      (eq-or-lt_of_le (let le : i + 1 ≤ n = omega (arith, less) in le))

  module _ (n s t : ℕ) (e : CountedEdge) (old new : List SidesAtPlace) (so_far : ArePlacesBy filled es n starts ms old)
      (at : IsAt es n e) (at_s : IsAt starts n s) (at_t : IsAt starts (n + 1) t) (up : s ≤ t) (within : t ≤ length ms)
      (adds : AddsPlaces filled es e (slice_range ms s t) old new) where
    begins : length old ≡ s
    begins = one_entry starts n (length old) s so_far.last at_s

    sum : length new ≡ length old + length adds.added
    sum = ap length adds.after ∙ length-append old adds.added

    ends : length new ≡ t
    ends =
        let all = sum in
        let front = begins in
        let count = adds.count in
        let part = range_count ms s t up within in
        omega (arith, all, front, count, part)

    in_new : (k : ℕ) (a : SidesAtPlace) → IsAt new k a → IsAt (old ++ adds.added) k a
    in_new k a is = subst (λ xs. IsAt xs k a) adds.after is

    pub places_by_more : ArePlacesBy filled es (n + 1) starts ms new
    places_by_more = record {
      last = subst (λ k. IsAt starts (n + 1) k) (sym ends) at_t;
      each = λ i from to k f m a less at_f at_from at_to after before at_m at_a. ⊎_elim
          (λ (same : i ≡ n).
          let is_f : f ≡ e = one_entry es n f e (subst (λ j. IsAt es j f) same at_f) at in
          let is_from : from ≡ s = one_entry starts n from s (subst (λ j. IsAt starts j from) same at_from) at_s in
          let is_to : to ≡ t = one_entry starts (n + 1) to t (subst (λ j. IsAt starts (j + 1) to) same at_to) at_t in
          let late : s ≤ k = omega (arith, is_from, after) in
          let short : k < t = omega (arith, is_to, before) in
          let front = begins in
          let all = sum in
          let whole = at_a.0 in
          subst (λ g. AreSidesAt filled es g m a) (sym is_f) (adds.each (k - s) m a
          (in_range ms s t k m late short at_m) (
            omega (arith, all, front, whole, late),
            sym (get_or-append_right old adds.added s k a front late) ∙ (in_new k a at_a).1,
          )))
          (λ (early : i < n).
          let front = begins in
          let low = start_up i n to s early at_to at_s in
          let inside : k < length old = omega (arith, front, low, before) in
          so_far.each i from to k f m a early at_f at_from at_to after before at_m
          (inside, sym (get_or_append_left old adds.added a k inside) ∙ (in_new k a at_a).1))
          (eq-or-lt_of_le (let le : i ≤ n = omega (arith, less) in le));
    }

  -- all of them fit the starts
  pub ranges_of_places : (places : List SidesAtPlace) → ArePlacesBy filled es (length es) starts ms places →
      AreRangesBy starts ms places
  ranges_of_places places are = record {
    others = λ i k m a on.
        let count = by.count in
        let end = on.end_at.0 in
        let e = entry_at es i (omega (arith, count, end)) in
        let here = in_range ms on.start on.end k m on.after on.before on.met in
        let met : IsMetBefore es (length es) i e.0 m = subst (IsMetBefore es (length es) i e.0) here.1
        ((by.of_each i on.start on.end e.0 e.1 on.start_at on.end_at).all.each (k - on.start) m here.0) in
        let less = met.before in
        omega (arith, count, less);
    count = one_entry starts (length es) (length places) (length ms) are.last by.last;
    within = λ i t at_t.
        let count = by.count in
        let inside = at_t.0 in
        let s = entry_at starts i (omega (arith, inside)) in
        start_within es (length es) starts ms by i (omega (arith, count, inside)) s.0 t (sym s.1.1) (sym at_t.1);
  }
