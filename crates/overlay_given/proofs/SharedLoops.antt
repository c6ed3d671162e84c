-- Loops over the meeting points of an edge, which stand between two starts.
use Rattle.std.proofs.Common.{◌≡◌, ⊎_elim, false, ℕ, ◌+◌, ◌<◌, ◌≤◌, List, length, get_or, sym, subst, ◌∙◌, arith}
use Rattle.std.proofs.lemmas.List.{get_or_default}
use Rattle.std.proofs.Math.Nat.{eq-or-lt_of_le}
use Rattle.overlay_pairs.specs.Places.{IsAt}
use Rattle.overlay_pairs.proofs.Entries.{one_entry}
use Rattle.overlay_exact.specs.Along.{Met}
use Rattle.overlay_given.specs.Places.{IsMetOn, AreRangesBy}
use Rattle.overlay_given.specs.declared.sides.FilledSides.{FilledSides}
use Rattle.overlay_given.specs.declared.sides.SidesAtPlace.{SidesAtPlace}

-- an entry is read with any number for a place past the end
pub read_at : (xs : List ℕ) (i d x : ℕ) → IsAt xs i x → get_or xs i d ≡ x
read_at xs i d x at = get_or_default xs i d x at.0 ∙ at.1

module _ (starts : List ℕ) (ms : List Met) (places : List SidesAtPlace) (i k : ℕ) (m : Met) (a : SidesAtPlace)
    (on : IsMetOn starts ms places i k m a) where
  -- none comes before the start
  pub none_before : k < get_or starts i 0 → ⊥
  none_before less =
      let is = read_at starts i 0 on.start on.start_at in
      let after = on.after in
      omega (arith, is, after, less)

  -- nor past the end
  pub none_behind : get_or starts (i + 1) 0 ≤ k → ⊥
  none_behind late =
      let is = read_at starts (i + 1) 0 on.end on.end_at in
      let before = on.before in
      omega (arith, is, before, late)

-- an entry between them is one of the edge
pub on_at : (starts : List ℕ) (ms : List Met) (places : List SidesAtPlace) (i k : ℕ) (m : Met) (a : SidesAtPlace) →
    (i + 1) < length starts → get_or starts i 0 ≤ k → k < get_or starts (i + 1) 0 → IsAt ms k m → IsAt places k a →
    IsMetOn starts ms places i k m a
on_at starts ms places i k m a within after before met sides = record {
  start = get_or starts i 0;
  end = get_or starts (i + 1) 0;
  start_at = (omega (arith, within), get_or_default starts i (get_or starts i 0) 0 (omega (arith, within)));
  end_at = (within, get_or_default starts (i + 1) (get_or starts (i + 1) 0) 0 within);
  after = after;
  before = before;
  met = met;
  sides = sides;
}

-- the sides that a list without entries gives
abbrev pub no_sides : SidesAtPlace
no_sides = record { before = unfilled; after = unfilled }
  where
    unfilled : FilledSides
    unfilled = record { subj_above = false; subj_below = false; clip_above = false; clip_below = false }

-- a loop over them reads the entries at k
module _ (starts : List ℕ) (ms : List Met) (places : List SidesAtPlace) (ranges : AreRangesBy starts ms places)
    (i k : ℕ) (within : (i + 1) < length starts) (before : k < get_or starts (i + 1) 0) where
  pub in_met : k < length ms
  in_met =
      let end = get_or starts (i + 1) 0 in
      let short = ranges.within i end (within, get_or_default starts (i + 1) end 0 within) in
      omega (arith, short, before)

  pub sides_here : (d : SidesAtPlace) → IsAt places k (get_or places k d)
  sides_here d =
      let count = ranges.count in
      let inside = in_met in
      let here : k < length places = omega (arith, count, inside) in
      (here, get_or_default places k (get_or places k d) d here)

  -- a fact of all entries so far and of this is one of all up to it
  pub each_more : (P : Met → SidesAtPlace → Type 0) (m : Met) (b : SidesAtPlace) → IsAt ms k m → IsAt places k b →
      P m b →
      ((n : ℕ) (x : Met) (a : SidesAtPlace) → IsMetOn starts ms places i n x a → n < k → P x a) →
      (n : ℕ) (x : Met) (a : SidesAtPlace) → IsMetOn starts ms places i n x a → n < (k + 1) → P x a
  each_more P m b at_m at_b here so_far n x a on less = ⊎_elim
      (λ (same : n ≡ k).
      let is_m : x ≡ m = one_entry ms k x m (subst (λ j. IsAt ms j x) same on.met) at_m in
      let is_b : a ≡ b = one_entry places k a b (subst (λ j. IsAt places j a) same on.sides) at_b in
      subst (λ y. P y a) (sym is_m) (subst (P m) (sym is_b) here))
      (λ (early : n < k). so_far n x a on early)
      (eq-or-lt_of_le (let le : n ≤ k = omega (arith, less) in le))
