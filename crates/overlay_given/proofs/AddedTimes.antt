-- One entry is added some number of times.
use Rattle.std.proofs.Common.{◌≡◌, ⊎_elim, ℕ, ◌+◌, ◌<◌, ◌≤◌, List, [], ◌∷◌, ◌++◌, length, refl, sym, ◌∙◌, ap}
use Rattle.std.proofs.Common.{append_assoc}
use Rattle.std.proofs.Common.{subst, arith}
use Rattle.std.proofs.Math.Nat.{eq-or-lt_of_le}
use Rattle.std.proofs.lemmas.List.{append-nil, get_or_append_left, get_or_at, length_push}
use Rattle.overlay_pairs.specs.Places.{IsAt}
use Rattle.overlay_pairs.proofs.Entries.{one_entry}
use Rattle.overlay_given.specs.Places.{AddsTimes}
use Rattle.overlay_given.specs.declared.sides.SidesAtPlace.{SidesAtPlace}

module _ (a : SidesAtPlace) (first : List SidesAtPlace) where
  pub times_none : AddsTimes 0 a first first
  times_none = record {
    added = [];
    after = sym (append-nil first);
    times = refl;
    each = λ k b at. let within = at.0 in absurd (omega (arith, within));
  }

  pub times_more : (n : ℕ) (old new : List SidesAtPlace) → AddsTimes n a first old → new ≡ old ++ a ∷ [] →
      AddsTimes (n + 1) a first new
  times_more n old new adds pushed = record {
    added = adds.added ++ a ∷ [];
    after = pushed ∙ ap (λ xs. xs ++ a ∷ []) adds.after ∙ append_assoc first adds.added (a ∷ []);
    times = let l = length_push adds.added a in let count = adds.times in omega (arith, l, count);
    each = λ k b at.
        let l = length_push adds.added a in
        let count = adds.times in
        let short = at.0 in
        ⊎_elim
        (λ (same : k ≡ n). one_entry (adds.added ++ a ∷ []) n b a
        (subst (λ j. IsAt (adds.added ++ a ∷ []) j b) same at)
        (omega (arith, l, count), get_or_at adds.added a [] a n count))
        (λ (less : k < n).
        let within : k < length adds.added = omega (arith, less, count) in
        adds.each k b (within, sym (get_or_append_left adds.added (a ∷ []) b k within) ∙ at.1))
        (eq-or-lt_of_le (let le : k ≤ n = omega (arith, l, count, short) in le));
  }
