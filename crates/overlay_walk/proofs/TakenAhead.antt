-- Indices up to which places are known to be taken.
use Rattle.std.proofs.Common.{◌≡◌, ◌⊎◌, ⊎_elim, ℕ, ◌+◌, ◌<◌, ◌≤◌, Bool, true, false, List, length, get_or, sym}
use Rattle.std.proofs.Common.{subst, arith}
use Rattle.std.specs.Prelude.{set}
use Rattle.std.proofs.lemmas.Bool.{both_ways, false_from_ne_true, cases_lt}
use Rattle.std.proofs.lemmas.List.{get_or-set_same, get_or-set_other}
use Rattle.overlay_geom.specs.Plane.{Step}
use Rattle.overlay_plane.specs.Turn.{Hand}
use Rattle.overlay_plane.specs.Turn.Hand.{left, right}
use Rattle.overlay_walk.specs.Places.{is_open}
use Rattle.overlay_walk.specs.Fans.{AreTaken, AreTakenAhead, AreFansBy, AreFans}
use Rattle.overlay_walk.specs.declared.fans.Fans.{Fans}
use Rattle.overlay_walk.specs.declared.fans.FansByHand.{FansByHand}
use Rattle.overlay_walk.proofs.OpenPlaces.{marked_is_open}

module _ (marks : List Bool) (fanned : List ℕ) where
  -- no place lies between an index and itself
  pub none_between : (low : ℕ) → AreTaken marks fanned low low
  none_between low = λ i from below within. absurd (omega arith)

  -- further places are taken
  pub taken_on : (low at next : ℕ) → AreTaken marks fanned low at → AreTaken marks fanned at next →
      AreTaken marks fanned low next
  taken_on low at next first second = λ i from below within. ⊎_elim (λ early. first i from early within)
      (λ late. second i late below within) (cases_lt i at)

  -- one place
  pub one_taken : (at : ℕ) → is_open marks (get_or fanned at 0) ≡ false → AreTaken marks fanned at (at + 1)
  one_taken at shut = λ i from below within.
      let same : at ≡ i = omega arith in
      subst (λ j. is_open marks (get_or fanned j 0) ≡ false) same shut

  -- up to the next index, or to the index that is noted
  pub taken_ahead : (ahead : List ℕ) → AreTakenAhead marks fanned ahead → (at next : ℕ) →
      is_open marks (get_or fanned at 0) ≡ false → (next ≡ at + 1) ⊎ (next ≡ get_or ahead at 0) →
      AreTaken marks fanned at next
  taken_ahead ahead noted at next shut is = ⊎_elim
      (λ one. subst (AreTaken marks fanned at) (sym one) (one_taken at shut))
      (λ far. subst (AreTaken marks fanned at) (sym far) (noted at)) is

  -- an index within the taken places is noted
  pub taken_noted : (ahead : List ℕ) (low index at : ℕ) → AreTaken marks fanned low at →
      AreTakenAhead marks fanned ahead → low ≤ index → index < length ahead →
      AreTakenAhead marks fanned (set ahead index at)
  taken_noted ahead low index at taken noted from within = λ j. ⊎_elim (other j) (λ up. ⊎_elim (later j)
      (λ back. here j (omega arith)) (cases_lt index j)) (cases_lt j index)
    where
      still : (j : ℕ) → ¬ (j ≡ index) → AreTaken marks fanned j (get_or (set ahead index at) j 0)
      still j apart = subst (AreTaken marks fanned j) (sym (get_or-set_other ahead index j at 0 apart)) (noted j)

      other : (j : ℕ) → j < index → AreTaken marks fanned j (get_or (set ahead index at) j 0)
      other j less = still j (λ same. absurd (omega arith))

      later : (j : ℕ) → index < j → AreTaken marks fanned j (get_or (set ahead index at) j 0)
      later j more = still j (λ same. absurd (omega arith))

      here : (j : ℕ) → index ≡ j → AreTaken marks fanned j (get_or (set ahead index at) j 0)
      here j same = subst (λ i. AreTaken marks fanned i (get_or (set ahead index at) i 0)) same
          (subst (AreTaken marks fanned index) (sym (get_or-set_same ahead index at 0 within))
          (λ i up below inside. taken i (omega arith) below inside))

  -- a mark more leaves them taken
  pub taken_still : (low high k : ℕ) → AreTaken marks fanned low high → AreTaken (set marks k true) fanned low high
  taken_still low high k taken = λ i from below within.
      false_from_ne_true (is_open (set marks k true) (get_or fanned i 0))
      (λ opened. both_ways (is_open marks (get_or fanned i 0)) (taken i from below within)
      (marked_is_open marks k (get_or fanned i 0) opened))

-- so the fans stay right
pub fans_still : {A : Type 0} (hand : Hand) (ss : List Step) (marks : List Bool) (fans : Fans A) (k : ℕ) →
    AreFansBy hand ss marks fans → AreFansBy hand ss (set marks k true) fans
fans_still hand ss marks fans k is = record {
  placed = is.placed;
  each = is.each;
  noted = λ low. taken_still marks fans.places.items low (get_or fans.ahead.items low 0) k (is.noted low);
}

pub both_fans_still : {A : Type 0} (ss : List Step) (marks : List Bool) (fans : FansByHand A) (k : ℕ) →
    AreFans ss marks fans → AreFans ss (set marks k true) fans
both_fans_still ss marks fans k are = record {
  by_left = fans_still left ss marks fans.by_left k are.by_left;
  by_right = fans_still right ss marks fans.by_right k are.by_right;
}
