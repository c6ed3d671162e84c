-- The piece at a place is taken out of the open ones.
use Rattle.std.proofs.Common.{◌≡◌, ◌≢◌, ℕ, zero, suc, ◌+◌, ◌<◌, ◌≤◌, Bool, true, false, cond, List, [], ◌∷◌, ◌++◌}
use Rattle.std.proofs.Common.{length, map, get_or}
use Rattle.std.proofs.Common.{refl, sym, ap, ap₂, ◌∙◌, subst, arith}
use Rattle.std.proofs.lemmas.List.{map-append, append-nil}
use Rattle.std.proofs.lemmas.List.Elements.{All-nil, All-cons, All-append}
use Rattle.std.specs.Prelude.{Option, Some, None, set, All}
use Rattle.overlay_geom.specs.Plane.{Point, Step}
use Rattle.overlay_plane.specs.Turn.{no_step}
use Rattle.overlay_string.specs.OpenPlaces.{piece_at, open_before, open_behind, NoneBeginsAt, IsFirstOpen}
use Rattle.overlay_string.specs.OpenPlaces.{IsFirstOpenAt}
use Rattle.overlay_walk.specs.Steps.{unmarked}
use Rattle.overlay_string.specs.Pieces.{turned, IsTakenAt, IsTakenFirst}
use Rattle.overlay_string.specs.declared.piece.Way.{Way}
use Rattle.overlay_string.proofs.OpenLists.{open_there, taken_there, one_more_open}

-- the next place
next_place : (k : ℕ) → k + 1 ≡ suc k
next_place k = omega arith

module _ (ss : List Step) (marks : List Bool) (same : length marks ≡ length ss) where
  -- the first of all
  pub first_taken : (k : ℕ) → IsFirstOpen ss marks k → (s : Step) → piece_at ss k ≡ s
      → IsTakenFirst (unmarked ss marks) (unmarked ss (set marks k true)) (Some s)
  first_taken k h s is =
      open_there no_step ss marks k same h.place.within h.place.open_there
      ∙ ap (λ l. l ++ piece_at ss k ∷ open_behind ss marks k) h.first
      ∙ ap₂ (λ t l. t ∷ l) is
      (sym (taken_there no_step ss marks k same h.place.within ∙ ap (λ l. l ++ open_behind ss marks k) h.first))

  -- the first that begins at a point
  pub first_at_taken : (way : Way) (v : Point) (k : ℕ) → IsFirstOpenAt way v ss marks k → (s : Step) → piece_at ss k ≡ s
      → IsTakenAt way v (unmarked ss marks) (unmarked ss (set marks k true)) (Some s)
  first_at_taken way v k h s is =
      subst (λ t. IsTakenAt way v (unmarked ss marks) (unmarked ss (set marks k true)) (Some t)) is (record {
        before = map (turned way) (open_before ss marks k);
        after = map (turned way) (open_behind ss marks k);
        parts = ap (map (turned way)) (open_there no_step ss marks k same h.place.within h.place.open_there)
            ∙ map-append (turned way) (open_before ss marks k) (piece_at ss k ∷ open_behind ss marks k);
        stays = ap (map (turned way)) (taken_there no_step ss marks k same h.place.within)
            ∙ map-append (turned way) (open_before ss marks k) (open_behind ss marks k);
        leaves = h.begins;
        first = h.first;
      })

  -- or none begins there
  pub none_at_taken : (way : Way) (v : Point) → NoneBeginsAt way v (unmarked ss marks) → (found : Option Step) →
      found ≡ None → IsTakenAt way v (unmarked ss marks) (unmarked ss marks) found
  none_at_taken way v none found is = subst (IsTakenAt way v (unmarked ss marks) (unmarked ss marks)) (sym is)
      (record { none = none; left = refl })

  -- a place that is not open adds nothing to the open ones before it
  pub shut_passed : (k : ℕ) → k < length ss → get_or marks k true ≡ true → open_before ss marks k ≡ []
      → open_before ss marks (k + 1) ≡ []
  shut_passed k within shut none =
      ap (open_before ss marks) (next_place k)
      ∙ one_more_open no_step ss marks k same within
      ∙ ap (λ m. open_before ss marks k ++ cond m [] (piece_at ss k ∷ [])) shut
      ∙ append-nil (open_before ss marks k) ∙ none

  module _ (way : Way) (v : Point) (k : ℕ) (within : k < length ss)
      (none : NoneBeginsAt way v (open_before ss marks k)) where
    -- nor one that is open to those that begin at a point, where the piece there does not
    pub apart_passed : (shut : Bool) → get_or marks k true ≡ shut
        → (shut ≡ false → (turned way (piece_at ss k)).from ≢ v)
        → NoneBeginsAt way v (open_before ss marks (k + 1))
    apart_passed shut is apart =
        subst (NoneBeginsAt way v)
        (sym (ap (open_before ss marks) (next_place k) ∙ one_more_open no_step ss marks k same within
        ∙ ap (λ m. open_before ss marks k ++ cond m [] (piece_at ss k ∷ [])) is))
        (by shut apart)
      where
        by : (m : Bool) → (m ≡ false → (turned way (piece_at ss k)).from ≢ v)
            → NoneBeginsAt way v (open_before ss marks k ++ cond m [] (piece_at ss k ∷ []))
        by true apart = subst (NoneBeginsAt way v) (sym (append-nil (open_before ss marks k))) none
        by false apart =
            subst (All (λ t. t.from ≢ v)) (sym (map-append (turned way) (open_before ss marks k) (piece_at ss k ∷ [])))
            (All-append (λ t. t.from ≢ v) (map (turned way) (open_before ss marks k))
            (turned way (piece_at ss k) ∷ []) none
            (All-cons (λ t. t.from ≢ v) (turned way (piece_at ss k)) [] (apart refl) (All-nil (λ t. t.from ≢ v))))

  -- where none of the open pieces at the first places begins at a point, none of the open ones before the next place
  -- does
  pub none_begins : (way : Way) (v : Point) (n : ℕ) → n ≤ length ss →
      ((j : ℕ) → j < n → get_or marks j true ≡ false → (turned way (piece_at ss j)).from ≢ v) →
      NoneBeginsAt way v (open_before ss marks n)
  none_begins way v zero within apart = All-nil (λ t. t.from ≢ v)
  none_begins way v (suc n) within apart =
      subst (λ m. NoneBeginsAt way v (open_before ss marks m)) (next_place n)
      (apart_passed way v n (omega arith) (none_begins way v n (omega arith) (λ j less. apart j (omega arith)))
      (get_or marks n true) refl (apart n (omega arith)))
