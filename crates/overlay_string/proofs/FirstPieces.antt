-- The first open piece that begins at a point, found among the pieces by where they begin.
use Rattle.std.proofs.Common.{◌≡◌, ⊎_elim, ℕ, ◌+◌, ◌<◌, ◌≤◌, Bool, true, false, ℤ, List, length, get_or, refl}
use Rattle.std.proofs.Common.{sym, ap, ◌∙◌, subst, arith}
use Rattle.std.specs.Prelude.{All, Option, Some, None}
use Rattle.std.specs.List.{AllWithin}
use Rattle.std.proofs.lemmas.Bool.{both_ways, cases_lt}
use Rattle.std.proofs.lemmas.List.{get_or-map, length-map, get_or_default}
use Rattle.std.proofs.lemmas.List.Elements.{All-weaker}
use Rattle.overlay_geom.specs.Plane.{Point, Step, point_lt, point_eq}
use Rattle.overlay_geom.proofs.Entries.{some_entry}
use Rattle.overlay_geom.proofs.Orders.{point_lt-itself, point_lt-back, point_eq-of_same}
use Rattle.overlay_geom.proofs.PointOrder.{point_lt-before_up_to}
use Rattle.overlay_walk.specs.Steps.{plain_step, plain_steps}
use Rattle.overlay_walk.specs.declared.step.Step.{Step as StepTaken}
use Rattle.overlay_string.specs.OpenPlaces.{piece_at, IsFirstPlaceAt, NoneBeginsAt}
use Rattle.overlay_string.specs.PieceOrder.{IsPieceAt, AreInOrder, AreByStart}
use Rattle.overlay_string.specs.PieceOrder.{IsRunStart, IsFirstFrom}
use Rattle.overlay_string.specs.Pieces.{turned}
use Rattle.overlay_string.specs.declared.piece.Way.{Way}
use Rattle.overlay_string.proofs.OpenLists.{all_open}
use Rattle.overlay_string.proofs.TakenPieces.{none_begins}

-- a step is taken
abbrev pub is_marked : {I : Type 0} → List Bool → StepTaken I → Bool
is_marked marks t = get_or marks t.edge true

-- ---- among the steps

module _ {I : Type 0} (whole : I → ℤ) (ts : List (StepTaken I)) (marks : List Bool) (v : Point)
    (order : AreInOrder whole ts) (low : ℕ) (front : IsRunStart whole v ts low) where
  -- a step from v does not stand before those that leave v or a larger point
  not_before : (i : ℕ) (d : StepTaken I) → (plain_step whole (get_or ts i d)).from ≡ v → i < length ts → low ≤ i
  not_before i d at h = ⊎_elim
      (λ less. absurd (both_ways (point_lt v v) (point_lt-itself v)
      (subst (λ p. point_lt p v ≡ true) at (front.0 i d (omega arith) less))))
      (λ up. up) (cases_lt i low)

  -- of two places the later one holds no step that leaves a smaller point
  later_leaves : (i j : ℕ) (d : StepTaken I) → i < j → j < length ts →
      point_lt (plain_step whole (get_or ts j d)).from (plain_step whole (get_or ts i d)).from ≡ false
  later_leaves i j d less h =
      subst (λ (s : Step). point_lt s.from (plain_step whole (get_or ts i d)).from ≡ false)
      (get_or-map (plain_step whole) ts j d (plain_step whole d) h)
      (subst (λ (s : Step). point_lt (get_or (plain_steps whole ts) j (plain_step whole d)).from s.from ≡ false)
      (get_or-map (plain_step whole) ts i d (plain_step whole d) (omega arith))
      (order.leaving i j (plain_step whole d) less (let l = length-map ts (plain_step whole) in omega arith)))

  module _ (i : ℕ) (above : low ≤ i) (taken : AllWithin (λ t. is_marked marks t ≡ true) ts low i) where
    -- where the next step leaves another point, no step from v follows
    pub none_follows : (t : StepTaken I) → i < length ts → t ≡ get_or ts i t →
        point_eq (plain_step whole t).from v ≡ false → IsFirstFrom whole ts marks v None
    none_follows t within is apart = λ j d h at. ⊎_elim
        (λ less. taken j d (not_before j d at h) less)
        (λ up. ⊎_elim
        (λ more. absurd (both_ways (point_lt v v) (point_lt-itself v)
        (point_lt-before_up_to v (plain_step whole t).from v larger
        (subst (λ p. point_lt p (plain_step whole t).from ≡ false) at
        (subst (λ (s : StepTaken I). point_lt (plain_step whole (get_or ts j d)).from (plain_step whole s).from ≡ false)
        (get_or_default ts i d t within ∙ sym is) (later_leaves i j d more h))))))
        (λ back. let here : j ≡ i = omega arith in
        absurd (both_ways (point_eq (plain_step whole t).from v) apart
        (point_eq-of_same (plain_step whole t).from v
        (ap (λ (s : StepTaken I). (plain_step whole s).from) (is ∙ get_or_default ts i t d within
        ∙ ap (λ k. get_or ts k d) (sym here)) ∙ at))))
        (cases_lt i j))
        (cases_lt j i)
      where
        larger : point_lt v (plain_step whole t).from ≡ true
        larger = point_lt-back (plain_step whole t).from v apart
            (subst (λ (s : StepTaken I). point_lt (plain_step whole s).from v ≡ false) (sym is)
            (front.1 i t above within))

    -- where there is no next step, all from v are taken
    pub none_left : length ts ≤ i → IsFirstFrom whole ts marks v None
    none_left end = λ j d h at. taken j d (not_before j d at h) (omega arith)

    -- the next step, if it leaves v and is not taken, has the smallest number
    pub next_is_first : (t : StepTaken I) → i < length ts → t ≡ get_or ts i t →
        (plain_step whole t).from ≡ v → is_marked marks t ≡ false → IsFirstFrom whole ts marks v (Some t.edge)
    next_is_first t within is leaves clear = record {
      step = t;
      stands = (i, within, sym is);
      is = refl;
      leaves = leaves;
      open_there = clear;
      first = λ j d h at opened. ⊎_elim
          (λ less. absurd (both_ways (is_marked marks (get_or ts j d)) opened (taken j d (not_before j d at h) less)))
          (λ up. ⊎_elim
          (λ more. subst (λ (s : StepTaken I). s.edge ≤ (get_or ts j d).edge) (get_or_default ts i d t within ∙ sym is)
          (order.rising i j d more h
          (ap (λ (s : StepTaken I). (plain_step whole s).from) (get_or_default ts i d t within ∙ sym is)
          ∙ leaves ∙ sym at)))
          (λ back. let here : i ≡ j = omega arith in
          subst (λ (s : StepTaken I). t.edge ≤ s.edge) (is ∙ get_or_default ts i t d within
          ∙ ap (λ k. get_or ts k d) here) (omega arith))
          (cases_lt i j))
          (cases_lt j i);
    }

-- one step more that is taken
pub one_more_taken : {I : Type 0} (ts : List (StepTaken I)) (marks : List Bool) (low i : ℕ) → low ≤ i → i < length ts →
    AllWithin (λ t. is_marked marks t ≡ true) ts low i → (t : StepTaken I) → t ≡ get_or ts i t →
    is_marked marks t ≡ true → AllWithin (λ t. is_marked marks t ≡ true) ts low (i + 1)
one_more_taken {I} ts marks low i above within taken t is shut = λ j d up h. ⊎_elim
    (λ less. taken j d up less)
    (λ back. let here : i ≡ j = omega arith in
    subst (λ (s : StepTaken I). is_marked marks s ≡ true) (is ∙ get_or_default ts i t d within
    ∙ ap (λ k. get_or ts k d) here) shut)
    (cases_lt j i)

-- ---- among the pieces

module _ {I : Type 0} (whole : I → ℤ) (way : Way) (v : Point) (ss : List Step) (marks : List Bool)
    (same : length marks ≡ length ss) (ts : List (StepTaken I)) (have : AreByStart whole way ss ts) where
  -- what holds of the number of each step from v that is not taken holds of the place of each open piece that begins
  -- there
  at_places : (P : ℕ → Type 0) →
      All (λ t. (plain_step whole t).from ≡ v → get_or marks t.edge true ≡ false → P t.edge) ts →
      (k : ℕ) → k < length ss → (turned way (piece_at ss k)).from ≡ v → get_or marks k true ≡ false → P k
  at_places P all k h at opened =
      let stands = have.all k h in
      let i = stands.0 in
      let within : i < length ts = (let l = length-map ts (λ (t : StepTaken I). t.edge) in let w = stands.1 in
      omega arith) in
      let d = some_entry ts i within in
      let t = get_or ts i d in
      let is : t.edge ≡ k = sym (get_or-map (λ (t : StepTaken I). t.edge) ts i d k within) ∙ stands.2 in
      let along = (have.pieces i d within).along in
      subst P is (all i d within
      (ap (λ (s : Step). s.from) along ∙ ap (λ n. (turned way (piece_at ss n)).from) is ∙ at)
      (ap (λ n. get_or marks n true) is ∙ opened))

  -- so the first of those steps tells the first of these pieces
  pub first_place_from : (found : Option ℕ) → IsFirstFrom whole ts marks v found → IsFirstPlaceAt way v ss marks found
  first_place_from None none =
      subst (NoneBeginsAt way v) (all_open ss marks (length ss) same (λ h. absurd (omega arith)))
      (none_begins ss marks same way v (length ss) (omega arith) (λ j less opened at.
      at_places (λ k. ⊥)
      (λ i d h from clear. both_ways (get_or marks (get_or ts i d).edge true) clear (none i d h from))
      j less at opened))
  first_place_from (Some k) found = record {
    place = record { within = below; open_there = found.open_there };
    begins = ap (λ n. (turned way (piece_at ss n)).from) (sym found.is)
        ∙ ap (λ (s : Step). s.from) (sym piece.along) ∙ found.leaves;
    first = let b = below in none_begins ss marks same way v k (omega arith) (λ j less opened at.
        let least = at_places (λ n. k ≤ n) found.first j (omega arith) at opened in absurd (omega arith));
  }
    where
      piece : IsPieceAt whole way ss found.step
      piece = subst (IsPieceAt whole way ss) (found.stands).2
          (have.pieces (found.stands).0 found.step (found.stands).1)

      below : k < length ss
      below = subst (λ n. n < length ss) found.is piece.below

  -- the numbers of the steps are places of marks
  pub within_marks : All (λ t. t.edge < length marks) ts
  within_marks = All-weaker (IsPieceAt whole way ss) (λ t. t.edge < length marks)
      (λ t piece. let b = piece.below in omega arith) ts have.pieces
