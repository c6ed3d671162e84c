-- The first open place behind the way back, in the order of the fans, is that of the next step. Where none follows at
-- the node, it is the first open place there.
use Rattle.std.proofs.Common.{◌≡◌, ⊎_elim, ℕ, ◌<◌, ◌≤◌, Bool, true, false, List, length, get_or, All, sym, ◌∙◌, subst}
use Rattle.std.proofs.Common.{arith}
use Rattle.std.specs.Prelude.{Option, Some, None}
use Rattle.std.specs.List.Sorted.{IsPartitionPoint}
use Rattle.std.proofs.lemmas.Bool.{both_ways, false_from_ne_true, cases_lt}
use Rattle.std.proofs.lemmas.Grind.{get_or_default_zero}
use Rattle.overlay_geom.specs.Plane.{Point, Step, point_lt, point_eq}
use Rattle.overlay_geom.proofs.Orders.{point_eq-same, point_lt-back, point_lt-itself}
use Rattle.overlay_plane.specs.Turn.{Hand, is_met_before, no_step}
use Rattle.overlay_walk.specs.Places.{is_open, step_at, IsNextAt, IsNextPlace}
use Rattle.overlay_walk.specs.Fans.{right_of, is_met_from_right, stands_before, AreFanned, StopsAt}
use Rattle.overlay_walk.specs.Fans.{IsFirstLeaving, HasNoneLeaving, IsFirstIfLeaving}
use Rattle.overlay_walk.specs.Steps.{IsLong}
use Rattle.overlay_walk.proofs.FannedParts.{in_order, read_or}
use Rattle.overlay_walk.proofs.RayOrder.{later_behind, behind_alone, later_up_to}
use Rattle.overlay_walk.proofs.FannedSteps.{right_apart, by_points_or_rays, not_by_points, not_by_rays}

-- the step back along a step
abbrev pub way_back : Step → Step
way_back s = record { from = s.to; to = s.from }

pub way_back_long : (limit : ℕ) (s : Step) → IsLong limit s → IsLong limit (way_back s)
way_back_long limit s long = record {
  from_in_range = long.to_in_range;
  to_in_range = long.from_in_range;
  apart = λ e. long.apart (sym e);
}

module _ (limit : ℕ) (hand : Hand) (ss : List Step) (marks : List Bool) (fanned : List ℕ) (s : Step)
    (long : All (IsLong limit) ss) (long_s : IsLong limit s) (placed : AreFanned hand ss fanned) where
  -- the node, and the start of the step that ends there
  abbrev pub v : Point
  v = s.to

  abbrev u : Point
  u = s.from

  -- the step at the place that has an index
  abbrev step : ℕ → Step
  step i = step_at ss (get_or fanned i 0)

  -- it is one of the steps, so it is long
  placed_within : (i : ℕ) → i < length fanned → get_or fanned i 0 < length ss
  placed_within i h = placed.within i 0 h

  long_step : (i : ℕ) → i < length fanned → IsLong limit (step i)
  long_step i h = long (get_or fanned i 0) no_step (placed_within i h)

  -- it is read with the way back for places behind all, too
  read : (i : ℕ) → i < length fanned → get_or ss (get_or fanned i 0) (way_back s) ≡ step i
  read i h = read_or hand ss fanned placed (way_back s) i 0 h

  -- the index of an open place whose step leaves the node
  record IsAt (k i : ℕ) : Type 0 where
    below : i < length fanned
    is : get_or fanned i 0 ≡ k
    untaken : is_open marks (get_or fanned i 0) ≡ true
    leaves : (step i).from ≡ v

  index_of : (k : ℕ) → k < length ss → is_open marks k ≡ true → (step_at ss k).from ≡ v → (i : ℕ) × IsAt k i
  index_of k h at leaves =
      let stands = placed.all k h in
      let is = sym (get_or_default_zero fanned stands.0 k stands.1) ∙ stands.2 in (
        stands.0,
        record {
          below = stands.1;
          is = is;
          untaken = subst (λ j. is_open marks j ≡ true) (sym is) at;
          leaves = subst (λ j. (step_at ss j).from ≡ v) (sym is) leaves;
        },
      )

  -- at the node it is met no earlier
  met_in_order : (i j : ℕ) → i ≤ j → j < length fanned → (step i).from ≡ v → (step j).from ≡ v →
      is_met_from_right hand v (step j).to (step i).to ≡ false
  met_in_order i j up h at_i at_j =
      subst (λ (p : Point). is_met_from_right hand p (step j).to (step i).to ≡ false) at_j
      (not_by_rays hand (step j) (step i) (in_order hand ss fanned placed i j 0 up h) (at_j ∙ sym at_i))

  -- the end of a step that leaves the node is not the node
  end_apart : (i : ℕ) → i < length fanned → (step i).from ≡ v → ¬ ((step i).to ≡ v)
  end_apart i h at same = (long_step i h).apart (at ∙ sym same)

  -- no open place lies before the one at which a search stops
  from_stop : (low at : ℕ) → StopsAt marks fanned low at → (i : ℕ) → low ≤ i → i < length fanned →
      is_open marks (get_or fanned i 0) ≡ true → at ≤ i
  from_stop low at stops i from h opened = ⊎_elim
      (λ early. absurd (both_ways (is_open marks (get_or fanned i 0)) (stops.taken i from early h) opened))
      (λ up. up) (cases_lt i at)

  -- behind a step that leaves a greater point, none leaves the node
  none_behind : (i j : ℕ) → i ≤ j → j < length fanned → point_lt v (step i).from ≡ true → ¬ ((step j).from ≡ v)
  none_behind i j up h greater at = both_ways (point_lt (step j).from (step i).from)
      (not_by_points hand (step j) (step i) (in_order hand ss fanned placed i j 0 up h))
      (subst (λ (p : Point). point_lt p (step i).from ≡ true) (sym at) greater)

  module _ (behind : ℕ)
      (parted : IsPartitionPoint (λ k. stands_before hand (way_back s) (get_or ss k (way_back s)) ≡ false)
      (λ k. stands_before hand (way_back s) (get_or ss k (way_back s)) ≡ true) fanned behind) where
    -- up to the way back
    not_behind : (i : ℕ) → i < behind → i < length fanned → (step i).from ≡ v →
        is_met_from_right hand v u (step i).to ≡ false
    not_behind i less h at = not_by_rays hand (way_back s) (step i)
        (subst (λ (t : Step). stands_before hand (way_back s) t ≡ false) (read i h)
        (parted.0 i 0 (omega arith) less)) (sym at)

    -- the others stand behind it
    stands_behind : (i : ℕ) → behind ≤ i → i < length fanned → stands_before hand (way_back s) (step i) ≡ true
    stands_behind i from h = subst (λ (t : Step). stands_before hand (way_back s) t ≡ true) (read i h)
        (parted.1 i 0 from h)

    -- behind it
    behind_back : (i : ℕ) → behind ≤ i → i < length fanned → (step i).from ≡ v →
        is_met_from_right hand v u (step i).to ≡ true
    behind_back i from h at = by_points_or_rays hand (way_back s) (step i) (stands_behind i from h)
        (λ less. absurd (both_ways (point_lt v v) (point_lt-itself v)
        (subst (λ (p : Point). point_lt v p ≡ true) at less)))
        (λ same met. met)

    -- the first open place behind it
    pub next_behind : (k : ℕ) → IsFirstLeaving ss marks fanned behind v k → IsNextAt ss marks hand s k
    next_behind k found = record {
      below = subst (λ j. j < length ss) (sym found.is) (placed_within found.at found.below);
      untaken = subst (λ j. is_open marks j ≡ true) (sym found.is) (found.stops.ends found.below);
      leaves = found.leaves;
      first = λ j h at leaves. by_index j (index_of j h at leaves);
    }
      where
        here : (step found.at).from ≡ v
        here = subst (λ j. (step_at ss j).from ≡ v) found.is found.leaves

        met : is_met_from_right hand v u (step found.at).to ≡ true
        met = behind_back found.at found.stops.from found.below here

        first_at : (i : ℕ) → i < length fanned → is_open marks (get_or fanned i 0) ≡ true → (step i).from ≡ v →
            is_met_before hand v u (step i).to (step found.at).to ≡ false
        first_at i h opened leaves = ⊎_elim
            (λ early. behind_alone hand v (right_of v) (right_apart v) u (step found.at).to (step i).to long_s.apart
            (end_apart found.at found.below here) (end_apart i h leaves) met (not_behind i early h leaves))
            (λ late. later_behind hand v (right_of v) (right_apart v) u (step found.at).to (step i).to long_s.apart
            (end_apart found.at found.below here) (end_apart i h leaves) met
            (met_in_order found.at i (from_stop behind found.at found.stops i late h opened) h here leaves))
            (cases_lt i behind)

        by_index : (j : ℕ) → (i : ℕ) × IsAt j i →
            is_met_before hand v u (step_at ss j).to (step_at ss k).to ≡ false
        by_index j (i, at) = subst (λ m. is_met_before hand v u (step_at ss j).to (step_at ss m).to ≡ false)
            (sym found.is)
            (subst (λ m. is_met_before hand v u (step_at ss m).to (step found.at).to ≡ false) at.is
            (first_at i at.below at.untaken at.leaves))

    module _ (none : HasNoneLeaving ss marks fanned behind v) where
      -- where none follows, the open places at the node stand up to the way back
      up_to_back : (i : ℕ) → i < length fanned → is_open marks (get_or fanned i 0) ≡ true → (step i).from ≡ v →
          i < behind
      up_to_back i h opened leaves = ⊎_elim (λ less. less)
          (λ late. absurd (past late (from_stop behind none.at none.stops i late h opened))) (cases_lt i behind)
        where
          past : behind ≤ i → none.at ≤ i → ⊥
          past late up =
              let within : none.at < length fanned = omega arith in
              by_points_or_rays hand (way_back s) (step none.at)
              (stands_behind none.at none.stops.from within)
              (λ less. none_behind none.at i up h less leaves)
              (λ same met. none.leaves_other within (sym same))

      module _ (low : ℕ)
          (smaller : IsPartitionPoint (λ k. point_lt (get_or ss k (way_back s)).from v ≡ true)
          (λ k. point_lt (get_or ss k (way_back s)).from v ≡ false) fanned low) where
        -- the steps that leave the node stand behind those that leave smaller points
        from_low : (i : ℕ) → i < length fanned → (step i).from ≡ v → low ≤ i
        from_low i h leaves = ⊎_elim
            (λ less. absurd (both_ways (point_lt v v) (point_lt-itself v)
            (subst (λ (p : Point). point_lt p v ≡ true) leaves
            (subst (λ (t : Step). point_lt t.from v ≡ true) (read i h) (smaller.0 i 0 (omega arith) less)))))
            (λ up. up) (cases_lt i low)

        -- the first open place there
        pub next_in_fans : (found : Option ℕ) → IsFirstIfLeaving ss marks fanned low v found →
            IsNextPlace ss marks hand s found
        next_in_fans None other = λ k h at leaves. none_at k (index_of k h at leaves)
          where
            none_at : (k : ℕ) → (i : ℕ) × IsAt k i → ⊥
            none_at k (i, at) =
                let up = from_stop low other.at other.stops i (from_low i at.below at.leaves) at.below at.untaken in
                let h = at.below in
                let within : other.at < length fanned = omega arith in
                none_behind other.at i up at.below
                (point_lt-back (step other.at).from v
                (false_from_ne_true (point_eq (step other.at).from v)
                (λ e. other.leaves_other within (point_eq-same (step other.at).from v e)))
                (subst (λ (t : Step). point_lt t.from v ≡ false) (read other.at within)
                (smaller.1 other.at 0 other.stops.from within))) at.leaves
        next_in_fans (Some k) found = record {
          below = subst (λ j. j < length ss) (sym found.is) (placed_within found.at found.below);
          untaken = subst (λ j. is_open marks j ≡ true) (sym found.is) (found.stops.ends found.below);
          leaves = found.leaves;
          first = λ j h at leaves. by_index j (index_of j h at leaves);
        }
          where
            here : (step found.at).from ≡ v
            here = subst (λ j. (step_at ss j).from ≡ v) found.is found.leaves

            first_at : (i : ℕ) → i < length fanned → is_open marks (get_or fanned i 0) ≡ true → (step i).from ≡ v →
                is_met_before hand v u (step i).to (step found.at).to ≡ false
            first_at i h opened leaves = later_up_to hand v (right_of v) (right_apart v) u (step found.at).to
                (step i).to long_s.apart (end_apart found.at found.below here) (end_apart i h leaves)
                (not_behind i (up_to_back i h opened leaves) h leaves)
                (met_in_order found.at i (from_stop low found.at found.stops i (from_low i h leaves) h opened) h here
                leaves)

            by_index : (j : ℕ) → (i : ℕ) × IsAt j i →
                is_met_before hand v u (step_at ss j).to (step_at ss k).to ≡ false
            by_index j (i, at) = subst (λ m. is_met_before hand v u (step_at ss j).to (step_at ss m).to ≡ false)
                (sym found.is)
                (subst (λ m. is_met_before hand v u (step_at ss m).to (step found.at).to ≡ false) at.is
                (first_at i at.below at.untaken at.leaves))
