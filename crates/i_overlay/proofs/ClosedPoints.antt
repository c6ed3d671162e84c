-- The steps of a closed list of different points: where each of them begins and ends.
use Rattle.std.proofs.Common.{◌≡◌, ◌⊎◌, inl, inr, nat_lt, Bool, ℕ, zero, suc, ◌+◌, ◌<◌, ◌≤◌, true, false, cond}
use Rattle.std.proofs.Common.{List, [], ◌∷◌, ◌++◌, length}
use Rattle.std.proofs.Common.{map, get_or, Contains, refl, sym, ap, ◌∙◌, arith}
use Rattle.std.proofs.lemmas.Bool.{both_ways, ltb-false, ltb-true}
use Rattle.std.proofs.lemmas.List.{get_or-map, get_or_append_left, get_or_default, get_or_push, length-map}
use Rattle.std.proofs.lemmas.List.Elements.{Contains-get_or}
use Rattle.std.specs.Bool.{⊤}
use Rattle.overlay_geom.specs.Plane.{Point, Step, point_eq, steps_through, steps_of}
use Rattle.overlay_geom.proofs.Entries.{Contains-head, Contains-later}
use Rattle.overlay_geom.proofs.Orders.{point_eq-of_same}
use Rattle.overlay_plane.specs.Groups.{HasEachPointOnce}
use Rattle.overlay_plane.proofs.LaterEntries.{Each, Each-from_all_pairs, Each-push}
use Rattle.overlay_plane.specs.Turn.{no_step}
use Rattle.overlay_walk.proofs.OnceSorted.{Differ, differ_back}

-- points that differ are not one
pub differ_apart : (p q : Point) → Differ p q → ¬ (p ≡ q)
differ_apart p q apart same = both_ways (point_eq p q) apart (point_eq-of_same p q same)

-- ---- the steps through points

-- along the points from p on each differs from the one before it
abbrev GoOn : Point → List Point → Type 0
GoOn p [] = ⊤
GoOn p (q ∷ qs) = Differ p q × GoOn q qs

-- then their steps end in them
ends_through : (p : Point) (qs : List Point) → GoOn p qs → map (λ (s : Step). s.to) (steps_through p qs) ≡ qs
ends_through p [] on = refl
ends_through p (q ∷ qs) on =
    ap (λ t. map (λ (s : Step). s.to) (cond t [] (record { from = p; to = q } ∷ []) ++ steps_through q qs)) on.0
    ∙ ap (λ l. q ∷ l) (ends_through q qs on.1)

-- and begin in p and in them, but for the last one
starts_through : (p : Point) (qs : List Point) (z : Point) → GoOn p (qs ++ z ∷ []) →
    map (λ (s : Step). s.from) (steps_through p (qs ++ z ∷ [])) ≡ p ∷ qs
starts_through p [] z on =
    ap (λ t. map (λ (s : Step). s.from) (cond t [] (record { from = p; to = z } ∷ []) ++ [])) on.0
starts_through p (q ∷ qs) z on =
    ap (λ t. map (λ (s : Step). s.from) (cond t [] (record { from = p; to = q } ∷ []) ++ steps_through q
    (qs ++ z ∷ []))) on.0
    ∙ ap (λ l. p ∷ l) (starts_through q qs z on.1)

-- different points, none of which is z, and then z
goes_on : (p : Point) (qs : List Point) (z : Point) → Each Differ (p ∷ qs) →
    ((q : Point) → Contains (p ∷ qs) q → Differ q z) → GoOn p (qs ++ z ∷ [])
goes_on p [] z once apart = (apart p (Contains-head p []), tt)
goes_on p (q ∷ qs) z once apart =
    (once.0 q (Contains-head q qs), goes_on q qs z once.1 (λ r c. apart r (Contains-later p (q ∷ qs) r c)))

-- ---- a closed list

-- the list begun with its second point
abbrev pub from_second : List Point → List Point
from_second [] = []
from_second (p ∷ ps) = ps ++ p ∷ []

-- what stands there at a place, but for the last one
next_in : (ps : List Point) (k : ℕ) (d : Point) → k + 1 < length ps → get_or (from_second ps) k d ≡ get_or ps (suc k) d
next_in [] k d within = absurd (omega arith)
next_in (p ∷ ps) k d within = get_or_append_left ps (p ∷ []) d k (omega arith)

-- and at the last place
first_in : (ps : List Point) (k : ℕ) (d : Point) → k + 1 ≡ length ps → get_or (from_second ps) k d ≡ get_or ps 0 d
first_in [] k d last = absurd (omega arith)
first_in (p ∷ ps) k d last = get_or_push ps p d k (omega arith)

-- it has different points where the list has
turned_each : (ps : List Point) → Each Differ ps → Each Differ (from_second ps)
turned_each [] once = tt
turned_each (p ∷ ps) once = Each-push Differ ps p once.1 (λ q c. differ_back p q (once.0 q c))

-- one more
plus_one : (k : ℕ) → suc k ≡ k + 1
plus_one k = omega arith

-- different points stand at one place each
one_place : (ps : List Point) → Each Differ ps → (i j : ℕ) (d : Point) → i < length ps → j < length ps →
    get_or ps i d ≡ get_or ps j d → i ≡ j
one_place [] once i j d within_i within_j same = absurd (omega arith)
one_place (p ∷ ps) once zero zero d within_i within_j same = refl
one_place (p ∷ ps) once zero (suc j) d within_i within_j same =
    absurd (differ_apart p (get_or ps j d) (once.0 (get_or ps j d) (Contains-get_or ps j d (omega arith))) same)
one_place (p ∷ ps) once (suc i) zero d within_i within_j same =
    absurd (differ_apart p (get_or ps i d) (once.0 (get_or ps i d) (Contains-get_or ps i d (omega arith))) (sym same))
one_place (p ∷ ps) once (suc i) (suc j) d within_i within_j same =
    ap suc (one_place ps once.1 i j d (omega arith) (omega arith) same)

module _ (ps : List Point) (once : HasEachPointOnce ps) (some : 2 ≤ length ps) where
  -- from each point to the next, and from the last one to the first
  round : (qs : List Point) → Each Differ qs → 2 ≤ length qs → (map (λ (s : Step). s.from) (steps_of qs) ≡ qs)
      × (map (λ (s : Step). s.to) (steps_of qs) ≡ from_second qs)
  round [] each long = absurd (omega arith)
  round (p ∷ []) each long = absurd (omega arith)
  round (p ∷ q ∷ qs) each long =
      let on : GoOn p (q ∷ (qs ++ p ∷ [])) = (
        each.0 q (Contains-head q qs),
        goes_on q qs p each.1 (λ r c. differ_back p r (each.0 r c)),
      ) in
      (starts_through p (q ∷ qs) p on, ends_through p (q ∷ (qs ++ p ∷ [])) on)

  -- the steps begin in the points, in their order
  pub starts : map (λ (s : Step). s.from) (steps_of ps) ≡ ps
  starts = (round ps (Each-from_all_pairs Differ ps once) some).0

  -- and end in them, begun with the second one
  pub ends : map (λ (s : Step). s.to) (steps_of ps) ≡ from_second ps
  ends = (round ps (Each-from_all_pairs Differ ps once) some).1

  -- there are as many steps as points
  pub as_many : length (steps_of ps) ≡ length ps
  as_many = sym (length-map (steps_of ps) (λ (s : Step). s.from)) ∙ ap length starts

  -- ---- by places

  -- the step at a place
  abbrev pub step_at : ℕ → Step
  step_at k = get_or (steps_of ps) k no_step

  pub among : (k : ℕ) → k < length ps → Contains (steps_of ps) (step_at k)
  among k within = Contains-get_or (steps_of ps) k no_step (omega (arith, within, as_many))

  -- it begins in the point there
  pub begins : (k : ℕ) → k < length ps → (step_at k).from ≡ get_or ps k no_step.from
  begins k within =
      sym (get_or-map (λ (s : Step). s.from) (steps_of ps) k no_step no_step.from (omega (arith, within, as_many)))
      ∙ ap (λ l. get_or l k no_step.from) starts

  -- and ends in the one after it
  stops : (k : ℕ) → k < length ps → (step_at k).to ≡ get_or (from_second ps) k no_step.to
  stops k within =
      sym (get_or-map (λ (s : Step). s.to) (steps_of ps) k no_step no_step.to (omega (arith, within, as_many)))
      ∙ ap (λ l. get_or l k no_step.to) ends

  pub stops_in_next : (k : ℕ) → k + 1 < length ps → (step_at k).to ≡ get_or ps (suc k) no_step.from
  stops_in_next k within = stops k (omega (arith, within)) ∙ next_in ps k no_step.from within

  pub stops_in_first : (k : ℕ) → k + 1 ≡ length ps → (step_at k).to ≡ get_or ps 0 no_step.from
  stops_in_first k last = stops k (omega (arith, last)) ∙ first_in ps k no_step.from last

  -- a step stands at a place
  pub place_of : (s : Step) → Contains (steps_of ps) s → (k : ℕ) × (k < length ps) × (step_at k ≡ s)
  place_of s c = (c.0, omega (arith, c.1, as_many), get_or_default (steps_of ps) c.0 no_step s c.1 ∙ c.2)

  -- points at two places are different
  same_place : (i j : ℕ) → i < length ps → j < length ps → get_or ps i no_step.from ≡ get_or ps j no_step.from → i ≡ j
  same_place i j = one_place ps (Each-from_all_pairs Differ ps once) i j no_step.from

  -- so one step begins in each
  pub one_begins : (s t : Step) → Contains (steps_of ps) s → Contains (steps_of ps) t → s.from ≡ t.from → s ≡ t
  one_begins s t at_s at_t same =
      let i = place_of s at_s in
      let j = place_of t at_t in
      let one : i.0 ≡ j.0 = same_place i.0 j.0 i.1 j.1
      (sym (begins i.0 i.1) ∙ ap (λ (u : Step). u.from) i.2 ∙ same ∙ sym (ap (λ (u : Step). u.from) j.2)
      ∙ begins j.0 j.1) in
      sym i.2 ∙ ap step_at one ∙ j.2

  -- the place after a place
  record After (i j : ℕ) : Type 0 where
    after : ((i + 1 < length ps) × (j ≡ i + 1)) ⊎ ((i + 1 ≡ length ps) × (j ≡ 0))

  -- where a step ends that stands at a place
  place_after : (i j : ℕ) → i < length ps → j < length ps → (step_at i).to ≡ get_or ps j no_step.from → After i j
  place_after i j within_i within_j same = by (nat_lt (i + 1) (length ps)) refl
    where
      by : (t : Bool) → nat_lt (i + 1) (length ps) ≡ t → After i j
      by true less =
          let before : i + 1 < length ps = ltb-true (i + 1) (length ps) less in
          record {
            after = inl (
              before,
              same_place j (suc i) within_j (omega (arith, before)) (sym same ∙ stops_in_next i before)
                  ∙ plus_one i,
            );
          }
      by false more =
          let last : i + 1 ≡ length ps = let up = ltb-false (i + 1) (length ps) more in omega (arith, up, within_i) in
          record {
            after = inr
                (last, same_place j 0 within_j (omega (arith, last)) (sym same ∙ stops_in_first i last));
          }

  -- and one step ends in each
  pub one_ends : (s t : Step) → Contains (steps_of ps) s → Contains (steps_of ps) t → s.to ≡ t.to → s ≡ t
  one_ends s t at_s at_t same =
      let each : Each Differ (from_second ps) = turned_each ps (Each-from_all_pairs Differ ps once) in
      let i = place_of s at_s in
      let j = place_of t at_t in
      let size : length (from_second ps) ≡ length ps = sym (ap length ends) ∙ length-map (steps_of ps)
      (λ (u : Step). u.to) ∙ as_many in
      let one : i.0 ≡ j.0 = one_place (from_second ps) each i.0 j.0 no_step.to (omega (arith, i.1, size))
      (omega (arith, j.1, size))
      (sym (stops i.0 i.1) ∙ ap (λ (u : Step). u.to) i.2 ∙ same ∙ sym (ap (λ (u : Step). u.to) j.2) ∙ stops j.0 j.1) in
      sym i.2 ∙ ap step_at one ∙ j.2

  -- no step is between one point and itself
  pub all_long : (s : Step) → Contains (steps_of ps) s → ¬ (s.from ≡ s.to)
  all_long s at same =
      let i = place_of s at in
      let next = place_after i.0 i.0 i.1 i.1 (ap (λ (u : Step). u.to) i.2 ∙ sym same
      ∙ sym (ap (λ (u : Step). u.from) i.2) ∙ begins i.0 i.1) in
      elim next.after [
        | inl more ↦ omega (arith, more.1)
        | inr turn ↦ omega (arith, turn.0, turn.1, some)
      ]

  -- of three points or more no step leads back along another one
  pub none_back : 3 ≤ length ps → (s t : Step) → Contains (steps_of ps) s → Contains (steps_of ps) t → s.to ≡ t.from →
      ¬ (t.to ≡ s.from)
  none_back three s t at_s at_t on back =
      let i = place_of s at_s in
      let j = place_of t at_t in
      let next = place_after i.0 j.0 i.1 j.1 (ap (λ (u : Step). u.to) i.2 ∙ on ∙ sym (ap (λ (u : Step). u.from) j.2)
      ∙ begins j.0 j.1) in
      let again = place_after j.0 i.0 j.1 i.1 (ap (λ (u : Step). u.to) j.2 ∙ back
      ∙ sym (ap (λ (u : Step). u.from) i.2) ∙ begins i.0 i.1) in
      elim next.after [
        | inl more ↦ elim again.after [
          | inl even ↦ omega (arith, more.1, even.1)
          | inr turn ↦ omega (arith, more.1, turn.0, turn.1, three)
        ]
        | inr turn ↦ elim again.after [
          | inl even ↦ omega (arith, turn.0, turn.1, even.1, three)
          | inr twice ↦ omega (arith, turn.0, turn.1, twice.0, three)
        ]
      ]
