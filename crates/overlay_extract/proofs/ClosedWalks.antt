-- Walks from point to point: parts of them, longer ones, and closed ones as contours.
use Rattle.std.proofs.Common.{◌≡◌, ⊎_elim, ℕ, zero, suc, ◌+◌, ◌%◌, ◌<◌, ◌≤◌, Bool, true, false, cond}
use Rattle.std.proofs.Common.{List, [], ◌∷◌, ◌++◌, map, length, get_or, All}
use Rattle.std.proofs.Common.{refl, sym, ap, ap₂, ◌∙◌, subst, arith}
use Rattle.std.proofs.lemmas.Bool.{cases_lt, and_left}
use Rattle.std.proofs.lemmas.List.{get_or-map, length-map}
use Rattle.std.proofs.lemmas.Nat.{mod_below}
use Rattle.std.proofs.lemmas.List.Elements.{All-head, All-tail}
use Rattle.overlay_geom.specs.Plane.{Point, Step, point_eq, steps_between, steps_through, steps_of, points_of}
use Rattle.overlay_geom.proofs.Orders.{point_eq-same}
use Rattle.overlay_plane.specs.BesideOrbits.{HasEachOnce}
use Rattle.overlay_plane.specs.Groups.{HasEachPointOnce, IsSimpleContour}
use Rattle.overlay_plane.specs.Turn.{step_round, no_step}
use Rattle.overlay_plane.proofs.ItemsRound.{item_round-here, item_round-whole, item_round-within, item_round-next}
use Rattle.overlay_extract.specs.ClosedWalks.{LeadsTo, HasLength}

-- ---- parts

-- one walk and then another one from its end
pub leads-append : (p q r : Point) (xs ys : List Step) → LeadsTo p xs q → LeadsTo q ys r → LeadsTo p (xs ++ ys) r
leads-append p q r [] ys h k = subst (λ z. LeadsTo z ys r) (sym h) k
leads-append p q r (s ∷ xs) ys h k = (h.0, leads-append s.to q r xs ys h.1 k)

-- a walk in two parts, and the point between them
pub leads-parts : (p r : Point) (xs ys : List Step) → LeadsTo p (xs ++ ys) r →
    (q : Point) × LeadsTo p xs q × LeadsTo q ys r
leads-parts p r [] ys h = (p, refl, h)
leads-parts p r (s ∷ xs) ys h = let rest = leads-parts s.to r xs ys h.1 in (rest.0, (h.0, rest.1), rest.2)

-- a step more
pub leads-push : (p : Point) (xs : List Step) (s : Step) → LeadsTo p xs s.from → LeadsTo p (xs ++ s ∷ []) s.to
leads-push p xs s h = leads-append p s.from s.to xs (s ∷ []) h (refl, refl)

-- a walk with a step begins where the step does
pub leads-begins : (p q : Point) (s : Step) (ss : List Step) → LeadsTo p (s ∷ ss) q → p ≡ s.from
leads-begins p q s ss h = sym h.0

-- ---- the steps of the points

-- the step between the ends of a step
one_step : (s : Step) (q : Point) → HasLength s → s.to ≡ q → steps_between s.from q ≡ s ∷ []
one_step s q long ends = subst (λ p. steps_between s.from p ≡ s ∷ []) ends (by (point_eq s.from s.to) refl)
  where
    by : (t : Bool) → point_eq s.from s.to ≡ t → cond t [] (record { from = s.from; to = s.to } ∷ []) ≡ s ∷ []
    by true e = absurd (long (point_eq-same s.from s.to e))
    by false e = refl

-- the steps through the points of a walk are the walk
through_points : (s : Step) (ss : List Step) (q : Point) → HasLength s → All HasLength ss → LeadsTo s.to ss q →
    steps_through s.from (map (λ t. t.from) ss ++ q ∷ []) ≡ s ∷ ss
through_points s [] q long rest h = ap (λ ts. ts ++ []) (one_step s q long h)
through_points s (t ∷ ts) q long rest h = ap₂ (λ a b. a ++ b) (one_step s t.from long (sym h.0))
    (through_points t ts q (All-head HasLength t ts rest) (All-tail HasLength t ts rest) h.1)

-- a closed walk is the steps of its points
pub closed_whole : (walk : List Step) (p : Point) → All HasLength walk → LeadsTo p walk p →
    steps_of (points_of walk) ≡ walk
closed_whole [] p long h = refl
closed_whole (s ∷ ss) p long h = through_points s ss s.from (All-head HasLength s ss long)
    (All-tail HasLength s ss long) (subst (LeadsTo s.to ss) (sym h.0) h.1)

-- ---- by places

-- each step ends where the next one begins
next_begins : (s : Step) (ss : List Step) (q : Point) → LeadsTo s.to ss q → (k : ℕ) → k < length ss →
    (get_or (s ∷ ss) k no_step).to ≡ (get_or ss k no_step).from
next_begins s [] q h k less = absurd (omega arith)
next_begins s (t ∷ ts) q h zero less = sym h.0
next_begins s (t ∷ ts) q h (suc k) less = next_begins t ts q h.1 k (omega arith)

-- and the last one at the end of the walk
last_ends : (s : Step) (ss : List Step) (q : Point) → LeadsTo s.to ss q →
    (get_or (s ∷ ss) (length ss) no_step).to ≡ q
last_ends s [] q h = h
last_ends s (t ∷ ts) q h = last_ends t ts q h.1

-- in a closed walk the step after each begins where it ends, round and round
pub closed_leads_on : (walk : List Step) (p : Point) → 0 < length walk → LeadsTo p walk p → (k : ℕ) →
    (step_round walk (k + 1)).from ≡ (step_round walk k).to
closed_leads_on [] p some h k = absurd (omega arith)
closed_leads_on (s ∷ ss) p some h k = ap (λ (t : Step). t.from) (sym (item_round-next walk no_step k))
    ∙ within (k % length walk) (mod_below k (length walk) some)
    ∙ ap (λ (t : Step). t.to) (item_round-within walk no_step k)
  where
    walk : List Step
    walk = s ∷ ss

    at : (j : ℕ) → j < length walk → step_round walk j ≡ get_or walk j no_step
    at j less = item_round-here walk no_step j less

    within : (j : ℕ) → j < length walk → (step_round walk (j + 1)).from ≡ (step_round walk j).to
    within j less = ⊎_elim
        (λ inner. ap (λ (t : Step). t.from) (ap (step_round walk) one_more ∙ at (suc j) (omega arith))
        ∙ sym (next_begins s ss p h.1 j inner) ∙ sym (ap (λ (t : Step). t.to) (at j less)))
        (λ outer. let last : j ≡ length ss = omega arith in
        let round : j + 1 ≡ length walk = omega arith in
        ap (λ (t : Step). t.from) (ap (step_round walk) round ∙ item_round-whole walk no_step ∙ at 0 (omega arith))
        ∙ h.0 ∙ sym (last_ends s ss p h.1)
        ∙ ap (λ i. (get_or walk i no_step).to) (sym last) ∙ sym (ap (λ (t : Step). t.to) (at j less)))
        (cases_lt j (length ss))
      where
        one_more : j + 1 ≡ suc j
        one_more = omega arith

-- ---- contours

-- where no point is visited twice, no step is
pub once_of_points : (steps : List Step) → HasEachPointOnce (points_of steps) → HasEachOnce steps
once_of_points steps once i j d before inside = and_left
    (point_eq (get_or steps i d).from (get_or steps j d).from) (point_eq (get_or steps i d).to (get_or steps j d).to)
    (ap₂ point_eq (sym (at i (omega arith))) (sym (at j inside)) ∙ once i j d.from before
    (let l = length-map steps (λ (s : Step). s.from) in omega arith))
  where
    at : (k : ℕ) → k < length steps → get_or (points_of steps) k d.from ≡ (get_or steps k d).from
    at k h = get_or-map (λ (s : Step). s.from) steps k d d.from h

-- a closed walk of three steps or more, between different points, that visits no point twice
pub closed_is_simple : (walk : List Step) (p : Point) → 3 ≤ length walk → All HasLength walk → LeadsTo p walk p →
    HasEachPointOnce (points_of walk) → IsSimpleContour walk
closed_is_simple walk p three long h once = record {
  contour = record {
    three = three;
    leads_on = closed_leads_on walk p (omega arith) h;
    once = once_of_points walk once;
    whole = closed_whole walk p long h;
  };
  points_once = once;
}
