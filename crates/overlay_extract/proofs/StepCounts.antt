-- Lists that hold each step equally often are one list in two orders; so are the steps of walks in two orders.
use Rattle.std.proofs.Common.{◌≡◌, Bool, true, false, ℤ, pos, ◌+ℤ◌, ◌≤ℤ◌, List, [], ◌∷◌, ◌++◌, Contains}
use Rattle.std.proofs.Common.{refl, sym, ap, ◌∙◌, subst}
use Rattle.std.specs.List.Sorted.{IsPermutation}
use Rattle.std.proofs.lemmas.Bool.{both_ways}
use Rattle.std.proofs.lemmas.List.Sorted.{IsPermutation-refl, IsPermutation-cons, IsPermutation-middle}
use Rattle.std.proofs.lemmas.List.Sorted.{IsPermutation-sym, IsPermutation-trans}
use Rattle.overlay_geom.specs.Plane.{Step, step_eq, total}
use Rattle.overlay_geom.proofs.Signs.{linear}
use Rattle.overlay_geom.proofs.Totals.{total-append, total-IsPermutation}
use Rattle.overlay_plane.specs.BesideOrbits.{times_held}
use Rattle.overlay_plane.specs.Contours.{all_steps}
use Rattle.overlay_plane.specs.Orbits.{is_step_of}
use Rattle.overlay_plane.specs.Regions.{one_if}
use Rattle.overlay_plane.proofs.AtNodes.{equal_steps}
use Rattle.overlay_plane.proofs.OrbitsApart.{is_step_of_decides}
use Rattle.overlay_plane.proofs.ShuffledSteps.{parts_round}
use Rattle.overlay_plane.proofs.BesideAcross.{none_held}

-- a step is held no negative number of times
not_negative : (t : Bool) (n : ℤ) → pos 0 ≤ℤ n → pos 0 ≤ℤ (one_if t +ℤ n)
not_negative true n h = omega linear
not_negative false n h = omega linear

held_not_negative : (xs : List Step) (s : Step) → pos 0 ≤ℤ times_held xs s
held_not_negative [] s = omega linear
held_not_negative (x ∷ xs) s = not_negative (step_eq x s) (times_held xs s) (held_not_negative xs s)

-- a step that is held stands in the list
held_stands : (xs : List Step) (s : Step) → pos 1 ≤ℤ times_held xs s → Contains xs s
held_stands xs s more = by (is_step_of xs s) refl
  where
    none : times_held xs s ≡ pos 0 → Contains xs s
    none e = absurd (omega linear)

    by : (t : Bool) → is_step_of xs s ≡ t → Contains xs s
    by true e = (is_step_of_decides xs s).0 e
    by false e = none (none_held xs s (λ c. both_ways (is_step_of xs s) e ((is_step_of_decides xs s).1 c)))

-- the first step of a list is held once, and as often as in the rest
first_held : (x : Step) (xs : List Step) → times_held (x ∷ xs) x ≡ pos 1 +ℤ times_held xs x
first_held x xs = ap (λ t. one_if t +ℤ times_held xs x) (equal_steps x x refl)

-- a step more, wherever it stands
held_round : (before : List Step) (x : Step) (after : List Step) (s : Step) →
    times_held (before ++ x ∷ after) s ≡ one_if (step_eq x s) +ℤ times_held (before ++ after) s
held_round before x after s =
    let with_it = total-append (λ t. one_if (step_eq t s)) before (x ∷ after) in
    let without_it = total-append (λ t. one_if (step_eq t s)) before after in
    sum (times_held (before ++ x ∷ after) s) (times_held (before ++ after) s) (times_held before s)
    (times_held after s) (one_if (step_eq x s)) with_it without_it
  where
    sum : (a b c d i : ℤ) → a ≡ c +ℤ (i +ℤ d) → b ≡ c +ℤ d → a ≡ i +ℤ b
    sum a b c d i p q = omega linear

-- lists that hold each step equally often
pub shuffled_from_held : (xs ys : List Step) → ((s : Step) → times_held xs s ≡ times_held ys s) → IsPermutation xs ys
shuffled_from_held [] [] same = IsPermutation-refl []
shuffled_from_held [] (y ∷ ys) same = absurd (never (times_held ys y) (held_not_negative ys y)
    (same y ∙ first_held y ys))
  where
    never : (n : ℤ) → pos 0 ≤ℤ n → pos 0 ≡ pos 1 +ℤ n → ⊥
    never n h e = omega linear
shuffled_from_held (x ∷ xs) ys same =
    subst (IsPermutation (x ∷ xs)) (sym whole)
    (IsPermutation-trans (x ∷ xs) (x ∷ before ++ after) (before ++ x ∷ after)
    (IsPermutation-cons x xs (before ++ after) (shuffled_from_held xs (before ++ after) rest))
    (IsPermutation-sym (before ++ x ∷ after) (x ∷ before ++ after) (IsPermutation-middle before x after)))
  where
    more : (m n : ℤ) → pos 0 ≤ℤ n → pos 1 +ℤ n ≡ m → pos 1 ≤ℤ m
    more m n h e = omega linear

    parts : (before : List Step) × (after : List Step) × (ys ≡ before ++ x ∷ after)
    parts = parts_round ys x (held_stands ys x (more (times_held ys x) (times_held xs x) (held_not_negative xs x)
        (sym (first_held x xs) ∙ same x)))

    before : List Step
    before = parts.0

    after : List Step
    after = parts.1

    whole : ys ≡ before ++ x ∷ after
    whole = parts.2

    less : (i m n : ℤ) → i +ℤ m ≡ i +ℤ n → m ≡ n
    less i m n e = omega linear

    rest : (s : Step) → times_held xs s ≡ times_held (before ++ after) s
    rest s = less (one_if (step_eq x s)) (times_held xs s) (times_held (before ++ after) s)
        (same s ∙ ap (λ (zs : List Step). times_held zs s) whole ∙ held_round before x after s)

-- how often walks hold a step
held_by_walks : (walks : List (List Step)) (s : Step) →
    times_held (all_steps walks) s ≡ total (λ w. times_held w s) walks
held_by_walks [] s = refl
held_by_walks (w ∷ ws) s = total-append (λ t. one_if (step_eq t s)) w (all_steps ws)
    ∙ ap (λ n. times_held w s +ℤ n) (held_by_walks ws s)

-- the steps of walks that are put in another order
pub all_steps_shuffled : (walks others : List (List Step)) → IsPermutation walks others →
    IsPermutation (all_steps walks) (all_steps others)
all_steps_shuffled walks others moved = shuffled_from_held (all_steps walks) (all_steps others) (λ s.
    held_by_walks walks s ∙ sym (total-IsPermutation (λ w. times_held w s) walks others moved)
    ∙ sym (held_by_walks others s))
