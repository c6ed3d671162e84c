-- Sums over steps: sums of sums in either order, sums in which each step is met once, and edges along which no step
-- walks.
use Rattle.std.proofs.Common.{◌≡◌, ⊎_elim, false, cond, ℤ, pos, ◌+ℤ◌, List, [], ◌∷◌, Contains, refl, sym, ap, ap₂, ◌∙◌}
use Rattle.std.proofs.Common.{subst}
use Rattle.std.proofs.lemmas.Bool.{false_from_ne_true}
use lib.IntN.{+ℤ_idl, +ℤ_idr}
use Rattle.overlay_geom.specs.Plane.{Step, step_eq, edge_eq, edge_of, sign_of, total}
use Rattle.overlay_geom.specs.Edges.{CountedEdge, ends_of}
use Rattle.overlay_geom.proofs.Orders.{edge_eq-same}
use Rattle.overlay_plane.specs.BesideOrbits.{count_on, HasEachOnce}
use Rattle.overlay_plane.proofs.Totals.{total-zero, total-add}
use Rattle.overlay_plane.proofs.LaterEntries.{Contains-cases, Each, Each-from_all_pairs}
use Rattle.overlay_plane.proofs.AtNodes.{equal_steps, step_eq-flip}

-- sums of sums may be taken in either order
pub total-exchange : {X Y : Type 0} (h : X → Y → ℤ) (xs : List X) (ys : List Y) →
    total (λ x. total (λ y. h x y) ys) xs ≡ total (λ y. total (λ x. h x y) xs) ys
total-exchange h [] ys = sym (total-zero (λ y. pos 0) ys (λ y c. refl))
total-exchange h (x ∷ xs) ys = ap (λ z. total (λ y. h x y) ys +ℤ z) (total-exchange h xs ys)
    ∙ sym (total-add (λ y. h x y) (λ y. total (λ x. h x y) xs) ys)

-- of later steps that all differ from a step, none is it
none_again : (s : Step) (steps : List Step) (f : Step → ℤ) → ((t : Step) → Contains steps t → step_eq s t ≡ false) →
    total (λ t. cond (step_eq t s) (f t) (pos 0)) steps ≡ pos 0
none_again s steps f differ = total-zero (λ t. cond (step_eq t s) (f t) (pos 0)) steps
    (λ t c. ap (λ b. cond b (f t) (pos 0)) (step_eq-flip s t (differ t c)))

-- where each step differs from all later ones, the sum over the steps that are s is the term of s
single_step : (steps : List Step) → Each (λ s t. step_eq s t ≡ false) steps → (f : Step → ℤ) (s : Step) →
    Contains steps s →
    total (λ t. cond (step_eq t s) (f t) (pos 0)) steps ≡ f s
single_step [] h f s c = elim c.1 [ ]
single_step (x ∷ xs) h f s c = ⊎_elim
    (λ here. subst (λ y. total (λ t. cond (step_eq t y) (f t) (pos 0)) (x ∷ xs) ≡ f y) here
    (ap₂ (λ a b. a +ℤ b) (ap (λ b. cond b (f x) (pos 0)) (equal_steps x x refl)) (none_again x xs f h.0)
    ∙ +ℤ_idr (f x)))
    (λ later. ap₂ (λ a b. a +ℤ b) (ap (λ b. cond b (f x) (pos 0)) (h.0 s later)) (single_step xs h.1 f s later)
    ∙ +ℤ_idl (f s))
    (Contains-cases x xs s c)

-- this holds if no step occurs twice
pub single_step_total : (steps : List Step) → HasEachOnce steps → (f : Step → ℤ) (s : Step) → Contains steps s →
    total (λ t. cond (step_eq t s) (f t) (pos 0)) steps ≡ f s
single_step_total steps once = single_step steps (Each-from_all_pairs (λ s t. step_eq s t ≡ false) steps once)

-- an edge along which no step taken walks has count 0
pub unwalked_counts_nothing : (taken : List Step) (e : CountedEdge) →
    ((s : Step) → Contains taken s → ¬ (edge_of s ≡ ends_of e)) → count_on taken e ≡ pos 0
unwalked_counts_nothing taken e none = total-zero (λ s. cond (edge_eq (edge_of s) (ends_of e)) (sign_of s) (pos 0))
    taken
    (λ s c. ap (λ b. cond b (sign_of s) (pos 0))
    (false_from_ne_true (edge_eq (edge_of s) (ends_of e))
    (λ same. none s c (edge_eq-same (edge_of s) (ends_of e) same))))
