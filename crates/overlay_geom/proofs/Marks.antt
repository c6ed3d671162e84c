-- The marks of strings on counted edges: marks of an edge without counts, marks of edges between two ends, and their
-- weight.
use Rattle.std.proofs.Common.{◌≡◌, ℕ, ◌+◌, ◌≤◌, Bool, true, false, cond, not, ◌&&◌, ◌||◌, pos, List, [], ◌∷◌, refl, ap}
use Rattle.std.proofs.Common.{sym, ◌∙◌, arith}
use Rattle.std.specs.List.{filter, list_any}
use Rattle.std.specs.List.Sorted.{IsPermutation}
use Rattle.std.specs.Ordering.{int_eq}
use Rattle.std.proofs.lemmas.Bool.{and_parts, not-true}
use Rattle.std.proofs.lemmas.Bool.Decides.{Decides-int_eq}
use Rattle.std.proofs.lemmas.List.Sorted.{list_any-IsPermutation}
use Rattle.overlay_geom.specs.Plane.{Edge}
use Rattle.overlay_geom.specs.Edges.{CountedEdge, counts_nothing}
use Rattle.overlay_geom.specs.Merged.{edges_between}

-- the edge's counts are zero, and it has no mark
pub record IsUncounted (e : CountedEdge) : Type 0 where
  pub subj : e.counts.subj ≡ pos 0
  pub clip : e.counts.clip ≡ pos 0
  pub along : e.counts.along ≡ false
  pub against : e.counts.against ≡ false

-- an edge with count 0 is uncounted
pub uncounted : (e : CountedEdge) → counts_nothing e ≡ true → IsUncounted e
uncounted e h =
    let c = e.counts in
    let last = and_parts (int_eq c.subj (pos 0) && int_eq c.clip (pos 0) && not c.along) (not c.against) h in
    let third = and_parts (int_eq c.subj (pos 0) && int_eq c.clip (pos 0)) (not c.along) last.0 in
    let zeros = and_parts (int_eq c.subj (pos 0)) (int_eq c.clip (pos 0)) third.0 in
    record {
      subj = (Decides-int_eq c.subj (pos 0)).0 zeros.0;
      clip = (Decides-int_eq c.clip (pos 0)).0 zeros.1;
      along = not-true c.along third.1;
      against = not-true c.against last.1;
    }

-- nothing is added by a test that fails
pub or_false : (b : Bool) → (b || false) ≡ b
or_false true = refl
or_false false = refl

-- whether some edge of the list between these ends has the mark
abbrev pub marked_between : (CountedEdge → Bool) → List CountedEdge → Edge → Bool
marked_between mark es e = list_any mark (edges_between es e)

-- some item of a part of the list passes the test where some item of the list is in the part and passes it
pub list_any-filter : {X : Type 0} (mark p : X → Bool) (xs : List X) → list_any mark (filter p xs) ≡ list_any
    (λ x. p x && mark x) xs
list_any-filter mark p [] = refl
list_any-filter mark p (x ∷ xs) =
    let e = list_any-filter mark p xs in
    elim (p x) as (λ b. list_any mark (cond b (x ∷ filter p xs) (filter p xs)) ≡
    ((b && mark x) || list_any (λ x. p x && mark x) xs)) [
      | true ↦ ap (λ b. mark x || b) e
      | false ↦ e
    ]

-- marks do not depend on the order
pub list_any-filter_shuffled : {X : Type 0} (mark p : X → Bool) (xs ys : List X) → IsPermutation xs ys →
    list_any mark (filter p ys) ≡ list_any mark (filter p xs)
list_any-filter_shuffled mark p xs ys h =
    list_any-filter mark p ys ∙ sym (list_any-IsPermutation (λ x. p x && mark x) xs ys h)
    ∙ sym (list_any-filter mark p xs)

-- ---- weights

-- the weight of a mark
abbrev pub mark_weight : Bool → ℕ
mark_weight b = cond b 1 0

-- a mark that is set where either of two is weighs no more than the two
pub mark_weight-or : (x y : Bool) → mark_weight (x || y) ≤ mark_weight x + mark_weight y
mark_weight-or true y = omega arith
mark_weight-or false y = omega arith
