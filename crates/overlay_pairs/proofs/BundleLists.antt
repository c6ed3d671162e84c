-- The bundles or fans of each `size` boxes, made box by box.
use Rattle.std.proofs.Common.{◌≡◌, ◌≢◌, ◌⊎◌, ⊎_elim, inl, inr, ℕ, ◌+◌, ◌*◌, ◌/◌, ◌%◌, ◌<◌, ◌≤◌, List, [], ◌∷◌, ◌++◌}
use Rattle.std.proofs.Common.{length, get_or, set, sym, ap, ◌∙◌, subst, arith}
use Rattle.std.specs.List.Sorted.{IsPermutation}
use Rattle.std.proofs.lemmas.Bool.{cases_eq}
use Rattle.std.proofs.lemmas.List.{get_or_default, get_or_push, get_or-set_same, get_or-set_other}
use Rattle.std.proofs.lemmas.List.{length-append, length-set}
use Rattle.std.proofs.Math.ListN.{get_or-append}
use Rattle.std.proofs.Math.Nat.{div-add-mod, div-eq_of_lt-le, mod-lt, eq-or-lt_of_le}
use Rattle.overlay_geom.specs.Edges.{CountedEdge}
use Rattle.overlay_pairs.specs.Extents.{Extent, extent_of, extents_of}
use Rattle.overlay_pairs.specs.Places.{IsAt}
use Rattle.overlay_pairs.proofs.Entries.{one_entry}
use Rattle.overlay_pairs.proofs.PlacedExtents.{item_there}

-- ---- multiples

-- either a multiple of the size comes next, or the next place has the same quotient
abbrev ComesNext : ℕ → ℕ → Type 0
ComesNext size i =
    (((i + 1) % size ≡ 0) × ((i + 1) / size ≡ i / size + 1))
    ⊎ ((¬ ((i + 1) % size ≡ 0)) × ((i + 1) / size ≡ i / size))

next_place : (size i : ℕ) → 0 < size → ComesNext size i
next_place size i some = ⊎_elim last inside
    (eq-or-lt_of_le (let le : i % size + 1 ≤ size = (let lt = mod-lt i {m = size} some in omega (arith, lt)) in le))
  where
    whole : size * (i / size) + i % size ≡ i
    whole = div-add-mod i size

    more : size * ((i + 1) / size) + (i + 1) % size ≡ i + 1
    more = div-add-mod (i + 1) size

    last : i % size + 1 ≡ size → ComesNext size i
    last full =
        let q : (i + 1) / size ≡ i / size + 1 =
        div-eq_of_lt-le {k = i / size + 1} size {m = i + 1} (omega (arith, whole, full))
        (omega (arith, whole, full, some)) in
        let same : size * ((i + 1) / size) ≡ size * (i / size + 1) = ap (λ n. size * n) q in
        inl (omega (arith, whole, more, full, same), q)

    inside : i % size + 1 < size → ComesNext size i
    inside less =
        let q : (i + 1) / size ≡ i / size =
        div-eq_of_lt-le {k = i / size} size {m = i + 1} (omega (arith, whole)) (omega (arith, whole, less)) in
        let same : size * ((i + 1) / size) ≡ size * (i / size) = ap (λ n. size * n) q in
        inr ((λ zero. absurd (omega (arith, whole, more, same, zero))), q)

-- ---- the box of an edge

-- a box that has the place of an edge is that of the edge
pub own_box : (es : List CountedEdge) (ss : List Extent) → IsPermutation (extents_of es) ss → (k : ℕ) (s : Extent)
    (e : CountedEdge) → IsAt ss k s → IsAt es s.first e → s ≡ extent_of e s.first
own_box es ss moved k s e at_s at_e =
    let there = item_there extent_of es ss moved k s at_s in
    let place : there.0 ≡ s.first = ap (λ (t : Extent). t.first) there.3 in
    let same : there.1 ≡ e = one_entry es s.first there.1 e (subst (λ n. IsAt es n there.1) place there.2) at_e in
    sym there.3 ∙ ap (λ n. extent_of there.1 n) place ∙ ap (λ f. extent_of f s.first) same

-- ---- making bundles

-- the bundles, of one kind or another, are just those that the first i boxes need, and hold their edges
pub record AreBundlesUpTo {B : Type 0} (Holds : B → Extent → CountedEdge → Type 0) (size : ℕ)
    (es : List CountedEdge) (ss : List Extent) (bundles : List B) (i : ℕ) : Type 0 where
  pub at_multiple : i % size ≡ 0 → length bundles ≡ i / size
  pub between : ¬ (i % size ≡ 0) → length bundles ≡ i / size + 1
  pub all : (k : ℕ) (s : Extent) (e : CountedEdge) (d : B) → k < i → IsAt ss k s → IsAt es s.first e →
      (k / size < length bundles) × Holds (get_or bundles (k / size) d) s e

-- where all places have been taken they are the bundles
pub all_bundles : {B : Type 0} (Holds : B → Extent → CountedEdge → Type 0) (size : ℕ)
    (es : List CountedEdge) (ss : List Extent) (bundles : List B) (i : ℕ) →
    length ss ≤ i → AreBundlesUpTo Holds size es ss bundles i →
    (k : ℕ) (s : Extent) (e : CountedEdge) (d : B) → IsAt ss k s → IsAt es s.first e →
    (k / size < length bundles) × Holds (get_or bundles (k / size) d) s e
all_bundles Holds size es ss bundles i past some = λ k s e d at_s at_e.
    some.all k s e d (let less = at_s.0 in omega (arith, less, past)) at_s at_e

-- at first there is none
pub no_bundles : {B : Type 0} (Holds : B → Extent → CountedEdge → Type 0) (size : ℕ)
    (es : List CountedEdge) (ss : List Extent) → 0 < size →
    AreBundlesUpTo Holds size es ss [] 0
no_bundles Holds size es ss some =
    let none : 0 / size ≡ 0 = div-eq_of_lt-le {k = 0} size {m = 0} (omega arith) (omega (arith, some)) in
    let rest : size * (0 / size) + 0 % size ≡ 0 = div-add-mod 0 size in
    record {
      at_multiple = λ zero. sym none;
      between = λ other. absurd (other (omega (arith, rest)));
      all = λ k s e d less. absurd (omega (arith, less));
    }

module _ {B : Type 0} (Holds : B → Extent → CountedEdge → Type 0) (size : ℕ)
    (some : 0 < size) (es : List CountedEdge) (ss : List Extent) (bundles : List B) (i : ℕ)
    (so_far : AreBundlesUpTo Holds size es ss bundles i) (s : Extent) (e : CountedEdge) (at_s : IsAt ss i s)
    (at_e : IsAt es s.first e) where
  -- a place before i + 1 is i, or comes before i
  or_before : (k : ℕ) → k < i + 1 → (k ≡ i) ⊎ (k < i)
  or_before k lt = eq-or-lt_of_le (let le : k ≤ i = omega (arith, lt) in le)

  -- a bundle that holds the edge of the box at place i holds that of a box there
  held_there : (bundle : B) → Holds bundle s e → (k : ℕ) (t : Extent) (f : CountedEdge) → k ≡ i →
      IsAt ss k t → IsAt es t.first f → Holds bundle t f
  held_there bundle holds k t f same at_t at_f =
      let is : s ≡ t = one_entry ss i s t at_s (subst (λ n. IsAt ss n t) same at_t) in
      let is_e : e ≡ f = one_entry es t.first e f (subst (λ (u : Extent). IsAt es u.first e) is at_e) at_f in
      subst (Holds bundle t) is_e (subst (λ u. Holds bundle u e) is holds)

  -- the numbers of bundles that are needed next
  counted : (n : ℕ) → n ≡ i / size + 1 →
      ((i + 1) % size ≡ 0 → n ≡ (i + 1) / size) × (¬ ((i + 1) % size ≡ 0) → n ≡ (i + 1) / size + 1)
  counted n is = ⊎_elim
      (λ (multiple : ((i + 1) % size ≡ 0) × ((i + 1) / size ≡ i / size + 1)).
      ((λ zero. is ∙ sym multiple.1), (λ other. absurd (other multiple.0))))
      (λ (inside : (¬ ((i + 1) % size ≡ 0)) × ((i + 1) / size ≡ i / size)).
      ((λ zero. absurd (inside.0 zero)), (λ other. is ∙ ap (λ m. m + 1) (sym inside.1))))
      (next_place size i some)

  -- a bundle begins at the place
  pub bundle_begun : (bundle : B) → i % size ≡ 0 → Holds bundle s e →
      AreBundlesUpTo Holds size es ss (bundles ++ bundle ∷ []) (i + 1)
  bundle_begun bundle begins holds =
      let numbers = counted (length (bundles ++ bundle ∷ [])) (count ∙ ap (λ n. n + 1) next) in
      record { at_multiple = numbers.0; between = numbers.1; all = all }
    where
      count : length (bundles ++ bundle ∷ []) ≡ length bundles + 1
      count = length-append bundles (bundle ∷ [])

      next : length bundles ≡ i / size
      next = so_far.at_multiple begins

      all : (k : ℕ) (t : Extent) (f : CountedEdge) (d : B) → k < i + 1 → IsAt ss k t → IsAt es t.first f →
          (k / size < length (bundles ++ bundle ∷ []))
          × Holds (get_or (bundles ++ bundle ∷ []) (k / size) d) t f
      all k t f d lt at_t at_f = ⊎_elim here before (or_before k lt)
        where
          here : k ≡ i → (k / size < length (bundles ++ bundle ∷ []))
              × Holds (get_or (bundles ++ bundle ∷ []) (k / size) d) t f
          here same =
              let place : length bundles ≡ k / size = next ∙ ap (λ n. n / size) (sym same) in (
                omega (arith, place, count),
                subst (λ (u : B). Holds u t f) (sym (get_or_push bundles bundle d (k / size) place))
                    (held_there bundle holds k t f same at_t at_f),
              )

          before : k < i → (k / size < length (bundles ++ bundle ∷ []))
              × Holds (get_or (bundles ++ bundle ∷ []) (k / size) d) t f
          before less = let found = so_far.all k t f d less at_t at_f in (
            (let inside = found.0 in omega (arith, inside, count)),
            subst (λ (u : B). Holds u t f)
                (sym (get_or-append bundles (bundle ∷ []) d (k / size) found.0)) found.1,
          )

  -- where none begins, the place's bundle is the last
  pub last_bundle : ¬ (i % size ≡ 0) → i / size < length bundles
  last_bundle goes_on = let count = so_far.between goes_on in omega (arith, count)

  -- the bundle is widened
  pub bundle_widened : (old bundle : B) (news : List B) → ¬ (i % size ≡ 0) →
      news ≡ set bundles (i / size) bundle → old ≡ get_or bundles (i / size) old →
      ((t : Extent) (f : CountedEdge) → Holds old t f → Holds bundle t f) → Holds bundle s e →
      AreBundlesUpTo Holds size es ss news (i + 1)
  bundle_widened old bundle news goes_on news_are old_is widened holds =
      let numbers = counted (length news) (count ∙ so_far.between goes_on) in
      record { at_multiple = numbers.0; between = numbers.1; all = all }
    where
      count : length news ≡ length bundles
      count = ap length news_are ∙ length-set bundles (i / size) bundle

      inside : i / size < length bundles
      inside = last_bundle goes_on

      all : (k : ℕ) (t : Extent) (f : CountedEdge) (d : B) → k < i + 1 → IsAt ss k t → IsAt es t.first f →
          (k / size < length news) × Holds (get_or news (k / size) d) t f
      all k t f d lt at_t at_f = ⊎_elim here before (or_before k lt)
        where
          read : get_or news (i / size) d ≡ bundle
          read = ap (λ xs. get_or xs (i / size) d) news_are
              ∙ get_or-set_same bundles (i / size) bundle d inside

          here : k ≡ i → (k / size < length news) × Holds (get_or news (k / size) d) t f
          here same = let place : k / size ≡ i / size = ap (λ n. n / size) same in (
            omega (arith, place, count, inside),
            subst (λ (u : B). Holds u t f) (sym (ap (λ n. get_or news n d) place ∙ read))
                (held_there bundle holds k t f same at_t at_f),
          )

          before : k < i → (k / size < length news) × Holds (get_or news (k / size) d) t f
          before less = let found = so_far.all k t f d less at_t at_f in (
            (let there = found.0 in omega (arith, there, count)),
            ⊎_elim (λ (same : k / size ≡ i / size).
                subst (λ (u : B). Holds u t f) (sym (ap (λ n. get_or news n d) same ∙ read))
                (widened t f (subst (λ (u : B). Holds u t f)
                (ap (λ n. get_or bundles n d) same ∙ get_or_default bundles (i / size) d old inside
                ∙ sym old_is) found.1)))
                (λ (other : k / size ≢ i / size).
                subst (λ (u : B). Holds u t f)
                (sym (ap (λ xs. get_or xs (k / size) d) news_are
                ∙ get_or-set_other bundles (i / size) (k / size) bundle d other)) found.1)
                (cases_eq (k / size) (i / size)),
          )
