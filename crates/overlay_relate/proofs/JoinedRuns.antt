-- Answers to a run of queries, joined to those to all.
use Rattle.std.proofs.Common.{◌≡◌, inl, inr, ⊎_elim, ℕ, ◌+◌, ◌-◌, ◌<◌, ◌≤◌, List, length, get_or, refl, sym, ap}
use Rattle.std.proofs.Common.{ap₂, ◌∙◌, subst, drop, arith}
use Rattle.std.specs.List.{AllPairs, slice_set, slice_range}
use Rattle.std.proofs.lemmas.Bool.{cases_lt}
use Rattle.std.proofs.lemmas.List.{length-set, get_or-set_same, get_or-set_other, get_or_default, get_or-take}
use Rattle.std.proofs.lemmas.List.{get_or-drop, length-drop, length-take-le}
use Rattle.std.proofs.Math.Nat.{eq-or-lt_of_le}
use Rattle.overlay_relate.specs.Answers.{AnswersEach}
use Rattle.overlay_relate.specs.Joined.{AreJoined}
use Rattle.overlay_relate.specs.Runs.{IsPastRun}

module _ {X Y : Type 0} (f : X → Y → X) (start : ℕ) where
  pub none_joined : (more : List Y) (old : List X) → AreJoined f start 0 more old old
  none_joined more old = record {
    counted = refl;
    joined = λ k d e lt. absurd (omega (arith, lt));
    kept = λ n d past. refl;
  }

  -- one place more
  pub joined_more : (count : ℕ) (more : List Y) (old new : List X) → AreJoined f start count more old new →
      count < length more → start + length more ≤ length old → (x : X) (y : Y) → x ≡ get_or new (start + count) x →
      y ≡ get_or more count y → AreJoined f start (count + 1) more old (slice_set new (start + count) (f x y))
  joined_more count more old new so_far lt within x y x_is y_is = record {
    counted = length-set new (start + count) (f x y) ∙ so_far.counted;
    joined = λ k d e less. ⊎_elim (λ same. here k d e same) (λ before. earlier k d e before)
        (eq-or-lt_of_le (let le : k ≤ count = omega (arith, less) in le));
    kept = λ n d past. get_or-set_other new (start + count) n (f x y) d (λ same. away n past same)
        ∙ so_far.kept n d (⊎_elim (λ before. inl before) (λ after. inr (omega (arith, after))) past);
  }
    where
      place : start + count < length new
      place = let c = so_far.counted in omega (arith, lt, within)

      away : (n : ℕ) → IsPastRun start (start + (count + 1)) n → ¬ (n ≡ start + count)
      away n past same = ⊎_elim (λ before. omega (arith, before, same)) (λ after. omega (arith, after, same)) past

      here : (k : ℕ) (d : X) (e : Y) → k ≡ count →
          get_or (slice_set new (start + count) (f x y)) (start + k) d ≡ f (get_or old (start + k) d) (get_or more k e)
      here k d e same = subst (λ m. get_or (slice_set new (start + count) (f x y)) (start + m) d
          ≡ f (get_or old (start + m) d) (get_or more m e)) (sym same)
          (get_or-set_same new (start + count) (f x y) d place
          ∙ ap₂ f (x_is ∙ get_or_default new (start + count) x d place
          ∙ so_far.kept (start + count) d (inr (omega arith))) (y_is ∙ get_or_default more count y e lt))

      earlier : (k : ℕ) (d : X) (e : Y) → k < count →
          get_or (slice_set new (start + count) (f x y)) (start + k) d ≡ f (get_or old (start + k) d) (get_or more k e)
      earlier k d e before = get_or-set_other new (start + count) (start + k) (f x y) d
          (λ same. omega (arith, before, same)) ∙ so_far.joined k d e before

-- the items of a run are items of the whole
pub run_at : {X : Type 0} (xs : List X) (start end k : ℕ) (d : X) → k < end - start →
    get_or (slice_range xs start end) k d ≡ get_or xs (start + k) d
run_at xs start end k d lt = get_or-take (end - start) (drop start xs) k d lt ∙ get_or-drop start xs k d

pub run_length : {X : Type 0} (xs : List X) (start end : ℕ) → start ≤ end → end ≤ length xs →
    start + length (slice_range xs start end) ≡ end
run_length xs start end ordered within =
    let d = length-drop start xs in
    let t = length-take-le (end - start) (drop start xs) (omega (arith, d, ordered, within)) in
    omega (arith, t, ordered)

-- so they stand in the same order
pub run_in_order : {X : Type 0} (R : X → X → Type 0) (xs : List X) (start end : ℕ) → start ≤ end → end ≤ length xs →
    AllPairs R xs → AllPairs R (slice_range xs start end)
run_in_order R xs start end ordered within pairs i j d lt inside =
    let l = run_length xs start end ordered within in
    subst (λ x. R x (get_or (slice_range xs start end) j d))
    (sym (run_at xs start end i d (omega (arith, l, lt, inside, ordered))))
    (subst (R (get_or xs (start + i) d)) (sym (run_at xs start end j d (omega (arith, l, inside, ordered))))
    (pairs (start + i) (start + j) d (omega (arith, lt)) (omega (arith, l, inside, within))))

-- where a part is joined to the answers of others: a run of queries is answered, and to the others the answer leaves
-- what stands
module _ {X Y Z : Type 0} (R T : X → Y → Type 0) (S : X → Z → Type 0) (f : Y → Z → Y) (none : Z)
    (joined : (x : X) (y : Y) (z : Z) → R x y → S x z → T x (f y z)) (leaves : (y : Y) → f y none ≡ y)
    (xs : List X) (start end : ℕ) (ordered : start ≤ end) (within : end ≤ length xs)
    (others : (n : ℕ) (d : X) → n < length xs → IsPastRun start end n → S (get_or xs n d) none) where
  pub answers_with_run : (old new : List Y) (more : List Z) → AnswersEach R xs old →
      AnswersEach S (slice_range xs start end) more → start + length more ≡ end →
      AreJoined f start (length more) more old new → AnswersEach T xs new
  answers_with_run old new more first second counted are = record {
    counted = are.counted ∙ first.counted;
    each = λ n d e lt. ⊎_elim
        (λ before. past n d e lt (inl before))
        (λ from. ⊎_elim (λ inside. in_run n d e lt from inside) (λ after. past n d e lt (inr after)) (cases_lt n end))
        (cases_lt n start);
  }
    where
      past : (n : ℕ) (d : X) (e : Y) → n < length xs → IsPastRun start end n → T (get_or xs n d) (get_or new n e)
      past n d e lt out = subst (T (get_or xs n d))
          (leaves (get_or old n e) ∙ sym (are.kept n e (subst (λ m. IsPastRun start m n) (sym counted) out)))
          (joined (get_or xs n d) (get_or old n e) none (first.each n d e lt) (others n d lt out))

      in_run : (n : ℕ) (d : X) (e : Y) → n < length xs → start ≤ n → n < end → T (get_or xs n d) (get_or new n e)
      in_run n d e lt from inside =
          let k : ℕ = n - start in
          let at : start + k ≡ n = omega (arith, from) in
          let less : k < length more = omega (arith, from, inside, counted) in
          let x_is : get_or (slice_range xs start end) k d ≡ get_or xs n d =
          run_at xs start end k d (omega (arith, from, inside)) ∙ ap (λ m. get_or xs m d) at in
          let told = second.each k d none (let c = second.counted in omega (arith, less)) in
          subst (T (get_or xs n d))
          (sym (are.joined k e none less ∙ ap (λ m. f (get_or old m e) (get_or more k none)) at)
          ∙ ap (λ m. get_or new m e) at)
          (joined (get_or xs n d) (get_or old n e) (get_or more k none) (first.each n d e lt)
          (subst (λ x. S x (get_or more k none)) x_is told))

  -- where the run has no place
  pub answers_without_run : (old : List Y) → AnswersEach R xs old → start ≡ end → AnswersEach T xs old
  answers_without_run old first empty = record {
    counted = first.counted;
    each = λ n d e lt. subst (T (get_or xs n d)) (leaves (get_or old n e))
        (joined (get_or xs n d) (get_or old n e) none (first.each n d e lt) (others n d lt
        (⊎_elim (λ before. inl before) (λ after. inr (omega (arith, after, empty))) (cases_lt n start))));
  }
