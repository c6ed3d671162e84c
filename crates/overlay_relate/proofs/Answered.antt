-- Lists of answers: one more, and what follows of each.
use Rattle.std.proofs.Common.{◌≡◌, ◌⊎◌, inl, inr, ℕ, ◌-◌, ◌<◌, ◌≤◌, List, [], ◌∷◌, ◌++◌, map}
use Rattle.std.proofs.Common.{length, get_or, refl, sym, ap, ◌∙◌, subst, arith}
use Rattle.std.proofs.Math.Nat.{eq-or-lt_of_le}
use Rattle.std.proofs.lemmas.List.{get_or_append_left, get_or-append_right, length-map, length-append, get_or-map}
use Rattle.overlay_relate.specs.Answers.{AnswersEach}

-- the item after a list
pub get_or-last : {X : Type 0} (xs : List X) (x : X) (d : X) (n : ℕ) → n ≡ length xs → get_or (xs ++ x ∷ []) n d ≡ x
get_or-last xs x d n is = get_or-append_right xs (x ∷ []) (length xs) n d refl (omega (arith, is))
    ∙ ap (λ k. get_or (x ∷ []) k d) (let k : n - length xs ≡ 0 = omega (arith, is) in k)

module _ {X Y : Type 0} (R : X → Y → Type 0) where
  pub answers_none : AnswersEach R [] []
  answers_none = record { counted = refl; each = λ n d e lt. absurd (omega (arith, lt)) }

  -- one query more, and its answer
  pub answers_more : (xs : List X) (x : X) (ys : List Y) (y : Y) → AnswersEach R xs ys → R x y →
      AnswersEach R (xs ++ x ∷ []) (ys ++ y ∷ [])
  answers_more xs x ys y so_far here = record {
    counted = let a = length-append xs (x ∷ []) in let b = length-append ys (y ∷ []) in let c = so_far.counted in
        omega arith;
    each = λ n d e lt. let a = length-append xs (x ∷ []) in
        by n d e (eq-or-lt_of_le (let m : n ≤ length xs = omega arith in m));
  }
    where
      by : (n : ℕ) (d : X) (e : Y) → (n ≡ length xs) ⊎ (n < length xs) →
          R (get_or (xs ++ x ∷ []) n d) (get_or (ys ++ y ∷ []) n e)
      by n d e (inl last) = subst (R (get_or (xs ++ x ∷ []) n d))
          (sym (get_or-last ys y e n (last ∙ sym so_far.counted)))
          (subst (λ z. R z y) (sym (get_or-last xs x d n last)) here)
      by n d e (inr less) = subst (R (get_or (xs ++ x ∷ []) n d))
          (sym (get_or_append_left ys (y ∷ []) e n (let c = so_far.counted in omega (arith, less))))
          (subst (λ z. R z (get_or ys n e)) (sym (get_or_append_left xs (x ∷ []) d n less)) (so_far.each n d e less))

  -- what follows of each answer
  pub answers_weaker : (S : X → Y → Type 0) → ((x : X) (y : Y) → R x y → S x y) → (xs : List X) (ys : List Y) →
      AnswersEach R xs ys → AnswersEach S xs ys
  answers_weaker S follows xs ys all = record {
    counted = all.counted;
    each = λ n d e lt. follows (get_or xs n d)
        (get_or ys n e) (all.each n d e lt);
  }

  -- and of each answer, mapped
  pub answers_mapped : {Z : Type 0} (S : X → Z → Type 0) (f : Y → Z) → ((x : X) (y : Y) → R x y → S x (f y)) →
      (xs : List X) (ys : List Y) → AnswersEach R xs ys →
      AnswersEach S xs (map f ys)
  answers_mapped S f follows [] ys all = record {
    counted = length-map ys f ∙ all.counted;
    each = λ n d e lt. absurd
        (omega (arith, lt));
  }
  answers_mapped S f follows (x ∷ xs) [] all = absurd (let c = all.counted in omega arith)
  answers_mapped S f follows (x ∷ xs) (y ∷ ys) all = record {
    counted = length-map (y ∷ ys) f ∙ all.counted;
    each = λ n d e lt. subst (S (get_or (x ∷ xs) n d))
        (sym (get_or-map f (y ∷ ys) n y e (let c = all.counted in omega (arith, lt))))
        (follows (get_or (x ∷ xs) n d) (get_or (y ∷ ys) n y) (all.each n d y lt));
  }
