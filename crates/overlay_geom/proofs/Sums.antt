-- Sums of counts by ends, determined by the sums over the edges between each two ends.
use Rattle.std.proofs.Common.{◌≡◌, ℕ, zero, suc, ◌+◌, ◌≤◌, Bool, true, false, cond, ℤ, pos, ◌+ℤ◌, List, [], ◌∷◌, length}
use Rattle.std.proofs.Common.{refl, ap, sym, ◌∙◌, arith, inl, inr}
use Rattle.std.specs.List.{All}
use Rattle.std.proofs.lemmas.Bool.{cases_Bool}
use Rattle.std.proofs.lemmas.List.Elements.{All-head, All-tail, All-weaker, filter_passes}
use Rattle.overlay_geom.specs.Plane.{Edge, edge_eq, total}
use Rattle.overlay_geom.specs.Edges.{CountedEdge, ends_of}
use Rattle.overlay_geom.specs.Merged.{edges_between}
use Rattle.overlay_geom.proofs.Orders.{edge_eq-same}
use Rattle.overlay_geom.proofs.Totals.{total-parts}
use Rattle.overlay_geom.proofs.Between.{without, between_without, between_without_itself, length-without}
use Rattle.overlay_geom.proofs.Between.{length-without_first}

-- the counts of the edges whose ends pass the test, summed
abbrev pub sum_where : (CountedEdge → ℤ) → (Edge → Bool) → List CountedEdge → ℤ
sum_where count passes es = total (λ e. cond (passes (ends_of e)) (count e) (pos 0)) es

module _ (count : CountedEdge → ℤ) (passes : Edge → Bool) where
  -- edges with the same ends are taken all, or none of them
  pub sum_where-alike : (e : Edge) (es : List CountedEdge) → All (λ f. ends_of f ≡ e) es →
      sum_where count passes es ≡ cond (passes e) (total count es) (pos 0)
  sum_where-alike e [] h = elim (passes e) as (λ b. pos 0 ≡ cond b (pos 0) (pos 0)) [ true ↦ refl | false ↦ refl ]
  sum_where-alike e (f ∷ es) h =
      let rest : sum_where count passes es ≡ cond (passes e) (total count es) (pos 0) = sum_where-alike e es
      (All-tail (λ f. ends_of f ≡ e) f es h) in
      let first : ends_of f ≡ e = All-head (λ f. ends_of f ≡ e) f es h in
      ap (λ z. cond (passes (ends_of f)) (count f) (pos 0) +ℤ z) rest
      ∙ ap (λ g. cond (passes g) (count f) (pos 0) +ℤ cond (passes e) (total count es) (pos 0)) first
      ∙ elim (passes e) as (λ b. cond b (count f) (pos 0) +ℤ cond b (total count es) (pos 0) ≡ cond b
      (count f +ℤ total count es) (pos 0)) [ true ↦ refl | false ↦ refl ]

  -- the sum is that of the edges between two ends, and that of the others
  pub sum_where-parts : (e : Edge) (es : List CountedEdge) → sum_where count passes es ≡ cond (passes e)
      (total count (edges_between es e)) (pos 0) +ℤ sum_where count passes (without es e)
  sum_where-parts e es =
      let alike : All (λ f. ends_of f ≡ e) (edges_between es e) =
      All-weaker (λ f. edge_eq (ends_of f) e ≡ true) (λ f. ends_of f ≡ e) (λ f. edge_eq-same (ends_of f) e)
      (edges_between es e) (filter_passes (λ f. edge_eq (ends_of f) e) es) in
      total-parts (λ f. cond (passes (ends_of f)) (count f) (pos 0)) (λ f. edge_eq (ends_of f) e) es
      ∙ ap (λ z. z +ℤ sum_where count passes (without es e)) (sum_where-alike e (edges_between es e) alike)

  -- two lists agree if they agree between two ends, and without the edges between them
  sum_where-step : (e : Edge) (xs ys : List CountedEdge) → total count (edges_between xs e) ≡ total count
      (edges_between ys e) → sum_where count passes (without xs e) ≡ sum_where count passes (without ys e) →
      sum_where count passes xs ≡ sum_where count passes ys
  sum_where-step e xs ys between others =
      sum_where-parts e xs
      ∙ ap (λ z. cond (passes e) z (pos 0) +ℤ sum_where count passes (without xs e)) between
      ∙ ap (λ z. cond (passes e) (total count (edges_between ys e)) (pos 0) +ℤ z) others
      ∙ sym (sum_where-parts e ys)

  -- to leave out the edges between two ends keeps it that two lists agree everywhere
  agree_without : (e : Edge) (xs ys : List CountedEdge) →
      ((f : Edge) → total count (edges_between xs f) ≡ total count (edges_between ys f)) →
      (f : Edge) → total count (edges_between (without xs e) f) ≡ total count (edges_between (without ys e) f)
  agree_without e xs ys agree f =
      elim (cases_Bool (edge_eq e f)) [
        | inl same ↦
            let it : e ≡ f = edge_eq-same e f same in
            ap (λ g. total count (edges_between (without xs e) g)) (sym it)
            ∙ ap (total count) (between_without_itself xs e ∙ sym (between_without_itself ys e))
            ∙ ap (λ g. total count (edges_between (without ys e) g)) it
        | inr other ↦ ap (total count) (between_without xs e f other) ∙ agree f
            ∙ sym (ap (total count) (between_without ys e f other))
      ]

  -- lists that add up to the same between any two ends have the same sums
  pub sum_where-agree : (n : ℕ) (xs ys : List CountedEdge) → length xs + length ys ≤ n →
      ((e : Edge) → total count (edges_between xs e) ≡ total count (edges_between ys e)) →
      sum_where count passes xs ≡ sum_where count passes ys
  sum_where-agree n [] [] short agree = refl
  sum_where-agree zero (x ∷ xs) ys short agree = absurd (omega arith)
  sum_where-agree zero [] (y ∷ ys) short agree = absurd (omega arith)
  sum_where-agree (suc n) (x ∷ xs) ys short agree =
      let e : Edge = ends_of x in
      let left = length-without_first x xs in
      let right = length-without ys e in
      sum_where-step e (x ∷ xs) ys (agree e) (sum_where-agree n (without (x ∷ xs) e) (without ys e) (omega arith)
      (agree_without e (x ∷ xs) ys agree))
  sum_where-agree (suc n) [] (y ∷ ys) short agree =
      let e : Edge = ends_of y in
      let right = length-without_first y ys in
      sum_where-step e [] (y ∷ ys) (agree e) (sum_where-agree n [] (without (y ∷ ys) e) (omega arith)
      (agree_without e [] (y ∷ ys) agree))
