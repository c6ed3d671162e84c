-- The beginning of a list up to an edge, and its weight.
use Rattle.std.proofs.Common.{◌≡◌, ◌⊎◌, inl, inr, ℕ, ◌+◌, ◌^◌, ◌<◌, ◌≤◌, List, [], ◌∷◌, ◌++◌, map, take, length, get_or}
use Rattle.std.proofs.Common.{sym, ap, subst, ◌∙◌, arith}
use Rattle.std.proofs.lemmas.List.{take-map, map-append}
use Rattle.std.proofs.lemmas.List.Sums.{sum_by-take-le, sum_by_push}
use Rattle.overlay_geom.specs.Edges.{CountedEdge, weight}
use Rattle.overlay_geom.specs.declared.error.OverlayError.{OverlayError}
use Rattle.overlay_geom.specs.declared.error.OverlayError.TheVariants.{Memory, TooManyEdges}
use Rattle.overlay_geom.proofs.Mapped.{mapped_more}
use Rattle.overlay_geom.proofs.Weights.{edge_weight}

module _ {X : Type 0} (see : X → CountedEdge) (xs : List X) (i : ℕ) (x : X) (lt : i < length xs)
    (is : x ≡ get_or xs i x) where
  -- it is no heavier than the list
  pub no_heavier : weight (map see (take i xs) ++ see x ∷ []) ≤ weight (map see xs)
  no_heavier = subst (λ es. weight es ≤ weight (map see xs)) (mapped_more see xs i x lt is)
      (subst (λ es. weight es ≤ weight (map see xs)) (take-map see (i + 1) xs)
      (sum_by-take-le edge_weight (map see xs) (i + 1)))

  -- neither is the edge
  pub entry_no_heavier : edge_weight (see x) ≤ weight (map see xs)
  entry_no_heavier =
      let both = sum_by_push edge_weight (map see (take i xs)) (see x) in
      let all = no_heavier in
      omega (arith, both, all)

  -- where all are lighter than 2^31, an edge added to a copy of the beginning is refused for memory alone
  pub memory_alone : (copied whole : List CountedEdge) → copied ≡ map see (take i xs) → map see xs ≡ whole →
      weight whole < 2 ^ 31 → (e : OverlayError) →
      (e ≡ TooManyEdges → 2 ^ 31 ≤ weight (copied ++ see x ∷ [])) → (e ≡ Memory) ⊎ (e ≡ TooManyEdges) → e ≡ Memory
  memory_alone copied whole is_copy all light e heavy (inl memory) = memory
  memory_alone copied whole is_copy all light e heavy (inr too_many) =
      let at_least = heavy too_many in
      let same = ap (λ es. weight (es ++ see x ∷ [])) is_copy in
      let bound = no_heavier in
      let total = ap weight all in
      absurd (omega (arith, at_least, same, bound, total, light))

  -- the copy of the beginning, with the edge, is the copy of one more
  pub next_copied : {Y : Type 0} (seen : Y → CountedEdge) (ys : List Y) (y : Y) → map seen ys ≡ map see (take i xs) →
      seen y ≡ see x → map seen (ys ++ y ∷ []) ≡ map see (take (i + 1) xs)
  next_copied seen ys y so same =
      map-append seen ys (y ∷ [])
      ∙ ap (λ es. es ++ seen y ∷ []) so
      ∙ ap (λ e. map see (take i xs) ++ e ∷ []) same
      ∙ sym (mapped_more see xs i x lt is)
