-- A sweep over the edges of a list in another order tells whether the fill bits of some edge pass a test.
use Rattle.std.proofs.Common.{◌≡◌, ℕ, ◌+◌, ◌<◌, ◌≤◌, Bool, true, false, List, ◌∷◌, ◌++◌, map, length, take, get_or}
use Rattle.std.proofs.Common.{[], refl, sym, ap, ◌∙◌, subst}
use Rattle.std.specs.List.{All, list_any}
use Rattle.std.specs.List.Sorted.{IsPermutation}
use Rattle.std.proofs.lemmas.List.{take_more, take_all}
use Rattle.std.proofs.lemmas.List.Elements.{All-map, All-push, All-weaker}
use Rattle.std.proofs.lemmas.List.Folds.{list_any-from_Any, list_any_none}
use Rattle.std.proofs.lemmas.List.Sorted.{All-permutation, Contains-permutation, IsPermutation-sym}
use Rattle.overlay_geom.specs.Edges.{CountedEdge}
use Rattle.overlay_geom.specs.Rules.{fill_bits}
use Rattle.overlay_geom.specs.declared.fill_rule.FillRule.{FillRule}
use Rattle.overlay_plane.proofs.Entries.{any_of_entry, Contains-map}
use Rattle.overlay_graph.specs.FillTests.{some_fill_passes}
use Rattle.overlay_graph.proofs.Sweepable.{bits_shuffled}

module _ (test : ℕ → Bool) (rule : FillRule) (es fs : List CountedEdge) (moved : IsPermutation es fs) where
  -- the edge does not pass
  abbrev IsPassedOver : CountedEdge → Type 0
  IsPassedOver f = test (fill_bits rule fs f) ≡ false

  -- an edge that passes tells
  pub some_told : (i : ℕ) (e : CountedEdge) → i < length fs → get_or fs i e ≡ e → test (fill_bits rule fs e) ≡ true →
      true ≡ some_fill_passes test rule es
  some_told i e lt is passes = sym (list_any-from_Any test (map (fill_bits rule es) es)
      (any_of_entry (λ n. test n ≡ true) (map (fill_bits rule es) es) (fill_bits rule es e)
      (Contains-map (fill_bits rule es) es e
      (Contains-permutation fs es e (IsPermutation-sym es fs moved) (i, lt, is)))
      (ap test (sym (bits_shuffled es fs moved rule e)) ∙ passes)))

  -- one edge more does not pass
  pub passed_more : (i : ℕ) (e : CountedEdge) → i < length fs → get_or fs i e ≡ e → IsPassedOver e →
      All IsPassedOver (take i fs) → All IsPassedOver (take (i + 1) fs)
  passed_more i e lt is fails all = subst (All IsPassedOver)
      (sym (take_more fs i e lt ∙ ap (λ f. take i fs ++ f ∷ []) is))
      (All-push IsPassedOver (take i fs) e all fails)

  -- where none does they tell too
  pub none_told : (i : ℕ) → length fs ≤ i → All IsPassedOver (take i fs) → false ≡ some_fill_passes test rule es
  none_told i past all = sym (list_any_none test (map (fill_bits rule es) es)
      (All-map (λ n. test n ≡ false) (fill_bits rule es) es
      (All-permutation (λ e. test (fill_bits rule es e) ≡ false) fs es (IsPermutation-sym es fs moved)
      (All-weaker IsPassedOver (λ e. test (fill_bits rule es e) ≡ false)
      (λ e fails. ap test (sym (bits_shuffled es fs moved rule e)) ∙ fails) fs
      (subst (All IsPassedOver) (take_all i fs past) all)))))

-- no edge passes a test that nothing passes
pub no_test_passed : (rule : FillRule) (es : List CountedEdge) → some_fill_passes (λ n. false) rule es ≡ false
no_test_passed rule es = none es
  where
    none : (fs : List CountedEdge) → list_any (λ n. false) (map (fill_bits rule es) fs) ≡ false
    none [] = refl
    none (f ∷ fs) = none fs
