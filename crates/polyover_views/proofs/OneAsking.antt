-- Two runs of a question of a graph answer alike, and so do two that make a graph by snap rounding, unless memory is
-- refused.
use Rattle.std.proofs.Common.{◌≡◌, ◌≤◌, ◌<◌, ◌⊎◌, ℕ, ℤ, inl, inr, refl, sym, subst, ◌∙◌, arith}
use Rattle.std.specs.Int.{Width}
use Rattle.overlay_extract.specs.Determined.{AreArrangedWithBalance}
use Rattle.overlay_extract.specs.Results.{Asked}
use Rattle.overlay_extract.proofs.OneOverlay.{one_result, one_list_of_links}
use Rattle.i_overlay.proofs.OneAnswer.{arranged_paths, one_arrangement_of_paths}
use Rattle.i_overlay.specs.Alone.{MayRefuseAlone}
use Rattle.polyover_calls.specs.Asked.{solver_of}
use Rattle.polyover_calls.specs.EndsOnce.{HandsOnce}
use Rattle.polyover_calls.specs.Given.{paths_given, AreGiven, IsOneFaulty}
use Rattle.polyover_calls.specs.Held.{AreHeld, EndsHeld, HeldArrays, edge_arrays, linked_arrays, shape_arrays}
use Rattle.polyover_calls.specs.Linked.{AreFlatLinked, LinkedFlat}
use Rattle.polyover_calls.specs.Written.{Flat, IsFlat}
use Rattle.polyover_calls.specs.declared.numbers.OptionNumbers.{OptionNumbers}
use Rattle.polyover_calls.specs.declared.status.Status.{Status}
use Rattle.polyover_calls.specs.declared.status.Status.TheVariants.{Memory}
use Rattle.polyover_calls.proofs.EarlyFaults.{done_late}
use Rattle.polyover_calls.proofs.EachFault.{few_or_many, not_both, one_of_two}
use Rattle.polyover_calls.proofs.EndsOnce.{written_once}
use Rattle.polyover_calls.proofs.OneAnswer.{one_flat, one_flat_of_edges, same_links}
use Rattle.polyover_calls.proofs.OneFault.{AreBothGiven, both_apart}
use Rattle.polyover_calls.proofs.SnappedCalls.{not_alone}
use Rattle.polyover_calls.proofs.TwoRuns.{light_alone}
use Rattle.polyover_views.specs.Asked.{AreEdgesOfGraph, AreGraphNumbers, IsAskingRefused, IsHierarchyOfGraph}
use Rattle.polyover_views.specs.Asked.{IsOverlayOfGraph, asked_of_graph}
use Rattle.polyover_views.specs.Held.{HeldArrangement, keeps_points}
use Rattle.polyover_views.specs.Laws.{GraphsAnswerOnce, GraphsAreMadeOnce}
use Rattle.polyover_views.specs.Made.{AreMakingNumbers, IsGraphOf, IsUnknownMaking}

-- ---- two runs

-- where answers are one, none is there beside a refusal but for want of memory, and neither are two refusals
module _ {F J : Type 0} (IsAnswer : F → Type 0) (arrays : F → HeldArrays J) (refused : Status → Type 0)
    (same : (f h : F) → IsAnswer f → IsAnswer h → f ≡ h)
    (apart : (f : F) (s : Status) → IsAnswer f → refused s → s ≡ Memory)
    (one : (s t : Status) → refused s → refused t → ¬ (s ≡ Memory) → ¬ (t ≡ Memory) → s ≡ t) where
  hands_once : HandsOnce (EndsHeld IsAnswer arrays refused)
  hands_once held others s t (inl a) (inl b) kept kept' =
      let put = subst (λ f. AreHeld arrays f held held s) (same a.answer b.answer a.right b.right) a.put in
      (put.0 ∙ sym b.put.0, put.1 ∙ sym b.put.1)
  hands_once held others s t (inl a) (inr b) kept kept' = absurd (kept' (apart a.answer t a.right b.1))
  hands_once held others s t (inr a) (inl b) kept kept' = absurd (kept (apart b.answer s b.right a.1))
  hands_once held others s t (inr a) (inr b) kept kept' = (one s t a.1 b.1 kept kept', a.0 ∙ sym b.0)

-- ---- questions of a graph

module _ {U : Type 0} (g : HeldArrangement) (rule : ℕ) (options : OptionNumbers U) where
  refused_apart : AreGraphNumbers g rule options → (s : Status) → IsAskingRefused g rule options s → s ≡ Memory
  refused_apart known s (inl bad) = absurd (let more = bad.1 in let less = known.0 in omega (arith, more, less))
  refused_apart known s (inr (inl bad)) = absurd (bad.1.1 known.1)
  refused_apart known s (inr (inr wanting)) = wanting.0

  refused_once : (s t : Status) → IsAskingRefused g rule options s → IsAskingRefused g rule options t →
      ¬ (s ≡ Memory) → ¬ (t ≡ Memory) → s ≡ t
  refused_once s t (inl a) (inl b) kept kept' = a.0 ∙ sym b.0
  refused_once s t (inl a) (inr (inl b)) kept kept' =
      absurd (let more = a.1 in let less = b.1.0 in omega (arith, more, less))
  refused_once s t (inr (inl a)) (inl b) kept kept' =
      absurd (let more = b.1 in let less = a.1.0 in omega (arith, more, less))
  refused_once s t (inr (inl a)) (inr (inl b)) kept kept' = a.0 ∙ sym b.0
  refused_once s t (inr (inr a)) b kept kept' = absurd (kept a.0)
  refused_once s t (inl a) (inr (inr b)) kept kept' = absurd (kept' b.0)
  refused_once s t (inr (inl a)) (inr (inr b)) kept kept' = absurd (kept' b.0)

module _ {I U : Type 0} (whole : I → ℤ) (limit : ℕ) (width : Width) (natural : U → ℕ)
    (one : (x y : I) → whole x ≡ whole y → x ≡ y) where
  module _ (g : HeldArrangement) (arranged : AreArrangedWithBalance g.edges) (rule : ℕ) (options : OptionNumbers U)
    where
      same_overlay : (f h : Flat I) → IsFlat (IsOverlayOfGraph width natural g rule options) whole f →
          IsFlat (IsOverlayOfGraph width natural g rule options) whole h → f ≡ h
      same_overlay f h a b =
          let q : Asked = asked_of_graph width natural g rule options in
          one_flat whole limit one a.shapes b.shapes f h
          (one_result q g.edges arranged a.shapes b.shapes a.answer.is_result b.answer.is_result) a.flattened
          b.flattened

      same_hierarchy : (f h : LinkedFlat I) → AreFlatLinked (IsHierarchyOfGraph width natural g rule options) whole f →
          AreFlatLinked (IsHierarchyOfGraph width natural g rule options) whole h → f ≡ h
      same_hierarchy f h a b =
          let q : Asked = asked_of_graph width natural g rule options in
          let flat = one_flat whole limit one a.shapes b.shapes f.shapes h.shapes
          (one_result q g.edges arranged a.shapes b.shapes a.answer.is_hierarchy.is_result
          b.answer.is_hierarchy.is_result) a.flattened b.flattened in
          let links = same_links f.links h.links
          (one_list_of_links q g.edges arranged a.shapes b.shapes _ _ a.answer.is_hierarchy b.answer.is_hierarchy) in
          λ i. record { shapes = flat i; links = links i }

  pub graphs_answer_once : GraphsAnswerOnce whole limit width natural
  graphs_answer_once fill solver keep_given subject clip g is = record {
    overlay = λ rule options. hands_once (IsFlat (IsOverlayOfGraph width natural g rule options) whole) shape_arrays
        (IsAskingRefused g rule options) (same_overlay g arranged rule options)
        (λ f s answer. refused_apart g rule options answer.answer.known s) (refused_once g rule options);
    hierarchy = λ rule options. hands_once
        (AreFlatLinked (IsHierarchyOfGraph width natural g rule options) whole) linked_arrays
        (IsAskingRefused g rule options) (same_hierarchy g arranged rule options)
        (λ f s answer. refused_apart g rule options answer.answer.known s) (refused_once g rule options);
    edges = hands_once (AreEdgesOfGraph whole g) edge_arrays (λ s. s ≡ Memory)
        (λ f h. one_flat_of_edges whole limit one _ _ f h refl) (λ f s answer same. same)
        (λ s t a b kept kept'. a ∙ sym b);
  }
    where
      arranged : AreArrangedWithBalance g.edges
      arranged = arranged_paths (solver_of solver) (keeps_points keep_given) (paths_given whole subject clip)
          is.arranged.content g.edges is.arranged.holds is.arranged.arranged

-- ---- two graphs

-- graphs with equal numbers and equal edges are equal
same_graph : (g h : HeldArrangement) → g.fill ≡ h.fill → g.solver ≡ h.solver → g.keep_given ≡ h.keep_given →
    g.edges ≡ h.edges → g ≡ h
same_graph g h fill solver kept edges i = record {
  fill = fill i;
  solver = solver i;
  keep_given = kept i;
  edges = edges i;
}

-- no number of a solver, and of what is kept, is both below 2 and not
not_choices : (solver keep_given : ℕ) → (2 ≤ solver) ⊎ (2 ≤ keep_given) → ¬ ((solver < 2) × (keep_given < 2))
not_choices solver keep_given (inl more) few = few_or_many solver more few.0
not_choices solver keep_given (inr more) few = few_or_many keep_given more few.1

pub graphs_are_made_once : {I : Type 0} (whole : I → ℤ) (limit : ℕ) → GraphsAreMadeOnce whole limit
graphs_are_made_once whole limit fill keep_given subject clip held others =
    written_once (IsUnknownMaking fill 0 keep_given) (AreMakingNumbers fill 0 keep_given)
    (IsOneFaulty whole limit subject clip)
    (AreBothGiven whole limit subject clip)
    (both_apart whole limit subject clip (IsUnknownMaking fill 0 keep_given) (AreMakingNumbers fill 0 keep_given)
    (one_of_two fill ((2 ≤ 0) ⊎ (2 ≤ keep_given)) ((0 < 2) × (keep_given < 2)) (not_choices 0 keep_given))
    (not_both fill ((2 ≤ 0) ⊎ (2 ≤ keep_given)) ((0 < 2) × (keep_given < 2)) (not_choices 0 keep_given)))
    (λ e. AreGiven whole limit subject × (AreGiven whole limit clip
    × MayRefuseAlone (keeps_points keep_given) (solver_of 0) (paths_given whole subject clip) e))
    (λ e m. (m.0, m.1.0)) (λ m. not_alone (keeps_points keep_given) 0 (paths_given whole subject clip) refl m.1.1)
    (IsGraphOf whole limit fill 0 keep_given subject clip) (λ g is. (is.known, (is.subject_given, is.clip_given)))
    (λ g is m. light_alone (keeps_points keep_given) 0 (paths_given whole subject clip) is.arranged.content g.edges
    refl is.arranged.holds is.arranged.arranged m.1.1)
    (λ g h a b. same_graph g h (a.filled_by ∙ sym b.filled_by) (a.split_by ∙ sym b.split_by)
    (a.points_kept ∙ sym b.points_kept) (one_arrangement_of_paths (keeps_points keep_given)
    (paths_given whole subject clip) a.arranged.content b.arranged.content g.edges h.edges a.arranged.holds
    b.arranged.holds a.arranged.arranged b.arranged.arranged))
    (AreHeld (λ g. g)) (λ g old new s are. done_late s are.0)
    (λ g old new newer s t a b. (a.0 ∙ sym b.0, a.1 ∙ sym b.1)) _ held others
