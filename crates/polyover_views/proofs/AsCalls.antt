-- Graphs answer as the calls do that are given the contours.
use Rattle.std.proofs.Common.{◌≡◌, ℕ, ℤ, map, inl, inr, sym, ap, ◌∙◌, subst}
use Rattle.std.specs.Int.{Width}
use Rattle.overlay_graph.specs.Arranged.{IsArranged}
use Rattle.overlay_extract.specs.PlacedResults.{IsHierarchy}
use Rattle.overlay_extract.specs.Results.{IsResult, asked}
use Rattle.overlay_order.specs.Vectors.{vector_of}
use Rattle.overlay_builder.specs.GivenPaths.{added_paths}
use Rattle.overlay_builder.specs.PathLists.{HoldsPaths}
use Rattle.polyover_calls.specs.Asked.{rule_of, fill_of, solver_of, options_of, keeps_given, AreKnown}
use Rattle.polyover_calls.specs.Given.{Contours, paths_given}
use Rattle.polyover_calls.specs.Held.{EndsHeld, HeldArrays, edge_arrays, linked_arrays, shape_arrays}
use Rattle.polyover_calls.specs.Hierarchies.{IsLinkedOverlay}
use Rattle.polyover_calls.specs.Linked.{AreFlatLinked, LinkedFlat, link_at}
use Rattle.polyover_calls.specs.Listed.{AreEdgesIn, EdgeArrays, IsListingRefused}
use Rattle.polyover_calls.specs.Overlays.{IsOverlay, IsOverlayRefused}
use Rattle.polyover_calls.specs.Written.{Flat, IsFlat}
use Rattle.polyover_calls.specs.declared.numbers.OptionNumbers.{OptionNumbers}
use Rattle.polyover_calls.specs.declared.status.Status.{Status}
use Rattle.polyover_calls.specs.declared.status.Status.TheVariants.{Memory}
use Rattle.polyover_calls.proofs.Kept.{hierarchy_as_added, result_as_added}
use Rattle.polyover_calls.proofs.Listed.{memory_unlisted}
use Rattle.polyover_views.specs.Asked.{AreEdgesOfGraph, AreGraphNumbers, IsAskingRefused, IsHierarchyOfGraph}
use Rattle.polyover_views.specs.Asked.{IsOverlayOfGraph}
use Rattle.polyover_views.specs.Held.{HeldArrangement, keeps_points}
use Rattle.polyover_views.specs.Laws.{GraphsAnswerAsCalls}
use Rattle.polyover_views.specs.Made.{IsGraphOf}

-- a call that ends with such an answer, or such a refusal, ends so with what these are too
ends_so : {F I : Type 0} (IsAnswer IsOther : F → Type 0) (arrays : F → HeldArrays I) (refused other : Status → Type 0) →
    ((f : F) → IsAnswer f → IsOther f) → ((s : Status) → refused s → other s) → (held : HeldArrays I) (s : Status) →
    EndsHeld IsAnswer arrays refused held s → EndsHeld IsOther arrays other held s
ends_so IsAnswer IsOther arrays refused other answers refuses held s (inl a) =
    inl (record { answer = a.answer; right = answers a.answer a.right; put = a.put })
ends_so IsAnswer IsOther arrays refused other answers refuses held s (inr b) = inr (b.0, refuses s b.1)

module _ {I U : Type 0} (whole : I → ℤ) (limit : ℕ) (width : Width) (natural : U → ℕ) (fill solver keep_given : ℕ)
    (subject clip : Contours I) (g : HeldArrangement) (is : IsGraphOf whole limit fill solver keep_given subject clip g)
  where
    module _ (rule : ℕ) (options : OptionNumbers U) (same_solver : options.solver ≡ solver)
        (same_points : keeps_given options ≡ keeps_points keep_given) where
      holds_so : HoldsPaths (added_paths (keeps_given options) (paths_given whole subject clip)) is.arranged.content
      holds_so = subst (λ b. HoldsPaths (added_paths b (paths_given whole subject clip)) is.arranged.content)
          (sym same_points) is.arranged.holds

      arranged_so : IsArranged (solver_of options.solver) is.arranged.content g.edges
      arranged_so = subst (λ n. IsArranged (solver_of n) is.arranged.content g.edges) (sym same_solver)
          is.arranged.arranged

      known_so : AreGraphNumbers g rule options → AreKnown rule fill options
      known_so known = (known.0, (is.known.0, known.1.choices))

      -- ---- shapes

      overlay_of_contours : (flat : Flat I) → IsFlat (IsOverlayOfGraph width natural g rule options) whole flat →
          IsFlat (IsOverlay whole limit width natural rule fill options subject clip) whole flat
      overlay_of_contours flat a = record {
        shapes = a.shapes;
        answer = record {
          known = known_so a.answer.known;
          subject_given = is.subject_given;
          clip_given = is.clip_given;
          is_result = result_as_added (keeps_given options) (solver_of options.solver)
              (asked width natural (fill_of fill) (rule_of rule) (options_of options)) (paths_given whole subject clip)
              is.arranged.content g.edges holds_so arranged_so a.shapes
              (subst (λ n. IsResult (asked width natural (fill_of n) (rule_of rule) (options_of options)) g.edges
              a.shapes) is.filled_by a.answer.is_result);
        };
        flattened = a.flattened;
      }

      hierarchy_of_contours : (flat : LinkedFlat I) →
          AreFlatLinked (IsHierarchyOfGraph width natural g rule options) whole flat →
          AreFlatLinked (IsLinkedOverlay whole limit width natural rule fill options subject clip) whole flat
      hierarchy_of_contours flat a = record {
        shapes = a.shapes;
        answer = record {
          known = known_so a.answer.known;
          subject_given = is.subject_given;
          clip_given = is.clip_given;
          is_hierarchy = hierarchy_as_added (keeps_given options) (solver_of options.solver)
              (asked width natural (fill_of fill) (rule_of rule) (options_of options)) (paths_given whole subject clip)
              is.arranged.content g.edges holds_so arranged_so a.shapes (map link_at flat.links)
              (subst (λ n. IsHierarchy (asked width natural (fill_of n) (rule_of rule) (options_of options)) g.edges
              a.shapes (map link_at flat.links)) is.filled_by a.answer.is_hierarchy);
        };
        flattened = a.flattened;
      }

      -- ---- refusals

      refused_of_contours : (s : Status) → IsAskingRefused g rule options s →
          IsOverlayRefused whole limit rule fill options subject clip s
      refused_of_contours s (inl bad) =
          subst (IsOverlayRefused whole limit rule fill options subject clip) (sym bad.0) bad.1
      refused_of_contours s (inr (inl bad)) =
          subst (IsOverlayRefused whole limit rule fill options subject clip) (sym bad.0) (
            bad.1.0,
            (
              is.known.0,
              λ choices. bad.1.1 (record {
                choices = choices;
                same_solver = same_solver ∙ sym is.split_by;
                same_points = same_points ∙ ap keeps_points (sym is.points_kept);
              }),
            ),
          )
      refused_of_contours s (inr (inr wanting)) =
          subst (IsOverlayRefused whole limit rule fill options subject clip) (sym wanting.0)
          (known_so wanting.1, (is.subject_given, (is.clip_given, tt)))

    -- ---- edges

    edges_of_contours : keep_given ≡ 0 → (arrays : EdgeArrays I) → AreEdgesOfGraph whole g arrays →
        AreEdgesIn whole limit fill solver subject clip arrays
    edges_of_contours none arrays listed = record {
      known = (is.known.0, is.known.1.0);
      subject_given = is.subject_given;
      clip_given = is.clip_given;
      vectors = map (vector_of (fill_of g.fill) g.edges) g.edges;
      answer = record {
        content = is.arranged.content;
        edges = g.edges;
        holds = subst (λ n. HoldsPaths (added_paths (keeps_points n) (paths_given whole subject clip))
            is.arranged.content) none is.arranged.holds;
        arranged = is.arranged.arranged;
        listed = ap (λ n. map (vector_of (fill_of n) g.edges) g.edges) is.filled_by;
      };
      listed = listed;
    }

pub graphs_answer_as_calls : {I U : Type 0} (whole : I → ℤ) (limit : ℕ) (width : Width) (natural : U → ℕ) →
    GraphsAnswerAsCalls whole limit width natural
graphs_answer_as_calls whole limit width natural fill solver keep_given subject clip g is = record {
  overlay = λ rule options arrays s same kept. ends_so (IsFlat (IsOverlayOfGraph width natural g rule options) whole)
      (IsFlat (IsOverlay whole limit width natural rule fill options subject clip) whole) shape_arrays
      (IsAskingRefused g rule options) (IsOverlayRefused whole limit rule fill options subject clip)
      (overlay_of_contours whole limit width natural fill solver keep_given subject clip g is rule options same kept)
      (refused_of_contours whole limit width natural fill solver keep_given subject clip g is rule options same kept)
      arrays s;
  hierarchy = λ rule options arrays s same kept. ends_so
      (AreFlatLinked (IsHierarchyOfGraph width natural g rule options) whole)
      (AreFlatLinked (IsLinkedOverlay whole limit width natural rule fill options subject clip) whole) linked_arrays
      (IsAskingRefused g rule options) (IsOverlayRefused whole limit rule fill options subject clip)
      (hierarchy_of_contours whole limit width natural fill solver keep_given subject clip g is rule options same kept)
      (refused_of_contours whole limit width natural fill solver keep_given subject clip g is rule options same kept)
      arrays s;
  edges = λ arrays s none. ends_so (AreEdgesOfGraph whole g) (AreEdgesIn whole limit fill solver subject clip)
      edge_arrays
      (λ t. t ≡ Memory) (IsListingRefused whole limit fill solver subject clip)
      (edges_of_contours whole limit width natural fill solver keep_given subject clip g is none)
      (λ t wanting. memory_unlisted whole limit fill solver subject clip t is.known.0 is.known.1.0 is.subject_given
      is.clip_given wanting) arrays s;
}
