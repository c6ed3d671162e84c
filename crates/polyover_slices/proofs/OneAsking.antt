-- Two slicings of the same arrays as the same numbers ask answer alike, by snap rounding, unless memory is refused.
use Rattle.std.proofs.Common.{◌≡◌, inl, inr, ℕ, ℤ, List, [], refl, sym, subst, ◌∙◌}
use Rattle.std.specs.Int.{Width}
use Rattle.overlay_builder.specs.PathLists.{AddedPath}
use Rattle.overlay_extract.proofs.OneSlicing.{one_slicing}
use Rattle.overlay_extract.specs.Results.{Asked}
use Rattle.overlay_geom.specs.Edges.{CountedEdge}
use Rattle.overlay_geom.specs.Plane.{Point}
use Rattle.overlay_geom.specs.declared.solver.Solver.{Solver}
use Rattle.overlay_geom.specs.declared.solver.Solver.TheVariants.{Snapping}
use Rattle.overlay_string.specs.OneShot.{MayRefusePaths, shape_and_strings}
use Rattle.polyover_calls.specs.Asked.{solver_of, AreKnown, IsUnknown}
use Rattle.polyover_calls.specs.Given.{Contours, paths_of, AreGiven, IsOneFaulty}
use Rattle.polyover_calls.specs.Held.{AreHeld, shape_arrays}
use Rattle.polyover_calls.specs.Lines.{shape_and_lines}
use Rattle.polyover_calls.specs.Written.{Flat, IsFlat}
use Rattle.polyover_calls.specs.declared.numbers.OptionNumbers.{OptionNumbers}
use Rattle.polyover_calls.proofs.EarlyFaults.{done_late}
use Rattle.polyover_calls.proofs.EndsOnce.{written_once}
use Rattle.polyover_calls.proofs.OneAnswer.{one_flat}
use Rattle.polyover_calls.proofs.OneFault.{AreBothGiven, both_apart, not_known, one_unknown}
use Rattle.polyover_calls.proofs.SnappedCalls.{not_lines}
use Rattle.polyover_calls.proofs.TwoRuns.{light_lines}
use Rattle.polyover_slices.specs.Asked.{AreSlicesAsAsked, SlicesAreAskedOnce, asked_slices}
use Rattle.polyover_slices.specs.Slices.{AreSlicesAlong, AreSlicesOfPaths}
use Rattle.polyover_slices.proofs.OneArrangement.{one_arrangement_of_strings}

-- ---- slices

-- those along the same edges are the same
one_along : (q : Asked) (es : List CountedEdge) (first second : List (List (List Point))) →
    AreSlicesAlong q es first → AreSlicesAlong q es second → first ≡ second
one_along q es first second (inl a) (inl b) = a.1 ∙ sym b.1
one_along q es first second (inl a) (inr b) = absurd (b.0 a.0)
one_along q es first second (inr a) (inl b) = absurd (a.0 b.0)
one_along q es first second (inr a) (inr b) =
    one_slicing q.area_width q.min_output_area q.fill q.output_direction es first second a.1 b.1

one_list_of_slices : (q : Asked) (shape strings : List (List Point)) (first second : List (List (List Point))) →
    AreSlicesOfPaths Snapping q (shape_and_strings shape strings) first →
    AreSlicesOfPaths Snapping q (shape_and_strings shape strings) second → first ≡ second
one_list_of_slices q shape strings first second a b = one_along q b.edges first second
    (subst (λ es. AreSlicesAlong q es first)
    (one_arrangement_of_strings shape strings a.content b.content a.edges b.edges a.holds b.holds a.arranged b.arranged)
    a.sliced) b.sliced

-- ---- runs

module _ {I U : Type 0} (whole : I → ℤ) (limit : ℕ) (width : Width) (natural : U → ℕ)
    (one : (x y : I) → whole x ≡ whole y → x ≡ y) where
  module _ (fill : ℕ) (options : OptionNumbers U) (subject lines : Contours I) (snaps : options.solver ≡ 0) where
    abbrev paths : List (AddedPath CountedEdge)
    paths = shape_and_lines whole subject lines

    snapping : (shapes : List (List (List Point))) →
        AreSlicesOfPaths (solver_of options.solver) (asked_slices width natural fill options) paths shapes →
        AreSlicesOfPaths Snapping (asked_slices width natural fill options) paths shapes
    snapping shapes are = subst (λ n. AreSlicesOfPaths (solver_of n) (asked_slices width natural fill options) paths
        shapes) snaps are

    same_slices : (f g : Flat I) →
        IsFlat (AreSlicesAsAsked whole limit width natural fill options subject lines) whole f →
        IsFlat (AreSlicesAsAsked whole limit width natural fill options subject lines) whole g → f ≡ g
    same_slices f g a b = one_flat whole limit one a.shapes b.shapes f g
        (one_list_of_slices (asked_slices width natural fill options) (paths_of whole subject) (paths_of whole lines)
        a.shapes b.shapes (snapping a.shapes a.answer.sliced) (snapping b.shapes b.answer.sliced)) a.flattened
        b.flattened

  pub slices_are_asked_once : SlicesAreAskedOnce whole limit width natural
  slices_are_asked_once fill options subject lines snaps held others =
      written_once (IsUnknown 0 fill options) (AreKnown 0 fill options) (IsOneFaulty whole limit subject lines)
      (AreBothGiven whole limit subject lines)
      (both_apart whole limit subject lines (IsUnknown 0 fill options) (AreKnown 0 fill options)
      (one_unknown 0 fill options) (not_known 0 fill options))
      (λ e. AreGiven whole limit subject × (AreGiven whole limit lines
      × MayRefusePaths (solver_of options.solver) (shape_and_lines whole subject lines) e))
      (λ e m. (m.0, m.1.0)) (λ m. not_lines options.solver (shape_and_lines whole subject lines) snaps m.1.1)
      (IsFlat (AreSlicesAsAsked whole limit width natural fill options subject lines) whole)
      (λ f is. (is.answer.known, (is.answer.subject_given, is.answer.lines_given)))
      (λ f is m. light_lines whole options.solver subject lines is.answer.sliced.content is.answer.sliced.edges snaps
      is.answer.sliced.holds is.answer.sliced.arranged m.1.1)
      (same_slices fill options subject lines snaps) (AreHeld shape_arrays) (λ f old new s are. done_late s are.0)
      (λ f old new newer s t a b. (a.0 ∙ sym b.0, a.1 ∙ sym b.1)) _ held others
