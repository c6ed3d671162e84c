-- Simplifications that are computed at 32 bits, and their refusals.
use Rattle.std.proofs.Common.{◌≡◌, Bool, ℕ, ℤ, List, [], ◌∷◌, map, refl, sym, subst}
use Rattle.std.specs.Int.{Width, w64}
use Rattle.overlay_geom.specs.declared.options.ShapeType.TheVariants.{Subject}
use Rattle.overlay_geom.specs.Edges.{CountedEdge}
use Rattle.overlay_geom.specs.Plane.{Point}
use Rattle.overlay_geom.specs.declared.error.OverlayError.{OverlayError}
use Rattle.overlay_builder.specs.GivenPaths.{paths_for}
use Rattle.overlay_extract.specs.Results.{Asked, asked}
use Rattle.i_overlay.specs.Alone.{MayRefuseAlone}
use Rattle.i_overlay.specs.Simplified.{IsLeft, IsSimplified, IsSimplifiedAlone}
use Rattle.i_overlay.specs.declared.simplifying.outcome.Outcome.{Outcome}
use Rattle.i_overlay.specs.declared.simplifying.outcome.Outcome.TheVariants.{NotSimple, Empty, AsGiven, Reversed}
use Rattle.polyover_calls.specs.Asked.{rule_of, fill_of, solver_of, options_of, keeps_given, AreKnown, IsUnknown}
use Rattle.polyover_calls.specs.Given.{Contours, contours_of, paths_of, AreGiven, IsFaulty}
use Rattle.polyover_calls.specs.Narrowed.{AreNarrowed, greatest_of_32_bits, without_minimum}
use Rattle.polyover_calls.specs.Simplified.{IsSimplification, IsSimplifyingRefused}
use Rattle.polyover_calls.specs.Written.{Flat, IsFlat}
use Rattle.polyover_calls.specs.declared.fault.Fault.{Fault}
use Rattle.polyover_calls.specs.declared.numbers.OptionNumbers.{OptionNumbers}
use Rattle.polyover_calls.specs.declared.status.Status.{Status}
use Rattle.polyover_calls.specs.declared.status.Status.TheVariants.{Memory}
use Rattle.overlay_extract.proofs.AnyWidth.{at_width, result_at_width}
use Rattle.polyover_calls.proofs.FittedOverlays.{known_back, unknown_back}
use Rattle.polyover_calls.proofs.NarrowedAnswers.{shapes_back}
use Rattle.polyover_calls.proofs.NarrowedCalls.{paths_same, given_back, faulty_back, refused_so}

-- ---- at another width

module _ (q : Asked) (min : ℕ) (width : Width) (zero : q.min_output_area ≡ 0) (zero' : min ≡ 0) (keep : Bool)
    (es : List CountedEdge) (shapes : List (List (List Point))) where
  left_at_width : (o : Outcome) (ps : List Point) → IsLeft o q ps es shapes →
      IsLeft o (at_width q min width) ps es shapes
  left_at_width NotSimple ps left = result_at_width q min width zero zero' es shapes left
  left_at_width Empty ps left = left
  left_at_width AsGiven ps left = left
  left_at_width Reversed ps left = left

  simplified_at_width : (paths : List (List Point)) → IsSimplified q keep paths es shapes →
      IsSimplified (at_width q min width) keep paths es shapes
  simplified_at_width [] is = result_at_width q min width zero zero' es shapes is
  simplified_at_width (ps ∷ []) is = record {
    outcome = is.outcome;
    becomes = is.becomes;
    left = left_at_width is.outcome ps is.left;
    winds = λ _. is.winds zero;
    each_alone = λ _. is.each_alone zero;
  }
  simplified_at_width (ps ∷ rs ∷ paths) is = result_at_width q min width zero zero' es shapes is

-- ---- simplifications

module _ {I U : Type 0} (whole : I → ℤ) (limit fill : ℕ) (o : OptionNumbers U) (given : Contours I) (zs : List ℤ)
    (z : AreNarrowed whole limit given.coordinates zs) (n : OptionNumbers ℕ) (is : n ≡ without_minimum o) where
  abbrev narrow_given : Contours ℤ
  narrow_given = contours_of zs given.ends

  same_paths : paths_of (λ z. z) narrow_given ≡ paths_of whole given
  same_paths = paths_same whole limit given zs z

  abbrev narrow_may : OverlayError → Type 0
  narrow_may = MayRefuseAlone (keeps_given o) (solver_of o.solver) (paths_for Subject (paths_of (λ z. z) narrow_given))

  abbrev may : OverlayError → Type 0
  may = MayRefuseAlone (keeps_given o) (solver_of o.solver) (paths_for Subject (paths_of whole given))

  refused_back : (t : Status) →
      IsSimplifyingRefused (λ z. z) greatest_of_32_bits fill (without_minimum o) narrow_given t →
      IsSimplifyingRefused whole limit fill o given t
  refused_back = refused_so (IsUnknown 0 fill (without_minimum o)) (IsUnknown 0 fill o)
      (λ f. AreKnown 0 fill (without_minimum o) × IsFaulty (λ z. z) greatest_of_32_bits narrow_given f)
      (λ f. AreKnown 0 fill o × IsFaulty whole limit given f)
      (λ e. AreKnown 0 fill (without_minimum o) × (AreGiven (λ z. z) greatest_of_32_bits narrow_given × narrow_may e))
      (λ e. AreKnown 0 fill o × (AreGiven whole limit given × may e))
      (unknown_back 0 fill o) by_fault by_error
    where
      by_fault : (f : Fault) → AreKnown 0 fill (without_minimum o)
          × IsFaulty (λ z. z) greatest_of_32_bits narrow_given f → AreKnown 0 fill o × IsFaulty whole limit given f
      by_fault f (known, faulty) = (known_back 0 fill o known, faulty_back whole limit given zs z f faulty)

      by_error : (e : OverlayError) → AreKnown 0 fill (without_minimum o)
          × (AreGiven (λ z. z) greatest_of_32_bits narrow_given × narrow_may e) →
          AreKnown 0 fill o × (AreGiven whole limit given × may e)
      by_error e (known, (is_given, refused)) = (
        known_back 0 fill o known,
        (
          given_back whole limit given zs z is_given,
          subst (λ ps. MayRefuseAlone (keeps_given o) (solver_of o.solver) (paths_for Subject ps) e) same_paths refused,
        ),
      )

  pub simplifying_refused : (t : Status) →
      IsSimplifyingRefused (λ z. z) greatest_of_32_bits fill n narrow_given t →
      IsSimplifyingRefused whole limit fill o given t
  simplifying_refused t r = refused_back t
      (subst (λ m. IsSimplifyingRefused (λ k. k) greatest_of_32_bits fill m narrow_given t) is r)

  module _ (width : Width) (natural : U → ℕ) (zero : natural o.min_area ≡ 0) where
    abbrev narrow_asked : Asked
    narrow_asked = asked w64 (λ n. n) (fill_of fill) (rule_of 0) (options_of (without_minimum o))

    abbrev is_narrow : List (List (List Point)) → Type 0
    is_narrow = IsSimplification (λ z. z) greatest_of_32_bits w64 (λ n. n) fill (without_minimum o) narrow_given

    alone_back : (shapes : List (List (List Point))) →
        IsSimplifiedAlone (solver_of o.solver) narrow_asked (keeps_given o) (paths_of (λ z. z) narrow_given) shapes →
        IsSimplifiedAlone (solver_of o.solver) (asked width natural (fill_of fill) (rule_of 0) (options_of o))
        (keeps_given o) (paths_of (λ z. z) narrow_given) shapes
    alone_back shapes a = record {
      edges = a.edges;
      arranged = a.arranged;
      simplified = record {
        without_minimum = λ _. simplified_at_width narrow_asked (natural o.min_area) width refl zero (keeps_given o)
            a.edges shapes (paths_of (λ z. z) narrow_given) (a.simplified.without_minimum refl);
        with_minimum = λ some. absurd (some zero);
      };
      winds = λ _. a.winds refl;
    }

    abbrev is_given_narrow : List (List (List Point)) → Type 0
    is_given_narrow = IsSimplification (λ k. k) greatest_of_32_bits w64 (λ m. m) fill n narrow_given

    by_narrow : (shapes : List (List (List Point))) → is_given_narrow shapes → is_narrow shapes
    by_narrow shapes =
        subst (λ m. IsSimplification (λ k. k) greatest_of_32_bits w64 (λ k. k) fill m narrow_given shapes) is

    pub simplification_widened : (narrow : Flat ℤ) (flat : Flat I) → map whole flat.coordinates ≡ narrow.coordinates →
        flat.contour_ends ≡ narrow.contour_ends → flat.shape_ends ≡ narrow.shape_ends →
        IsFlat is_given_narrow (λ z. z) narrow →
        IsFlat (IsSimplification whole limit width natural fill o given) whole flat
    simplification_widened narrow flat same same_contours same_shapes f = record {
      shapes = f.shapes;
      answer = record {
        known = known_back 0 fill o (by_narrow f.shapes f.answer).known;
        are_given = given_back whole limit given zs z f.answer.are_given;
        simplified = subst (λ ps. IsSimplifiedAlone (solver_of o.solver)
            (asked width natural (fill_of fill) (rule_of 0) (options_of o)) (keeps_given o) ps f.shapes) same_paths
            (alone_back f.shapes (by_narrow f.shapes f.answer).simplified);
      };
      flattened = shapes_back whole f.shapes narrow flat same same_contours same_shapes f.flattened;
    }

    pub simplification_not_widened : (narrow : Flat ℤ) (t : Status) → t ≡ Memory →
        IsFlat is_given_narrow (λ z. z) narrow → IsSimplifyingRefused whole limit fill o given t
    simplification_not_widened narrow t memory f = subst (IsSimplifyingRefused whole limit fill o given) (sym memory) (
      known_back 0 fill o (by_narrow f.shapes f.answer).known,
      (given_back whole limit given zs z f.answer.are_given, tt),
    )
