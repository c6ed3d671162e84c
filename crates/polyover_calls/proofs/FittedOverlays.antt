-- Overlays that are computed at 32 bits, and their refusals.
use Rattle.std.proofs.Common.{◌≡◌, ◌<◌, ℕ, ℤ, List, map, refl, sym, ap₂, subst}
use Rattle.std.specs.Int.{Width, w64}
use Rattle.overlay_builder.specs.GivenPaths.{added_paths, subject_and_clip}
use Rattle.overlay_builder.specs.PathLists.{HoldsPaths}
use Rattle.overlay_extract.specs.Results.{asked}
use Rattle.overlay_geom.specs.Plane.{Point}
use Rattle.overlay_plane.specs.Islands.{ChildLink}
use Rattle.i_overlay.specs.Alone.{MayRefuseAlone}
use Rattle.polyover_calls.specs.Asked.{rule_of, fill_of, solver_of, options_of, keeps_given, AreChoices, AreKnown}
use Rattle.polyover_calls.specs.Asked.{IsUnknown}
use Rattle.polyover_calls.specs.Given.{Contours, contours_of, paths_given}
use Rattle.polyover_calls.specs.Hierarchies.{IsLinkedOverlay}
use Rattle.polyover_calls.specs.Linked.{LinkedFlat, AreFlatLinked, link_at}
use Rattle.polyover_calls.specs.Narrowed.{AreNarrowed, greatest_of_32_bits, without_minimum}
use Rattle.polyover_calls.specs.Overlays.{IsOverlay, IsOverlayRefused}
use Rattle.polyover_calls.specs.Written.{Flat, IsFlat}
use Rattle.polyover_calls.specs.declared.numbers.OptionNumbers.{OptionNumbers}
use Rattle.polyover_calls.specs.declared.status.Status.{Status}
use Rattle.polyover_calls.specs.declared.status.Status.TheVariants.{Done, Memory, BadEnds, OutOfRange}
use Rattle.polyover_calls.specs.declared.status.Status.TheVariants.{NotResolved, BadRule, BadFill, BadOption}
use Rattle.polyover_calls.specs.declared.status.Status.TheVariants.{NotSettled, TooManyEdges, TooSmall}
use Rattle.overlay_extract.proofs.AnyWidth.{result_at_width, hierarchy_at_width}
use Rattle.polyover_calls.proofs.Kept.{result_as_added, hierarchy_as_added}
use Rattle.polyover_calls.proofs.NarrowedAnswers.{shapes_back}
use Rattle.polyover_calls.proofs.NarrowedCalls.{paths_same, given_back, both_refused}

-- ---- the numbers

module _ {U : Type 0} (rule fill : ℕ) (o : OptionNumbers U) where
  choices_back : AreChoices (without_minimum o) → AreChoices o
  choices_back c = record { direction = c.direction; keep = c.keep; touching = c.touching; solver = c.solver }

  choices_on : AreChoices o → AreChoices (without_minimum o)
  choices_on c = record { direction = c.direction; keep = c.keep; touching = c.touching; solver = c.solver }

  pub known_back : AreKnown rule fill (without_minimum o) → AreKnown rule fill o
  known_back (r, (f, c)) = (r, (f, choices_back c))

  bad_option : (rule < 7) × ((fill < 4) × ¬ (AreChoices (without_minimum o))) →
      (rule < 7) × ((fill < 4) × ¬ (AreChoices o))
  bad_option (r, (f, none)) = (r, (f, λ c. none (choices_on c)))

  pub unknown_back : (s : Status) → IsUnknown rule fill (without_minimum o) s → IsUnknown rule fill o s
  unknown_back Done u = u
  unknown_back Memory u = u
  unknown_back BadEnds u = u
  unknown_back OutOfRange u = u
  unknown_back NotResolved u = u
  unknown_back BadRule u = u
  unknown_back BadFill u = u
  unknown_back BadOption u = bad_option u
  unknown_back NotSettled u = u
  unknown_back TooManyEdges u = u
  unknown_back TooSmall u = u

-- ---- overlays

module _ {I U : Type 0} (whole : I → ℤ) (limit rule fill : ℕ) (o : OptionNumbers U) (subject clip : Contours I)
    (ss cs : List ℤ) (s : AreNarrowed whole limit subject.coordinates ss)
    (c : AreNarrowed whole limit clip.coordinates cs) (n : OptionNumbers ℕ) (is : n ≡ without_minimum o) where
  abbrev narrow_subject : Contours ℤ
  narrow_subject = contours_of ss subject.ends

  abbrev narrow_clip : Contours ℤ
  narrow_clip = contours_of cs clip.ends

  same_paths : paths_given (λ z. z) narrow_subject narrow_clip ≡ paths_given whole subject clip
  same_paths = ap₂ subject_and_clip (paths_same whole limit subject ss s) (paths_same whole limit clip cs c)

  refused_back : (t : Status) →
      IsOverlayRefused (λ z. z) greatest_of_32_bits rule fill (without_minimum o) narrow_subject narrow_clip t →
      IsOverlayRefused whole limit rule fill o subject clip t
  refused_back = both_refused whole limit subject clip ss cs s c
      (IsUnknown rule fill (without_minimum o)) (IsUnknown rule fill o)
      (AreKnown rule fill (without_minimum o)) (AreKnown rule fill o)
      (MayRefuseAlone (keeps_given o) (solver_of o.solver) (paths_given (λ z. z) narrow_subject narrow_clip))
      (MayRefuseAlone (keeps_given o) (solver_of o.solver) (paths_given whole subject clip))
      (unknown_back rule fill o) (known_back rule fill o)
      (λ e. subst (λ ps. MayRefuseAlone (keeps_given o) (solver_of o.solver) ps e) same_paths)

  pub overlay_refused : (t : Status) →
      IsOverlayRefused (λ z. z) greatest_of_32_bits rule fill n narrow_subject narrow_clip t →
      IsOverlayRefused whole limit rule fill o subject clip t
  overlay_refused t r = refused_back t (subst
      (λ m. IsOverlayRefused (λ z. z) greatest_of_32_bits rule fill m narrow_subject narrow_clip t) is r)

  module _ (width : Width) (natural : U → ℕ) (zero : natural o.min_area ≡ 0) where
    abbrev is_narrow : List (List (List Point)) → Type 0
    is_narrow = IsOverlay (λ z. z) greatest_of_32_bits w64 (λ n. n) rule fill (without_minimum o) narrow_subject
        narrow_clip

    overlay_back : (shapes : List (List (List Point))) → is_narrow shapes →
        IsOverlay whole limit width natural rule fill o subject clip shapes
    overlay_back shapes a = record {
      known = known_back rule fill o a.known;
      subject_given = given_back whole limit subject ss s a.subject_given;
      clip_given = given_back whole limit clip cs c a.clip_given;
      is_result = result_as_added (keeps_given o) (solver_of o.solver)
          (asked width natural (fill_of fill) (rule_of rule) (options_of o)) (paths_given whole subject clip)
          a.is_result.content a.is_result.edges
          (subst (λ ps. HoldsPaths (added_paths (keeps_given o) ps) a.is_result.content) same_paths a.is_result.holds)
          a.is_result.arranged shapes
          (result_at_width (asked w64 (λ n. n) (fill_of fill) (rule_of rule) (options_of (without_minimum o)))
          (natural o.min_area) width refl zero a.is_result.edges shapes a.is_result.is_result);
    }

    abbrev is_given_narrow : List (List (List Point)) → Type 0
    is_given_narrow = IsOverlay (λ z. z) greatest_of_32_bits w64 (λ m. m) rule fill n narrow_subject narrow_clip

    by_narrow : (shapes : List (List (List Point))) → is_given_narrow shapes → is_narrow shapes
    by_narrow shapes = subst (λ m. IsOverlay (λ z. z) greatest_of_32_bits w64 (λ k. k) rule fill m narrow_subject
        narrow_clip shapes) is

    pub overlay_widened : (narrow : Flat ℤ) (flat : Flat I) → map whole flat.coordinates ≡ narrow.coordinates →
        flat.contour_ends ≡ narrow.contour_ends → flat.shape_ends ≡ narrow.shape_ends →
        IsFlat is_given_narrow (λ z. z) narrow →
        IsFlat (IsOverlay whole limit width natural rule fill o subject clip) whole flat
    overlay_widened narrow flat same same_contours same_shapes f = record {
      shapes = f.shapes;
      answer = overlay_back f.shapes (by_narrow f.shapes f.answer);
      flattened = shapes_back whole f.shapes narrow flat same same_contours same_shapes f.flattened;
    }

    pub overlay_not_widened : (narrow : Flat ℤ) (t : Status) → t ≡ Memory → IsFlat is_given_narrow (λ z. z) narrow →
        IsOverlayRefused whole limit rule fill o subject clip t
    overlay_not_widened narrow t memory f = subst (IsOverlayRefused whole limit rule fill o subject clip) (sym memory) (
      known_back rule fill o (by_narrow f.shapes f.answer).known,
      (
        given_back whole limit subject ss s f.answer.subject_given,
        (given_back whole limit clip cs c f.answer.clip_given, tt),
      ),
    )

    -- ---- with the links between their shapes

    abbrev is_narrow_linked : List (List (List Point)) → List ChildLink → Type 0
    is_narrow_linked = IsLinkedOverlay (λ z. z) greatest_of_32_bits w64 (λ n. n) rule fill (without_minimum o)
        narrow_subject narrow_clip

    hierarchy_back : (shapes : List (List (List Point))) (links : List ChildLink) → is_narrow_linked shapes links →
        IsLinkedOverlay whole limit width natural rule fill o subject clip shapes links
    hierarchy_back shapes links a = record {
      known = known_back rule fill o a.known;
      subject_given = given_back whole limit subject ss s a.subject_given;
      clip_given = given_back whole limit clip cs c a.clip_given;
      is_hierarchy = hierarchy_as_added (keeps_given o) (solver_of o.solver)
          (asked width natural (fill_of fill) (rule_of rule) (options_of o)) (paths_given whole subject clip)
          a.is_hierarchy.content a.is_hierarchy.edges
          (subst (λ ps. HoldsPaths (added_paths (keeps_given o) ps) a.is_hierarchy.content) same_paths
          a.is_hierarchy.holds)
          a.is_hierarchy.arranged shapes links
          (hierarchy_at_width (asked w64 (λ n. n) (fill_of fill) (rule_of rule) (options_of (without_minimum o)))
          (natural o.min_area) width refl zero a.is_hierarchy.edges shapes links a.is_hierarchy.is_hierarchy);
    }

    abbrev is_given_linked : List (List (List Point)) → List ChildLink → Type 0
    is_given_linked = IsLinkedOverlay (λ z. z) greatest_of_32_bits w64 (λ m. m) rule fill n narrow_subject narrow_clip

    by_linked : (shapes : List (List (List Point))) (links : List ChildLink) → is_given_linked shapes links →
        is_narrow_linked shapes links
    by_linked shapes links = subst (λ m. IsLinkedOverlay (λ z. z) greatest_of_32_bits w64 (λ k. k) rule fill m
        narrow_subject narrow_clip shapes links) is

    pub hierarchy_widened : (narrow : LinkedFlat ℤ) (flat : LinkedFlat I) →
        map whole flat.shapes.coordinates ≡ narrow.shapes.coordinates →
        flat.shapes.contour_ends ≡ narrow.shapes.contour_ends → flat.shapes.shape_ends ≡ narrow.shapes.shape_ends →
        flat.links ≡ narrow.links → AreFlatLinked is_given_linked (λ z. z) narrow →
        AreFlatLinked (IsLinkedOverlay whole limit width natural rule fill o subject clip) whole flat
    hierarchy_widened narrow flat same same_contours same_shapes same_links f = record {
      shapes = f.shapes;
      answer = subst (λ ls. IsLinkedOverlay whole limit width natural rule fill o subject clip f.shapes
          (map link_at ls)) (sym same_links) (hierarchy_back f.shapes (map link_at narrow.links)
          (by_linked f.shapes (map link_at narrow.links) f.answer));
      flattened = shapes_back whole f.shapes narrow.shapes flat.shapes same same_contours same_shapes f.flattened;
    }

    pub hierarchy_not_widened : (narrow : LinkedFlat ℤ) (t : Status) → t ≡ Memory →
        AreFlatLinked is_given_linked (λ z. z) narrow → IsOverlayRefused whole limit rule fill o subject clip t
    hierarchy_not_widened narrow t memory f = subst (IsOverlayRefused whole limit rule fill o subject clip)
        (sym memory) (
          known_back rule fill o (by_linked f.shapes (map link_at narrow.links) f.answer).known,
          (
            given_back whole limit subject ss s f.answer.subject_given,
            (given_back whole limit clip cs c f.answer.clip_given, tt),
          ),
        )
