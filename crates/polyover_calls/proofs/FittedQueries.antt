-- Clips, slices, edges and relations that are computed at 32 bits, and their refusals.
use Rattle.std.proofs.Common.{◌≡◌, ℕ, ℤ, List, map, sym, ap₂, subst, ◌∙◌}
use Rattle.std.specs.Int.{Width, w64}
use Rattle.std.specs.Prelude.{MatchResult, Result, Ok, Err}
use Rattle.overlay_geom.specs.declared.options.ContourDirection.TheVariants.{CounterClockwise}
use Rattle.overlay_geom.specs.Plane.{Point}
use Rattle.overlay_geom.specs.declared.error.OverlayError.{OverlayError}
use Rattle.overlay_builder.specs.GivenPaths.{subject_and_clip}
use Rattle.overlay_builder.specs.PathLists.{HoldsPaths}
use Rattle.overlay_string.specs.OneShot.{AreClippedOfPaths, shape_and_strings, MayRefusePaths as MayRefuseStrings}
use Rattle.overlay_string.specs.StringSlices.{AreSlicedOfPaths}
use Rattle.i_overlay.specs.OneShot.{AreEdgesOfPaths, MayRefusePaths}
use Rattle.i_overlay.specs.Relations.{AreRelationsOfPaths}
use Rattle.polyover_calls.specs.Asked.{fill_of, solver_of}
use Rattle.polyover_calls.specs.Clipped.{AreClips, AreClipNumbers, IsClipRefused, IsUnknownClip, clip_rule_of}
use Rattle.polyover_calls.specs.Given.{Contours, contours_of, paths_given}
use Rattle.polyover_calls.specs.Lines.{shape_and_lines}
use Rattle.polyover_calls.specs.Listed.{AreEdgesIn, EdgeArrays, IsListingRefused}
use Rattle.polyover_calls.specs.Narrowed.{AreNarrowed, greatest_of_32_bits}
use Rattle.polyover_calls.specs.Refusals.{AreQueryNumbers, IsQueryRefused, IsUnknownQuery}
use Rattle.polyover_calls.specs.Related.{AreRelated, IsRelatingRefused}
use Rattle.polyover_calls.specs.Sliced.{AreSlices, IsSlicingRefused}
use Rattle.polyover_calls.specs.Written.{Flat, IsFlat}
use Rattle.polyover_calls.specs.WrittenPaths.{FlatPaths, AreFlatPaths}
use Rattle.polyover_calls.specs.declared.clip_options.ClipOptions.{ClipOptions}
use Rattle.polyover_calls.specs.declared.status.Status.{Status}
use Rattle.polyover_calls.specs.declared.status.Status.TheVariants.{Memory}
use Rattle.overlay_extract.proofs.AnyWidth.{slices_at_width}
use Rattle.polyover_calls.proofs.NarrowedAnswers.{shapes_back, paths_back}
use Rattle.polyover_calls.proofs.NarrowedCalls.{paths_same, given_back, both_refused}
use Rattle.std.proofs.lemmas.List.{map-id}

-- an outcome of one kind is one of another that follows from it
pub match_back : {X Y : Type 0} {P Q : X → Type 0} {R S : Y → Type 0} → ((x : X) → P x → Q x) →
    ((y : Y) → R y → S y) → (r : Result X Y) → MatchResult r P R → MatchResult r Q S
match_back f h (Ok x) m = f x m
match_back f h (Err y) m = h y m

module _ {I : Type 0} (whole : I → ℤ) (limit fill : ℕ) (first second : Contours I) (ps qs : List ℤ)
    (p : AreNarrowed whole limit first.coordinates ps) (q : AreNarrowed whole limit second.coordinates qs) where
  abbrev narrow_first : Contours ℤ
  narrow_first = contours_of ps first.ends

  abbrev narrow_second : Contours ℤ
  narrow_second = contours_of qs second.ends

  same_lines : shape_and_lines (λ z. z) narrow_first narrow_second ≡ shape_and_lines whole first second
  same_lines = ap₂ shape_and_strings (paths_same whole limit first ps p) (paths_same whole limit second qs q)

  same_paths : paths_given (λ z. z) narrow_first narrow_second ≡ paths_given whole first second
  same_paths = ap₂ subject_and_clip (paths_same whole limit first ps p) (paths_same whole limit second qs q)

  same_exchanged : paths_given (λ z. z) narrow_second narrow_first ≡ paths_given whole second first
  same_exchanged = ap₂ subject_and_clip (paths_same whole limit second qs q) (paths_same whole limit first ps p)

  -- ---- clips

  module _ (options : ClipOptions) where
    pub clip_refused : (s : Status) →
        IsClipRefused (λ z. z) greatest_of_32_bits fill options narrow_first narrow_second s →
        IsClipRefused whole limit fill options first second s
    clip_refused = both_refused whole limit first second ps qs p q
        (IsUnknownClip fill options) (IsUnknownClip fill options)
        (AreClipNumbers fill options) (AreClipNumbers fill options)
        (MayRefuseStrings (solver_of options.solver) (shape_and_lines (λ z. z) narrow_first narrow_second))
        (MayRefuseStrings (solver_of options.solver) (shape_and_lines whole first second))
        (λ s u. u) (λ k. k) (λ e. subst (λ xs. MayRefuseStrings (solver_of options.solver) xs e) same_lines)

    abbrev are_narrow_clips : List (List Point) → Type 0
    are_narrow_clips = AreClips (λ z. z) greatest_of_32_bits fill options narrow_first narrow_second

    pub clips_widened : (narrow : FlatPaths ℤ) (flat : FlatPaths I) → map whole flat.coordinates ≡ narrow.coordinates →
        flat.ends ≡ narrow.ends → AreFlatPaths are_narrow_clips (λ z. z) narrow →
        AreFlatPaths (AreClips whole limit fill options first second) whole flat
    clips_widened narrow flat same same_ends f = record {
      paths = f.paths;
      answer = record {
        known = f.answer.known;
        shape_given = given_back whole limit first ps p f.answer.shape_given;
        lines_given = given_back whole limit second qs q f.answer.lines_given;
        clipped = subst (λ xs. AreClippedOfPaths (solver_of options.solver) (fill_of fill) (clip_rule_of options) xs
            f.paths) same_lines f.answer.clipped;
      };
      flattened = paths_back whole f.paths narrow flat same same_ends f.flattened;
    }

    pub clips_not_widened : (narrow : FlatPaths ℤ) (t : Status) → t ≡ Memory →
        AreFlatPaths are_narrow_clips (λ z. z) narrow → IsClipRefused whole limit fill options first second t
    clips_not_widened narrow t is f = subst (IsClipRefused whole limit fill options first second) (sym is) (
      f.answer.known,
      (
        given_back whole limit first ps p f.answer.shape_given,
        (given_back whole limit second qs q f.answer.lines_given, tt),
      ),
    )

  -- ---- slices, edges and relations

  module _ (solver : ℕ) where
    query_refused : (may may' : OverlayError → Type 0) → ((e : OverlayError) → may e → may' e) → (s : Status) →
        IsQueryRefused (λ z. z) greatest_of_32_bits fill solver narrow_first narrow_second may s →
        IsQueryRefused whole limit fill solver first second may' s
    query_refused may may' = both_refused whole limit first second ps qs p q
        (IsUnknownQuery fill solver) (IsUnknownQuery fill solver)
        (AreQueryNumbers fill solver) (AreQueryNumbers fill solver) may may' (λ s u. u) (λ k. k)

    pub slicing_refused : (s : Status) →
        IsSlicingRefused (λ z. z) greatest_of_32_bits fill solver narrow_first narrow_second s →
        IsSlicingRefused whole limit fill solver first second s
    slicing_refused = query_refused
        (MayRefuseStrings (solver_of solver) (shape_and_lines (λ z. z) narrow_first narrow_second))
        (MayRefuseStrings (solver_of solver) (shape_and_lines whole first second))
        (λ e. subst (λ xs. MayRefuseStrings (solver_of solver) xs e) same_lines)

    pub listing_refused : (s : Status) →
        IsListingRefused (λ z. z) greatest_of_32_bits fill solver narrow_first narrow_second s →
        IsListingRefused whole limit fill solver first second s
    listing_refused = query_refused
        (MayRefusePaths (solver_of solver) (paths_given (λ z. z) narrow_first narrow_second))
        (MayRefusePaths (solver_of solver) (paths_given whole first second))
        (λ e. subst (λ xs. MayRefusePaths (solver_of solver) xs e) same_paths)

    pub relating_refused : (s : Status) →
        IsRelatingRefused (λ z. z) greatest_of_32_bits fill solver narrow_first narrow_second s →
        IsRelatingRefused whole limit fill solver first second s
    relating_refused = listing_refused

    module _ (width : Width) where
      abbrev are_narrow_slices : List (List (List Point)) → Type 0
      are_narrow_slices = AreSlices (λ z. z) greatest_of_32_bits w64 fill solver narrow_first narrow_second

      sliced_back : (shapes : List (List (List Point))) →
          AreSlicedOfPaths (solver_of solver) w64 (fill_of fill)
          (shape_and_lines (λ z. z) narrow_first narrow_second) shapes →
          AreSlicedOfPaths (solver_of solver) width (fill_of fill) (shape_and_lines whole first second) shapes
      sliced_back shapes a = record {
        content = a.content;
        holds = subst (λ xs. HoldsPaths xs a.content) same_lines a.holds;
        sliced = record {
          arrangement = a.sliced.arrangement;
          arranged = a.sliced.arranged;
          sliced = slices_at_width w64 width (fill_of fill) CounterClockwise a.sliced.arrangement shapes
              a.sliced.sliced;
        };
        winds = λ shape strings is. a.winds shape strings (same_lines ∙ is);
      }

      pub slices_widened : (narrow : Flat ℤ) (flat : Flat I) → map whole flat.coordinates ≡ narrow.coordinates →
          flat.contour_ends ≡ narrow.contour_ends → flat.shape_ends ≡ narrow.shape_ends →
          IsFlat are_narrow_slices (λ z. z) narrow →
          IsFlat (AreSlices whole limit width fill solver first second) whole flat
      slices_widened narrow flat same same_contours same_shapes f = record {
        shapes = f.shapes;
        answer = record {
          known = f.answer.known;
          subject_given = given_back whole limit first ps p f.answer.subject_given;
          lines_given = given_back whole limit second qs q f.answer.lines_given;
          sliced = sliced_back f.shapes f.answer.sliced;
        };
        flattened = shapes_back whole f.shapes narrow flat same same_contours same_shapes f.flattened;
      }

      pub slices_not_widened : (narrow : Flat ℤ) (t : Status) → t ≡ Memory → IsFlat are_narrow_slices (λ z. z) narrow →
          IsSlicingRefused whole limit fill solver first second t
      slices_not_widened narrow t is f = subst (IsSlicingRefused whole limit fill solver first second) (sym is) (
        f.answer.known,
        (
          given_back whole limit first ps p f.answer.subject_given,
          (given_back whole limit second qs q f.answer.lines_given, tt),
        ),
      )

    abbrev are_narrow_edges : EdgeArrays ℤ → Type 0
    are_narrow_edges = AreEdgesIn (λ z. z) greatest_of_32_bits fill solver narrow_first narrow_second

    pub edges_widened : (narrow : EdgeArrays ℤ) (flat : EdgeArrays I) →
        map whole flat.coordinates ≡ narrow.coordinates → flat.fills ≡ narrow.fills → are_narrow_edges narrow →
        AreEdgesIn whole limit fill solver first second flat
    edges_widened narrow flat same same_fills f = record {
      known = f.known;
      subject_given = given_back whole limit first ps p f.subject_given;
      clip_given = given_back whole limit second qs q f.clip_given;
      vectors = f.vectors;
      answer = subst (λ xs. AreEdgesOfPaths (solver_of solver) (fill_of fill) xs f.vectors) same_paths f.answer;
      listed = record {
        coordinates = same ∙ sym (map-id narrow.coordinates) ∙ f.listed.coordinates;
        fills = same_fills ∙ f.listed.fills;
      };
    }

    pub edges_not_widened : (narrow : EdgeArrays ℤ) (t : Status) → t ≡ Memory → are_narrow_edges narrow →
        IsListingRefused whole limit fill solver first second t
    edges_not_widened narrow t is f = subst (IsListingRefused whole limit fill solver first second) (sym is) (
      f.known,
      (
        given_back whole limit first ps p f.subject_given,
        (given_back whole limit second qs q f.clip_given, tt),
      ),
    )

    pub relations_widened : (sum : ℕ) →
        AreRelated (λ z. z) greatest_of_32_bits fill solver narrow_first narrow_second sum →
        AreRelated whole limit fill solver first second sum
    relations_widened sum r = record {
      known = r.known;
      subject_given = given_back whole limit first ps p r.subject_given;
      clip_given = given_back whole limit second qs q r.clip_given;
      relations = r.relations;
      hold = subst (λ xs. AreRelationsOfPaths (solver_of solver) (fill_of fill) (paths_given whole first second) xs
          r.relations) same_exchanged (subst (λ xs. AreRelationsOfPaths (solver_of solver) (fill_of fill) xs
          (paths_given (λ z. z) narrow_second narrow_first) r.relations) same_paths r.hold);
      bits = r.bits;
    }
