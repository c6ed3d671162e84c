-- What a builder that is asked says of the arrays, and its refusals.
use Rattle.std.proofs.Common.{◌≡◌, ◌<◌, ℕ, ℤ, List, refl, ap, ap₂, subst, ◌∙◌}
use Rattle.std.specs.Prelude.{Ok, Err}
use Rattle.std.specs.Int.{Width}
use Rattle.overlay_graph.specs.Arranged.{IsArranged}
use Rattle.overlay_geom.specs.declared.fill_rule.FillRule.{FillRule}
use Rattle.overlay_geom.specs.declared.options.IntOverlayOptions.{IntOverlayOptions}
use Rattle.overlay_geom.specs.declared.overlay_rule.OverlayRule.{OverlayRule}
use Rattle.overlay_geom.specs.Flat.{shapes_in}
use Rattle.overlay_geom.specs.Plane.{Point}
use Rattle.overlay_geom.specs.declared.error.OverlayError.{OverlayError}
use Rattle.overlay_geom.specs.declared.flat.shapes.FlatShapesBuffer.{FlatShapesBuffer}
use Rattle.overlay_geom.specs.declared.solver.Solver.{Solver}
use Rattle.overlay_builder.specs.GivenPaths.{added_paths, subject_and_clip}
use Rattle.overlay_builder.specs.PathLists.{HoldsPaths, MayRefuseBuilder}
use Rattle.overlay_extract.specs.Results.{Asked, asked, IsResult}
use Rattle.i_overlay.specs.Alone.{MayRefuseAlone}
use Rattle.i_overlay.specs.Builder.{Builder, empty_builder, held_by}
use Rattle.i_overlay.specs.Queries.{BuilderExtracts}
use Rattle.i_overlay.specs.UsedUp.{GivesFlatShapes}
use Rattle.polyover_calls.specs.declared.fault.Fault.{Fault}
use Rattle.polyover_calls.proofs.Refusals.{unread, without_memory, unanswered}
use Rattle.polyover_calls.proofs.Kept.{result_as_added, query_refused_as_added, adding_refused_as_added}
use Rattle.polyover_calls.specs.Asked.{rule_of, fill_of, solver_of, options_of, keeps_given, AreChoices, AreKnown}
use Rattle.polyover_calls.specs.Asked.{IsUnknown}
use Rattle.polyover_calls.specs.Given.{Contours, paths_of, paths_given, AreGiven, AreUnread}
use Rattle.polyover_calls.specs.Overlays.{IsAskedOverlay, IsOverlay, IsOverlayRefused}
use Rattle.polyover_calls.specs.Statuses.{status_of_fault, status_of_error}
use Rattle.polyover_calls.specs.Written.{Flat, AreFlattened, IsFlat}
use Rattle.polyover_calls.specs.declared.numbers.OptionNumbers.{OptionNumbers}
use Rattle.polyover_calls.specs.declared.status.Status.{Status}
use Rattle.polyover_calls.specs.declared.status.Status.TheVariants.{Memory}

module _ {I U : Type 0} (whole : I → ℤ) (limit rule fill : ℕ) (options : OptionNumbers U)
    (subject clip : Contours I) where
  abbrev may : OverlayError → Type 0
  may = MayRefuseAlone (keeps_given options) (solver_of options.solver) (paths_given whole subject clip)

  abbrev are_known : Type 0
  are_known = AreKnown rule fill options

  abbrev is_unknown : Status → Type 0
  is_unknown = IsUnknown rule fill options

  abbrev is_refused : Status → Type 0
  is_refused = IsOverlayRefused whole limit rule fill options subject clip

  pub contours_refused : (f : Fault) → rule < 7 → fill < 4 → AreChoices options →
      AreUnread whole limit subject clip f → is_refused (status_of_fault f)
  contours_refused f known_rule known_fill known =
      unread whole limit is_unknown are_known subject clip may tt f (known_rule, (known_fill, known))

  -- ---- a builder of the contours

  module _ (o : IntOverlayOptions U) (p q : List (List Point)) (known_rule : rule < 7) (known_fill : fill < 4)
      (known : AreChoices options) (same_o : o ≡ options_of options) (s : AreGiven whole limit subject)
      (c : AreGiven whole limit clip) (same_p : p ≡ paths_of whole subject) (same_q : q ≡ paths_of whole clip) where
    pub adding_refused : (e : OverlayError) →
        MayRefuseBuilder (added_paths o.preserve_input_collinear (subject_and_clip p q)) e →
        is_refused (status_of_error e)
    adding_refused e refused = unanswered whole limit is_unknown are_known subject clip may (λ failed. failed) e
        (known_rule, (known_fill, known)) s c
        (adding_refused_as_added (keeps_given options) (solver_of options.solver) (paths_given whole subject clip) e
        (subst (λ x. MayRefuseBuilder (added_paths x.preserve_input_collinear (paths_given whole subject clip)) e)
        same_o
        (subst (λ paths. MayRefuseBuilder (added_paths o.preserve_input_collinear paths) e)
        (ap₂ subject_and_clip same_p same_q) refused)))

    pub overlay_asked : (r : OverlayRule) (f : FillRule) (t : Solver) (b : Builder U) → r ≡ rule_of rule →
        f ≡ fill_of fill → t ≡ solver_of options.solver →
        HoldsPaths (added_paths o.preserve_input_collinear (subject_and_clip p q)) b.edges →
        b ≡ record (empty_builder o t) { edges = b.edges } →
        IsAskedOverlay whole limit rule fill options subject clip r f b
    overlay_asked r f t b same_r same_f same_t holds made = record {
      known = (known_rule, (known_fill, known));
      subject_given = s;
      clip_given = c;
      rule_asked = same_r;
      fill_asked = same_f;
      options_asked = ap (λ m. m.options) made ∙ same_o;
      solver_asked = ap (λ m. m.solver) made ∙ same_t;
      ready = ap (λ m. m.failed) made;
      holds = subst (λ x. HoldsPaths (added_paths x.preserve_input_collinear (paths_given whole subject clip))
          b.edges) same_o
          (subst (λ paths. HoldsPaths (added_paths o.preserve_input_collinear paths) b.edges)
          (ap₂ subject_and_clip same_p same_q) holds);
    }

  -- ---- its answers

  module _ (r : OverlayRule) (f : FillRule) (b : Builder U)
      (is : IsAskedOverlay whole limit rule fill options subject clip r f b) where
    pub no_memory : (s : Status) → s ≡ Memory → is_refused s
    no_memory s = without_memory whole limit is_unknown are_known subject clip may tt s is.known is.subject_given
        is.clip_given

    pub query_refused : {V : Type 0} (new : Builder U) (e : OverlayError) →
        BuilderExtracts {V = V} limit b new (Err e) → is_refused (status_of_error e)
    query_refused {V = V} new e extracts = unanswered whole limit is_unknown are_known subject clip may
        (λ failed. failed) e is.known is.subject_given is.clip_given
        (query_refused_as_added {V = V} (keeps_given options) (solver_of options.solver)
        (paths_given whole subject clip) is.solver_asked limit (held_by b) (held_by new) e is.holds is.ready
        extracts.query)

    pub same_asked : (width : Width) (natural : U → ℕ) → asked width natural f r b.options
        ≡ asked width natural (fill_of fill) (rule_of rule) (options_of options)
    same_asked width natural = ap₂ (λ x y. asked width natural x y b.options) is.fill_asked is.rule_asked
        ∙ ap (asked width natural (fill_of fill) (rule_of rule)) is.options_asked

    -- ---- as flat lists

    pub flat_refused : {A : Type 0} (q : Asked) (e : OverlayError) →
        GivesFlatShapes {A = A} whole limit q b (Err e) → is_refused (status_of_error e)
    flat_refused {A = A} q e gives = query_refused {V = FlatShapesBuffer I A} gives.after e gives.extracts

    pub overlay_answered : {A : Type 0} (v : FlatShapesBuffer I A) (width : Width) (natural : U → ℕ) (flat : Flat I) →
        GivesFlatShapes whole limit (asked width natural f r b.options) b (Ok v) →
        AreFlattened whole (shapes_in whole v.points.items v.contour_ranges.items v.shape_ranges.items) flat →
        IsFlat (IsOverlay whole limit width natural rule fill options subject clip) whole flat
    overlay_answered v width natural flat gives flattened =
        let shapes = shapes_in whole v.points.items v.contour_ranges.items v.shape_ranges.items in
        record {
          shapes = shapes;
          answer = record {
            known = is.known;
            subject_given = is.subject_given;
            clip_given = is.clip_given;
            is_result = result_as_added (keeps_given options) (solver_of options.solver)
                (asked width natural (fill_of fill) (rule_of rule) (options_of options))
                (paths_given whole subject clip) b.edges gives.after.edges is.holds
                (subst (λ t. IsArranged t b.edges gives.after.edges) is.solver_asked gives.extracts.query.arranged)
                shapes
                (subst (λ a. IsResult a gives.after.edges shapes) (same_asked width natural) gives.is_result);
          };
          flattened = flattened;
        }
