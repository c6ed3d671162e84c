-- Paths added to a builder for strings, and what a clip answers of them.
use Rattle.std.proofs.Common.{◌≡◌, ◌⊎◌, inl, inr, ℕ, ◌+◌, ◌<◌, lit<, true, false, List, [], ◌∷◌, ◌++◌, length}
use Rattle.std.proofs.Common.{get_or, take, drop}
use Rattle.std.proofs.Common.{take-append-drop, append-nil, refl, sym, ap, subst, ◌∙◌}
use Rattle.std.proofs.lemmas.Bool.{false≢true}
use Rattle.std.proofs.lemmas.Grind.{flat_map-append}
use Rattle.std.proofs.lemmas.List.{take_more, map-append, flat_map_more}
use Rattle.std.specs.Prelude.{◌↔◌, Result, Ok, Err, IfOk, IfErr, IsErrOf, MatchResult}
use Rattle.overlay_geom.specs.Edges.{CountedEdge, weight}
use Rattle.overlay_geom.specs.Plane.{Point}
use Rattle.overlay_geom.specs.declared.error.OverlayError.{OverlayError}
use Rattle.overlay_geom.specs.declared.error.OverlayError.TheVariants.{Memory, NotSettled, TooManyEdges, Failed}
use Rattle.overlay_geom.specs.declared.solver.Solver.TheVariants.{Rounds}
use Rattle.overlay_geom.specs.declared.fill_rule.FillRule.{FillRule}
use Rattle.overlay_graph.specs.Arranged.{MayRefuseSplitting}
use Rattle.overlay_builder.specs.PathLists.{AddedPath, MayRefusePath, HoldsPaths, MayRefuseBuilder}
use Rattle.overlay_builder.specs.PathLists.AddsPaths.{no_path}
use Rattle.overlay_builder.proofs.BuilderCalls.{refusal_of_path}
use Rattle.overlay_builder.proofs.PathLists.{adds_last}
use Rattle.overlay_string.specs.ClipPaths.{AreClipped}
use Rattle.overlay_string.specs.OneShot.{AreClippedOfPaths, MayRefusePaths}
use Rattle.overlay_string.specs.StringBuilder.{StringBuilder, held_by, StringBuilderAddsOne}
use Rattle.overlay_string.specs.StringPaths.{shape_contour, shape_contours}
use Rattle.overlay_string.specs.declared.clip_rule.ClipRule.{ClipRule}
use Rattle.overlay_string.proofs.OneShots.{clip_refused}
use Rattle.overlay_string.proofs.TwoSources.{first_paths_refused}
use Rattle.polyover_text.specs.Grammar.{GivenContour}
use Rattle.polyover_engine.specs.Clips.{HoldsJust, AddsToHeld}
use Rattle.polyover_engine.specs.Subjects.{subject_part, subject_of}

-- ---- one path more, or none

pub nothing_held : (b : StringBuilder ℕ) → b.edges ≡ [] → b.failed ≡ false → HoldsJust [] b
nothing_held b empty ready = record {
  holds = subst (HoldsPaths []) (sym empty) (record { added = no_path; light = lit< tt });
  ready = ready;
}

pub adds_path : {V : Type 0} (path : AddedPath CountedEdge) (old new : StringBuilder ℕ) (r : Result V OverlayError) →
    StringBuilderAddsOne path old new r → AddsToHeld (path ∷ []) old new r
adds_path path old new (Ok v) e = λ before h. record {
  holds = record {
    added = adds_last before path [] old.edges new.edges h.holds.added e.added.ok;
    light = e.added.light;
  };
  ready = ap (λ b. b.failed) e.kept ∙ h.ready;
}
adds_path path old new (Err error) e = λ before h.
    either before h (refusal_of_path weight path (held_by old) (held_by new) error e.added)
  where
    by : (before : List (AddedPath CountedEdge)) → HoldsJust before old → (error : OverlayError) →
        MayRefusePath weight path old.edges error → MayRefuseBuilder (before ++ path ∷ []) error
    by before h Memory may = tt
    by before h NotSettled may = may
    by before h TooManyEdges may = (
      old.edges,
      record {
        path = path;
        added = record { before = before; after = []; parts = refl; added = h.holds.added };
        refused = may;
      },
    )
    by before h Failed may = may

    either : (before : List (AddedPath CountedEdge)) → HoldsJust before old →
        ((error ≡ Failed) ⊎ MayRefusePath weight path old.edges error) → MayRefuseBuilder (before ++ path ∷ []) error
    either before h (inl same) = absurd (false≢true (sym h.ready ∙ e.added.failed.0 (ap Err same)))
    either before h (inr may) = by before h error may

pub adds_no_path : {V : Type 0} (b : StringBuilder ℕ) (v : V) → AddsToHeld {V = V} [] b b (Ok v)
adds_no_path b v = λ before h. subst (λ paths. HoldsJust paths b) (sym (append-nil before)) h

-- ---- the contours of the subject

module _ (cs : List GivenContour) (k : ℕ) (c : GivenContour) (within : k < length cs) (here : c ≡ get_or cs k c) where
  -- what the next contour adds to the subject
  abbrev pub part_of : List (List Point)
  part_of = subject_part c.path.shape_type c.path.points

  -- what the contours before it and it add
  so_far : shape_contours (subject_of (take k cs)) ++ shape_contours part_of
      ≡ shape_contours (subject_of (take (k + 1) cs))
  so_far = sym (map-append shape_contour (subject_of (take k cs)) part_of)
      ∙ ap shape_contours (flat_map_more (λ d. subject_part d.path.shape_type d.path.points) [] (take k cs) c
      ∙ ap subject_of (ap (λ x. take k cs ++ x ∷ []) here ∙ sym (take_more cs k c within)))

  -- the next contour is added
  pub one_more_shape : (b : StringBuilder ℕ) →
      HoldsJust (shape_contours (subject_of (take k cs)) ++ shape_contours part_of) b
      → HoldsJust (shape_contours (subject_of (take (k + 1) cs))) b
  one_more_shape b h = subst (λ paths. HoldsJust paths b) so_far h

  -- or refused, with others after it
  pub shape_refused : (e : OverlayError) →
      MayRefuseBuilder (shape_contours (subject_of (take k cs)) ++ shape_contours part_of) e
      → MayRefuseBuilder (shape_contours (subject_of cs)) e
  shape_refused e may =
      let before = take (k + 1) cs in
      let after = drop (k + 1) cs in
      let all : shape_contours (subject_of before) ++ shape_contours (subject_of after)
      ≡ shape_contours (subject_of cs) =
      sym (map-append shape_contour (subject_of before) (subject_of after))
      ∙ ap shape_contours (sym (flat_map-append (λ d. subject_part d.path.shape_type d.path.points) before after)
      ∙ ap subject_of (take-append-drop (k + 1) cs)) in
      subst (λ paths. MayRefuseBuilder paths e) all
      (first_paths_refused (shape_contours (subject_of before)) (shape_contours (subject_of after)) e
      (subst (λ paths. MayRefuseBuilder paths e) so_far may))

-- ---- the clip

-- what a clip answers of the paths that a builder holds
pub clip_answered : {V : Type 0} (shown : V → List (List Point)) (fill : FillRule) (rule : ClipRule)
    (paths : List (AddedPath CountedEdge)) (b : StringBuilder ℕ) → HoldsJust paths b → (r : Result V OverlayError)
    → IfOk r (λ v. AreClipped Rounds fill rule b.edges (shown v)) → (IsErrOf r Failed ↔ (b.failed ≡ true))
    → IfErr r (λ e. (e ≡ Failed) ⊎ MayRefuseSplitting Rounds b.edges e)
    → MatchResult r (λ v. AreClippedOfPaths Rounds fill rule paths (shown v)) (λ e. MayRefusePaths Rounds paths e)
clip_answered shown fill rule paths b h (Ok v) clipped failed refused =
    record { content = b.edges; holds = h.holds; clipped = clipped }
clip_answered shown fill rule paths b h (Err e) clipped failed refused =
    clip_refused Rounds paths b.edges b.failed h.holds h.ready (Err e) failed refused
