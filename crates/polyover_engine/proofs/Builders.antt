-- A builder to which contours are added one by one.
use Rattle.std.proofs.Common.{◌≡◌, ℕ, ◌+◌, ◌^◌, ◌<◌, false, List, [], ◌∷◌, ◌++◌, length, get_or, take, drop}
use Rattle.std.proofs.Common.{take-append-drop, refl, sym, ap, subst, ◌∙◌, lit<, arith}
use Rattle.std.proofs.lemmas.List.{length-map, get_or-map, map-append, take_more, drop_more}
use Rattle.overlay_geom.specs.Edges.{AddsContour, CountedEdge, weight}
use Rattle.overlay_geom.specs.declared.error.OverlayError.{OverlayError}
use Rattle.overlay_geom.specs.declared.error.OverlayError.TheVariants.{Memory, NotSettled, TooManyEdges, Failed}
use Rattle.overlay_order.specs.Content.{edge_for}
use Rattle.overlay_builder.specs.GivenPaths.{ContourWeighsTooMuch, GivenPath, added_path}
use Rattle.overlay_builder.specs.GivenPaths.{added_paths}
use Rattle.i_overlay.specs.Builder.{Builder, IsNewBuilder}
use Rattle.overlay_builder.proofs.AddedContours.{of_contour}
use Rattle.overlay_builder.specs.PathLists.{AddsPaths, HoldsPaths, MayRefuseBuilder}
use Rattle.overlay_builder.specs.PathLists.AddsPaths.{no_path}
use Rattle.overlay_builder.proofs.PathLists.{adds_last}
use Rattle.polyover_text.specs.declared.figures.NumberedContour.{NumberedContour}
use Rattle.polyover_text.specs.Grammar.{contour_paths}
use Rattle.polyover_text.specs.Statements.{path_at, contour_at, contours_at}
use Rattle.polyover_engine.specs.Builders.{HasAdded}

pub no_path_held : (es : List CountedEdge) → es ≡ [] → HoldsPaths (added_paths false []) es
no_path_held es empty = subst (HoldsPaths (added_paths false [])) (sym empty)
    (record { added = no_path; light = lit< tt })

-- the contour at a place of the list that is held
pub given_here : {A : Type 0} (cs items : List (NumberedContour A)) (k : ℕ) (c : NumberedContour A) → items ≡ cs →
    k < length items → c ≡ get_or items k c
    → (k < length (contours_at cs)) × (contour_at c ≡ get_or (contours_at cs) k (contour_at c))
given_here cs items k c same within here = (
  omega (arith, length-map cs contour_at, ap length same),
  ap contour_at (here ∙ ap (λ l. get_or l k c) same)
      ∙ sym (get_or-map contour_at cs k c (contour_at c) (omega (arith, ap length same))),
)

pub contour_here : {A : Type 0} (cs items : List (NumberedContour A)) (k : ℕ) (c : NumberedContour A) → items ≡ cs →
    k < length items → c ≡ get_or items k c
    → (k < length (contour_paths (contours_at cs))) × (path_at c.contour ≡ get_or (contour_paths (contours_at cs)) k
    (path_at c.contour))
contour_here cs items k c same within here =
    let given = given_here cs items k c same within here in (
      omega (arith, length-map (contours_at cs) (λ d. d.path), given.0),
      ap (λ d. d.path) given.1 ∙ sym (get_or-map (λ d. d.path) (contours_at cs) k (contour_at c)
          (path_at c.contour) given.0),
    )

-- ---- the edges

module _ (cs : List GivenPath) (k : ℕ) (c : GivenPath) (old : List CountedEdge)
    (h : HoldsPaths (added_paths false (take k cs)) old) (within : k < length cs)
    (here : c ≡ get_or cs k c) where
  -- the next contour of the list is added
  pub one_more_held : (new : List CountedEdge) → AddsContour false (edge_for c.shape_type) c.points old new →
      weight new < 2 ^ 31 → HoldsPaths (added_paths false (take (k + 1) cs)) new
  one_more_held new adds light = record {
    added = subst (λ l. AddsPaths (added_paths false l) [] new) (ap (λ x. take k cs ++ x ∷ []) here
        ∙ sym (take_more cs k c within))
        (subst (λ l. AddsPaths l [] new) (sym (map-append (added_path false) (take k cs) (c ∷ [])))
        (adds_last (added_paths false (take k cs)) (added_path false c) [] old new h.added
        (of_contour false (edge_for c.shape_type) c.points old new adds)));
    light = light;
  }

  -- the contours before it, it, and those after it
  parted : cs ≡ take k cs ++ c ∷ drop (k + 1) cs
  parted = sym (take-append-drop k cs)
      ∙ ap (λ l. take k cs ++ l) (drop_more cs k c within ∙ ap (λ x. x ∷ drop (k + 1) cs) (sym here))

  -- a refusal of the next contour
  pub contour_refused : (e : OverlayError) → (e ≡ Failed → ⊥)
      → (e ≡ TooManyEdges → ContourWeighsTooMuch false c.shape_type c.points old)
      → (e ≡ NotSettled → ⊥)
      → MayRefuseBuilder (added_paths false cs) e
  contour_refused Memory failed heavy unsettled = tt
  contour_refused NotSettled failed heavy unsettled = absurd (unsettled refl)
  contour_refused TooManyEdges failed heavy unsettled = (
    old,
    record {
      path = added_path false c;
      added = record {
        before = added_paths false (take k cs);
        after = added_paths false (drop (k + 1) cs);
        parts = ap (added_paths false) parted ∙ map-append (added_path false) (take k cs) (c ∷ drop (k + 1) cs);
        added = h.added;
      };
      refused = heavy refl;
    },
  )
  contour_refused Failed failed heavy unsettled = absurd (failed refl)

-- ---- a builder for overlays

pub nothing_added : (b : Builder ℕ) → b.edges ≡ [] → IsNewBuilder (λ n. n) b → HasAdded [] b
nothing_added b empty made = record { holds = no_path_held b.edges empty; made = made }

pub one_more_added : (cs : List GivenPath) (k : ℕ) (c : GivenPath) (old new : Builder ℕ) → HasAdded (take k cs) old →
    k < length cs → c ≡ get_or cs k c
    → AddsContour old.options.preserve_input_collinear (edge_for c.shape_type) c.points old.edges new.edges
    → weight new.edges < 2 ^ 31 → new ≡ record old { edges = new.edges } → HasAdded (take (k + 1) cs) new
one_more_added cs k c old new h within here adds light kept = record {
  holds = one_more_held cs k c old.edges h.holds within here new.edges
      (subst (λ keep. AddsContour keep (edge_for c.shape_type) c.points old.edges new.edges)
      h.made.options.input_kept adds)
      light;
  made = subst (IsNewBuilder (λ n. n)) (sym kept)
      (record { ready = h.made.ready; options = h.made.options; buffer = h.made.buffer; by = h.made.by });
}
