-- What edges in arrays tell, and why there are none.
use Rattle.std.proofs.Common.{◌≡◌, ◌<◌, ℕ, ◌+◌, ℤ, List, [], ◌∷◌, ◌++◌, length, get_or, take, map, refl, sym}
use Rattle.std.proofs.Common.{ap, ap₂, subst, ◌∙◌}
use Rattle.std.specs.List.{flat_map}
use Rattle.std.proofs.lemmas.List.{map-append}
use Rattle.overlay_order.specs.Vectors.{Vector, plain_vector}
use Rattle.overlay_order.specs.declared.vector.DataVectorEdge.{DataVectorEdge}
use Rattle.overlay_geom.specs.declared.fill_rule.FillRule.{FillRule}
use Rattle.overlay_geom.specs.Plane.{Point}
use Rattle.overlay_geom.specs.declared.error.OverlayError.{OverlayError}
use Rattle.overlay_geom.specs.declared.solver.Solver.{Solver}
use Rattle.overlay_geom.proofs.JoinedLists.{joined_push}
use Rattle.overlay_geom.proofs.Mapped.{mapped_more}
use Rattle.overlay_builder.specs.GivenPaths.{subject_and_clip}
use Rattle.i_overlay.specs.OneShot.{AreEdgesOfPaths, MayRefusePaths}
use Rattle.polyover_calls.specs.declared.fault.Fault.{Fault}
use Rattle.polyover_calls.proofs.Refusals.{unread, without_memory, unanswered}
use Rattle.polyover_calls.specs.Asked.{fill_of, solver_of}
use Rattle.polyover_calls.specs.Given.{Contours, paths_of, paths_given, AreGiven, AreUnread}
use Rattle.polyover_calls.specs.Listed.{EdgeArrays, AreListed, AreEdgesIn, IsListingRefused, ends_of_vector}
use Rattle.polyover_calls.specs.Refusals.{AreQueryNumbers, IsUnknownQuery}
use Rattle.polyover_calls.specs.Statuses.{status_of_fault, status_of_error}
use Rattle.polyover_calls.specs.declared.status.Status.{Status}
use Rattle.polyover_calls.specs.declared.status.Status.TheVariants.{Memory}

module _ {I : Type 0} (whole : I → ℤ) (limit fill solver : ℕ) (subject clip : Contours I) where
  abbrev may : OverlayError → Type 0
  may = MayRefusePaths (solver_of solver) (paths_given whole subject clip)

  pub contours_unlisted : (f : Fault) → fill < 4 → solver < 2 → AreUnread whole limit subject clip f →
      IsListingRefused whole limit fill solver subject clip (status_of_fault f)
  contours_unlisted f known_fill known = unread whole limit (IsUnknownQuery fill solver) (AreQueryNumbers fill solver)
      subject clip may tt f (known_fill, known)

  pub memory_unlisted : (s : Status) → fill < 4 → solver < 2 → AreGiven whole limit subject →
      AreGiven whole limit clip → s ≡ Memory → IsListingRefused whole limit fill solver subject clip s
  memory_unlisted s known_fill known = without_memory whole limit (IsUnknownQuery fill solver)
      (AreQueryNumbers fill solver) subject clip may tt s (known_fill, known)

  pub listing_refused : (e : OverlayError) (t : Solver) (p q : List (List Point)) → fill < 4 → solver < 2 →
      AreGiven whole limit subject → AreGiven whole limit clip → t ≡ solver_of solver → p ≡ paths_of whole subject →
      q ≡ paths_of whole clip → MayRefusePaths t (subject_and_clip p q) e →
      IsListingRefused whole limit fill solver subject clip (status_of_error e)
  listing_refused e t p q known_fill known s c same_t same_p same_q refused =
      unanswered whole limit (IsUnknownQuery fill solver) (AreQueryNumbers fill solver) subject clip may
      (λ failed. failed) e (known_fill, known) s c
      (subst (λ y. MayRefusePaths y (paths_given whole subject clip) e) same_t
      (subst (λ paths. MayRefusePaths t paths e) (ap₂ subject_and_clip same_p same_q) refused))

  pub edges_answered : (f : FillRule) (t : Solver) (p q : List (List Point)) (vectors : List Vector)
      (arrays : EdgeArrays I) → fill < 4 → solver < 2 → AreGiven whole limit subject → AreGiven whole limit clip →
      f ≡ fill_of fill → t ≡ solver_of solver → p ≡ paths_of whole subject → q ≡ paths_of whole clip →
      AreEdgesOfPaths t f (subject_and_clip p q) vectors →
      AreListed whole vectors arrays → AreEdgesIn whole limit fill solver subject clip arrays
  edges_answered f t p q vectors arrays known_fill known s c same_f same_t same_p same_q are listed = record {
    known = (known_fill, known);
    subject_given = s;
    clip_given = c;
    vectors = vectors;
    answer = subst (λ y. AreEdgesOfPaths y (fill_of fill) (paths_given whole subject clip) vectors) same_t
        (subst (λ y. AreEdgesOfPaths t y (paths_given whole subject clip) vectors) same_f
        (subst (λ paths. AreEdgesOfPaths t f paths vectors) (ap₂ subject_and_clip same_p same_q) are));
    listed = listed;
  }

-- ---- one edge more

-- items that are pushed one by one
four_pushed : {X : Type 0} (xs : List X) (a b c d : X) →
    (((xs ++ a ∷ []) ++ b ∷ []) ++ c ∷ []) ++ d ∷ [] ≡ xs ++ a ∷ b ∷ c ∷ d ∷ []
four_pushed [] a b c d = refl
four_pushed (x ∷ xs) a b c d = ap (λ l. x ∷ l) (four_pushed xs a b c d)

pub one_edge_more : {I D : Type 0} (whole : I → ℤ) (edges : List (DataVectorEdge I D)) (i : ℕ)
    (e : DataVectorEdge I D) (old new : EdgeArrays I) → i < length edges → e ≡ get_or edges i e →
    AreListed whole (map (plain_vector whole) (take i edges)) old →
    new.coordinates ≡ (((old.coordinates ++ e.a.x ∷ []) ++ e.a.y ∷ []) ++ e.b.x ∷ []) ++ e.b.y ∷ [] →
    new.fills ≡ old.fills ++ e.fill ∷ [] →
    AreListed whole (map (plain_vector whole) (take (i + 1) edges)) new
one_edge_more whole edges i e old new within here h coordinates fills =
    let before = map (plain_vector whole) (take i edges) in
    let v = plain_vector whole e in
    let more = mapped_more (plain_vector whole) edges i e within here in
    record {
      coordinates = ap (map whole) (coordinates ∙ four_pushed old.coordinates e.a.x e.a.y e.b.x e.b.y)
          ∙ map-append whole old.coordinates (e.a.x ∷ e.a.y ∷ e.b.x ∷ e.b.y ∷ [])
          ∙ ap (λ xs. xs ++ ends_of_vector v) h.coordinates
          ∙ sym (ap (flat_map ends_of_vector) more ∙ joined_push ends_of_vector before v);
      fills = fills ∙ ap (λ xs. xs ++ e.fill ∷ []) h.fills
          ∙ sym (ap (map (λ (w : Vector). w.fill)) more ∙ map-append (λ (w : Vector). w.fill) before (v ∷ []));
    }
