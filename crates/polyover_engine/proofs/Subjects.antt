-- The contours of the subject, taken one by one.
use Rattle.std.proofs.Common.{◌≡◌, ℕ, ◌+◌, ◌<◌, ℤ, map, List, [], ◌∷◌, ◌++◌, length, get_or, take, drop, All}
use Rattle.std.proofs.Common.{take-append-drop, sym, ap, subst, ◌∙◌}
use Rattle.std.proofs.lemmas.List.{take_more, drop_more, flat_map_more, map_push}
use Rattle.std.proofs.lemmas.List.Elements.{All-append, All-nil, All-cons}
use Rattle.overlay_geom.specs.Plane.{Point}
use Rattle.overlay_geom.specs.Points.{AllInRange}
use Rattle.overlay_geom.specs.Resolved.{IsResolved}
use Rattle.overlay_geom.specs.declared.point.IntPoint.{IntPoint}
use Rattle.overlay_geom.specs.Numbers.{greatest_of_64_bits}
use Rattle.overlay_geom.specs.declared.options.ShapeType.TheVariants.{Subject}
use Rattle.polyover_text.specs.Points.{points_at}
use Rattle.polyover_text.specs.Grammar.{GivenContour}
use Rattle.polyover_engine.specs.declared.exit.Exit.{Exit}
use Rattle.polyover_engine.specs.declared.exit.Exit.TheVariants.{Answered, Refused, BadInput, Io}
use Rattle.polyover_engine.specs.Subjects.{subject_part, subject_of, IsSubject, HasNoSubject, AddsContour, IsNotAdded}

-- what the contours up to a place of the list give, one more than those before it
pub subject_so_far : (cs : List GivenContour) (k : ℕ) (c : GivenContour) → k < length cs → c ≡ get_or cs k c
    → (old new : List (List Point)) → old ≡ subject_of (take k cs)
    → new ≡ old ++ subject_part c.path.shape_type c.path.points → new ≡ subject_of (take (k + 1) cs)
subject_so_far cs k c within here old new shown added =
    added ∙ ap (λ l. l ++ subject_part c.path.shape_type c.path.points) shown
    ∙ flat_map_more (λ d. subject_part d.path.shape_type d.path.points) [] (take k cs) c
    ∙ ap subject_of (ap (λ x. take k cs ++ x ∷ []) here ∙ sym (take_more cs k c within))

module _ (cs : List GivenContour) (k : ℕ) (c : GivenContour) (old : List (List Point)) (h : IsSubject (take k cs) old)
    (within : k < length cs)
    (here : c ≡ get_or cs k c) where
  -- the next contour of the list is taken
  pub one_more_taken : (new : List (List Point)) → AddsContour c old new → IsSubject (take (k + 1) cs) new
  one_more_taken new adds = record {
    shown = subject_so_far cs k c within here old new h.shown adds.added;
    resolved = subst (All IsResolved) (sym adds.added)
        (All-append IsResolved old (subject_part c.path.shape_type c.path.points) h.resolved adds.resolved);
    in_range = subst (All (AllInRange greatest_of_64_bits)) (sym adds.added)
        (All-append (AllInRange greatest_of_64_bits) old (subject_part c.path.shape_type c.path.points) h.in_range
        adds.in_range);
  }

  -- or it ends the search
  pub contour_not_taken : (exit : Exit) → IsNotAdded c exit → HasNoSubject cs exit
  contour_not_taken Answered bad = absurd bad
  contour_not_taken (Refused e) bad = bad
  contour_not_taken (BadInput n) bad = record {
    before = take k cs;
    contour = c;
    after = drop (k + 1) cs;
    parts = sym (take-append-drop k cs)
        ∙ ap (λ l. take k cs ++ l) (drop_more cs k c within ∙ ap (λ x. x ∷ drop (k + 1) cs) (sym here));
    resolved = subst (All IsResolved) h.shown h.resolved;
    of_subject = bad.of_subject;
    unresolved = bad.unresolved;
    number = bad.number;
  }
  contour_not_taken Io bad = absurd bad

-- ---- one contour

module _ (c : GivenContour) (of_subject : c.path.shape_type ≡ Subject) where
  -- its points come last
  pub adds_pushed : (old new : List (List Point)) → new ≡ old ++ c.path.points ∷ [] → IsResolved c.path.points →
      AllInRange greatest_of_64_bits c.path.points
      → AddsContour c old new
  adds_pushed old new pushed resolved in_range = record {
    added = pushed ∙ ap (λ t. old ++ subject_part t c.path.points) (sym of_subject);
    resolved = subst (λ t. All IsResolved (subject_part t c.path.points)) (sym of_subject)
        (All-cons IsResolved c.path.points [] resolved (All-nil IsResolved));
    in_range = subst (λ t. All (AllInRange greatest_of_64_bits) (subject_part t c.path.points)) (sym of_subject)
        (All-cons (AllInRange greatest_of_64_bits) c.path.points [] in_range
        (All-nil (AllInRange greatest_of_64_bits)));
  }

-- the points of a list of lists, when one more list is pushed that holds a copy
pub points_pushed : {V : Type 0} (items : V → List (IntPoint ℤ)) (old new : List V) (v : V) (ps : List (IntPoint ℤ)) →
    new ≡ old ++ v ∷ [] → items v ≡ ps
    → map (λ d. points_at (items d)) new ≡ map (λ d. points_at (items d)) old ++ points_at ps ∷ []
points_pushed items old new v ps pushed copied =
    ap (map (λ d. points_at (items d))) pushed ∙ map_push (λ d. points_at (items d)) old v
    ∙ ap (λ l. map (λ d. points_at (items d)) old ++ points_at l ∷ []) copied
