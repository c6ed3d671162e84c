-- Locations are told in one way, of one shape and of two of the same contours; and of a shape without parts.
use Rattle.std.proofs.Common.{◌≡◌, ◌<◌, ⊎_elim, ℕ, ℤ, false, List, [], ◌∷◌, map, inl, inr, refl, sym, ap, ◌∙◌}
use Rattle.std.proofs.Common.{get_or, subst, arith}
use Rattle.std.proofs.lemmas.List.{get_or-map, length-map}
use Rattle.std.proofs.lemmas.Bool.{both_ways}
use Rattle.std.proofs.lemmas.List.Sorted.{IsPermutation-refl}
use Rattle.overlay_builder.proofs.LightPaths.{not_all_added}
use Rattle.overlay_builder.specs.GivenPaths.{GivenPath, added_paths, paths_for}
use Rattle.overlay_builder.specs.PathLists.{AddedPath, HoldsPaths, MayRefuseBuilder, SomePathWeighsTooMuch}
use Rattle.overlay_geom.specs.Edges.{CountedEdge}
use Rattle.overlay_geom.specs.Plane.{Point, PlanePoint, in_plane}
use Rattle.overlay_geom.specs.Points.{plain_points}
use Rattle.overlay_geom.specs.Rules.{is_filled}
use Rattle.overlay_geom.specs.declared.error.OverlayError.{OverlayError}
use Rattle.overlay_geom.specs.declared.options.ShapeType.TheVariants.{Subject}
use Rattle.overlay_located.proofs.OneLocation.{one_location, one_location_in_paths}
use Rattle.overlay_located.specs.GivenShapes.{GivenShape, TellsLocation}
use Rattle.overlay_sectors.specs.Located.{LiesIn}
use Rattle.overlay_located.specs.Located.{LiesInPaths}
use Rattle.overlay_relate.proofs.Answered.{answers_weaker}
use Rattle.overlay_relate.proofs.OneLocation.{one_list_of_answers}
use Rattle.overlay_relate.specs.Answers.{AnswersEach}
use Rattle.overlay_relate.specs.declared.location.PointLocation.{PointLocation}
use Rattle.overlay_relate.specs.declared.location.PointLocation.TheVariants.{Outside}
use Rattle.polyover_calls.proofs.EarlyFaults.{FaultsAreApart, done_late, one_telling}
use Rattle.polyover_calls.proofs.OneTest.{no_fault, one_fault}
use Rattle.polyover_calls.proofs.TwoRuns.{alike}
use Rattle.polyover_calls.specs.Arrays.{points_of, written_over}
use Rattle.polyover_calls.specs.Asked.{fill_of}
use Rattle.polyover_calls.specs.EachFault.{HandsOneFault}
use Rattle.polyover_calls.specs.Given.{Contours, paths_of, AreGiven, IsFaulty}
use Rattle.polyover_calls.specs.Located.{number_of}
use Rattle.polyover_calls.specs.declared.status.Status.{Status}
use Rattle.polyover_calls.specs.declared.status.Status.TheVariants.{Done, Memory}
use Rattle.polyover_located.proofs.Asking.{told_or_refused, one_refusal}
use Rattle.polyover_located.proofs.Bare.{bare_can_be_asked}
use Rattle.polyover_located.specs.Asked.{AreToldOf, ExactAskingEnds}
use Rattle.polyover_located.specs.Held.{ExactParts, no_parts, shape_of}
use Rattle.polyover_located.specs.Laws.{ExactAskingsAreOne, PreparedLocateOnce, BareIsOutside}
use Rattle.polyover_located.specs.Prepared.{AreExactPartsOf, ExactPreparingEnds, IsUnknownFill}

-- ---- one answer

-- the same is told of two shapes where whatever is told of each is so, and this is so of one location alone
told_alike : (R : PlanePoint → PointLocation → Type 0) →
    ((p : PlanePoint) (l m : PointLocation) → R p l → R p m → l ≡ m) → (s t : GivenShape) →
    ((p : PlanePoint) (l : PointLocation) → TellsLocation s p l → R p l) →
    ((p : PlanePoint) (l : PointLocation) → TellsLocation t p l → R p l) → (points : List Point)
    (told others : List ℕ) → AreToldOf s points told → AreToldOf t points others → told ≡ others
told_alike R one s t first second points told others a b = a.numbers
    ∙ ap (map number_of) (one_list_of_answers (λ q l. R (in_plane q) l) (λ q. one (in_plane q)) points a.locations
    b.locations (answers_weaker (λ q l. TellsLocation s (in_plane q) l) (λ q l. R (in_plane q) l)
    (λ q l. first (in_plane q) l) points a.locations a.lie)
    (answers_weaker (λ q l. TellsLocation t (in_plane q) l) (λ q l. R (in_plane q) l)
    (λ q l. second (in_plane q) l) points b.locations b.lie)) ∙ sym b.numbers

module _ {I : Type 0} (whole : I → ℤ) (limit : ℕ) (points : List I) (old new newer : List ℕ) (s t : Status)
    (p q : ExactParts) (R : PlanePoint → PointLocation → Type 0)
    (one : (r : PlanePoint) (l m : PointLocation) → R r l → R r m → l ≡ m)
    (of_first : (r : PlanePoint) (l : PointLocation) → TellsLocation (shape_of p) r l → R r l)
    (of_second : (r : PlanePoint) (l : PointLocation) → TellsLocation (shape_of q) r l → R r l) where
  asked_alike : ExactAskingEnds whole limit p points old new s → ExactAskingEnds whole limit q points old newer t →
      (s ≡ t) × (new ≡ newer)
  asked_alike (inl a) (inl b) =
      let first = a.1.1.1 in
      let second = b.1.1.1 in (
        a.0 ∙ sym b.0,
        first.written ∙ ap (λ ns. written_over ns old) (told_alike R one (shape_of p) (shape_of q) of_first of_second
            (plain_points whole (points_of points)) first.numbers second.numbers first.tell second.tell)
            ∙ sym second.written,
      )
  asked_alike (inl a) (inr b) = absurd (told_or_refused whole limit points old t a.1.0 a.1.1.0 b.1)
  asked_alike (inr a) (inl b) = absurd (told_or_refused whole limit points old s b.1.0 b.1.1.0 a.1)
  asked_alike (inr a) (inr b) = (one_refusal whole limit points old s t a.1 b.1, a.0 ∙ sym b.0)

pub askings_are_one : {I : Type 0} (whole : I → ℤ) (limit : ℕ) → ExactAskingsAreOne whole limit
askings_are_one whole limit p points old new newer s t =
    asked_alike whole limit points old new newer s t p p (LiesIn (is_filled (fill_of p.fill)) p.edges)
    (one_location (is_filled (fill_of p.fill)) p.edges) (λ r l told. told.edges) (λ r l told. told.edges)

-- ---- one shape

-- no path weighs too much among paths that a builder holds
light : (paths : List (AddedPath CountedEdge)) (content : List CountedEdge) → HoldsPaths paths content →
    ¬ (SomePathWeighsTooMuch paths)
light paths content holds stops =
    let stop = stops.1 in
    not_all_added paths stop.added.before stop.added.after stop.path stop.added.parts [] [] stops.0 content
    (IsPermutation-refl []) stop.added.added stop.refused holds.light holds.added

module _ {I : Type 0} (whole : I → ℤ) (limit fill : ℕ) (given : Contours I) where
  abbrev paths : List GivenPath
  paths = paths_for Subject (paths_of whole given)

  abbrev May : OverlayError → Type 0
  May e = AreGiven whole limit given × MayRefuseBuilder (added_paths false paths) e

  apart : FaultsAreApart (IsUnknownFill fill) (fill < 4) (IsFaulty whole limit given) (AreGiven whole limit given)
  apart = record {
    one_unknown = λ s t a b. a.0 ∙ sym b.0;
    not_known = λ s a less. let more = a.1 in omega (arith, more, less);
    one_own = λ f g. one_fault whole limit given.coordinates given.ends f g;
    not_given = λ f own are. no_fault whole limit given.coordinates given.ends are f own;
  }

  prepares_one_fault : HandsOneFault (ExactPreparingEnds whole limit fill given)
  prepares_one_fault p q s t = one_telling (IsUnknownFill fill) (fill < 4) (IsFaulty whole limit given)
      (AreGiven whole limit given) apart May (λ e m. m.0) (AreExactPartsOf whole limit fill given p) (p ≡ no_parts)
      (AreExactPartsOf whole limit fill given q) (q ≡ no_parts) (λ are. (are.known, are.are_given)) s t

  one_status : (p q : ExactParts) (s t : Status) → ExactPreparingEnds whole limit fill given p s →
      ExactPreparingEnds whole limit fill given q t → ¬ (s ≡ Memory) → ¬ (t ≡ Memory) → s ≡ t
  one_status p q s t a b kept kept' = ⊎_elim (λ both. both.0.0 ∙ sym both.1.0) (λ same. same.0)
      (alike (IsUnknownFill fill) (λ f. (fill < 4) × IsFaulty whole limit given f) (λ e. (fill < 4) × May e)
      (λ m. m.1.1) no_parts (λ r u. (u ≡ Done) × AreExactPartsOf whole limit fill given r)
      (λ r u told. done_late u told.0) (λ r u told m. light (added_paths false paths) r.edges told.1.shape.holds m.1.1)
      prepares_one_fault p q s t a b kept kept')

  one_shape : (p q : ExactParts) (points : List I) (old new newer : List ℕ) (s t : Status) →
      AreExactPartsOf whole limit fill given p → AreExactPartsOf whole limit fill given q →
      ExactAskingEnds whole limit p points old new s → ExactAskingEnds whole limit q points old newer t →
      (s ≡ t) × (new ≡ newer)
  one_shape p q points old new newer s t a b = asked_alike whole limit points old new newer s t p q
      (LiesInPaths (is_filled (fill_of fill)) paths) (one_location_in_paths (is_filled (fill_of fill)) paths)
      (λ r l told. told.paths (fill_of fill) paths a.shape) (λ r l told. told.paths (fill_of fill) paths b.shape)

pub prepared_locate_once : {I : Type 0} (whole : I → ℤ) (limit : ℕ) → PreparedLocateOnce whole limit
prepared_locate_once whole limit = record { status = one_status whole limit; asked = one_shape whole limit }

-- ---- without parts

outside_bare : (p : PlanePoint) → LiesIn (is_filled (fill_of 0)) [] p Outside
outside_bare p = (0, λ q within near. both_ways false refl within.1)

-- each point has the answer Outside
all_outside : (points : List Point) →
    AnswersEach (λ q l. LiesIn (is_filled (fill_of 0)) [] (in_plane q) l) points (map (λ p. Outside) points)
all_outside points = record {
  counted = length-map points (λ p. Outside);
  each = λ n d e lt. subst (LiesIn (is_filled (fill_of 0)) [] (in_plane (get_or points n d)))
      (sym (get_or-map (λ p. Outside) points n d e lt)) (outside_bare (in_plane (get_or points n d)));
}

all_zero : (points : List Point) → map number_of (map (λ p. Outside) points) ≡ map (λ p. 0) points
all_zero [] = refl
all_zero (p ∷ ps) = ap (λ ns. 0 ∷ ns) (all_zero ps)

pub bare_is_outside : BareIsOutside
bare_is_outside = record {
  can = bare_can_be_asked;
  outside = λ points told are. are.numbers
      ∙ ap (map number_of) (one_list_of_answers (λ q l. LiesIn (is_filled (fill_of 0)) [] (in_plane q) l)
      (λ q. one_location (is_filled (fill_of 0)) [] (in_plane q)) points are.locations (map (λ p. Outside) points)
      (answers_weaker (λ q l. TellsLocation (shape_of no_parts) (in_plane q) l)
      (λ q l. LiesIn (is_filled (fill_of 0)) [] (in_plane q) l) (λ q l t. t.edges) points are.locations are.lie)
      (all_outside points)) ∙ all_zero points;
}
