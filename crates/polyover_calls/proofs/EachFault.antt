-- Each call tells one fault of its arguments.
use Rattle.std.proofs.Common.{◌≡◌, ◌⊎◌, inl, inr, ℕ, ◌<◌, ◌≤◌, ℤ, List, refl, sym, ap, ◌∙◌, arith}
use Rattle.std.specs.Int.{Width}
use Rattle.i_overlay.specs.OneShot.{MayRefusePaths}
use Rattle.overlay_builder.specs.GivenPaths.{paths_for}
use Rattle.overlay_geom.specs.declared.options.ShapeType.TheVariants.{Subject}
use Rattle.overlay_geom.specs.declared.error.OverlayError.{OverlayError}
use Rattle.overlay_relate.specs.Prepared.{MayRefusePreparing}
use Rattle.i_overlay.specs.Alone.{MayRefuseAlone}
use Rattle.overlay_string.specs.OneShot.{MayRefusePaths as MayRefuseStrings}
use Rattle.overlay_tiles.specs.Tiles.{MayRefuseTiles}
use Rattle.polyover_calls.specs.Asked.{solver_of, keeps_given, AreKnown, IsUnknown}
use Rattle.polyover_calls.specs.Clipped.{AreClips, AreClipChoices, AreClipNumbers, IsUnknownClip}
use Rattle.polyover_calls.specs.Determined.{TellsOfArguments}
use Rattle.polyover_calls.specs.EachFault.{CallsTellOneFault, ResultsTellOneFault, TellsOneFault, ReadsOneFault}
use Rattle.polyover_calls.specs.Given.{Contours, paths_of, paths_given, AreGiven, IsFaulty, IsOneFaulty}
use Rattle.polyover_calls.specs.Held.{HeldArrays, EndsHeld, shape_arrays, linked_arrays, path_arrays, edge_arrays}
use Rattle.polyover_calls.specs.Hierarchies.{IsLinkedOverlay}
use Rattle.polyover_calls.specs.Lines.{shape_and_lines}
use Rattle.polyover_calls.specs.Linked.{AreFlatLinked, ArePutLinked}
use Rattle.polyover_calls.specs.Listed.{AreEdgesIn, AreEdgesPut}
use Rattle.polyover_calls.specs.Located.{LocatingEnds, CanBeLocated, CanNotBeLocated, Places}
use Rattle.polyover_calls.specs.Overlays.{IsOverlay}
use Rattle.polyover_calls.specs.Prepared.{ArePartsOf, no_parts}
use Rattle.polyover_calls.specs.Put.{EndsInto}
use Rattle.polyover_calls.specs.Reading.{AreContours, HaveOwnFault}
use Rattle.polyover_calls.specs.Refusals.{AreBothRefused, AreQueryNumbers, IsUnknownQuery}
use Rattle.polyover_calls.specs.Related.{AreRelated}
use Rattle.polyover_calls.specs.RelatedOne.{AreRelationChoices, AreRelationNumbers, IsRelatedSo, IsUnknownRelation}
use Rattle.polyover_calls.specs.Simplified.{IsSimplification}
use Rattle.polyover_calls.specs.Sliced.{AreSlices}
use Rattle.polyover_calls.specs.Statuses.{ReadsAs, status_of_fault}
use Rattle.polyover_calls.specs.Tiled.{AreTileChoices, AreTileNumbers, AreTilesOfContours, IsUnknownTiling}
use Rattle.polyover_calls.specs.Written.{IsFlat, ArePut}
use Rattle.polyover_calls.specs.WrittenPaths.{AreFlatPaths, ArePathsPut}
use Rattle.polyover_calls.specs.declared.fault.Fault.{Fault}
use Rattle.polyover_calls.specs.declared.fault.Fault.TheVariants as fault
use Rattle.polyover_calls.specs.declared.numbers.OptionNumbers.{OptionNumbers}
use Rattle.polyover_calls.specs.declared.status.Status.{Status}
use Rattle.polyover_calls.specs.declared.status.Status.TheVariants.{Done, Memory, BadEnds, OutOfRange}
use Rattle.polyover_calls.specs.declared.status.Status.TheVariants.{NotResolved, BadRule, BadFill, BadOption}
use Rattle.polyover_calls.specs.declared.status.Status.TheVariants.{NotSettled, TooManyEdges, TooSmall}
use Rattle.polyover_calls.proofs.EarlyFaults.{FaultsAreApart, put_late, one_end, one_held, one_telling}
use Rattle.polyover_calls.proofs.OneFault.{one_unknown, not_known, AreBothGiven, both_apart}
use Rattle.polyover_calls.proofs.OneTest.{no_fault, one_fault, no_fault_of_points, one_fault_of_points}

-- ---- numbers

-- the number of a fill rule is tested before choices
module _ (fill : ℕ) (Other Choices : Type 0) (apart : Other → ¬ Choices) where
  abbrev IsUnknownHere : Status → Type 0
  IsUnknownHere s = ((s ≡ BadFill) × (4 ≤ fill)) ⊎ ((s ≡ BadOption) × ((fill < 4) × Other))

  pub one_of_two : (s t : Status) → IsUnknownHere s → IsUnknownHere t → s ≡ t
  one_of_two s t (inl a) (inl b) = a.0 ∙ sym b.0
  one_of_two s t (inl a) (inr b) = absurd (let more = a.1 in let less = b.1.0 in omega (arith, more, less))
  one_of_two s t (inr a) (inl b) = absurd (let more = b.1 in let less = a.1.0 in omega (arith, more, less))
  one_of_two s t (inr a) (inr b) = a.0 ∙ sym b.0

  pub not_both : (s : Status) → IsUnknownHere s → ¬ ((fill < 4) × Choices)
  not_both s (inl a) known = let more = a.1 in let less = known.0 in omega (arith, more, less)
  not_both s (inr a) known = apart a.1.1 known.1

-- no number of a solver is both below 2 and not
pub few_or_many : (solver : ℕ) → 2 ≤ solver → ¬ (solver < 2)
few_or_many solver more less = omega (arith, more, less)

-- ---- calls on two lists of contours

module _ {I : Type 0} (whole : I → ℤ) (limit : ℕ) (first second : Contours I) (unknown : Status → Type 0)
    (known : Type 0) (one : (s t : Status) → unknown s → unknown t → s ≡ t) (not : (s : Status) → unknown s → ¬ known)
    (may : OverlayError → Type 0) where
  -- that a query may be refused is told where both are given
  abbrev MayBoth : OverlayError → Type 0
  MayBoth e = AreGiven whole limit first × (AreGiven whole limit second × may e)

  both_end : {F R : Type 0} (IsAnswer : F → Type 0) (AreWritten : F → R → R → Status → Type 0) →
      ((f : F) → IsAnswer f → known × AreBothGiven whole limit first second) →
      ((f : F) (old new : R) (s : Status) → AreWritten f old new s → ¬ (TellsOfArguments s)) →
      TellsOneFault (EndsInto IsAnswer AreWritten (AreBothRefused whole limit unknown known first second may))
  both_end = one_end unknown known (IsOneFaulty whole limit first second) (AreBothGiven whole limit first second)
      (both_apart whole limit first second unknown known one not) MayBoth (λ e m. (m.0, m.1.0))

  both_held : {F J : Type 0} (IsAnswer : F → Type 0) (arrays : F → HeldArrays J) →
      ((f : F) → IsAnswer f → known × AreBothGiven whole limit first second) → (held others : HeldArrays J)
      (s t : Status) → TellsOfArguments s →
      EndsHeld IsAnswer arrays (AreBothRefused whole limit unknown known first second may) held s →
      EndsHeld IsAnswer arrays (AreBothRefused whole limit unknown known first second may) others t → s ≡ t
  both_held = one_held unknown known (IsOneFaulty whole limit first second) (AreBothGiven whole limit first second)
      (both_apart whole limit first second unknown known one not) MayBoth (λ e m. (m.0, m.1.0))

  both_tell : (Told Kept OtherTold OtherKept : Type 0) → (OtherTold → known × AreBothGiven whole limit first second) →
      (s t : Status) → TellsOfArguments s →
      ((s ≡ Done) × Told) ⊎ (Kept × AreBothRefused whole limit unknown known first second may s) →
      ((t ≡ Done) × OtherTold) ⊎ (OtherKept × AreBothRefused whole limit unknown known first second may t) → s ≡ t
  both_tell = one_telling unknown known (IsOneFaulty whole limit first second) (AreBothGiven whole limit first second)
      (both_apart whole limit first second unknown known one not) MayBoth (λ e m. (m.0, m.1.0))

-- ---- calls on arrays alone

-- a status that tells a fault of arrays, of which there is one, where a status of others that tells nothing comes with
-- arrays without a fault
one_by_fault : (P Q : Status → Type 0) (Own : Fault → Type 0) (Given : Type 0) →
    ((f g : Fault) → Own f → Own g → f ≡ g) → ((f : Fault) → Own f → ¬ Given) →
    ((s : Status) → TellsOfArguments s → P s → (f : Fault) × (s ≡ status_of_fault f) × Own f) →
    ((s : Status) → TellsOfArguments s → Q s → (f : Fault) × (s ≡ status_of_fault f) × Own f) →
    ((s : Status) → Q s → TellsOfArguments s ⊎ Given) → (s t : Status) → TellsOfArguments s → P s → Q t → s ≡ t
one_by_fault P Q Own Given one not why why' other s t tells a b = by (other t b)
  where
    by : TellsOfArguments t ⊎ Given → s ≡ t
    by (inl tells') =
        let w = why s tells a in
        let x = why' t tells' b in
        w.1 ∙ ap status_of_fault (one w.0 x.0 w.2 x.2) ∙ sym x.1
    by (inr given) = let w = why s tells a in absurd (not w.0 w.2 given)

module _ {I : Type 0} (whole : I → ℤ) (limit : ℕ) where
  -- arrays that are tested
  module _ (cs : List I) (ends : List ℕ) where
    read_why : (s : Status) → TellsOfArguments s → ReadsAs whole limit cs ends s →
        (f : Fault) × (s ≡ status_of_fault f) × HaveOwnFault whole limit cs ends f
    read_why Done tells a = absurd tells
    read_why Memory tells a = absurd tells
    read_why BadEnds tells a = (fault.Ends, refl, a)
    read_why OutOfRange tells a = (fault.Range, refl, a)
    read_why NotResolved tells a = absurd tells
    read_why BadRule tells a = absurd a
    read_why BadFill tells a = absurd a
    read_why BadOption tells a = absurd a
    read_why NotSettled tells a = absurd a
    read_why TooManyEdges tells a = absurd a
    read_why TooSmall tells a = absurd a

    read_or_not : (s : Status) → ReadsAs whole limit cs ends s → TellsOfArguments s ⊎ AreContours whole limit cs ends
    read_or_not Done a = inr a.0
    read_or_not Memory a = inr a
    read_or_not BadEnds a = inl tt
    read_or_not OutOfRange a = inl tt
    read_or_not NotResolved a = inr a.0
    read_or_not BadRule a = absurd a
    read_or_not BadFill a = absurd a
    read_or_not BadOption a = absurd a
    read_or_not NotSettled a = absurd a
    read_or_not TooManyEdges a = absurd a
    read_or_not TooSmall a = absurd a

    reads_one_fault : ReadsOneFault (ReadsAs whole limit cs ends)
    reads_one_fault = one_by_fault (ReadsAs whole limit cs ends) (ReadsAs whole limit cs ends)
        (HaveOwnFault whole limit cs ends) (AreContours whole limit cs ends) (one_fault whole limit cs ends)
        (λ f own are. no_fault whole limit cs ends are f own) read_why read_why read_or_not

  -- contours, and points that are located in them
  module _ (shape : Contours I) (points : List I) where
    one_located_fault : (f g : Fault) → CanNotBeLocated whole limit shape points f →
        CanNotBeLocated whole limit shape points g → f ≡ g
    one_located_fault f g (inl a) (inl b) = one_fault whole limit shape.coordinates shape.ends f g a b
    one_located_fault f g (inl a) (inr b) = absurd (no_fault whole limit shape.coordinates shape.ends b.0 f a)
    one_located_fault f g (inr a) (inl b) = absurd (no_fault whole limit shape.coordinates shape.ends a.0 g b)
    one_located_fault f g (inr a) (inr b) = one_fault_of_points whole limit points f g a.1 b.1

    none_located : (f : Fault) → CanNotBeLocated whole limit shape points f → ¬ (CanBeLocated whole limit shape points)
    none_located f (inl a) can = no_fault whole limit shape.coordinates shape.ends can.given f a
    none_located f (inr a) can = no_fault_of_points whole limit points can.are_points f a.1

    module _ (old new : Places) where
      located_why : (s : Status) → TellsOfArguments s → LocatingEnds whole limit shape points old new s →
          (f : Fault) × (s ≡ status_of_fault f) × CanNotBeLocated whole limit shape points f
      located_why Done tells a = absurd tells
      located_why Memory tells a = absurd tells
      located_why BadEnds tells a = (fault.Ends, refl, a.1)
      located_why OutOfRange tells a = (fault.Range, refl, a.1)
      located_why NotResolved tells a = absurd tells
      located_why BadRule tells a = absurd a
      located_why BadFill tells a = absurd a
      located_why BadOption tells a = absurd a
      located_why NotSettled tells a = absurd a
      located_why TooManyEdges tells a = absurd a
      located_why TooSmall tells a = absurd tells

      located_or_not : (s : Status) → LocatingEnds whole limit shape points old new s →
          TellsOfArguments s ⊎ CanBeLocated whole limit shape points
      located_or_not Done a = inr a.0
      located_or_not Memory a = inr a.1.0
      located_or_not BadEnds a = inl tt
      located_or_not OutOfRange a = inl tt
      located_or_not NotResolved a = inr a.0
      located_or_not BadRule a = absurd a
      located_or_not BadFill a = absurd a
      located_or_not BadOption a = absurd a
      located_or_not NotSettled a = absurd a
      located_or_not TooManyEdges a = absurd a
      located_or_not TooSmall a = inr a.1.0

    locating_tells_one_fault : TellsOneFault (LocatingEnds whole limit shape points)
    locating_tells_one_fault old new other newer = one_by_fault (LocatingEnds whole limit shape points old new)
        (LocatingEnds whole limit shape points other newer) (CanNotBeLocated whole limit shape points)
        (CanBeLocated whole limit shape points) one_located_fault none_located (located_why old new)
        (located_why other newer) (located_or_not other newer)

-- ---- the laws

module _ {I U : Type 0} (whole : I → ℤ) (limit : ℕ) (width : Width) (natural : U → ℕ) where
  -- what is told of one list of contours, after numbers
  given_apart : (unknown : Status → Type 0) (known : Type 0) → ((s t : Status) → unknown s → unknown t → s ≡ t) →
      ((s : Status) → unknown s → ¬ known) → (given : Contours I) →
      FaultsAreApart unknown known (IsFaulty whole limit given) (AreGiven whole limit given)
  given_apart unknown known one not given = record {
    one_unknown = one;
    not_known = not;
    one_own = one_fault whole limit given.coordinates given.ends;
    not_given = λ f own are. no_fault whole limit given.coordinates given.ends are f own;
  }

  -- after the numbers of options
  pub with_options : (fill : ℕ) (options : OptionNumbers U) (given : Contours I) →
      FaultsAreApart (IsUnknown 0 fill options) (AreKnown 0 fill options) (IsFaulty whole limit given)
      (AreGiven whole limit given)
  with_options fill options = given_apart (IsUnknown 0 fill options) (AreKnown 0 fill options)
      (one_unknown 0 fill options) (not_known 0 fill options)

  -- and after those of a query
  in_query : (fill solver : ℕ) (given : Contours I) →
      FaultsAreApart (IsUnknownQuery fill solver) (AreQueryNumbers fill solver) (IsFaulty whole limit given)
      (AreGiven whole limit given)
  in_query fill solver = given_apart (IsUnknownQuery fill solver) (AreQueryNumbers fill solver)
      (one_of_two fill (2 ≤ solver) (solver < 2) (few_or_many solver))
      (not_both fill (2 ≤ solver) (solver < 2) (few_or_many solver))

  -- and after those of tiles
  pub with_grid : (fill solver : ℕ) (wide high : ℤ) (subject : Contours I) →
      FaultsAreApart (IsUnknownTiling whole limit fill solver wide high subject)
      (AreTileNumbers whole limit fill solver wide high subject) (IsFaulty whole limit subject)
      (AreGiven whole limit subject)
  with_grid fill solver wide high subject =
      let Choices = AreTileChoices whole limit solver wide high subject in
      given_apart (IsUnknownTiling whole limit fill solver wide high subject)
      (AreTileNumbers whole limit fill solver wide high subject)
      (one_of_two fill (¬ Choices) Choices (λ none are. none are))
      (not_both fill (¬ Choices) Choices (λ none are. none are)) subject

  -- that it may be refused is told where it is given
  abbrev pub MayAlone : OptionNumbers U → Contours I → OverlayError → Type 0
  MayAlone options given e = AreGiven whole limit given
      × MayRefuseAlone (keeps_given options) (solver_of options.solver) (paths_for Subject (paths_of whole given)) e

  pub calls_tell_one_fault : CallsTellOneFault whole limit width natural
  calls_tell_one_fault = record {
    overlay = λ rule fill options subject clip. both_end whole limit subject clip (IsUnknown rule fill options)
        (AreKnown rule fill options) (one_unknown rule fill options) (not_known rule fill options)
        (MayRefuseAlone (keeps_given options) (solver_of options.solver) (paths_given whole subject clip))
        (IsFlat (IsOverlay whole limit width natural rule fill options subject clip) whole) ArePut
        (λ f is. (is.answer.known, (is.answer.subject_given, is.answer.clip_given)))
        (λ f old new s put. put_late _ _ _ new s put);
    hierarchy = λ rule fill options subject clip. both_end whole limit subject clip (IsUnknown rule fill options)
        (AreKnown rule fill options) (one_unknown rule fill options) (not_known rule fill options)
        (MayRefuseAlone (keeps_given options) (solver_of options.solver) (paths_given whole subject clip))
        (AreFlatLinked (IsLinkedOverlay whole limit width natural rule fill options subject clip) whole) ArePutLinked
        (λ f is. (is.answer.known, (is.answer.subject_given, is.answer.clip_given)))
        (λ f old new s put. put_late _ _ _ new s put);
    simplified = λ fill options given. one_end (IsUnknown 0 fill options) (AreKnown 0 fill options)
        (IsFaulty whole limit given) (AreGiven whole limit given) (with_options fill options given)
        (MayAlone options given) (λ e m. m.0)
        (IsFlat (IsSimplification whole limit width natural fill options given) whole) ArePut
        (λ f is. (is.answer.known, is.answer.are_given)) (λ f old new s put. put_late _ _ _ new s put);
    sliced = λ fill solver subject lines. both_end whole limit subject lines (IsUnknownQuery fill solver)
        (AreQueryNumbers fill solver)
        (one_of_two fill (2 ≤ solver) (solver < 2) (few_or_many solver))
        (not_both fill (2 ≤ solver) (solver < 2) (few_or_many solver))
        (MayRefuseStrings (solver_of solver) (shape_and_lines whole subject lines))
        (IsFlat (AreSlices whole limit width fill solver subject lines) whole) ArePut
        (λ f is. (is.answer.known, (is.answer.subject_given, is.answer.lines_given)))
        (λ f old new s put. put_late _ _ _ new s put);
    clipped = λ fill options shape lines. both_end whole limit shape lines (IsUnknownClip fill options)
        (AreClipNumbers fill options)
        (one_of_two fill (¬ (AreClipChoices options)) (AreClipChoices options) (λ none are. none are))
        (not_both fill (¬ (AreClipChoices options)) (AreClipChoices options) (λ none are. none are))
        (MayRefuseStrings (solver_of options.solver) (shape_and_lines whole shape lines))
        (AreFlatPaths (AreClips whole limit fill options shape lines) whole) ArePathsPut
        (λ f is. (is.answer.known, (is.answer.shape_given, is.answer.lines_given)))
        (λ f old new s put. put_late _ _ _ new s put);
    listed = λ fill solver subject clip. both_end whole limit subject clip (IsUnknownQuery fill solver)
        (AreQueryNumbers fill solver)
        (one_of_two fill (2 ≤ solver) (solver < 2) (few_or_many solver))
        (not_both fill (2 ≤ solver) (solver < 2) (few_or_many solver))
        (MayRefusePaths (solver_of solver) (paths_given whole subject clip))
        (AreEdgesIn whole limit fill solver subject clip) AreEdgesPut
        (λ f is. (is.known, (is.subject_given, is.clip_given))) (λ f old new s put. put_late _ _ _ new s put);
    related = λ fill solver subject clip old new other newer. both_tell whole limit subject clip
        (IsUnknownQuery fill solver) (AreQueryNumbers fill solver)
        (one_of_two fill (2 ≤ solver) (solver < 2) (few_or_many solver))
        (not_both fill (2 ≤ solver) (solver < 2) (few_or_many solver))
        (MayRefusePaths (solver_of solver) (paths_given whole subject clip))
        (AreRelated whole limit fill solver subject clip new) (new ≡ old)
        (AreRelated whole limit fill solver subject clip newer) (newer ≡ other)
        (λ is. (is.known, (is.subject_given, is.clip_given)));
    related_so = λ number fill solver subject clip old new other newer. both_tell whole limit subject clip
        (IsUnknownRelation number fill solver) (AreRelationNumbers number fill solver)
        (one_of_two fill (¬ (AreRelationChoices number solver)) (AreRelationChoices number solver)
        (λ none are. none are))
        (not_both fill (¬ (AreRelationChoices number solver)) (AreRelationChoices number solver)
        (λ none are. none are))
        (MayRefusePaths (solver_of solver) (paths_given whole subject clip))
        (IsRelatedSo whole limit number fill solver subject clip new) (new ≡ old)
        (IsRelatedSo whole limit number fill solver subject clip newer) (newer ≡ other)
        (λ is. (is.known, (is.subject_given, is.clip_given)));
    located = locating_tells_one_fault whole limit;
    tested = reads_one_fault whole limit;
  }

  pub results_tell_one_fault : ResultsTellOneFault whole limit width natural
  results_tell_one_fault = record {
    overlay = λ rule fill options subject clip. both_held whole limit subject clip (IsUnknown rule fill options)
        (AreKnown rule fill options) (one_unknown rule fill options) (not_known rule fill options)
        (MayRefuseAlone (keeps_given options) (solver_of options.solver) (paths_given whole subject clip))
        (IsFlat (IsOverlay whole limit width natural rule fill options subject clip) whole) shape_arrays
        (λ f is. (is.answer.known, (is.answer.subject_given, is.answer.clip_given)));
    hierarchy = λ rule fill options subject clip. both_held whole limit subject clip (IsUnknown rule fill options)
        (AreKnown rule fill options) (one_unknown rule fill options) (not_known rule fill options)
        (MayRefuseAlone (keeps_given options) (solver_of options.solver) (paths_given whole subject clip))
        (AreFlatLinked (IsLinkedOverlay whole limit width natural rule fill options subject clip) whole) linked_arrays
        (λ f is. (is.answer.known, (is.answer.subject_given, is.answer.clip_given)));
    simplified = λ fill options given. one_held (IsUnknown 0 fill options) (AreKnown 0 fill options)
        (IsFaulty whole limit given) (AreGiven whole limit given) (with_options fill options given)
        (MayAlone options given) (λ e m. m.0)
        (IsFlat (IsSimplification whole limit width natural fill options given) whole) shape_arrays
        (λ f is. (is.answer.known, is.answer.are_given));
    sliced = λ fill solver subject lines. both_held whole limit subject lines (IsUnknownQuery fill solver)
        (AreQueryNumbers fill solver)
        (one_of_two fill (2 ≤ solver) (solver < 2) (few_or_many solver))
        (not_both fill (2 ≤ solver) (solver < 2) (few_or_many solver))
        (MayRefuseStrings (solver_of solver) (shape_and_lines whole subject lines))
        (IsFlat (AreSlices whole limit width fill solver subject lines) whole) shape_arrays
        (λ f is. (is.answer.known, (is.answer.subject_given, is.answer.lines_given)));
    clipped = λ fill options shape lines. both_held whole limit shape lines (IsUnknownClip fill options)
        (AreClipNumbers fill options)
        (one_of_two fill (¬ (AreClipChoices options)) (AreClipChoices options) (λ none are. none are))
        (not_both fill (¬ (AreClipChoices options)) (AreClipChoices options) (λ none are. none are))
        (MayRefuseStrings (solver_of options.solver) (shape_and_lines whole shape lines))
        (AreFlatPaths (AreClips whole limit fill options shape lines) whole) path_arrays
        (λ f is. (is.answer.known, (is.answer.shape_given, is.answer.lines_given)));
    listed = λ fill solver subject clip. both_held whole limit subject clip (IsUnknownQuery fill solver)
        (AreQueryNumbers fill solver)
        (one_of_two fill (2 ≤ solver) (solver < 2) (few_or_many solver))
        (not_both fill (2 ≤ solver) (solver < 2) (few_or_many solver))
        (MayRefusePaths (solver_of solver) (paths_given whole subject clip))
        (AreEdgesIn whole limit fill solver subject clip) edge_arrays
        (λ f is. (is.known, (is.subject_given, is.clip_given)));
    tiled = λ fill solver wide high subject. one_held (IsUnknownTiling whole limit fill solver wide high subject)
        (AreTileNumbers whole limit fill solver wide high subject) (IsFaulty whole limit subject)
        (AreGiven whole limit subject) (with_grid fill solver wide high subject)
        (λ e. AreGiven whole limit subject
        × MayRefuseTiles (solver_of solver) wide high (paths_of whole subject) e) (λ e m. m.0)
        (IsFlat (AreTilesOfContours whole limit width fill solver wide high subject) whole) shape_arrays
        (λ f is. (is.answer.known, is.answer.subject_given));
    prepared = λ fill solver given parts others. one_telling (IsUnknownQuery fill solver)
        (AreQueryNumbers fill solver) (IsFaulty whole limit given) (AreGiven whole limit given)
        (in_query fill solver given)
        (λ e. AreGiven whole limit given
        × MayRefusePreparing (solver_of solver) (paths_for Subject (paths_of whole given)) e) (λ e m. m.0)
        (ArePartsOf whole limit fill solver given parts) (parts ≡ no_parts)
        (ArePartsOf whole limit fill solver given others) (others ≡ no_parts) (λ are. (are.known, are.are_given));
  }
