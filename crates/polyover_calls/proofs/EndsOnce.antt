-- Two runs of a call with the same arguments end alike: there is one fault of arguments and one answer, and where there
-- is an answer memory alone refuses.
use Rattle.std.proofs.Common.{◌≡◌, ◌⊎◌, inl, inr, ⊎_elim, ℕ, ◌<◌, ◌≤◌, false, ℤ, List, refl, sym, ◌∙◌, subst}
use Rattle.std.specs.Int.{Width}
use Rattle.overlay_geom.specs.declared.error.OverlayError.{OverlayError}
use Rattle.overlay_geom.specs.declared.error.OverlayError.TheVariants as error
use Rattle.overlay_geom.specs.Rules.{is_filled}
use Rattle.overlay_geom.specs.declared.options.ShapeType.TheVariants.{Subject}
use Rattle.overlay_builder.specs.GivenPaths.{paths_for}
use Rattle.overlay_relate.specs.Bounded.{Bounds}
use Rattle.overlay_relate.specs.Prepared.{MayRefusePreparing}
use Rattle.overlay_string.specs.OneShot.{MayRefusePaths as MayRefuseStrings, shape_and_strings}
use Rattle.overlay_tiles.specs.Tiles.{MayRefuseTiles}
use Rattle.i_overlay.specs.Alone.{MayRefuseAlone}
use Rattle.i_overlay.specs.OneShot.{MayRefusePaths}
use Rattle.i_overlay.proofs.OneAnswer.{one_arrangement_of_paths}
use Rattle.polyover_calls.specs.Asked.{fill_of, solver_of, keeps_given, AreKnown, IsUnknown}
use Rattle.polyover_calls.specs.Clipped.{AreClips, AreClipChoices, AreClipNumbers, IsUnknownClip}
use Rattle.polyover_calls.specs.Determined.{TellsOfArguments}
use Rattle.polyover_calls.specs.EachFault.{HandsOneFault}
use Rattle.polyover_calls.specs.EndsOnce.{EndsOnce, CallsEndOnce, ResultsEndOnce, ShapesArePreparedOnce}
use Rattle.polyover_calls.specs.Given.{Contours, paths_of, paths_given, AreGiven, IsFaulty, IsOneFaulty}
use Rattle.polyover_calls.specs.Held.{HeldArrays, AreHeld, no_arrays}
use Rattle.polyover_calls.specs.Held.{shape_arrays, linked_arrays, path_arrays, edge_arrays}
use Rattle.polyover_calls.specs.Hierarchies.{IsLinkedOverlay}
use Rattle.polyover_calls.specs.Lines.{shape_and_lines}
use Rattle.polyover_calls.specs.Linked.{LinkedFlat, AreFlatLinked, ArePutLinked}
use Rattle.polyover_calls.specs.Listed.{EdgeArrays, AreEdgesIn, AreEdgesPut}
use Rattle.polyover_calls.specs.Overlays.{IsOverlay}
use Rattle.polyover_calls.specs.Prepared.{Parts, ArePartsOf, PreparingEnds, AskingEnds, no_parts}
use Rattle.polyover_calls.specs.Put.{IsPutInto, EndsInto}
use Rattle.polyover_calls.specs.Refusals.{AreBothRefused, AreQueryNumbers, IsUnknownQuery}
use Rattle.polyover_calls.specs.Related.{AreRelated, RelatingEnds}
use Rattle.polyover_calls.specs.RelatedOne.{AreRelationNumbers, IsRelatedSo, IsUnknownRelation, RelatingOneEnds}
use Rattle.polyover_calls.specs.Simplified.{IsSimplification}
use Rattle.polyover_calls.specs.Sliced.{AreSlices}
use Rattle.polyover_calls.specs.Statuses.{IsRefused}
use Rattle.polyover_calls.specs.Tiled.{AreTileNumbers, AreTilesOfContours, IsTilingRefused, IsUnknownTiling}
use Rattle.polyover_calls.specs.Written.{Flat, IsFlat, ArePut}
use Rattle.polyover_calls.specs.WrittenPaths.{FlatPaths, AreFlatPaths, ArePathsPut}
use Rattle.polyover_calls.specs.declared.clip_options.ClipOptions.{ClipOptions}
use Rattle.polyover_calls.specs.declared.fault.Fault.{Fault}
use Rattle.polyover_calls.specs.declared.numbers.OptionNumbers.{OptionNumbers}
use Rattle.polyover_calls.specs.declared.status.Status.{Status}
use Rattle.polyover_calls.specs.declared.status.Status.TheVariants.{Done, Memory}
use Rattle.polyover_calls.proofs.EachFault.{one_of_two, not_both, few_or_many, with_options, with_grid, MayAlone}
use Rattle.polyover_calls.proofs.EachFault.{calls_tell_one_fault, results_tell_one_fault}
use Rattle.polyover_calls.proofs.Asking.{askings_are_one}
use Rattle.polyover_calls.proofs.EarlyFaults.{FaultsAreApart, put_late, done_late, one_end}
use Rattle.polyover_calls.proofs.OneAnswer.{one_relating, same_clip, same_edges, same_hierarchy, same_overlay}
use Rattle.polyover_calls.proofs.OneAnswer.{same_simplification, same_slices, same_tiles}
use Rattle.polyover_calls.proofs.OneFault.{one_unknown, not_known, AreBothGiven, both_apart}
use Rattle.polyover_calls.proofs.OnePut.{one_put}
use Rattle.polyover_calls.proofs.OneRelation.{one_telling_of_relation}
use Rattle.polyover_calls.proofs.SnappedCalls.{not_alone, not_lines}
use Rattle.polyover_calls.proofs.TwoRuns.{alike, ends_once, light_alone, light_lines, light_tiles}

-- ---- calls with an answer

module _ (unknown : Status → Type 0) (known : Type 0) (own : Fault → Type 0) (given : Type 0)
    (apart : FaultsAreApart unknown known own given) (may : OverlayError → Type 0)
    (after : (e : OverlayError) → may e → given) (settles : ¬ (may error.NotSettled)) {F : Type 0}
    (IsAnswer : F → Type 0) (answered : (f : F) → IsAnswer f → known × given)
    (alone : (f : F) → IsAnswer f → ¬ (may error.TooManyEdges))
    (same : (f g : F) → IsAnswer f → IsAnswer g → f ≡ g) where
  -- which is written, or handed out, in one way
  pub written_once : {R : Type 0} (AreWritten : F → R → R → Status → Type 0) →
      ((f : F) (old new : R) (s : Status) → AreWritten f old new s → ¬ (TellsOfArguments s)) →
      ((f : F) (old new newer : R) (s t : Status) → AreWritten f old new s → AreWritten f old newer t →
      (s ≡ t) × (new ≡ newer)) →
      EndsOnce (EndsInto IsAnswer AreWritten (IsRefused unknown (λ f. known × own f) (λ e. known × may e)))
  written_once AreWritten late once old = ends_once unknown (λ f. known × own f) (λ e. known × may e)
      (λ m. settles m.1) old (IsPutInto IsAnswer AreWritten old)
      (λ new s put. late put.answer old new s put.put) (λ new s put m. alone put.answer put.right m.1)
      (λ new newer. one_end unknown known own given apart may after IsAnswer AreWritten answered late old new old newer)
      (λ new newer s t a b. once b.answer old new newer s t
      (subst (λ f. AreWritten f old new s) (same a.answer b.answer a.right b.right) a.put) b.put)

-- ---- the laws

module _ {I U : Type 0} (whole : I → ℤ) (limit : ℕ) (width : Width) (natural : U → ℕ)
    (one : (x y : I) → whole x ≡ whole y → x ≡ y) where
  -- that a query of two lists of contours may be refused is told where both are given
  abbrev MayBoth : Contours I → Contours I → (OverlayError → Type 0) → OverlayError → Type 0
  MayBoth first second may e = AreGiven whole limit first × (AreGiven whole limit second × may e)

  -- numbers of a query stand for one thing
  query_apart : (fill : ℕ) (first second : Contours I) → FaultsAreApart (IsUnknownQuery fill 0)
      (AreQueryNumbers fill 0) (IsOneFaulty whole limit first second) (AreBothGiven whole limit first second)
  query_apart fill first second = both_apart whole limit first second (IsUnknownQuery fill 0) (AreQueryNumbers fill 0)
      (one_of_two fill (2 ≤ 0) (0 < 2) (few_or_many 0)) (not_both fill (2 ≤ 0) (0 < 2) (few_or_many 0))

  module _ (rule fill : ℕ) (options : OptionNumbers U) (subject clip : Contours I) (snaps : options.solver ≡ 0) where
    abbrev may_overlay : OverlayError → Type 0
    may_overlay = MayRefuseAlone (keeps_given options) (solver_of options.solver) (paths_given whole subject clip)

    overlay_apart : FaultsAreApart (IsUnknown rule fill options) (AreKnown rule fill options)
        (IsOneFaulty whole limit subject clip) (AreBothGiven whole limit subject clip)
    overlay_apart = both_apart whole limit subject clip (IsUnknown rule fill options) (AreKnown rule fill options)
        (one_unknown rule fill options) (not_known rule fill options)

    overlay_settles : ¬ (MayBoth subject clip may_overlay error.NotSettled)
    overlay_settles m = not_alone (keeps_given options) options.solver (paths_given whole subject clip) snaps m.1.1

    overlay_written : {R : Type 0} (AreWritten : Flat I → R → R → Status → Type 0) →
        ((f : Flat I) (old new : R) (s : Status) → AreWritten f old new s → ¬ (TellsOfArguments s)) →
        ((f : Flat I) (old new newer : R) (s t : Status) → AreWritten f old new s → AreWritten f old newer t →
        (s ≡ t) × (new ≡ newer)) →
        EndsOnce (EndsInto (IsFlat (IsOverlay whole limit width natural rule fill options subject clip) whole)
        AreWritten (AreBothRefused whole limit (IsUnknown rule fill options) (AreKnown rule fill options) subject clip
        may_overlay))
    overlay_written = written_once (IsUnknown rule fill options) (AreKnown rule fill options)
        (IsOneFaulty whole limit subject clip) (AreBothGiven whole limit subject clip) overlay_apart
        (MayBoth subject clip may_overlay) (λ e m. (m.0, m.1.0)) overlay_settles
        (IsFlat (IsOverlay whole limit width natural rule fill options subject clip) whole)
        (λ f is. (is.answer.known, (is.answer.subject_given, is.answer.clip_given)))
        (λ f is m. light_alone (keeps_given options) options.solver (paths_given whole subject clip)
        is.answer.is_result.content is.answer.is_result.edges snaps is.answer.is_result.holds
        is.answer.is_result.arranged m.1.1)
        (λ f g. same_overlay whole limit one width natural rule fill options subject clip f g snaps)

    hierarchy_written : {R : Type 0} (AreWritten : LinkedFlat I → R → R → Status → Type 0) →
        ((f : LinkedFlat I) (old new : R) (s : Status) → AreWritten f old new s → ¬ (TellsOfArguments s)) →
        ((f : LinkedFlat I) (old new newer : R) (s t : Status) → AreWritten f old new s → AreWritten f old newer t →
        (s ≡ t) × (new ≡ newer)) →
        EndsOnce (EndsInto
        (AreFlatLinked (IsLinkedOverlay whole limit width natural rule fill options subject clip) whole) AreWritten
        (AreBothRefused whole limit (IsUnknown rule fill options) (AreKnown rule fill options) subject clip
        may_overlay))
    hierarchy_written = written_once (IsUnknown rule fill options) (AreKnown rule fill options)
        (IsOneFaulty whole limit subject clip) (AreBothGiven whole limit subject clip) overlay_apart
        (MayBoth subject clip may_overlay) (λ e m. (m.0, m.1.0)) overlay_settles
        (AreFlatLinked (IsLinkedOverlay whole limit width natural rule fill options subject clip) whole)
        (λ f is. (is.answer.known, (is.answer.subject_given, is.answer.clip_given)))
        (λ f is m. light_alone (keeps_given options) options.solver (paths_given whole subject clip)
        is.answer.is_hierarchy.content is.answer.is_hierarchy.edges snaps is.answer.is_hierarchy.holds
        is.answer.is_hierarchy.arranged m.1.1)
        (λ f g. same_hierarchy whole limit one width natural rule fill options subject clip f g snaps)

  module _ (fill : ℕ) (options : OptionNumbers U) (given : Contours I) (snaps : options.solver ≡ 0) where
    simplification_written : {R : Type 0} (AreWritten : Flat I → R → R → Status → Type 0) →
        ((f : Flat I) (old new : R) (s : Status) → AreWritten f old new s → ¬ (TellsOfArguments s)) →
        ((f : Flat I) (old new newer : R) (s t : Status) → AreWritten f old new s → AreWritten f old newer t →
        (s ≡ t) × (new ≡ newer)) →
        EndsOnce (EndsInto (IsFlat (IsSimplification whole limit width natural fill options given) whole) AreWritten
        (IsRefused (IsUnknown 0 fill options) (λ f. AreKnown 0 fill options × IsFaulty whole limit given f)
        (λ e. AreKnown 0 fill options × MayAlone whole limit width natural options given e)))
    simplification_written = written_once (IsUnknown 0 fill options) (AreKnown 0 fill options)
        (IsFaulty whole limit given) (AreGiven whole limit given)
        (with_options whole limit width natural fill options given) (MayAlone whole limit width natural options given)
        (λ e m. m.0)
        (λ m. not_alone (keeps_given options) options.solver (paths_for Subject (paths_of whole given)) snaps m.1)
        (IsFlat (IsSimplification whole limit width natural fill options given) whole)
        (λ f is. (is.answer.known, is.answer.are_given))
        (λ f is m. light_alone (keeps_given options) options.solver (paths_for Subject (paths_of whole given))
        is.answer.simplified.arranged.content is.answer.simplified.edges snaps is.answer.simplified.arranged.holds
        is.answer.simplified.arranged.arranged m.1)
        (λ f g. same_simplification whole limit one width natural fill options given f g snaps)

  module _ (fill : ℕ) (subject lines : Contours I) where
    slices_written : {R : Type 0} (AreWritten : Flat I → R → R → Status → Type 0) →
        ((f : Flat I) (old new : R) (s : Status) → AreWritten f old new s → ¬ (TellsOfArguments s)) →
        ((f : Flat I) (old new newer : R) (s t : Status) → AreWritten f old new s → AreWritten f old newer t →
        (s ≡ t) × (new ≡ newer)) →
        EndsOnce (EndsInto (IsFlat (AreSlices whole limit width fill 0 subject lines) whole) AreWritten
        (AreBothRefused whole limit (IsUnknownQuery fill 0) (AreQueryNumbers fill 0) subject lines
        (MayRefuseStrings (solver_of 0) (shape_and_lines whole subject lines))))
    slices_written = written_once (IsUnknownQuery fill 0) (AreQueryNumbers fill 0)
        (IsOneFaulty whole limit subject lines) (AreBothGiven whole limit subject lines)
        (query_apart fill subject lines)
        (MayBoth subject lines (MayRefuseStrings (solver_of 0) (shape_and_lines whole subject lines)))
        (λ e m. (m.0, m.1.0))
        (λ m. not_lines 0 (shape_and_lines whole subject lines) refl m.1.1)
        (IsFlat (AreSlices whole limit width fill 0 subject lines) whole)
        (λ f is. (is.answer.known, (is.answer.subject_given, is.answer.lines_given)))
        (λ f is m. light_lines whole 0 subject lines is.answer.sliced.content is.answer.sliced.sliced.arrangement refl
        is.answer.sliced.holds is.answer.sliced.sliced.arranged m.1.1)
        (same_slices whole limit one width fill subject lines)

    edges_written : {R : Type 0} (AreWritten : EdgeArrays I → R → R → Status → Type 0) →
        ((f : EdgeArrays I) (old new : R) (s : Status) → AreWritten f old new s → ¬ (TellsOfArguments s)) →
        ((f : EdgeArrays I) (old new newer : R) (s t : Status) → AreWritten f old new s → AreWritten f old newer t →
        (s ≡ t) × (new ≡ newer)) →
        EndsOnce (EndsInto (AreEdgesIn whole limit fill 0 subject lines) AreWritten
        (AreBothRefused whole limit (IsUnknownQuery fill 0) (AreQueryNumbers fill 0) subject lines
        (MayRefusePaths (solver_of 0) (paths_given whole subject lines))))
    edges_written = written_once (IsUnknownQuery fill 0) (AreQueryNumbers fill 0)
        (IsOneFaulty whole limit subject lines) (AreBothGiven whole limit subject lines)
        (query_apart fill subject lines)
        (MayBoth subject lines (MayRefusePaths (solver_of 0) (paths_given whole subject lines)))
        (λ e m. (m.0, m.1.0))
        (λ m. not_alone false 0 (paths_given whole subject lines) refl m.1.1)
        (AreEdgesIn whole limit fill 0 subject lines) (λ f is. (is.known, (is.subject_given, is.clip_given)))
        (λ f is m. light_alone false 0 (paths_given whole subject lines) is.answer.content is.answer.edges refl
        is.answer.holds is.answer.arranged m.1.1)
        (same_edges whole limit one fill subject lines)

  module _ (fill : ℕ) (wide high : ℤ) (subject : Contours I) where
    tiles_written : {R : Type 0} (AreWritten : Flat I → R → R → Status → Type 0) →
        ((f : Flat I) (old new : R) (s : Status) → AreWritten f old new s → ¬ (TellsOfArguments s)) →
        ((f : Flat I) (old new newer : R) (s t : Status) → AreWritten f old new s → AreWritten f old newer t →
        (s ≡ t) × (new ≡ newer)) →
        EndsOnce (EndsInto (IsFlat (AreTilesOfContours whole limit width fill 0 wide high subject) whole) AreWritten
        (IsTilingRefused whole limit fill 0 wide high subject))
    tiles_written = written_once (IsUnknownTiling whole limit fill 0 wide high subject)
        (AreTileNumbers whole limit fill 0 wide high subject) (IsFaulty whole limit subject)
        (AreGiven whole limit subject) (with_grid whole limit width natural fill 0 wide high subject)
        (λ e. AreGiven whole limit subject × MayRefuseTiles (solver_of 0) wide high (paths_of whole subject) e)
        (λ e m. m.0)
        (λ m. not_lines 0 (shape_and_strings (paths_of whole subject) m.1.lines) refl m.1.refused)
        (IsFlat (AreTilesOfContours whole limit width fill 0 wide high subject) whole)
        (λ f is. (is.answer.known, is.answer.subject_given))
        (λ f is m. light_tiles width (fill_of fill) wide high (paths_of whole subject) is.shapes is.answer.tiles m.1)
        (same_tiles whole limit one width fill wide high subject)

  module _ (fill : ℕ) (options : ClipOptions) (shape lines : Contours I) (snaps : options.solver ≡ 0) where
    clips_written : {R : Type 0} (AreWritten : FlatPaths I → R → R → Status → Type 0) →
        ((f : FlatPaths I) (old new : R) (s : Status) → AreWritten f old new s → ¬ (TellsOfArguments s)) →
        ((f : FlatPaths I) (old new newer : R) (s t : Status) → AreWritten f old new s → AreWritten f old newer t →
        (s ≡ t) × (new ≡ newer)) →
        EndsOnce (EndsInto (AreFlatPaths (AreClips whole limit fill options shape lines) whole) AreWritten
        (AreBothRefused whole limit (IsUnknownClip fill options) (AreClipNumbers fill options) shape lines
        (MayRefuseStrings (solver_of options.solver) (shape_and_lines whole shape lines))))
    clips_written = written_once (IsUnknownClip fill options) (AreClipNumbers fill options)
        (IsOneFaulty whole limit shape lines) (AreBothGiven whole limit shape lines)
        (both_apart whole limit shape lines (IsUnknownClip fill options) (AreClipNumbers fill options)
        (one_of_two fill (¬ (AreClipChoices options)) (AreClipChoices options) (λ none are. none are))
        (not_both fill (¬ (AreClipChoices options)) (AreClipChoices options) (λ none are. none are)))
        (MayBoth shape lines (MayRefuseStrings (solver_of options.solver) (shape_and_lines whole shape lines)))
        (λ e m. (m.0, m.1.0))
        (λ m. not_lines options.solver (shape_and_lines whole shape lines) snaps m.1.1)
        (AreFlatPaths (AreClips whole limit fill options shape lines) whole)
        (λ f is. (is.answer.known, (is.answer.shape_given, is.answer.lines_given)))
        (λ f is m. light_lines whole options.solver shape lines is.answer.clipped.content
        is.answer.clipped.clipped.arrangement snaps is.answer.clipped.holds is.answer.clipped.clipped.arranged m.1.1)
        (λ f g. same_clip whole limit one fill options shape lines f g snaps)

  -- what tells relations of a subject and a clip
  module _ (subject clip : Contours I) where
    abbrev may_relate : OverlayError → Type 0
    may_relate = MayRefusePaths (solver_of 0) (paths_given whole subject clip)

    relate_settles : ¬ (may_relate error.NotSettled)
    relate_settles = not_alone false 0 (paths_given whole subject clip) refl

    told_once : (unknown : Status → Type 0) (known : Type 0) (IsTold : ℕ → Type 0) →
        ((new : ℕ) → IsTold new → ¬ (may_relate error.TooManyEdges)) →
        ((new newer : ℕ) → IsTold new → IsTold newer → new ≡ newer) →
        ((old : ℕ) → HandsOneFault (λ new s. ((s ≡ Done) × IsTold new)
        ⊎ ((new ≡ old) × AreBothRefused whole limit unknown known subject clip may_relate s))) →
        EndsOnce (λ old new s. ((s ≡ Done) × IsTold new)
        ⊎ ((new ≡ old) × AreBothRefused whole limit unknown known subject clip may_relate s))
    told_once unknown known IsTold alone same fault old = ends_once unknown
        (λ f. known × IsOneFaulty whole limit subject clip f) (λ e. known × MayBoth subject clip may_relate e)
        (λ m. relate_settles m.1.1.1) old (λ new s. (s ≡ Done) × IsTold new)
        (λ new s told. done_late s told.0) (λ new s told m. alone new told.1 m.1.1.1) (fault old)
        (λ new newer s t a b. (a.0 ∙ sym b.0, same new newer a.1 b.1))

    related_once : (fill : ℕ) → EndsOnce (RelatingEnds whole limit fill 0 subject clip)
    related_once fill = told_once (IsUnknownQuery fill 0) (AreQueryNumbers fill 0)
        (AreRelated whole limit fill 0 subject clip)
        (λ new told. light_alone false 0 (paths_given whole subject clip) told.hold.content told.hold.edges refl
        told.hold.holds told.hold.arranged)
        (one_relating whole limit fill subject clip)
        (λ old new newer. (calls_tell_one_fault whole limit width natural).related fill 0 subject clip old new old
        newer)

    related_so_once : (number fill : ℕ) → EndsOnce (RelatingOneEnds whole limit number fill 0 subject clip)
    related_so_once number fill = told_once (IsUnknownRelation number fill 0) (AreRelationNumbers number fill 0)
        (IsRelatedSo whole limit number fill 0 subject clip)
        (λ new told. light_alone false 0 (paths_given whole subject clip) told.tells.content told.tells.edges refl
        told.tells.holds told.tells.arranged)
        (one_telling_of_relation whole limit number fill subject clip)
        (λ old new newer. (calls_tell_one_fault whole limit width natural).related_so number fill 0 subject clip old
        new old newer)

  module _ (fill : ℕ) (given : Contours I) where
    abbrev may_prepare : OverlayError → Type 0
    may_prepare = MayRefusePreparing (solver_of 0) (paths_for Subject (paths_of whole given))

    -- where there are parts, memory alone refuses
    light_parts : (p : Parts) → ArePartsOf whole limit fill 0 given p → ¬ (may_prepare error.TooManyEdges)
    light_parts p are may = light_alone false 0 (paths_for Subject (paths_of whole given))
        are.prepared.arranged.content are.prepared.edges refl are.prepared.arranged.holds
        are.prepared.arranged.arranged (as_alone may)
      where
        as_alone : may_prepare error.TooManyEdges →
            MayRefuseAlone false (solver_of 0) (paths_for Subject (paths_of whole given)) error.TooManyEdges
        as_alone (inl stops) = inl stops
        as_alone (inr m) = inr (record { content = m.content; holds = m.holds; refused = m.refused })

    preparing_settles : ¬ (may_prepare error.NotSettled)
    preparing_settles m = not_alone false 0 (paths_for Subject (paths_of whole given)) refl
        (record { content = m.content; holds = m.holds; refused = m.refused })

    -- preparing ends with one status
    one_status : (p q : Parts) (s t : Status) → PreparingEnds whole limit fill 0 given p s →
        PreparingEnds whole limit fill 0 given q t → ¬ (s ≡ Memory) → ¬ (t ≡ Memory) → s ≡ t
    one_status p q s t a b kept kept' = ⊎_elim (λ both. both.0.0 ∙ sym both.1.0) (λ same. same.0)
        (alike (IsUnknownQuery fill 0) (λ f. AreQueryNumbers fill 0 × IsFaulty whole limit given f)
        (λ e. AreQueryNumbers fill 0 × (AreGiven whole limit given × may_prepare e))
        (λ m. preparing_settles m.1.1) no_parts
        (λ p s. (s ≡ Done) × ArePartsOf whole limit fill 0 given p)
        (λ p s told. done_late s told.0) (λ p s told m. light_parts p told.1 m.1.1)
        ((results_tell_one_fault whole limit width natural).prepared fill 0 given) p q s t a b kept kept')

    -- and the shapes are asked alike
    one_shape : (p q : Parts) (points : List I) (old new newer : List ℕ) (s t : Status) →
        ArePartsOf whole limit fill 0 given p → ArePartsOf whole limit fill 0 given q →
        AskingEnds whole limit p points old new s → AskingEnds whole limit q points old newer t →
        (s ≡ t) × (new ≡ newer)
    one_shape p q points old new newer s t a b asked asked' =
        (askings_are_one whole limit points old new newer s t).same_arrangement (is_filled (fill_of fill))
        b.prepared.edges p q (subst (λ es. Bounds (is_filled (fill_of fill)) es p.edges)
        (one_arrangement_of_paths false (paths_for Subject (paths_of whole given)) a.prepared.arranged.content
        b.prepared.arranged.content a.prepared.edges b.prepared.edges a.prepared.arranged.holds
        b.prepared.arranged.holds a.prepared.arranged.arranged b.prepared.arranged.arranged) a.prepared.bounds)
        b.prepared.bounds asked asked'

  pub shapes_are_prepared_once : ShapesArePreparedOnce whole limit
  shapes_are_prepared_once = record { status = one_status; asked = one_shape }

  pub calls_end_once : CallsEndOnce whole limit width natural
  calls_end_once = record {
    overlay = λ rule fill options subject clip snaps. overlay_written rule fill options subject clip snaps ArePut
        (λ f old new s put. put_late _ _ _ new s put) (λ f old new newer s t. one_put _ _ _ new newer s t);
    hierarchy = λ rule fill options subject clip snaps. hierarchy_written rule fill options subject clip snaps
        ArePutLinked (λ f old new s put. put_late _ _ _ new s put)
        (λ f old new newer s t. one_put _ _ _ new newer s t);
    simplified = λ fill options given snaps. simplification_written fill options given snaps ArePut
        (λ f old new s put. put_late _ _ _ new s put) (λ f old new newer s t. one_put _ _ _ new newer s t);
    sliced = λ fill subject lines. slices_written fill subject lines ArePut
        (λ f old new s put. put_late _ _ _ new s put) (λ f old new newer s t. one_put _ _ _ new newer s t);
    clipped = λ fill options shape lines snaps. clips_written fill options shape lines snaps ArePathsPut
        (λ f old new s put. put_late _ _ _ new s put) (λ f old new newer s t. one_put _ _ _ new newer s t);
    listed = λ fill subject clip. edges_written fill subject clip AreEdgesPut
        (λ f old new s put. put_late _ _ _ new s put) (λ f old new newer s t. one_put _ _ _ new newer s t);
    related = λ fill subject clip. related_once subject clip fill;
    related_so = λ number fill subject clip. related_so_once subject clip number fill;
  }

  -- an answer that is handed out
  handed : {F J : Type 0} (arrays : F → HeldArrays J) (f : F) (old new newer : HeldArrays J) (s t : Status) →
      AreHeld arrays f old new s → AreHeld arrays f old newer t → (s ≡ t) × (new ≡ newer)
  handed arrays f old new newer s t a b = (a.0 ∙ sym b.0, a.1 ∙ sym b.1)

  pub results_end_once : ResultsEndOnce whole limit width natural
  results_end_once = record {
    overlay = λ rule fill options subject clip snaps. overlay_written rule fill options subject clip snaps
        (AreHeld shape_arrays) (λ f old new s are. done_late s are.0) (handed shape_arrays) no_arrays;
    hierarchy = λ rule fill options subject clip snaps. hierarchy_written rule fill options subject clip snaps
        (AreHeld linked_arrays) (λ f old new s are. done_late s are.0) (handed linked_arrays) no_arrays;
    simplified = λ fill options given snaps. simplification_written fill options given snaps (AreHeld shape_arrays)
        (λ f old new s are. done_late s are.0) (handed shape_arrays) no_arrays;
    sliced = λ fill subject lines. slices_written fill subject lines (AreHeld shape_arrays)
        (λ f old new s are. done_late s are.0) (handed shape_arrays) no_arrays;
    clipped = λ fill options shape lines snaps. clips_written fill options shape lines snaps (AreHeld path_arrays)
        (λ f old new s are. done_late s are.0) (handed path_arrays) no_arrays;
    listed = λ fill subject clip. edges_written fill subject clip (AreHeld edge_arrays)
        (λ f old new s are. done_late s are.0) (handed edge_arrays) no_arrays;
    tiled = λ fill wide high subject. tiles_written fill wide high subject (AreHeld shape_arrays)
        (λ f old new s are. done_late s are.0) (handed shape_arrays) no_arrays;
  }
