-- Two runs that find the same arrays put an answer there, or are refused alike, where memory is not wanting.
use Rattle.std.proofs.Common.{◌≡◌, ◌⊎◌, inl, inr, ⊎_elim, ℕ, Bool, ℤ, List, refl, sym, ◌∙◌, subst}
use Rattle.std.specs.Int.{Width}
use Rattle.overlay_geom.specs.Edges.{CountedEdge}
use Rattle.overlay_geom.specs.Plane.{Point}
use Rattle.overlay_geom.specs.declared.fill_rule.FillRule.{FillRule}
use Rattle.overlay_geom.specs.declared.solver.Solver.TheVariants.{Snapping}
use Rattle.overlay_geom.specs.declared.error.OverlayError.{OverlayError}
use Rattle.overlay_geom.specs.declared.error.OverlayError.TheVariants as error
use Rattle.overlay_graph.specs.Arranged.{IsArranged}
use Rattle.overlay_builder.specs.GivenPaths.{GivenPath, added_paths}
use Rattle.overlay_builder.specs.PathLists.{HoldsPaths}
use Rattle.overlay_string.specs.OneShot.{MayRefusePaths as MayRefuseStrings}
use Rattle.overlay_string.proofs.OneAnswer.{answered_strings_are_refused_by_memory_alone, memory_refuses_strings}
use Rattle.overlay_tiles.specs.Tiles.{AreTiles, MayRefuseTiles}
use Rattle.overlay_tiles.proofs.OneGrid.{tiled_paths_are_refused_by_memory_alone}
use Rattle.i_overlay.specs.Alone.{MayRefuseAlone}
use Rattle.i_overlay.proofs.OneAnswer.{memory_refuses_paths}
use Rattle.polyover_calls.specs.Asked.{solver_of}
use Rattle.polyover_calls.specs.Determined.{TellsOfArguments}
use Rattle.polyover_calls.specs.EachFault.{HandsOneFault}
use Rattle.polyover_calls.specs.EndsOnce.{HandsOnce}
use Rattle.polyover_calls.specs.Given.{Contours, paths_of}
use Rattle.polyover_calls.specs.Lines.{shape_and_lines}
use Rattle.polyover_calls.specs.Statuses.{IsRefused}
use Rattle.polyover_calls.specs.declared.fault.Fault.{Fault}
use Rattle.polyover_calls.specs.declared.status.Status.{Status}
use Rattle.polyover_calls.specs.declared.status.Status.TheVariants.{Done, Memory, BadEnds, OutOfRange}
use Rattle.polyover_calls.specs.declared.status.Status.TheVariants.{NotResolved, BadRule, BadFill, BadOption}
use Rattle.polyover_calls.specs.declared.status.Status.TheVariants.{NotSettled, TooManyEdges, TooSmall}

-- ---- refusals

-- that there are too many edges is no want of memory
many_is_not_memory : ¬ (error.TooManyEdges ≡ error.Memory)
many_is_not_memory is = subst is_many is tt
  where
    is_many : OverlayError → Type 0
    is_many error.Memory = ⊥
    is_many error.NotSettled = ⊥
    is_many error.TooManyEdges = Unit {0}
    is_many error.Failed = ⊥

-- paths that the solver with the number 0 arranges are not refused so
pub light_alone : (keep : Bool) (n : ℕ) (paths : List GivenPath) (content es : List CountedEdge) → n ≡ 0 →
    HoldsPaths (added_paths keep paths) content → IsArranged (solver_of n) content es →
    ¬ (MayRefuseAlone keep (solver_of n) paths error.TooManyEdges)
light_alone keep n paths content es zero holds =
    subst (λ m. IsArranged (solver_of m) content es → ¬ (MayRefuseAlone keep (solver_of m) paths error.TooManyEdges))
    (sym zero)
    (λ arranged may. many_is_not_memory
    (memory_refuses_paths keep paths content es holds arranged error.TooManyEdges may))

-- nor are lines over a shape
pub light_lines : {I : Type 0} (whole : I → ℤ) (n : ℕ) (shape lines : Contours I) (content es : List CountedEdge) →
    n ≡ 0 → HoldsPaths (shape_and_lines whole shape lines) content → IsArranged (solver_of n) content es →
    ¬ (MayRefuseStrings (solver_of n) (shape_and_lines whole shape lines) error.TooManyEdges)
light_lines whole n shape lines content es zero holds =
    subst (λ m. IsArranged (solver_of m) content es → ¬ (MayRefuseStrings (solver_of m)
    (shape_and_lines whole shape lines) error.TooManyEdges)) (sym zero)
    (λ arranged may. many_is_not_memory (memory_refuses_strings (paths_of whole shape) (paths_of whole lines) content es
    holds arranged error.TooManyEdges may))

-- nor are paths that have tiles
pub light_tiles : (width : Width) (fill : FillRule) (wide high : ℤ) (paths : List (List Point))
    (tiles : List (List (List Point))) → AreTiles Snapping width fill wide high paths tiles →
    ¬ (MayRefuseTiles Snapping wide high paths error.TooManyEdges)
light_tiles width fill wide high paths tiles are may = many_is_not_memory
    (tiled_paths_are_refused_by_memory_alone answered_strings_are_refused_by_memory_alone width fill wide high paths
    tiles are error.TooManyEdges may)

-- ---- two runs

module _ (unknown : Status → Type 0) (faulty : Fault → Type 0) (may : OverlayError → Type 0)
    (settles : ¬ (may error.NotSettled)) where
  -- a refusal tells of arguments, or that there are too many edges, where memory is not wanting
  kinds : (s : Status) → IsRefused unknown faulty may s → ¬ (s ≡ Memory) →
      TellsOfArguments s ⊎ ((s ≡ TooManyEdges) × may error.TooManyEdges)
  kinds Done a kept = absurd a
  kinds Memory a kept = absurd (kept refl)
  kinds BadEnds a kept = inl tt
  kinds OutOfRange a kept = inl tt
  kinds NotResolved a kept = absurd a
  kinds BadRule a kept = inl tt
  kinds BadFill a kept = inl tt
  kinds BadOption a kept = inl tt
  kinds NotSettled a kept = absurd (settles a)
  kinds TooManyEdges a kept = inr (refl, a)
  kinds TooSmall a kept = absurd a

  -- runs that find the same arrays
  module _ {R : Type 0} (old : R) (Put : R → Status → Type 0)
      (late : (new : R) (s : Status) → Put new s → ¬ (TellsOfArguments s))
      (alone : (new : R) (s : Status) → Put new s → ¬ (may error.TooManyEdges))
      (fault : HandsOneFault (λ new s. Put new s ⊎ ((new ≡ old) × IsRefused unknown faulty may s))) where
    -- one that puts an answer there and one that is refused do not both end
    not_beside : (new newer : R) (s t : Status) → Put new s → (newer ≡ old) × IsRefused unknown faulty may t →
        ¬ (t ≡ Memory) → ⊥
    not_beside new newer s t a b kept = ⊎_elim
        (λ tells. late new s a (subst TellsOfArguments (fault newer new t s tells (inr b) (inl a)) tells))
        (λ many. alone new s a many.1) (kinds t b.1 kept)

    same_refusal : (new newer : R) (s t : Status) → (new ≡ old) × IsRefused unknown faulty may s →
        (newer ≡ old) × IsRefused unknown faulty may t →
        TellsOfArguments s ⊎ ((s ≡ TooManyEdges) × may error.TooManyEdges) →
        TellsOfArguments t ⊎ ((t ≡ TooManyEdges) × may error.TooManyEdges) → s ≡ t
    same_refusal new newer s t a b (inl tells) kind = fault new newer s t tells (inr a) (inr b)
    same_refusal new newer s t a b (inr many) (inl tells) = sym (fault newer new t s tells (inr b) (inr a))
    same_refusal new newer s t a b (inr many) (inr many') = many.0 ∙ sym many'.0

    -- both put an answer there, or both are refused alike
    pub alike : (new newer : R) (s t : Status) → Put new s ⊎ ((new ≡ old) × IsRefused unknown faulty may s) →
        Put newer t ⊎ ((newer ≡ old) × IsRefused unknown faulty may t) → ¬ (s ≡ Memory) → ¬ (t ≡ Memory) →
        (Put new s × Put newer t) ⊎ ((s ≡ t) × (new ≡ newer))
    alike new newer s t (inl a) (inl b) kept kept' = inl (a, b)
    alike new newer s t (inl a) (inr b) kept kept' = absurd (not_beside new newer s t a b kept')
    alike new newer s t (inr a) (inl b) kept kept' = absurd (not_beside newer new t s b a kept)
    alike new newer s t (inr a) (inr b) kept kept' =
        inr (same_refusal new newer s t a b (kinds s a.1 kept) (kinds t b.1 kept'), a.0 ∙ sym b.0)

    pub ends_once : ((new newer : R) (s t : Status) → Put new s → Put newer t → (s ≡ t) × (new ≡ newer)) →
        HandsOnce (λ new s. Put new s ⊎ ((new ≡ old) × IsRefused unknown faulty may s))
    ends_once one new newer s t a b kept kept' =
        ⊎_elim (λ both. one new newer s t both.0 both.1) (λ same. same) (alike new newer s t a b kept kept')
