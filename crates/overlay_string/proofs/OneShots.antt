-- What a query of paths that were added to a new builder answers of the paths.
use Rattle.std.proofs.Common.{◌≡◌, ◌⊎◌, inl, inr, Bool, true, false, List, sym, ap, ◌∙◌}
use Rattle.std.proofs.lemmas.Bool.{false≢true}
use Rattle.std.specs.Prelude.{◌↔◌, Result, Ok, Err, IfErr, IsErrOf}
use Rattle.overlay_geom.specs.Edges.{CountedEdge}
use Rattle.overlay_geom.specs.declared.error.OverlayError.{OverlayError}
use Rattle.overlay_geom.specs.declared.error.OverlayError.TheVariants.{Memory, NotSettled, TooManyEdges, Failed}
use Rattle.overlay_geom.specs.declared.solver.Solver.{Solver}
use Rattle.overlay_graph.specs.Arranged.{MayRefuseSplitting}
use Rattle.overlay_builder.specs.PathLists.{AddedPath, HoldsPaths, MayRefuseBuilder}
use Rattle.overlay_string.specs.OneShot.{MayRefusePaths}

module _ (solver : Solver) (paths : List (AddedPath CountedEdge)) where
  -- the builder is refused
  pub builder_refused : (e : OverlayError) → MayRefuseBuilder paths e → MayRefusePaths solver paths e
  builder_refused Memory may = tt
  builder_refused NotSettled may = absurd may
  builder_refused TooManyEdges may = inl may
  builder_refused Failed may = may

  -- or its edges are, brought into an arrangement
  splitting_refused : (content : List CountedEdge) → HoldsPaths paths content → (e : OverlayError) →
      MayRefuseSplitting solver content e → MayRefusePaths solver paths e
  splitting_refused content holds Memory may = tt
  splitting_refused content holds NotSettled may = record { content = content; holds = holds; refused = may }
  splitting_refused content holds TooManyEdges may =
      inr (record { content = content; holds = holds; refused = may })
  splitting_refused content holds Failed may = may

  -- so the refusal of a query is one of the paths, as the builder had not failed
  pub clip_refused : {V : Type 0} (content : List CountedEdge) (had_failed : Bool) → HoldsPaths paths content →
      had_failed ≡ false → (r : Result V OverlayError) → (IsErrOf r Failed ↔ (had_failed ≡ true))
      → IfErr r (λ e. (e ≡ Failed) ⊎ MayRefuseSplitting solver content e) → IfErr r (MayRefusePaths solver paths)
  clip_refused content had_failed holds ready (Ok v) failed refused = tt
  clip_refused content had_failed holds ready (Err e) failed refused = either refused
    where
      either : ((e ≡ Failed) ⊎ MayRefuseSplitting solver content e) → MayRefusePaths solver paths e
      either (inl same) = absurd (false≢true (sym ready ∙ failed.0 (ap Err same)))
      either (inr may) = splitting_refused content holds e may
