-- What a builder that holds paths of the subject alone is known to hold, and answers where more is asked of it.
use Rattle.std.proofs.Common.{◌≡◌, ℕ, Bool, List, is_err, sym, subst, ◌∙◌}
use Rattle.std.proofs.lemmas.Bool.{false≢true}
use Rattle.std.proofs.lemmas.Result.{IfErr-weaker}
use Rattle.std.specs.Prelude.{Result, Ok, Err, OnOk, IfErr}
use Rattle.overlay_geom.specs.Edges.{CountedEdge}
use Rattle.overlay_geom.specs.declared.error.OverlayError.{OverlayError}
use Rattle.overlay_geom.specs.declared.error.OverlayError.TheVariants.{Memory}
use Rattle.overlay_geom.specs.declared.solver.Solver.{Solver}
use Rattle.overlay_order.specs.Content.{IsContent}
use Rattle.overlay_builder.specs.GivenPaths.{GivenPath, IsBalancedUnlessFailed}
use Rattle.overlay_builder.specs.Held.{Held}
use Rattle.overlay_builder.proofs.Balanced.{held_paths_are_balanced}
use Rattle.i_overlay.specs.Alone.{AnswersAlone, IsArrangedAlone, MayRefuseAlone}
use Rattle.i_overlay.proofs.AddedAlone.{answers_alone}

module _ (limit : ℕ) (solver : Solver) (keep : Bool) (paths : List GivenPath) where
  -- its counts are balanced
  pub balanced_alone : {V : Type 0} (new : Held CountedEdge) (r : Result V OverlayError) →
      AnswersAlone limit solver keep paths new r → IsBalancedUnlessFailed new.failed new.edges
  balanced_alone new (Ok v) h = λ ready. h.arranged.arranged.balanced
      (held_paths_are_balanced keep paths h.arranged.content h.arranged.holds.added)
  balanced_alone new (Err e) h = λ ready. absurd (false≢true (sym ready ∙ h.fails))

  -- more is asked, which may be refused for want of memory
  pub alone_after : {U V : Type 0} (mid new : Held CountedEdge) (u : U) →
      AnswersAlone limit solver keep paths mid (Ok u) →
      (r : Result V OverlayError) → new.edges ≡ mid.edges → new.failed ≡ is_err r → IfErr r (λ e. e ≡ Memory) →
      AnswersAlone limit solver keep paths new r
  alone_after {V = V} mid new u first r edges flag refused =
      answers_alone limit solver keep paths mid new r (arranged r) (content r)
      (IfErr-weaker r _ _ (λ e is. subst (MayRefuseAlone keep solver paths) (sym is) tt) refused) edges flag
    where
      arranged : (r : Result V OverlayError) → OnOk r (IsArrangedAlone keep solver paths mid.edges)
      arranged (Ok v) = first.arranged
      arranged (Err e) = tt

      content : (r : Result V OverlayError) → OnOk r (IsContent limit mid.edges)
      content (Ok v) = first.content
      content (Err e) = tt
