-- Answers of queries of a builder's core: when its edges are arranged, and when more is asked of them.
use Rattle.std.proofs.Common.{◌≡◌, inr, ℕ, false, is_err, sym, ap, subst, ◌∙◌}
use Rattle.std.proofs.lemmas.Bool.{false≢true}
use Rattle.std.proofs.lemmas.Result.{IfErr-weaker}
use Rattle.std.specs.Prelude.{Result, Ok, Err, OnOk, IfErr, IsErrOf}
use Rattle.overlay_geom.specs.Edges.{CountedEdge}
use Rattle.overlay_geom.specs.declared.error.OverlayError.{OverlayError}
use Rattle.overlay_geom.specs.declared.error.OverlayError.TheVariants.{Memory, Failed}
use Rattle.overlay_geom.specs.declared.solver.Solver.{Solver}
use Rattle.overlay_order.specs.Content.{IsContent}
use Rattle.overlay_graph.specs.Arranged.{IsArranged, MayRefuseSplitting}
use Rattle.overlay_builder.specs.Held.{Held, AnswersQuery}

module _ {V : Type 0} (limit : ℕ) (solver : Solver) (old : Held CountedEdge) where
  module _ (ready : old.failed ≡ false) (before : IsContent limit old.edges) (new : Held CountedEdge) where
    -- one that had not answers by the arrangement of its edges, or remembers that it was refused
    pub answers_arranged : (r : Result V OverlayError) → OnOk r (IsArranged solver old.edges new.edges) →
        IsContent limit new.edges
        → IfErr r (MayRefuseSplitting solver old.edges) → new.failed ≡ is_err r → AnswersQuery limit solver old new r
    answers_arranged (Ok v) arranged content refused flag = record {
      usable = ready;
      stays_usable = flag;
      before = before;
      arranged = arranged;
      content = content;
      fails = tt;
      failed = (λ same. absurd (no_error same), λ had. absurd (false≢true (sym ready ∙ had)));
      untouched = λ same. absurd (no_error same);
      err = tt;
    }
      where
        no_error : ¬ (IsErrOf {T = V} (Ok v) Failed)
        no_error same = false≢true (ap is_err same)
    answers_arranged (Err e) arranged content refused flag = record {
      usable = tt;
      stays_usable = tt;
      before = tt;
      arranged = tt;
      content = tt;
      fails = flag;
      failed = (λ same. absurd (not_failed same), λ had. absurd (false≢true (sym ready ∙ had)));
      untouched = λ same. absurd (not_failed same);
      err = inr refused;
    }
      where
        not_failed : ¬ (IsErrOf {T = V} (Err e) Failed)
        not_failed same = subst (λ answer. IfErr {T = V} answer (MayRefuseSplitting solver old.edges)) same refused

-- more is asked of the arrangement, which may be refused for want of memory
pub answers_after : {U V : Type 0} (limit : ℕ) (solver : Solver) (old mid new : Held CountedEdge) (v : U) →
    AnswersQuery limit solver old mid (Ok v)
    → (r : Result V OverlayError) → new.edges ≡ mid.edges → new.failed ≡ is_err r → IfErr r (λ e. e ≡ Memory)
    → AnswersQuery limit solver old new r
answers_after {V = V} limit solver old mid new v first r edges flag refused =
    answers_arranged limit solver old first.usable first.before new r (by r)
    (subst (IsContent limit) (sym edges) first.content)
    (IfErr-weaker r _ _ (λ e is. subst (MayRefuseSplitting solver old.edges) (sym is) tt) refused) flag
  where
    by : (r : Result V OverlayError) → OnOk r (IsArranged solver old.edges new.edges)
    by (Ok w) = subst (IsArranged solver old.edges) (sym edges) first.arranged
    by (Err e) = tt
