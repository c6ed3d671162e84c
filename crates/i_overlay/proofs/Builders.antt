-- What calls leave of a builder.
use Rattle.std.proofs.Common.{◌≡◌, ℕ, Bool, false, List, sym, ap, subst, ◌∙◌}
use Rattle.std.specs.Prelude.{Result, Ok, Err, IfOk}
use Rattle.overlay_geom.specs.Edges.{CountedEdge}
use Rattle.overlay_geom.specs.Options.{AreOptions}
use Rattle.overlay_geom.specs.declared.options.IntOverlayOptions.{IntOverlayOptions}
use Rattle.overlay_geom.specs.declared.solver.Solver.TheVariants.{Rounds}
use Rattle.i_overlay.specs.Builder.{Builder, empty_builder, IsNewBuilder}

module _ {U : Type 0} where
  -- a builder of which nothing but the edges is new
  pub only_edges_new : (v old : Builder U) (es : List CountedEdge) (failed : Bool) → v ≡ old → failed ≡ v.failed
      → record v { edges = es; failed = failed } ≡ record old { edges = es }
  only_edges_new v old es failed is same =
      ap {B = Builder U} (λ f. record v { edges = es; failed = f }) same
      ∙ ap {A = Builder U} (λ b. record b { edges = es }) is

  module _ (natural : U → ℕ) (options : IntOverlayOptions U)
      (are : AreOptions natural false false false options) where
    -- a builder with the default options is a new one
    pub made_new : {E : Type 0} (r : Result (Builder U) E) →
        IfOk r (λ b. b ≡ record (empty_builder options Rounds) { edges = b.edges })
        → IfOk r (IsNewBuilder natural)
    made_new (Ok b) is = record {
      ready = ap (λ m. m.failed) is;
      options = subst (AreOptions natural false false false) (sym (ap (λ m. m.options) is)) are;
      buffer = ap (λ m. m.boolean_buffer) is;
      by = ap (λ m. m.solver) is;
    }
    made_new (Err e) is = tt

    -- and so is one without edges
    pub made_empty : {E : Type 0} (r : Result (Builder U) E) → IfOk r (λ b. b ≡ empty_builder options Rounds) →
        IfOk r (IsNewBuilder natural)
    made_empty {E = E} (Ok b) is = made_new {E = E} (Ok b)
        (is ∙ ap (λ m. record (empty_builder options Rounds) { edges = m.edges }) (sym is))
    made_empty (Err e) is = tt
