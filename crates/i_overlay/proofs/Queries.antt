-- What a query of a builder answers, once its edges are arranged.
use Rattle.std.proofs.Common.{◌≡◌, ℕ, Bool, List, is_err, refl, sym, ap, subst, ◌∙◌}
use Rattle.std.proofs.lemmas.Bool.{false≢true}
use Rattle.std.proofs.lemmas.Result.{on_ok_weaker}
use Rattle.std.specs.Prelude.{Result, Ok, Err, Some, OnOk, IfErr, IsErrOf}
use Rattle.overlay_geom.specs.Edges.{CountedEdge}
use Rattle.overlay_geom.specs.Merged.{HaveSameWindings}
use Rattle.overlay_geom.specs.declared.error.OverlayError.{OverlayError}
use Rattle.overlay_geom.specs.declared.error.OverlayError.TheVariants.{Failed, Memory}
use Rattle.overlay_builder.specs.Held.{Held, AnswersQuery}
use Rattle.overlay_builder.proofs.Queries.{answers_after}
use Rattle.i_overlay.specs.Builder.{Builder, held_by}
use Rattle.i_overlay.specs.Queries.{BuilderAnswers, BuilderExtracts}

module _ {U V W : Type 0} (limit : ℕ) {now old : Builder U} (view : old ≡ now) (mid : Held CountedEdge) (w : W)
    (first : AnswersQuery limit old.solver (held_by old) mid (Ok w)) (edges : List CountedEdge) (failed : Bool)
    (r : Result V OverlayError) (flag : failed ≡ is_err r) (refused : IfErr r (λ e. e ≡ Memory)) where
  query : edges ≡ mid.edges
      → AnswersQuery limit old.solver (held_by old) (record { edges = edges; failed = failed }) r
  query same = answers_after limit old.solver (held_by old) mid (record { edges = edges; failed = failed }) w first r
      same flag refused

  -- more is asked of the edges, which stay
  pub answered : edges ≡ mid.edges → BuilderAnswers limit now (record old { edges = edges; failed = failed }) r
  answered same = subst (λ b. BuilderAnswers limit b (record old { edges = edges; failed = failed }) r) view (record {
    query = query same;
    kept = refl;
    untouched = λ is. absurd (false≢true (sym first.usable ∙ (query same).failed.0 is));
  })

  -- contours are extracted of them, with a buffer that is there afterwards
  pub extracted : {again late : Builder U} → again ≡ late
      → late ≡ record old { edges = mid.edges; boolean_buffer = late.boolean_buffer; failed = mid.failed }
      → edges ≡ again.edges → OnOk r (late.boolean_buffer ≡ Some tt)
      → BuilderExtracts limit now (record again { edges = edges; failed = failed }) r
  extracted {again = again} {late = late} is_late kept same buffer =
      subst (λ b. BuilderExtracts limit now (record b { edges = edges; failed = failed }) r) (sym is_late)
      (subst (λ b. BuilderExtracts limit b (record late { edges = edges; failed = failed }) r) view (record {
        query = query all_same;
        exact = λ whole. on_ok_weaker r (λ there. subst (HaveSameWindings old.edges) (sym all_same)
            (first.arranged.exact whole).windings) buffer;
        kept = ap (λ (b : Builder U). record b { edges = edges; failed = failed }) kept;
        untouched = λ is. absurd (false≢true (sym first.usable ∙ (query all_same).failed.0 is));
        buffer = buffer;
      }))
    where
      all_same : edges ≡ mid.edges
      all_same = same ∙ ap (λ b. b.edges) is_late ∙ ap (λ b. b.edges) kept

-- ---- a query that uses the builder up

-- the error of a result, or this one
abbrev error_or : {V : Type 0} → OverlayError → Result V OverlayError → OverlayError
error_or e (Ok v) = e
error_or e (Err x) = x

-- a refusal is `Failed` whatever was asked for
same_error : (V W : Type 0) (e : OverlayError) → IsErrOf {T = V} (Err e) Failed → IsErrOf {T = W} (Err e) Failed
same_error V W e is = ap (λ x. Err x) (ap (error_or e) is)

-- a refusal to arrange the edges is one of the query
pub refused_before : {U V W : Type 0} (limit : ℕ) {now old : Builder U} → old ≡ now → (mid : Held CountedEdge) →
    (e : OverlayError) → AnswersQuery {V = W} limit old.solver (held_by old) mid (Err e) →
    BuilderExtracts {V = V} limit now (record now { edges = mid.edges; failed = mid.failed }) (Err e)
refused_before {V = V} {W = W} limit {now = now} {old = old} view mid e first =
    subst (λ b. BuilderExtracts {V = V} limit b (record b { edges = mid.edges; failed = mid.failed }) (Err e)) view
    (record {
      query = record {
        usable = tt;
        stays_usable = tt;
        before = tt;
        arranged = tt;
        content = tt;
        fails = first.fails;
        failed = (λ is. first.failed.0 (same_error V W e is), λ had. same_error W V e (first.failed.1 had));
        untouched = λ is. first.untouched (same_error V W e is);
        err = first.err;
      };
      exact = λ whole. tt;
      kept = refl;
      untouched = λ is. ap (λ h. record old { edges = h.edges; failed = h.failed })
          (first.untouched (same_error V W e is));
      buffer = tt;
    })

there_is : {V : Type 0} (r : Result V OverlayError) → OnOk r (Some (tt {0}) ≡ Some tt)
there_is (Ok v) = refl
there_is (Err e) = tt

-- contours are extracted of the arranged edges
pub extracted_from : {U V W : Type 0} (limit : ℕ) {now old : Builder U} → old ≡ now → (mid : Held CountedEdge) →
    (w : W) → AnswersQuery limit old.solver (held_by old) mid (Ok w) → (r : Result V OverlayError) →
    IfErr r (λ e. e ≡ Memory) →
    BuilderExtracts limit now (record now { edges = mid.edges; boolean_buffer = Some tt; failed = is_err r }) r
extracted_from limit {old = old} view mid w first r refused =
    let late = record old { edges = mid.edges; boolean_buffer = Some tt; failed = mid.failed } in
    subst (λ b. BuilderExtracts limit b
    (record b { edges = mid.edges; boolean_buffer = Some tt; failed = is_err r }) r) view
    (extracted limit {now = old} {old = old} refl mid w first mid.edges (is_err r) r refl refused {again = late}
    {late = late} refl refl refl (there_is r))
