-- A query of a builder for predicates that keeps what was found, and the answer of one that has found it.
use Rattle.std.proofs.Common.{◌≡◌, ℕ, ℤ, Bool, true, false, List, [], Option, None, Some, is_err, sym, ap, subst, ◌∙◌}
use Rattle.std.proofs.Common.{◌<◌, ◌^◌, arith}
use Rattle.std.proofs.lemmas.Bool.{false≢true}
use Rattle.std.proofs.lemmas.List.Elements.{All-nil}
use Rattle.std.specs.Prelude.{◌↔◌, Ok, IfSome, IsTrue, is_some}
use Rattle.overlay_geom.specs.Edges.{CountedEdge, weight}
use Rattle.overlay_geom.specs.declared.solver.Solver.{Solver}
use Rattle.overlay_geom.specs.Rules.{is_filled}
use Rattle.overlay_geom.proofs.Merging.{IsMerged-again}
use Rattle.overlay_plane.specs.Predicates.{IsFillable}
use Rattle.overlay_plane.specs.Rounds.{after_rounds, pieces_of}
use Rattle.overlay_order.specs.Content.{IsContent}
use Rattle.overlay_graph.specs.Arranged.{IsArranged, WasArranged}
use Rattle.overlay_arrange.proofs.ArrangedLists.{arranged_of_split}
use Rattle.overlay_builder.specs.Held.{Held, AnswersQuery}
use Rattle.overlay_builder.proofs.Queries.{answers_arranged, answers_after}
use Rattle.overlay_relate.specs.Findings.{Tells, IsKept}
use Rattle.overlay_relate.specs.Found.{IsFoundUnder, relations_by}
use Rattle.overlay_relate.specs.PredicateBuilder.{PredicateBuilder, held_by}
use Rattle.overlay_relate.specs.PredicateQueries.{Holds, AreRelations, TellsOfShapes, TellsRelation, TellsRelations}
use Rattle.overlay_relate.specs.declared.finding.Finding.{Finding}
use Rattle.overlay_relate.specs.declared.found.Found.{Found}
use Rattle.overlay_relate.specs.declared.predicate.Predicate.{Predicate}
use Rattle.overlay_relate.specs.declared.relations.Relations.{Relations}
use Rattle.overlay_relate.proofs.ToldByEdges.{relations_found}

-- an arrangement is one of itself by each solver, reached by no round
arranged_of_itself : (limit : ℕ) (solver : Solver) (es : List CountedEdge) → IsContent limit es → WasArranged es →
    IsArranged solver es es
arranged_of_itself limit solver es content was = arranged_of_split limit solver es es content (record {
  rounds = [];
  few = omega arith;
  reached = record {
    cut = tt;
    merged = IsMerged-again (after_rounds was.1 was.2) es was.3.merged;
    settled = was.3.settled;
  };
  light = All-nil (λ r. weight (pieces_of r) < 2 ^ 31);
})

-- so a builder that keeps something answers a query as it is, whichever solver is set
pub answers_as_it_is : (limit : ℕ) (solver : Solver) (b : Held CountedEdge) (kept : Option Finding) →
    is_some kept ≡ true → IfSome kept (IsKept limit b.failed b.edges) →
    AnswersQuery {V = Unit {0}} limit solver b b (Ok tt)
answers_as_it_is limit solver b None some right = absurd (false≢true some)
answers_as_it_is limit solver b (Some f) some right =
    answers_arranged limit solver b right.usable right.content b (Ok tt)
    (arranged_of_itself limit solver b.edges right.content right.arranged) right.content tt right.usable

module _ {U : Type 0} (limit : ℕ) (old mid new : PredicateBuilder) (u : U)
    (first : AnswersQuery limit old.solver (held_by old) (held_by mid) (Ok u))
    (kept : mid ≡ record old { edges = mid.edges; failed = mid.failed })
    (stays : new ≡ record mid { failed = false }) where
  edges : new.edges ≡ mid.edges
  edges = ap (λ b. b.edges) stays

  usable : new.failed ≡ false
  usable = ap (λ b. b.failed) stays

  rule : mid.fill_rule ≡ old.fill_rule
  rule = ap (λ b. b.fill_rule) kept

  all_else : new ≡ record old { edges = new.edges; failed = new.failed }
  all_else = stays
      ∙ ap {A = PredicateBuilder} (λ b. record b { failed = false }) kept
      ∙ ap {B = PredicateBuilder} (λ es. record old { edges = es; failed = false }) (sym edges)
      ∙ ap {B = PredicateBuilder} (λ t. record old { edges = new.edges; failed = t }) (sym usable)

  -- what is right of the arranged edges answers a query
  told_so : {V : Type 0} (IsRight : (ℤ → Bool) → List CountedEdge → V → Type 0) →
      IsFillable (is_filled mid.fill_rule) mid.edges → (v : V) → IsRight (is_filled mid.fill_rule) mid.edges v →
      TellsOfShapes limit IsRight old new (Ok v)
  told_so IsRight fillable v right = record {
    query = answers_after limit old.solver (held_by old) (held_by mid) (held_by new) u first (Ok v) edges usable tt;
    answer = subst (λ es. IsRight (is_filled old.fill_rule) es v) (sym edges)
        (subst (λ r. IsRight (is_filled r) mid.edges v) rule right);
    fillable = subst (IsFillable (is_filled old.fill_rule)) (sym edges)
        (subst (λ r. IsFillable (is_filled r) mid.edges) rule fillable);
    kept = all_else;
    untouched = λ same. absurd (false≢true (ap is_err same));
  }

  -- an answer of them that is right is one of a query of a predicate
  pub told_as_answered : (p : Predicate) (b : Bool) → Tells mid.fill_rule mid.edges p b →
      TellsRelation limit (Holds p) old new (Ok b)
  told_as_answered p b tells = told_so (λ filled es t. IsTrue t ↔ Holds p filled es) tells.fillable b tells.right

  -- what is found of them answers one of all relations
  pub relations_as_found : (f : Found) → IsFoundUnder mid.fill_rule mid.edges f → (r : Relations) →
      r ≡ relations_by f → TellsRelations limit old new (Ok r)
  relations_as_found f found r is = told_so AreRelations found.fillable r
      (subst (AreRelations (is_filled mid.fill_rule) mid.edges) (sym is)
      (relations_found mid.fill_rule mid.edges f found))
