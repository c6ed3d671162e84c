-- Consequences of a call that adds something to a builder, or gives a view of it.
use Rattle.std.proofs.Common.{◌≡◌, ◌⊎◌, inl, inr, ℕ, List, map, is_err, refl, sym, ap, subst}
use Rattle.std.proofs.lemmas.Bool.{false≢true}
use Rattle.std.proofs.lemmas.Result.{on_ok_weaker}
use Rattle.std.specs.Iterator.{Drains}
use Rattle.std.specs.Prelude.{Option, Result, Ok, Err}
use Rattle.overlay_geom.specs.Edges.{CountedEdge}
use Rattle.overlay_geom.specs.declared.error.OverlayError.{OverlayError}
use Rattle.overlay_geom.specs.declared.error.OverlayError.TheVariants.{Memory, NotSettled, TooManyEdges, Failed}
use Rattle.overlay_geom.specs.declared.solver.Solver.{Solver}
use Rattle.overlay_builder.specs.BuilderCalls.{AddsOneAsAsked, AddsPathAsAsked, AddsGivenAsAsked, EndsView}
use Rattle.overlay_builder.specs.Held.{Held, AnswersQuery, shown_edges}
use Rattle.overlay_builder.specs.PathLists.{AddedPath, MayRefusePath}
use Rattle.overlay_builder.proofs.Mapped.{held_seen}
use Rattle.overlay_builder.proofs.Queries.{answers_after}

-- the error of a refusal
abbrev pub error_of : {V : Type 0} → Result V OverlayError → OverlayError
error_of (Ok v) = Memory
error_of (Err e) = e

-- a builder that refuses a path had failed, or may refuse it
pub refusal_of_path : {E V : Type 0} (weigh : List E → ℕ) (path : AddedPath E) (old new : Held E) (e : OverlayError) →
    AddsPathAsAsked {V = V} weigh path old new (Err e) → (e ≡ Failed) ⊎ MayRefusePath weigh path old.edges e
refusal_of_path weigh path old new Memory h = inr tt
refusal_of_path weigh path old new NotSettled h = absurd (h.no_query refl)
refusal_of_path weigh path old new TooManyEdges h = inr (h.too_many refl)
refusal_of_path weigh path old new Failed h = inl refl

-- ---- edges with their values, seen as edges alone, by a call that answers something else

module _ {E F V W : Type 0} (see : E → F) (weigh : List F → ℕ) (Adds : List E → List E → Type 0)
    (AddsSeen : List F → List F → Type 0) (WeighsTooMuch : List E → Type 0) (SeenWeighsTooMuch : List F → Type 0)
    (old new : Held E) where
  -- where the thing is added
  pub added_seen : (Adds old.edges new.edges → AddsSeen (map see old.edges) (map see new.edges)) → (v : V) (w : W) →
      AddsOneAsAsked (λ es. weigh (map see es)) Adds WeighsTooMuch old new (Ok v) →
      AddsOneAsAsked weigh AddsSeen SeenWeighsTooMuch (held_seen see weigh old) (held_seen see weigh new) (Ok w)
  added_seen adds v w h = record {
    ok = adds h.ok;
    light = h.light;
    kept = h.kept;
    err = tt;
    failed = (λ same. absurd (no_error Failed same), λ had. absurd (false≢true (ap is_err (h.failed.1 had))));
    too_many = λ same. absurd (no_error TooManyEdges same);
    no_query = no_error NotSettled;
  }
    where
      no_error : (e : OverlayError) → ¬ (Ok w ≡ Err e)
      no_error e same = false≢true (ap is_err same)

  -- where it is refused
  pub refused_seen : (WeighsTooMuch old.edges → SeenWeighsTooMuch (map see old.edges)) → (e : OverlayError) →
      AddsOneAsAsked {V = V} (λ es. weigh (map see es)) Adds WeighsTooMuch old new (Err e) →
      AddsOneAsAsked {V = W} weigh AddsSeen SeenWeighsTooMuch (held_seen see weigh old) (held_seen see weigh new)
      (Err e)
  refused_seen heavy e h = record {
    ok = tt;
    light = h.light;
    kept = h.kept;
    err = ap (held_seen see weigh) h.err;
    failed = (λ same. h.failed.0 (ap Err (ap error_of same)), λ had. ap Err (ap error_of (h.failed.1 had)));
    too_many = λ same. heavy (h.too_many (ap Err (ap error_of same)));
    no_query = λ same. h.no_query (ap Err (ap error_of same));
  }

-- ---- the items of an iterator

module _ {X S E V : Type 0} (weigh : List E → ℕ) (steps : S → Option X → S → Type 0) (iter : S)
    (Adds : List X → List E → List E → Type 0) (WeighsTooMuch : List X → List E → Type 0) (old new : Held E) where
  -- it is added as the items would be that it gives
  pub given_added : (xs : List X) → Drains steps iter xs → (r : Result V OverlayError) →
      AddsOneAsAsked weigh (Adds xs) (WeighsTooMuch xs) old new r →
      AddsGivenAsAsked weigh steps iter Adds WeighsTooMuch old new r
  given_added xs drains r h = record {
    ok = on_ok_weaker r (λ adds. (xs, drains, adds)) h.ok;
    light = h.light;
    kept = h.kept;
    err = h.err;
    failed = h.failed;
    too_many = λ same. (xs, drains, h.too_many same);
    no_query = h.no_query;
  }

-- ---- views

module _ {B S : Type 0} (held_by : B → Held CountedEdge) (limit : ℕ) (solver : Solver) (old : Held CountedEdge)
    (new : B) (seen : S)
    (first : AnswersQuery limit solver old (held_by new) (Ok seen)) where
  -- once a view of an answer has ended, the builder is as after any query
  pub view_ended : {V : Type 0} {edges_of : V → List CountedEdge} {shown : Option V} {later : B} → later ≡ new →
      shown_edges edges_of shown ≡ (held_by new).edges → EndsView limit solver edges_of old (held_by later) (Ok shown)
  view_ended {edges_of = edges_of} {shown = shown} is are =
      subst (λ b. EndsView limit solver edges_of old (held_by b) (Ok shown)) (sym is) (record {
        query = answers_after limit solver old (held_by new) (held_by new) seen first (Ok shown)
            (λ i. (held_by new).edges) first.stays_usable tt;
        shown = are;
      })
