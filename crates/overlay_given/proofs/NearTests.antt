-- Tests of an edge of a list and of those at some places, one after the other.
use Rattle.std.proofs.Common.{◌≡◌, ⊎_elim, Bool, false, ℕ, ◌+◌, ◌<◌, ◌≤◌, ℤ, List, [], ◌∷◌, ◌++◌, Contains}
use Rattle.std.proofs.Common.{length, get_or, sym, subst, ◌∙◌, arith}
use Rattle.std.proofs.lemmas.Bool.{false≢true}
use Rattle.std.proofs.lemmas.List.{get_or_default, length-map}
use Rattle.std.proofs.lemmas.List.Elements.{Contains-push_cases}
use Rattle.overlay_geom.specs.Counts.{Counts}
use Rattle.overlay_geom.specs.Edges.{CountedEdge, ends_of}
use Rattle.overlay_order.specs.Content.{plain_edge, plain_edges}
use Rattle.overlay_order.specs.declared.edge.CountedEdge.{CountedEdge as HeldEdge}
use Rattle.overlay_pairs.specs.Near.{AreNear}
use Rattle.overlay_pairs.specs.Places.{IsAt}
use Rattle.overlay_pairs.proofs.Entries.{one_entry}
use Rattle.overlay_exact.proofs.MetByStarts.{entry_at}
use Rattle.overlay_given.specs.Crossing.{cross, PassesAtSome}

-- the edges cross, as a test of counted edges
abbrev pub edges_cross : CountedEdge → CountedEdge → Bool
edges_cross e f = cross (ends_of e) (ends_of f)

-- the edge at place i and those at the places fail the test
abbrev pub FailsAt : (CountedEdge → CountedEdge → Bool) → List CountedEdge → ℕ → List ℕ → Type 0
FailsAt test es i js = (k : ℕ) (e f : CountedEdge) → Contains js k → IsAt es i e → IsAt es k f → test e f ≡ false

module _ (test : CountedEdge → CountedEdge → Bool) (es : List CountedEdge) where
  pub fails_at_none : (i : ℕ) → FailsAt test es i []
  fails_at_none i k e f has = absurd (omega (arith, has.1))

  pub fails_at_more : (i : ℕ) (e : CountedEdge) → IsAt es i e → (js : List ℕ) (j : ℕ) (f : CountedEdge) →
      IsAt es j f → test e f ≡ false → FailsAt test es i js → FailsAt test es i (js ++ j ∷ [])
  fails_at_more i e at_e js j f at_f fails so_far k g h has at_g at_h = ⊎_elim
      (λ before. so_far k g h before at_g at_h)
      (λ (same : j ≡ k). subst (λ (u : CountedEdge). test u h ≡ false) (one_entry es i e g at_e at_g)
      (subst (λ (u : CountedEdge). test e u ≡ false)
      (one_entry es j f h at_f (subst (λ n. IsAt es n h) (sym same) at_h)) fails))
      (Contains-push_cases js j k has)

  -- then none passes
  pub none_passes : (i : ℕ) (js : List ℕ) → FailsAt test es i js → ¬ (PassesAtSome test es i js)
  none_passes i js fails (k, e, f, has, at_e, at_f, passes) =
      false≢true (sym (fails k e f has at_e at_f) ∙ passes)

-- the place of a later edge that is near
pub near_at : {I C : Type 0} (whole : I → ℤ) (counts : C → Counts) (edges : List (HeldEdge I C)) (i : ℕ)
    (near : List ℕ) → i < length edges → AreNear (plain_edges whole counts edges) i near → (k : ℕ) → k < length near →
    ((i + 1) ≤ get_or near k 0) × (get_or near k 0 < length edges)
near_at whole counts edges i near inside are k less =
    let plain = plain_edge whole counts in
    let l = length-map edges plain in
    let e = entry_at (plain_edges whole counts edges) i (omega (arith, l, inside)) in
    let j = get_or near k 0 in
    let later = (are e.0 e.1).within j (k, less, get_or_default near k j 0 less) in
    let within = later.1 in
    (later.0, omega (arith, l, within))
