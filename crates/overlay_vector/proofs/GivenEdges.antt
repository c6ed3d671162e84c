-- The shapes of a query wind as asked of the edges that the builder held before, round each point far from these.
use Rattle.std.proofs.Common.{◌≡◌, ℕ, List, subst, sym}
use Rattle.std.specs.Prelude.{Result, Ok, Err, IfOk}
use Rattle.overlay_geom.specs.Edges.{CountedEdge}
use Rattle.overlay_geom.specs.Plane.{Step}
use Rattle.overlay_geom.specs.declared.error.OverlayError.{OverlayError}
use Rattle.overlay_plane.specs.Carried.{edges_in}
use Rattle.overlay_builder.specs.Held.{Held, AnswersQuery}
use Rattle.overlay_extract.specs.GivenRegion.{WindsRoundGiven}
use Rattle.overlay_extract.specs.Results.{Asked, WindsRoundRegion}
use Rattle.overlay_extract.proofs.GivenRegion.{winds_round_given}
use Rattle.overlay_vector.specs.EdgeBuilder.{EdgeBuilder, held_by}

module _ {U D S V W : Type 0} (limit : ℕ) {now old : EdgeBuilder U D S} (view : old ≡ now) (mid : Held CountedEdge)
    (w : W) (first : AnswersQuery limit old.solver (held_by old) mid (Ok w)) (q : EdgeBuilder U D S → Asked)
    (steps : V → List Step) where
  -- where they wind as asked off the arranged edges
  pub given_round : (edges : List CountedEdge) → edges ≡ mid.edges → (r : Result V OverlayError) →
      IfOk r (λ v. (q old).min_output_area ≡ 0 → WindsRoundRegion (q old) mid.edges (steps v)) →
      IfOk r (λ v. WindsRoundGiven (q now) now.solver (edges_in now.edges) edges (steps v))
  given_round edges same (Ok v) winds =
      subst (λ b. WindsRoundGiven (q b) b.solver (edges_in b.edges) edges (steps v)) view
      (subst (λ es. WindsRoundGiven (q old) old.solver (edges_in old.edges) es (steps v)) (sym same)
      (winds_round_given (q old) old.solver (edges_in old.edges) mid.edges (steps v) first.arranged winds))
  given_round edges same (Err e) winds = tt
