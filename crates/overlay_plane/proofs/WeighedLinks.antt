-- Sums over the links of the chains of some edges, by a number for each link, times the edges' counts: they are linear
-- in that number.
use Rattle.std.proofs.Common.{◌≡◌, ℤ, ◌+ℤ◌, ◌*ℤ◌, List, flat_map, sym, ap, ◌∙◌}
use Rattle.overlay_geom.specs.Plane.{total}
use Rattle.overlay_geom.specs.Edges.{CountedEdge}
use Rattle.overlay_geom.proofs.Identities.{solve, ◌⊗◌, ◌≗◌}
use Rattle.overlay_geom.proofs.Products.{mul-add}
use Rattle.overlay_plane.specs.ChainLinks.{ChainLink}
use Rattle.overlay_plane.proofs.JoinedLists.{total-flat_map, total-times}
use Rattle.overlay_plane.proofs.StepTotals.{total-exchange}
use Rattle.overlay_plane.proofs.Totals.{total-same, total-add}

module _ (count : CountedEdge → ℤ) (old : List CountedEdge) where
  -- the sum over the links of the edges' chains
  abbrev pub weighed : (CountedEdge → List ChainLink) → (ChainLink → ℤ) → ℤ
  weighed links w = total (λ e. count e *ℤ total w (links e)) old

  -- by numbers that are equal, the same
  pub weighed-same : (links : CountedEdge → List ChainLink) (v w : ChainLink → ℤ) → ((l : ChainLink) → v l ≡ w l) →
      weighed links v ≡ weighed links w
  weighed-same links v w same = total-same (λ e. count e *ℤ total v (links e)) (λ e. count e *ℤ total w (links e)) old
      (λ e c. ap (λ z. count e *ℤ z) (total-same v w (links e) (λ l d. same l)))

  -- by sums, the sum
  pub weighed-add : (links : CountedEdge → List ChainLink) (v w : ChainLink → ℤ) →
      weighed links (λ l. v l +ℤ w l) ≡ weighed links v +ℤ weighed links w
  weighed-add links v w =
      total-same (λ e. count e *ℤ total (λ l. v l +ℤ w l) (links e))
      (λ e. count e *ℤ total v (links e) +ℤ count e *ℤ total w (links e)) old
      (λ e c. ap (λ z. count e *ℤ z) (total-add v w (links e)) ∙ mul-add (count e) (total v (links e))
      (total w (links e)))
      ∙ total-add (λ e. count e *ℤ total v (links e)) (λ e. count e *ℤ total w (links e)) old

  -- by multiples, the multiple
  pub weighed-times : (links : CountedEdge → List ChainLink) (k : ℤ) (w : ChainLink → ℤ) →
      weighed links (λ l. k *ℤ w l) ≡ k *ℤ weighed links w
  weighed-times links k w =
      total-same (λ e. count e *ℤ total (λ l. k *ℤ w l) (links e)) (λ e. k *ℤ (count e *ℤ total w (links e))) old
      (λ e c. ap (λ z. count e *ℤ z) (total-times k w (links e)) ∙ solve 3 (λ n k t. n ⊗ (k ⊗ t) ≗ k ⊗ (n ⊗ t)) tt
      (count e) k (total w (links e)))
      ∙ total-times k (λ e. count e *ℤ total w (links e)) old

  -- by sums over a list, the sum over the list
  pub weighed-total : {X : Type 0} (links : CountedEdge → List ChainLink) (h : X → ChainLink → ℤ) (xs : List X) →
      weighed links (λ l. total (λ x. h x l) xs) ≡ total (λ x. weighed links (h x)) xs
  weighed-total links h xs =
      total-same (λ e. count e *ℤ total (λ l. total (λ x. h x l) xs) (links e))
      (λ e. total (λ x. count e *ℤ total (h x) (links e)) xs) old
      (λ e c. ap (λ z. count e *ℤ z) (total-exchange (λ l x. h x l) (links e) xs)
      ∙ sym (total-times (count e) (λ x. total (h x) (links e)) xs))
      ∙ total-exchange (λ e x. count e *ℤ total (h x) (links e)) old xs

  -- where each link becomes some links, these add up for it
  pub weighed-flat_map : (links : CountedEdge → List ChainLink) (after : ChainLink → List ChainLink)
      (w : ChainLink → ℤ) →
      weighed (λ e. flat_map after (links e)) w ≡ weighed links (λ l. total w (after l))
  weighed-flat_map links after w = total-same (λ e. count e *ℤ total w (flat_map after (links e)))
      (λ e. count e *ℤ total (λ l. total w (after l)) (links e)) old
      (λ e c. ap (λ z. count e *ℤ z) (total-flat_map w after (links e)))
