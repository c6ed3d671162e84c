-- The pieces of an edge that are added to a list: how many they are, and the weight that is hidden under them.
use Rattle.std.proofs.Common.{◌≡◌, ℕ, ◌+◌, ◌-◌, ◌*◌, ◌≤◌, List, ◌++◌, map, length, ap, ◌∙◌, subst, arith}
use Rattle.std.proofs.lemmas.List.{length-append, length-map}
use Rattle.overlay_geom.specs.Edges.{CountedEdge}
use Rattle.overlay_geom.specs.Plane.{Step}
use Rattle.overlay_plane.specs.Carried.{Carried, edges_in}
use Rattle.overlay_plane.specs.Cutting.{piece_along}

module _ {C : Type 0} (e : CountedEdge) (steps : List Step) (old new : List (Carried C))
    (added : edges_in new ≡ edges_in old ++ map (piece_along e) steps) where
  -- there is one for each step
  count_added : length new ≡ length old + length steps
  count_added =
      let of_new = length-map new (λ (x : Carried C). x.edge) in
      let of_old = length-map old (λ (x : Carried C). x.edge) in
      let of_steps = length-map steps (piece_along e) in
      let same = ap length added in
      let both = length-append (edges_in old) (map (piece_along e) steps) in
      omega (arith, of_new, of_old, of_steps, same, both)

  module _ (m n : ℕ) (of_old : m ≡ length old) (of_new : n ≡ length new) where
    difference : n - m ≡ length steps
    difference = let count = count_added in omega (arith, count, of_old, of_new)

    -- each hides the same weight
    pub away_added : (hides was now : ℕ) → now ≡ was + hides * (n - m) → now ≡ was + hides * length steps
    away_added hides was now is = is ∙ ap (λ k. was + hides * k) difference

    -- what is heavy with it is heavy with the pieces too
    pub heavy_added : (hides was weighs limit : ℕ) → limit ≤ was + hides * (n - m) →
        limit ≤ weighs + was + hides * length steps
    heavy_added hides was weighs limit heavy =
        let hidden = subst (λ k. limit ≤ was + hides * k) difference heavy in
        omega (arith, hidden)

-- ---- the weight of all

-- the list weighs what the old one and the pieces weigh, with what was hidden before and what they hide
pub weighed_added : (all pushed kept new was now later hides : ℕ) → pushed ≡ all → kept ≡ pushed →
    now ≡ was + hides → new + later ≡ kept + now → new + later ≡ all + was + hides
weighed_added all pushed kept new was now later hides is same away joined = omega (arith, is, same, away, joined)

-- where it is heavy, so are these
pub heavy_pushed : (all pushed kept found was now hides limit : ℕ) → pushed ≡ all → kept ≡ pushed →
    now ≡ was + hides → found ≡ kept → limit ≤ found + now → limit ≤ all + was + hides
heavy_pushed all pushed kept found was now hides limit is same away weighs heavy =
    omega (arith, is, same, away, weighs, heavy)
