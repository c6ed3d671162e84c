-- The boxes of the edges are at their places.
use Rattle.std.proofs.Common.{IfOk, refl, sym, ap, ◌∙◌, subst}
use Rattle.std.specs.List.Sorted.{IsPermutation}
use Rattle.overlay_order.specs.Content.{plain_edges}
use Rattle.overlay_pairs.specs.Extents.{extent_of, plain_extents, AreAtPlaces}
use Rattle.overlay_pairs.proofs.PlacedExtents.{placed_at_places}
use Rattle.overlay_pairs.proofs.strips.edges_by_strips.Goals as goal

pub by_strips-requires-clause-places : goal.by_strips-requires-clause-places
by_strips-requires-clause-places g c =
    let whole = g.I.IntNumber.whole in
    subst AreAtPlaces (sym (ap (plain_extents whole) c.deref.ensures.value ∙ c.in_ok-extents.ensures.ok))
    (placed_at_places extent_of (λ e place. (refl, refl)) (plain_edges whole g.C.EdgeCount.counts c.args.edges.now))

pub returns-clause-permutation : goal.returns-clause-permutation
returns-clause-permutation g c =
    let whole = g.I.IntNumber.whole in
    subst (λ ss. IfOk c.by_strips.result (λ sorted. IsPermutation ss (plain_extents whole sorted.items)))
    (ap (plain_extents whole) c.deref.ensures.value ∙ c.in_ok-extents.ensures.ok) c.by_strips.ensures.permutation
