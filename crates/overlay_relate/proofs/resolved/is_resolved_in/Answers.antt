-- The edges in order are those of the contour.
use Rattle.std.proofs.Common.{◌≡◌, All, sym, subst}
use Rattle.std.specs.List.Sorted.{IsPermutation}
use Rattle.std.specs.Prelude.{◌↔◌, IsTrue}
use Rattle.std.proofs.lemmas.List.Sorted.{All-permutation}
use Rattle.std.proofs.lemmas.Result.{IfOk-weaker}
use Rattle.overlay_geom.specs.Points.{plain_points}
use Rattle.overlay_geom.specs.Resolved.{plain_edges, edges_of, AreApart, IsResolved, IsLongEdge}
use Rattle.overlay_parts.specs.EdgeOrder.{IsInOrder}
use Rattle.overlay_relate.specs.Resolved.{edges_once, ends_once}
use Rattle.overlay_relate.proofs.ApartEdges.{apart_alike}
use Rattle.overlay_relate.proofs.ApartInOrder.{long_forward}
use Rattle.overlay_relate.proofs.resolved.is_resolved_in.Goals as goal

pub are_apart-requires-clause-long : goal.are_apart-requires-clause-long
are_apart-requires-clause-long g c =
    let whole = g.I.IntNumber.whole in
    let limit = g.I.IntNumber.limit in
    let fs = ends_once whole c.in_ok-sorted.sorted.items in
    let moved : IsPermutation (plain_edges whole c.in_ok-edges.edges.items) fs =
    subst (λ es. IsPermutation (plain_edges whole es) fs) c.deref.ensures.value c.in_ok-sorted.ensures.same in
    subst (λ ks. All (IsLongEdge limit) (ends_once whole ks)) (sym c.deref-2.ensures.value)
    (All-permutation (IsLongEdge limit) (plain_edges whole c.in_ok-edges.edges.items) fs moved
    c.in_ok-edges.ensures.long)

pub are_apart-requires-clause-order : goal.are_apart-requires-clause-order
are_apart-requires-clause-order g c =
    subst (λ ks. IsInOrder (edges_once g.I.IntNumber.whole ks)) (sym c.deref-2.ensures.value)
    c.in_ok-sorted.ensures.order

pub returns-clause-ok : goal.returns-clause-ok
returns-clause-ok g c =
    let whole = g.I.IntNumber.whole in
    let es = plain_edges whole c.in_ok-edges.edges.items in
    let contour = plain_points whole c.args.contour.now in
    let alike : AreApart (ends_once whole c.deref-2.result.now) ↔ AreApart es =
    apart_alike es (ends_once whole c.deref-2.result.now)
    (long_forward g.I.IntNumber.limit es c.in_ok-edges.ensures.long)
    (subst (λ ks. IsPermutation es (ends_once whole ks)) (sym c.deref-2.ensures.value)
    (subst (λ ds. IsPermutation (plain_edges whole ds) (ends_once whole c.in_ok-sorted.sorted.items))
    c.deref.ensures.value c.in_ok-sorted.ensures.same)) in
    let is : es ≡ edges_of contour = c.in_ok-edges.ensures.edges in
    let told = c.in_ok-are_apart.ensures.ok in (
      λ t. subst AreApart is (alike.0 (told.0 t)),
      λ resolved. told.1 (alike.1 (subst AreApart (sym is) resolved)),
    )
