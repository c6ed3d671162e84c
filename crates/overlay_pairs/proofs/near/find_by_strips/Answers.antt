-- The run is searched by boxes, or by bundles, if it has edges.
use Rattle.std.proofs.Common.{◌≡◌, IfSome, [], length, refl, sym, ap, subst, arith}
use Rattle.std.proofs.lemmas.List.{length-map}
use Rattle.std.proofs.lemmas.List.Sorted.{length_permutation}
use Rattle.std.proofs.lemmas.Result.{on_ok_weaker}
use Rattle.overlay_order.specs.Content.{plain_edge, plain_edges}
use Rattle.overlay_pairs.specs.Bundles.{AreBundlesOf, IsPassed}
use Rattle.overlay_pairs.specs.Extents.{Extent, extent_of, extents_of, plain_extent, plain_extents}
use Rattle.overlay_pairs.specs.Places.{IsRunEnd}
use Rattle.overlay_pairs.specs.Near.{run_of, AreNearBehind, IsSearchedBy, IsSearchedTo}
use Rattle.overlay_pairs.proofs.NearEdges.{heights_near, searched_beside, searched_near}
use Rattle.overlay_pairs.proofs.PlacedExtents.{as_many_placed}
use Rattle.overlay_pairs.proofs.Searches.{heights_none}
use Rattle.overlay_pairs.proofs.near.find_by_strips.Goals as goal

pub returns-then-end-from : goal.returns-then-end-from
returns-then-end-from g c = record {
  ok = let es = plain_edges g.I.IntNumber.whole g.C.EdgeCount.counts c.args.edges.now in
      let e = plain_edge g.I.IntNumber.whole g.C.EdgeCount.counts c.args.e.now in
      let from = c.args.from in
      let ends = c.if-end-from.true in
      let same : c.run_end-end.result ≡ from = omega (arith, ends) in
      subst (AreNearBehind es e from) (sym c.requires.empty)
      (heights_near es from from e g.I.IntNumber.limit c.requires.held c.requires.one c.requires.ascending
      (subst (IsRunEnd es e.b.x from) same c.run_end-end.ensures) (extent_of e from) [] refl
      (heights_none es (extent_of e from) from));
}

pub find_by_blocks-requires-clause-within : goal.find_by_blocks-requires-clause-within
find_by_blocks-requires-clause-within g c =
    let whole = g.I.IntNumber.whole in
    let plain = plain_edge whole g.C.EdgeCount.counts in
    let extents = c.args.strips.now.edges.items in
    let last = ap (λ (s : Extent). s.last) c.run_of-in_default.ensures in
    let es = plain_edges whole g.C.EdgeCount.counts c.args.edges.now in
    let moved = length_permutation (extents_of es) (plain_extents whole extents)
    c.requires.strips.permutation in
    let count = as_many_placed extent_of es in
    let l = length-map extents (plain_extent whole) in
    let m = length-map c.args.edges.now plain in
    let ordered = c.run_end-end.ensures.ordered in
    let up_to = c.run_end-end.ensures.within in
    omega (arith, last, moved, count, l, m, ordered, up_to)

pub returns-in_default : goal.returns-in_default
returns-in_default g c = record {
  ok = let whole = g.I.IntNumber.whole in
      let plain = plain_edge whole g.C.EdgeCount.counts in
      let es = plain_edges whole g.C.EdgeCount.counts c.args.edges.now in
      let e = plain c.args.e.now in
      let end = c.run_end-end.result in
      let extents = c.args.strips.now.edges.items in
      let ss = plain_extents whole extents in
      let js = c.find_by_blocks.new.near.items in
      on_ok_weaker c.find_by_blocks.result
      (λ searched. searched_near es c.args.from end e g.I.IntNumber.limit c.requires.held c.requires.one
      c.requires.ascending c.run_end-end.ensures ss js
      c.requires.strips.permutation
      (subst (λ n. IsSearchedTo ss (run_of e c.args.from end) n js) (sym (length-map extents (plain_extent whole)))
      (subst (λ s. IsSearchedTo ss s (length extents) js) c.run_of-in_default.ensures searched)))
      c.find_by_blocks.ensures.ok;
}

pub find_in_bundles-requires-clause-bundles : goal.find_in_bundles-requires-clause-bundles
find_in_bundles-requires-clause-bundles g c =
    let whole = g.I.IntNumber.whole in
    let es = plain_edges whole g.C.EdgeCount.counts c.args.edges.now in (
      es,
      subst (λ o. IfSome o (AreBundlesOf whole g.I.IntNumber.limit es)) c.in-Some.is
          c.requires.strips.bundles,
    )

pub returns-in-Some : goal.returns-in-Some
returns-in-Some g c = record {
  ok = let whole = g.I.IntNumber.whole in
      let plain = plain_edge whole g.C.EdgeCount.counts in
      let es = plain_edges whole g.C.EdgeCount.counts c.args.edges.now in
      let e = plain c.args.e.now in
      let end = c.run_end-end.result in
      let of = run_of e c.args.from end in
      let extents = c.in-Some.bundles.edges.items in
      let ss = plain_extents whole extents in
      let js = c.find_in_bundles.new.near.items in
      let bundles = subst (λ o. IfSome o (AreBundlesOf whole g.I.IntNumber.limit es)) c.in-Some.is
      c.requires.strips.bundles in
      on_ok_weaker c.find_in_bundles.result
      (λ searched. searched_beside es c.args.from end e g.I.IntNumber.limit c.requires.held c.requires.one
      c.requires.ascending c.run_end-end.ensures ss js bundles.permutation
      (subst (λ n. IsSearchedBy (IsPassed es e of) ss of n js) (sym (length-map extents (plain_extent whole)))
      (subst (λ s. IsSearchedBy (IsPassed es e s) ss s (length extents) js) c.run_of.ensures
      (searched es bundles)))) c.find_in_bundles.ensures.ok;
}
