-- The place of each box is that of an edge. A bundle begins with it, or the last bundle is widened.
use Rattle.std.proofs.Common.{◌≡◌, ◌+◌, ◌<◌, ◌/◌, List, ◌++◌, ◌∷◌, [], All, length, set, refl, ap, sym, subst, ◌∙◌}
use Rattle.std.proofs.Common.{arith}
use Rattle.std.proofs.lemmas.List.{length-map, map-append, map-set}
use Rattle.std.proofs.lemmas.List.Elements.{All-nil, All-push, All-set}
use Rattle.overlay_geom.proofs.Mapped.{read_mapped, All-mapped_at}
use Rattle.overlay_order.specs.Content.{plain_edge, plain_edges, IsHeld}
use Rattle.overlay_pairs.specs.Bundles.{Bundle, plain_bundle, plain_bundles, HoldsEdge, IsHeldBundle}
use Rattle.overlay_pairs.specs.Extents.{extent_of, plain_extent, plain_extents}
use Rattle.overlay_pairs.proofs.BundleLists.{AreBundlesUpTo, all_bundles, bundle_begun, bundle_widened, last_bundle}
use Rattle.overlay_pairs.proofs.BundleLists.{no_bundles, own_box}
use Rattle.overlay_pairs.proofs.Entries.{placed_in_mapped}
use Rattle.overlay_pairs.proofs.PlacedExtents.{place_there}
use Rattle.overlay_pairs.proofs.bundles.bundles_of_size.Goals as goal
use Rattle.overlay_pairs.proofs.bundles.bundles_of_size.Goals.{then-k-size-eq0+in_ok-push, else-k-size-eq0}

pub bounds-edges-extent : goal.bounds-edges-extent
bounds-edges-extent g c =
    let whole = g.I.IntNumber.whole in
    let edge = plain_edge whole g.C.EdgeCount.counts in
    let at_s = placed_in_mapped (plain_extent whole) c.args.boxes.now c.loop-k.k c.index-boxes-k.result
    c.loop-k-test.true c.index-boxes-k.is in
    let inside = place_there extent_of (plain_edges whole g.C.EdgeCount.counts c.args.edges.now)
    (plain_extents whole c.args.boxes.now) c.requires.boxes c.loop-k.k (plain_extent whole c.index-boxes-k.result)
    (λ x place. refl) at_s in
    let l = length-map c.args.edges.now edge in
    omega (arith, inside, l)

pub offset_bounds-edges-extent : goal.offset_bounds-edges-extent
offset_bounds-edges-extent g c =
    let whole = g.I.IntNumber.whole in
    let edge = plain_edge whole g.C.EdgeCount.counts in
    let at_s = placed_in_mapped (plain_extent whole) c.args.boxes.now c.loop-k.k c.index-boxes-k.result
    c.loop-k-test.true c.index-boxes-k.is in
    let inside = place_there extent_of (plain_edges whole g.C.EdgeCount.counts c.args.edges.now)
    (plain_extents whole c.args.boxes.now) c.requires.boxes c.loop-k.k (plain_extent whole c.index-boxes-k.result)
    (λ x place. refl) at_s in
    let l = length-map c.args.edges.now edge in
    omega (arith, inside, l)

pub loop-k-init : goal.loop-k-init
loop-k-init g c =
    let whole = g.I.IntNumber.whole in
    let es = plain_edges whole g.C.EdgeCount.counts c.args.edges.now in
    let ss = plain_extents whole c.args.boxes.now in
    subst (λ (bs : List _). AreBundlesUpTo HoldsEdge c.args.size es ss (plain_bundles whole bs) 0
    × All (IsHeldBundle g.I.IntNumber.limit) (plain_bundles whole bs)) (sym c.new-bundles.ensures.items)
    (no_bundles HoldsEdge c.args.size es ss c.requires.some, All-nil (IsHeldBundle g.I.IntNumber.limit))

pub bundle_of-requires-clause-own : goal.bundle_of-requires-clause-own
bundle_of-requires-clause-own g c =
    let whole = g.I.IntNumber.whole in
    let edge = plain_edge whole g.C.EdgeCount.counts in
    let es = plain_edges whole g.C.EdgeCount.counts c.args.edges.now in
    let ss = plain_extents whole c.args.boxes.now in
    let k = c.loop-k.k in
    let s = plain_extent whole c.index-boxes-k.result in
    let at_s = placed_in_mapped (plain_extent whole) c.args.boxes.now k c.index-boxes-k.result c.loop-k-test.true
    c.index-boxes-k.is in
    let bound : s.first < length c.args.edges.now = (let inside = place_there extent_of es ss c.requires.boxes k s
    (λ x place. refl) at_s in let l = length-map c.args.edges.now edge in omega (arith, inside, l)) in
    let at_e = placed_in_mapped edge c.args.edges.now s.first c.index-edges-extent.result bound
    c.index-edges-extent.is in
    own_box es ss c.requires.boxes k s (edge c.index-edges-extent.result) at_s at_e

pub bundle_of-requires-clause-one : goal.bundle_of-requires-clause-one
bundle_of-requires-clause-one g c =
    let whole = g.I.IntNumber.whole in
    let edge = plain_edge whole g.C.EdgeCount.counts in
    let es = plain_edges whole g.C.EdgeCount.counts c.args.edges.now in
    let ss = plain_extents whole c.args.boxes.now in
    let k = c.loop-k.k in
    let s = plain_extent whole c.index-boxes-k.result in
    let at_s = placed_in_mapped (plain_extent whole) c.args.boxes.now k c.index-boxes-k.result c.loop-k-test.true
    c.index-boxes-k.is in
    let bound : s.first < length c.args.edges.now = (let inside = place_there extent_of es ss c.requires.boxes k s
    (λ x place. refl) at_s in let l = length-map c.args.edges.now edge in omega (arith, inside, l)) in
    All-mapped_at (IsHeld g.I.IntNumber.limit) edge c.args.edges.now s.first c.index-edges-extent.result bound
    c.index-edges-extent.is c.requires.held

pub index-requires : goal.index-requires
index-requires g c =
    let whole = g.I.IntNumber.whole in
    let edge = plain_edge whole g.C.EdgeCount.counts in
    let es = plain_edges whole g.C.EdgeCount.counts c.args.edges.now in
    let ss = plain_extents whole c.args.boxes.now in
    let k = c.loop-k.k in
    let s = plain_extent whole c.index-boxes-k.result in
    let at_s = placed_in_mapped (plain_extent whole) c.args.boxes.now k c.index-boxes-k.result c.loop-k-test.true
    c.index-boxes-k.is in
    let bound : s.first < length c.args.edges.now = (let inside = place_there extent_of es ss c.requires.boxes k s
    (λ x place. refl) at_s in let l = length-map c.args.edges.now edge in omega (arith, inside, l)) in
    let olds = plain_bundles whole c.loop-k.bundles.items in
    let e = edge c.index-edges-extent.result in
    let at_e = placed_in_mapped edge c.args.edges.now s.first c.index-edges-extent.result bound
    c.index-edges-extent.is in
    let inside = last_bundle HoldsEdge c.args.size c.requires.some es ss olds k c.loop-k.invariant.0 s e at_s at_e
    c.if-k-size-eq0.false in
    let l = length-map c.loop-k.bundles.items (plain_bundle whole) in
    omega (arith, inside, l)

pub widened-requires-clause-held : goal.widened-requires-clause-held
widened-requires-clause-held g c =
    let whole = g.I.IntNumber.whole in
    let edge = plain_edge whole g.C.EdgeCount.counts in
    let es = plain_edges whole g.C.EdgeCount.counts c.args.edges.now in
    let ss = plain_extents whole c.args.boxes.now in
    let k = c.loop-k.k in
    let s = plain_extent whole c.index-boxes-k.result in
    let at_s = placed_in_mapped (plain_extent whole) c.args.boxes.now k c.index-boxes-k.result c.loop-k-test.true
    c.index-boxes-k.is in
    let bound : s.first < length c.args.edges.now = (let inside = place_there extent_of es ss c.requires.boxes k s
    (λ x place. refl) at_s in let l = length-map c.args.edges.now edge in omega (arith, inside, l)) in
    let olds = plain_bundles whole c.loop-k.bundles.items in
    let e = edge c.index-edges-extent.result in
    let at_e = placed_in_mapped edge c.args.edges.now s.first c.index-edges-extent.result bound
    c.index-edges-extent.is in
    let inside = last_bundle HoldsEdge c.args.size c.requires.some es ss olds k c.loop-k.invariant.0 s e at_s at_e
    c.if-k-size-eq0.false in
    All-mapped_at (IsHeldBundle g.I.IntNumber.limit) (plain_bundle whole) c.loop-k.bundles.items (k / c.args.size)
    c.index.result.now (let l = length-map c.loop-k.bundles.items (plain_bundle whole) in omega (arith, inside, l))
    c.index.ensures c.loop-k.invariant.1

pub widened-requires-clause-one : goal.widened-requires-clause-one
widened-requires-clause-one g c =
    let whole = g.I.IntNumber.whole in
    let edge = plain_edge whole g.C.EdgeCount.counts in
    let es = plain_edges whole g.C.EdgeCount.counts c.args.edges.now in
    let ss = plain_extents whole c.args.boxes.now in
    let k = c.loop-k.k in
    let s = plain_extent whole c.index-boxes-k.result in
    let at_s = placed_in_mapped (plain_extent whole) c.args.boxes.now k c.index-boxes-k.result c.loop-k-test.true
    c.index-boxes-k.is in
    let bound : s.first < length c.args.edges.now = (let inside = place_there extent_of es ss c.requires.boxes k s
    (λ x place. refl) at_s in let l = length-map c.args.edges.now edge in omega (arith, inside, l)) in
    All-mapped_at (IsHeld g.I.IntNumber.limit) edge c.args.edges.now s.first c.index-edges-extent.result bound
    c.index-edges-extent.is c.requires.held

pub widened-requires-clause-own : goal.widened-requires-clause-own
widened-requires-clause-own g c =
    let whole = g.I.IntNumber.whole in
    let edge = plain_edge whole g.C.EdgeCount.counts in
    let es = plain_edges whole g.C.EdgeCount.counts c.args.edges.now in
    let ss = plain_extents whole c.args.boxes.now in
    let k = c.loop-k.k in
    let s = plain_extent whole c.index-boxes-k.result in
    let at_s = placed_in_mapped (plain_extent whole) c.args.boxes.now k c.index-boxes-k.result c.loop-k-test.true
    c.index-boxes-k.is in
    let bound : s.first < length c.args.edges.now = (let inside = place_there extent_of es ss c.requires.boxes k s
    (λ x place. refl) at_s in let l = length-map c.args.edges.now edge in omega (arith, inside, l)) in
    let at_e = placed_in_mapped edge c.args.edges.now s.first c.index-edges-extent.result bound
    c.index-edges-extent.is in
    own_box es ss c.requires.boxes k s (edge c.index-edges-extent.result) at_s at_e

pub index_mut-requires : goal.index_mut-requires
index_mut-requires g c =
    let whole = g.I.IntNumber.whole in
    let edge = plain_edge whole g.C.EdgeCount.counts in
    let es = plain_edges whole g.C.EdgeCount.counts c.args.edges.now in
    let ss = plain_extents whole c.args.boxes.now in
    let k = c.loop-k.k in
    let s = plain_extent whole c.index-boxes-k.result in
    let at_s = placed_in_mapped (plain_extent whole) c.args.boxes.now k c.index-boxes-k.result c.loop-k-test.true
    c.index-boxes-k.is in
    let bound : s.first < length c.args.edges.now = (let inside = place_there extent_of es ss c.requires.boxes k s
    (λ x place. refl) at_s in let l = length-map c.args.edges.now edge in omega (arith, inside, l)) in
    let olds = plain_bundles whole c.loop-k.bundles.items in
    let e = edge c.index-edges-extent.result in
    let at_e = placed_in_mapped edge c.args.edges.now s.first c.index-edges-extent.result bound
    c.index-edges-extent.is in
    let inside = last_bundle HoldsEdge c.args.size c.requires.some es ss olds k c.loop-k.invariant.0 s e at_s at_e
    c.if-k-size-eq0.false in
    let l = length-map c.loop-k.bundles.items (plain_bundle whole) in
    omega (arith, inside, l)

pub loop-k-preserved : goal.loop-k-preserved
loop-k-preserved g c =
    let whole = g.I.IntNumber.whole in
    let edge = plain_edge whole g.C.EdgeCount.counts in
    let es = plain_edges whole g.C.EdgeCount.counts c.args.edges.now in
    let ss = plain_extents whole c.args.boxes.now in
    let k = c.loop-k.k in
    let s = plain_extent whole c.index-boxes-k.result in
    let at_s = placed_in_mapped (plain_extent whole) c.args.boxes.now k c.index-boxes-k.result c.loop-k-test.true
    c.index-boxes-k.is in
    let bound : s.first < length c.args.edges.now = (let inside = place_there extent_of es ss c.requires.boxes k s
    (λ x place. refl) at_s in let l = length-map c.args.edges.now edge in omega (arith, inside, l)) in
    let olds = plain_bundles whole c.loop-k.bundles.items in
    let e = edge c.index-edges-extent.result in
    let at_e = placed_in_mapped edge c.args.edges.now s.first c.index-edges-extent.result bound
    c.index-edges-extent.is in
    let bundle = plain_bundle whole in
    let held = IsHeldBundle g.I.IntNumber.limit in
    elim c.if-k-size-eq0.branch [
      | then-k-size-eq0+in_ok-push w ↦
          let news : plain_bundles whole c.if-k-size-eq0.bundles.items ≡ olds ++ bundle w.bundle_of.result ∷ [] =
          ap (λ v. plain_bundles whole v.items) w.bundles-is ∙ ap (plain_bundles whole) w.in_ok-push.ensures.items
          ∙ map-append bundle c.loop-k.bundles.items (w.bundle_of.result ∷ []) in
          subst (λ (bs : List Bundle). AreBundlesUpTo HoldsEdge c.args.size es ss bs (k + 1) × All held bs) (sym news) (
            bundle_begun HoldsEdge c.args.size c.requires.some es ss olds k c.loop-k.invariant.0 s e at_s at_e
                (bundle w.bundle_of.result) w.if-k-size-eq0.true w.bundle_of.ensures.holds,
            All-push held olds (bundle w.bundle_of.result) c.loop-k.invariant.1 w.bundle_of.ensures.held,
          )
      | else-k-size-eq0 w ↦
          let goes_on = w.if-k-size-eq0.false in
          let inside = last_bundle HoldsEdge c.args.size c.requires.some es ss olds k c.loop-k.invariant.0 s e at_s at_e
          goes_on in
          let l = length-map c.loop-k.bundles.items bundle in
          let news : plain_bundles whole c.if-k-size-eq0.bundles.items
          ≡ set olds (k / c.args.size) (bundle w.widened.result) =
          ap (λ v. plain_bundles whole v.items) w.bundles-is
          ∙ map-set bundle c.loop-k.bundles.items (k / c.args.size) w.widened.result in (
            bundle_widened HoldsEdge c.args.size c.requires.some es ss olds k c.loop-k.invariant.0 s e at_s at_e
                (bundle w.index.result.now) (bundle w.widened.result)
                (plain_bundles whole c.if-k-size-eq0.bundles.items) goes_on news
                (sym (read_mapped bundle c.loop-k.bundles.items (k / c.args.size) w.index.result.now
                (bundle w.index.result.now) (omega (arith, inside, l)) w.index.ensures))
                w.widened.ensures.widened w.widened.ensures.holds,
            subst (All held) (sym news)
                (All-set held olds (k / c.args.size) (bundle w.widened.result) w.widened.ensures.held
                c.loop-k.invariant.1),
          )
    ]

pub returns : goal.returns
returns g c = record {
  ok = let whole = g.I.IntNumber.whole in
      let l = length-map c.args.boxes.now (plain_extent whole) in
      record {
        held = c.loop-k.invariant.1;
        all = all_bundles HoldsEdge c.args.size (plain_edges whole g.C.EdgeCount.counts c.args.edges.now)
            (plain_extents whole c.args.boxes.now) (plain_bundles whole c.loop-k.bundles.items) c.loop-k.k
            (omega (arith, l, c.loop-k-test.false)) c.loop-k.invariant.0;
      };
}
