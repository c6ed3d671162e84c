-- The place of each box is that of an edge. A fan begins with it, or the last fan is widened.
use Rattle.std.proofs.Common.{◌≡◌, ◌+◌, ◌<◌, ◌/◌, List, ◌++◌, ◌∷◌, [], All, length, set, refl, ap, sym, subst, ◌∙◌}
use Rattle.std.proofs.Common.{arith}
use Rattle.std.proofs.lemmas.List.{length-map, map-append, map-set}
use Rattle.std.proofs.lemmas.List.Elements.{All-nil, All-push, All-set}
use Rattle.overlay_geom.proofs.Mapped.{read_mapped, All-mapped_at}
use Rattle.overlay_order.specs.Content.{plain_edge, plain_edges, IsHeld}
use Rattle.overlay_pairs.specs.Bundles.{Fan, plain_fan, plain_fans, HoldsBoxRound, IsHeldFan}
use Rattle.overlay_pairs.specs.Extents.{extent_of, plain_extent, plain_extents}
use Rattle.overlay_pairs.proofs.BundleLists.{AreBundlesUpTo, all_bundles, bundle_begun, bundle_widened, last_bundle}
use Rattle.overlay_pairs.proofs.BundleLists.{no_bundles}
use Rattle.overlay_pairs.proofs.Entries.{placed_in_mapped}
use Rattle.overlay_pairs.proofs.PlacedExtents.{place_there}
use Rattle.overlay_pairs.proofs.fans.fans_of_size.Goals as goal
use Rattle.overlay_pairs.proofs.fans.fans_of_size.Goals.{then-k-size-eq0+in_ok-push, else-k-size-eq0}

pub bounds-edges-extent : goal.bounds-edges-extent
bounds-edges-extent g c =
    let whole = g.I.IntNumber.whole in
    let edge = plain_edge whole g.C.EdgeCount.counts in
    let at_s = placed_in_mapped (plain_extent whole) c.args.boxes.now c.loop-k.k c.index-boxes-k.result
    c.loop-k-test.true c.index-boxes-k.is in
    let inside = place_there extent_of (plain_edges whole g.C.EdgeCount.counts c.args.edges.now)
    (plain_extents whole c.args.boxes.now) c.requires.boxes c.loop-k.k (plain_extent whole c.index-boxes-k.result)
    (λ x place. refl) at_s in
    let l = length-map c.args.edges.now edge in
    omega (arith, inside, l)

pub offset_bounds-edges-extent : goal.offset_bounds-edges-extent
offset_bounds-edges-extent g c =
    let whole = g.I.IntNumber.whole in
    let edge = plain_edge whole g.C.EdgeCount.counts in
    let at_s = placed_in_mapped (plain_extent whole) c.args.boxes.now c.loop-k.k c.index-boxes-k.result
    c.loop-k-test.true c.index-boxes-k.is in
    let inside = place_there extent_of (plain_edges whole g.C.EdgeCount.counts c.args.edges.now)
    (plain_extents whole c.args.boxes.now) c.requires.boxes c.loop-k.k (plain_extent whole c.index-boxes-k.result)
    (λ x place. refl) at_s in
    let l = length-map c.args.edges.now edge in
    omega (arith, inside, l)

pub loop-k-init : goal.loop-k-init
loop-k-init g c =
    let whole = g.I.IntNumber.whole in
    let es = plain_edges whole g.C.EdgeCount.counts c.args.edges.now in
    let ss = plain_extents whole c.args.boxes.now in
    subst (λ (bs : List _). AreBundlesUpTo HoldsBoxRound c.args.size es ss (plain_fans whole bs) 0
    × All (IsHeldFan g.I.IntNumber.limit) (plain_fans whole bs)) (sym c.new-fans.ensures.items)
    (no_bundles HoldsBoxRound c.args.size es ss c.requires.some, All-nil (IsHeldFan g.I.IntNumber.limit))

pub fan_of-requires : goal.fan_of-requires
fan_of-requires g c =
    let whole = g.I.IntNumber.whole in
    let edge = plain_edge whole g.C.EdgeCount.counts in
    let es = plain_edges whole g.C.EdgeCount.counts c.args.edges.now in
    let ss = plain_extents whole c.args.boxes.now in
    let k = c.loop-k.k in
    let s = plain_extent whole c.index-boxes-k.result in
    let at_s = placed_in_mapped (plain_extent whole) c.args.boxes.now k c.index-boxes-k.result c.loop-k-test.true
    c.index-boxes-k.is in
    let bound : s.first < length c.args.edges.now = (let inside = place_there extent_of es ss c.requires.boxes k s
    (λ x place. refl) at_s in let l = length-map c.args.edges.now edge in omega (arith, inside, l)) in
    record {
      one = All-mapped_at (IsHeld g.I.IntNumber.limit) edge c.args.edges.now s.first c.index-edges-extent.result bound
          c.index-edges-extent.is c.requires.held;
    }

pub index-requires : goal.index-requires
index-requires g c =
    let whole = g.I.IntNumber.whole in
    let edge = plain_edge whole g.C.EdgeCount.counts in
    let es = plain_edges whole g.C.EdgeCount.counts c.args.edges.now in
    let ss = plain_extents whole c.args.boxes.now in
    let k = c.loop-k.k in
    let s = plain_extent whole c.index-boxes-k.result in
    let at_s = placed_in_mapped (plain_extent whole) c.args.boxes.now k c.index-boxes-k.result c.loop-k-test.true
    c.index-boxes-k.is in
    let bound : s.first < length c.args.edges.now = (let inside = place_there extent_of es ss c.requires.boxes k s
    (λ x place. refl) at_s in let l = length-map c.args.edges.now edge in omega (arith, inside, l)) in
    let olds = plain_fans whole c.loop-k.fans.items in
    let e = edge c.index-edges-extent.result in
    let at_e = placed_in_mapped edge c.args.edges.now s.first c.index-edges-extent.result bound
    c.index-edges-extent.is in
    let inside = last_bundle HoldsBoxRound c.args.size c.requires.some es ss olds k c.loop-k.invariant.0 s e at_s at_e
    c.if-k-size-eq0.false in
    let l = length-map c.loop-k.fans.items (plain_fan whole) in
    omega (arith, inside, l)

pub fan_with-requires-clause-held : goal.fan_with-requires-clause-held
fan_with-requires-clause-held g c =
    let whole = g.I.IntNumber.whole in
    let edge = plain_edge whole g.C.EdgeCount.counts in
    let es = plain_edges whole g.C.EdgeCount.counts c.args.edges.now in
    let ss = plain_extents whole c.args.boxes.now in
    let k = c.loop-k.k in
    let s = plain_extent whole c.index-boxes-k.result in
    let at_s = placed_in_mapped (plain_extent whole) c.args.boxes.now k c.index-boxes-k.result c.loop-k-test.true
    c.index-boxes-k.is in
    let bound : s.first < length c.args.edges.now = (let inside = place_there extent_of es ss c.requires.boxes k s
    (λ x place. refl) at_s in let l = length-map c.args.edges.now edge in omega (arith, inside, l)) in
    let olds = plain_fans whole c.loop-k.fans.items in
    let e = edge c.index-edges-extent.result in
    let at_e = placed_in_mapped edge c.args.edges.now s.first c.index-edges-extent.result bound
    c.index-edges-extent.is in
    let inside = last_bundle HoldsBoxRound c.args.size c.requires.some es ss olds k c.loop-k.invariant.0 s e at_s at_e
    c.if-k-size-eq0.false in
    All-mapped_at (IsHeldFan g.I.IntNumber.limit) (plain_fan whole) c.loop-k.fans.items (k / c.args.size)
    c.index.result.now (let l = length-map c.loop-k.fans.items (plain_fan whole) in omega (arith, inside, l))
    c.index.ensures c.loop-k.invariant.1

pub fan_with-requires-clause-one : goal.fan_with-requires-clause-one
fan_with-requires-clause-one g c =
    let whole = g.I.IntNumber.whole in
    let edge = plain_edge whole g.C.EdgeCount.counts in
    let es = plain_edges whole g.C.EdgeCount.counts c.args.edges.now in
    let ss = plain_extents whole c.args.boxes.now in
    let k = c.loop-k.k in
    let s = plain_extent whole c.index-boxes-k.result in
    let at_s = placed_in_mapped (plain_extent whole) c.args.boxes.now k c.index-boxes-k.result c.loop-k-test.true
    c.index-boxes-k.is in
    let bound : s.first < length c.args.edges.now = (let inside = place_there extent_of es ss c.requires.boxes k s
    (λ x place. refl) at_s in let l = length-map c.args.edges.now edge in omega (arith, inside, l)) in
    All-mapped_at (IsHeld g.I.IntNumber.limit) edge c.args.edges.now s.first c.index-edges-extent.result bound
    c.index-edges-extent.is c.requires.held

pub index_mut-requires : goal.index_mut-requires
index_mut-requires g c =
    let whole = g.I.IntNumber.whole in
    let edge = plain_edge whole g.C.EdgeCount.counts in
    let es = plain_edges whole g.C.EdgeCount.counts c.args.edges.now in
    let ss = plain_extents whole c.args.boxes.now in
    let k = c.loop-k.k in
    let s = plain_extent whole c.index-boxes-k.result in
    let at_s = placed_in_mapped (plain_extent whole) c.args.boxes.now k c.index-boxes-k.result c.loop-k-test.true
    c.index-boxes-k.is in
    let bound : s.first < length c.args.edges.now = (let inside = place_there extent_of es ss c.requires.boxes k s
    (λ x place. refl) at_s in let l = length-map c.args.edges.now edge in omega (arith, inside, l)) in
    let olds = plain_fans whole c.loop-k.fans.items in
    let e = edge c.index-edges-extent.result in
    let at_e = placed_in_mapped edge c.args.edges.now s.first c.index-edges-extent.result bound
    c.index-edges-extent.is in
    let inside = last_bundle HoldsBoxRound c.args.size c.requires.some es ss olds k c.loop-k.invariant.0 s e at_s at_e
    c.if-k-size-eq0.false in
    let l = length-map c.loop-k.fans.items (plain_fan whole) in
    omega (arith, inside, l)

pub loop-k-preserved : goal.loop-k-preserved
loop-k-preserved g c =
    let whole = g.I.IntNumber.whole in
    let edge = plain_edge whole g.C.EdgeCount.counts in
    let es = plain_edges whole g.C.EdgeCount.counts c.args.edges.now in
    let ss = plain_extents whole c.args.boxes.now in
    let k = c.loop-k.k in
    let s = plain_extent whole c.index-boxes-k.result in
    let at_s = placed_in_mapped (plain_extent whole) c.args.boxes.now k c.index-boxes-k.result c.loop-k-test.true
    c.index-boxes-k.is in
    let bound : s.first < length c.args.edges.now = (let inside = place_there extent_of es ss c.requires.boxes k s
    (λ x place. refl) at_s in let l = length-map c.args.edges.now edge in omega (arith, inside, l)) in
    let olds = plain_fans whole c.loop-k.fans.items in
    let e = edge c.index-edges-extent.result in
    let at_e = placed_in_mapped edge c.args.edges.now s.first c.index-edges-extent.result bound
    c.index-edges-extent.is in
    let fan = plain_fan whole in
    let held = IsHeldFan g.I.IntNumber.limit in
    elim c.if-k-size-eq0.branch [
      | then-k-size-eq0+in_ok-push w ↦
          let news : plain_fans whole c.if-k-size-eq0.fans.items ≡ olds ++ fan w.fan_of.result ∷ [] =
          ap (λ v. plain_fans whole v.items) w.fans-is ∙ ap (plain_fans whole) w.in_ok-push.ensures.items
          ∙ map-append fan c.loop-k.fans.items (w.fan_of.result ∷ []) in
          subst (λ (fs : List Fan). AreBundlesUpTo HoldsBoxRound c.args.size es ss fs (k + 1) × All held fs)
          (sym news) (
            bundle_begun HoldsBoxRound c.args.size c.requires.some es ss olds k c.loop-k.invariant.0 s e at_s at_e
                (fan w.fan_of.result) w.if-k-size-eq0.true w.fan_of.ensures.holds,
            All-push held olds (fan w.fan_of.result) c.loop-k.invariant.1 w.fan_of.ensures.held,
          )
      | else-k-size-eq0 w ↦
          let goes_on = w.if-k-size-eq0.false in
          let inside = last_bundle HoldsBoxRound c.args.size c.requires.some es ss olds k c.loop-k.invariant.0 s e at_s
          at_e goes_on in
          let l = length-map c.loop-k.fans.items fan in
          let news : plain_fans whole c.if-k-size-eq0.fans.items
          ≡ set olds (k / c.args.size) (fan w.fan_with.result) =
          ap (λ v. plain_fans whole v.items) w.fans-is
          ∙ map-set fan c.loop-k.fans.items (k / c.args.size) w.fan_with.result in (
            bundle_widened HoldsBoxRound c.args.size c.requires.some es ss olds k c.loop-k.invariant.0 s e at_s at_e
                (fan w.index.result.now) (fan w.fan_with.result)
                (plain_fans whole c.if-k-size-eq0.fans.items) goes_on news
                (sym (read_mapped fan c.loop-k.fans.items (k / c.args.size) w.index.result.now
                (fan w.index.result.now) (omega (arith, inside, l)) w.index.ensures))
                (λ t f. w.fan_with.ensures.widened f) w.fan_with.ensures.holds,
            subst (All held) (sym news)
                (All-set held olds (k / c.args.size) (fan w.fan_with.result) w.fan_with.ensures.held
                c.loop-k.invariant.1),
          )
    ]

pub returns : goal.returns
returns g c = record {
  ok = let whole = g.I.IntNumber.whole in
      let l = length-map c.args.boxes.now (plain_extent whole) in
      record {
        held = c.loop-k.invariant.1;
        all = all_bundles HoldsBoxRound c.args.size (plain_edges whole g.C.EdgeCount.counts c.args.edges.now)
            (plain_extents whole c.args.boxes.now) (plain_fans whole c.loop-k.fans.items) c.loop-k.k
            (omega (arith, l, c.loop-k-test.false)) c.loop-k.invariant.0;
      };
}
