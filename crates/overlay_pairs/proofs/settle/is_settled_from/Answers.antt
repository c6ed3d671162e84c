-- A loop over the edges that are not far from the edge: each meets it in ends alone, or the answer is no.
use Rattle.std.proofs.Common.{◌<◌, length, get_or, take, refl, sym, subst, arith}
use Rattle.std.proofs.lemmas.List.{get_or_default, length-map, take_all, take_more}
use Rattle.overlay_geom.proofs.Mapped.{All-mapped_at}
use Rattle.overlay_order.specs.Content.{plain_edge, plain_edges, IsHeld}
use Rattle.overlay_pairs.specs.Places.{AreSettledUpTo}
use Rattle.overlay_pairs.proofs.Entries.{placed_in_mapped}
use Rattle.overlay_pairs.proofs.RunEnds.{none_settled, settled_more, settled_with_near, AreSettledWith}
use Rattle.overlay_pairs.proofs.settle.is_settled_from.Goals as goal

pub loop-k-init : goal.loop-k-init
loop-k-init g c = none_settled (plain_edges g.I.IntNumber.whole g.C.EdgeCount.counts c.args.edges.now) c.args.i

pub offset_bounds-edges-j : goal.offset_bounds-edges-j
offset_bounds-edges-j g c =
    let plain = plain_edge g.I.IntNumber.whole g.C.EdgeCount.counts in
    let j = get_or c.args.near.now c.loop-k.k 0 in
    let at_e = placed_in_mapped plain c.args.edges.now c.args.i c.index-edges-i.result c.requires.within
    c.index-edges-i.is in
    let later = (c.requires.near (plain c.index-edges-i.result) at_e).within j (
      c.loop-k.k,
      c.loop-k-test.true,
      get_or_default c.args.near.now c.loop-k.k j 0 c.loop-k-test.true,
    ) in
    let l = length-map c.args.edges.now plain in
    let less = later.1 in
    omega (arith, l, less)

pub bounds-edges-j : goal.bounds-edges-j
bounds-edges-j g c =
    let plain = plain_edge g.I.IntNumber.whole g.C.EdgeCount.counts in
    let j = get_or c.args.near.now c.loop-k.k 0 in
    let at_e = placed_in_mapped plain c.args.edges.now c.args.i c.index-edges-i.result c.requires.within
    c.index-edges-i.is in
    let later = (c.requires.near (plain c.index-edges-i.result) at_e).within j (
      c.loop-k.k,
      c.loop-k-test.true,
      get_or_default c.args.near.now c.loop-k.k j 0 c.loop-k-test.true,
    ) in
    let l = length-map c.args.edges.now plain in
    let less = later.1 in
    omega (arith, l, less)

pub meet_in_ends-requires-clause-one : goal.meet_in_ends-requires-clause-one
meet_in_ends-requires-clause-one g c =
    All-mapped_at (IsHeld g.I.IntNumber.limit) (plain_edge g.I.IntNumber.whole g.C.EdgeCount.counts) c.args.edges.now
    c.args.i c.index-edges-i.result
    c.requires.within c.index-edges-i.is c.requires.held

pub meet_in_ends-requires-clause-other : goal.meet_in_ends-requires-clause-other
meet_in_ends-requires-clause-other g c =
    let plain = plain_edge g.I.IntNumber.whole g.C.EdgeCount.counts in
    let j = get_or c.args.near.now c.loop-k.k 0 in
    let at_e = placed_in_mapped plain c.args.edges.now c.args.i c.index-edges-i.result c.requires.within
    c.index-edges-i.is in
    let later = (c.requires.near (plain c.index-edges-i.result) at_e).within j (
      c.loop-k.k,
      c.loop-k-test.true,
      get_or_default c.args.near.now c.loop-k.k j 0 c.loop-k-test.true,
    ) in
    let inside : j < length c.args.edges.now =
    (let l = length-map c.args.edges.now plain in let less = later.1 in omega (arith, l, less)) in
    All-mapped_at (IsHeld g.I.IntNumber.limit) plain c.args.edges.now j c.index-edges-j.result inside
    c.index-edges-j.is c.requires.held

pub returns-then-not-meet_in_ends : goal.returns-then-not-meet_in_ends
returns-then-not-meet_in_ends g c =
    let plain = plain_edge g.I.IntNumber.whole g.C.EdgeCount.counts in
    let j = get_or c.args.near.now c.loop-k.k 0 in
    let at_e = placed_in_mapped plain c.args.edges.now c.args.i c.index-edges-i.result c.requires.within
    c.index-edges-i.is in
    let later = (c.requires.near (plain c.index-edges-i.result) at_e).within j (
      c.loop-k.k,
      c.loop-k-test.true,
      get_or_default c.args.near.now c.loop-k.k j 0 c.loop-k-test.true,
    ) in
    let inside : j < length c.args.edges.now =
    (let l = length-map c.args.edges.now plain in let less = later.1 in omega (arith, l, less)) in (
      λ h. absurd (cc),
      λ all. c.if-not-meet_in_ends.ensures.settles.1
          (all j (plain c.index-edges-i.result) (plain c.index-edges-j.result) (omega (arith, later.0)) inside at_e
          (placed_in_mapped plain c.args.edges.now j c.index-edges-j.result inside c.index-edges-j.is)),
    )

pub loop-k-preserved : goal.loop-k-preserved
loop-k-preserved g c =
    let plain = plain_edge g.I.IntNumber.whole g.C.EdgeCount.counts in
    let es = plain_edges g.I.IntNumber.whole g.C.EdgeCount.counts c.args.edges.now in
    let j = get_or c.args.near.now c.loop-k.k 0 in
    let at_e = placed_in_mapped plain c.args.edges.now c.args.i c.index-edges-i.result c.requires.within
    c.index-edges-i.is in
    let later = (c.requires.near (plain c.index-edges-i.result) at_e).within j (
      c.loop-k.k,
      c.loop-k-test.true,
      get_or_default c.args.near.now c.loop-k.k j 0 c.loop-k-test.true,
    ) in
    let inside : j < length c.args.edges.now =
    (let l = length-map c.args.edges.now plain in let less = later.1 in omega (arith, l, less)) in
    subst (AreSettledWith es c.args.i)
    (sym (take_more c.args.near.now c.loop-k.k 0 c.loop-k-test.true))
    (settled_more es c.args.i (plain c.index-edges-i.result) at_e
    (take c.loop-k.k c.args.near.now) j (plain c.index-edges-j.result)
    (placed_in_mapped plain c.args.edges.now j c.index-edges-j.result inside c.index-edges-j.is)
    (c.if-not-meet_in_ends.ensures.settles.0 refl) c.loop-k.invariant)

pub returns : goal.returns
returns g c =
    let plain = plain_edge g.I.IntNumber.whole g.C.EdgeCount.counts in
    let es = plain_edges g.I.IntNumber.whole g.C.EdgeCount.counts c.args.edges.now in (
      λ _. subst (AreSettledUpTo es c.args.i) (length-map c.args.edges.now plain)
          (settled_with_near es c.args.i c.args.near.now c.requires.near
          (subst (AreSettledWith es c.args.i) (take_all c.loop-k.k c.args.near.now c.loop-k-test.false)
          c.loop-k.invariant)),
      λ _. refl,
    )
