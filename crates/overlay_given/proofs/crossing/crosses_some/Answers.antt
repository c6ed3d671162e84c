-- A loop over the edges that are not far from the edge: it crosses none of the other shape, or the answer is yes.
use Rattle.std.proofs.Common.{get_or, take, refl, sym, subst, ◌∙◌, arith}
use Rattle.std.proofs.lemmas.List.{take_all, take_more, get_or_default}
use Rattle.overlay_geom.proofs.Mapped.{All-mapped_at}
use Rattle.overlay_order.specs.Content.{plain_edge, plain_edges, IsHeld}
use Rattle.overlay_pairs.proofs.Entries.{placed_in_mapped}
use Rattle.std.proofs.lemmas.Bool.{false≢true}
use Rattle.overlay_given.specs.Crossing.{cross_of_two}
use Rattle.overlay_given.proofs.NearTests.{FailsAt, fails_at_none, fails_at_more, near_at, none_passes}
use Rattle.overlay_given.proofs.crossing.crosses_some.Goals as goal

pub loop-k-init : goal.loop-k-init
loop-k-init g c = fails_at_none cross_of_two
    (plain_edges g.I.IntNumber.whole g.C.EdgeCount.counts c.args.edges.now) c.args.i

pub offset_bounds-edges-j : goal.offset_bounds-edges-j
offset_bounds-edges-j g c =
    let later = near_at g.I.IntNumber.whole g.C.EdgeCount.counts c.args.edges.now c.args.i c.args.near.now
    c.requires.within c.requires.near c.loop-k.k c.loop-k-test.true in
    let less = later.1 in
    omega (arith, less)

pub bounds-edges-j : goal.bounds-edges-j
bounds-edges-j g c =
    let later = near_at g.I.IntNumber.whole g.C.EdgeCount.counts c.args.edges.now c.args.i c.args.near.now
    c.requires.within c.requires.near c.loop-k.k c.loop-k-test.true in
    later.1

pub cross_of_two-requires-clause-one : goal.cross_of_two-requires-clause-one
cross_of_two-requires-clause-one g c =
    All-mapped_at (IsHeld g.I.IntNumber.limit) (plain_edge g.I.IntNumber.whole g.C.EdgeCount.counts) c.args.edges.now
    c.args.i c.index-edges-i.result c.requires.within c.index-edges-i.is c.requires.held

pub cross_of_two-requires-clause-other : goal.cross_of_two-requires-clause-other
cross_of_two-requires-clause-other g c =
    let later = near_at g.I.IntNumber.whole g.C.EdgeCount.counts c.args.edges.now c.args.i c.args.near.now
    c.requires.within c.requires.near c.loop-k.k c.loop-k-test.true in
    All-mapped_at (IsHeld g.I.IntNumber.limit) (plain_edge g.I.IntNumber.whole g.C.EdgeCount.counts) c.args.edges.now
    (get_or c.args.near.now c.loop-k.k 0) c.index-edges-j.result later.1 c.index-edges-j.is c.requires.held

pub loop-k-preserved : goal.loop-k-preserved
loop-k-preserved g c =
    let plain = plain_edge g.I.IntNumber.whole g.C.EdgeCount.counts in
    let es = plain_edges g.I.IntNumber.whole g.C.EdgeCount.counts c.args.edges.now in
    let j = get_or c.args.near.now c.loop-k.k 0 in
    let later = near_at g.I.IntNumber.whole g.C.EdgeCount.counts c.args.edges.now c.args.i c.args.near.now
    c.requires.within c.requires.near c.loop-k.k c.loop-k-test.true in
    subst (FailsAt cross_of_two es c.args.i)
    (sym (take_more c.args.near.now c.loop-k.k 0 c.loop-k-test.true))
    (fails_at_more cross_of_two es c.args.i (plain c.index-edges-i.result)
    (placed_in_mapped plain c.args.edges.now c.args.i c.index-edges-i.result c.requires.within c.index-edges-i.is)
    (take c.loop-k.k c.args.near.now) j (plain c.index-edges-j.result)
    (placed_in_mapped plain c.args.edges.now j c.index-edges-j.result later.1 c.index-edges-j.is)
    (sym c.cross_of_two.ensures ∙ c.if-cross_of_two.false) c.loop-k.invariant)

pub returns-then-cross_of_two : goal.returns-then-cross_of_two
returns-then-cross_of_two g c =
    let plain = plain_edge g.I.IntNumber.whole g.C.EdgeCount.counts in
    let j = get_or c.args.near.now c.loop-k.k 0 in
    let later = near_at g.I.IntNumber.whole g.C.EdgeCount.counts c.args.edges.now c.args.i c.args.near.now
    c.requires.within c.requires.near c.loop-k.k c.loop-k-test.true in (
      λ t. (
        j,
        plain c.index-edges-i.result,
        plain c.index-edges-j.result,
        (c.loop-k.k, c.loop-k-test.true, get_or_default c.args.near.now c.loop-k.k j 0 c.loop-k-test.true),
        placed_in_mapped plain c.args.edges.now c.args.i c.index-edges-i.result c.requires.within c.index-edges-i.is,
        placed_in_mapped plain c.args.edges.now j c.index-edges-j.result later.1 c.index-edges-j.is,
        sym c.cross_of_two.ensures ∙ c.if-cross_of_two.true,
      ),
      λ some. refl,
    )

pub returns : goal.returns
returns g c =
    let es = plain_edges g.I.IntNumber.whole g.C.EdgeCount.counts c.args.edges.now in (
      λ t. absurd (false≢true t),
      λ some. absurd (none_passes cross_of_two es c.args.i c.args.near.now
          (subst (FailsAt cross_of_two es c.args.i)
          (take_all c.loop-k.k c.args.near.now c.loop-k-test.false) c.loop-k.invariant) some),
    )
