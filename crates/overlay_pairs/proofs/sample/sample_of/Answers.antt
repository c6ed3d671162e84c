-- The edge of a sample is held, and finds places of edges.
use Rattle.std.proofs.Common.{◌<◌, List, All, length, get_or, sym, subst, arith}
use Rattle.std.proofs.lemmas.List.{get_or_default, length-map}
use Rattle.overlay_geom.proofs.Mapped.{All-mapped_at}
use Rattle.overlay_order.specs.Content.{plain_edge, IsHeld}
use Rattle.overlay_pairs.proofs.sample.sample_of.Goals as goal

pub find_by_strips-requires-clause-one : goal.find_by_strips-requires-clause-one
find_by_strips-requires-clause-one g c = All-mapped_at (IsHeld g.I.IntNumber.limit)
    (plain_edge g.I.IntNumber.whole g.C.EdgeCount.counts) c.args.edges.now c.saturating_mul-i.result
    c.index-edges-i.result c.if-i-edges.true c.index-edges-i.is c.requires.held

pub count_met-met-requires-clause-one : goal.count_met-met-requires-clause-one
count_met-met-requires-clause-one g c = All-mapped_at (IsHeld g.I.IntNumber.limit)
    (plain_edge g.I.IntNumber.whole g.C.EdgeCount.counts) c.args.edges.now c.saturating_mul-i.result
    c.index-edges-i.result c.if-i-edges.true c.index-edges-i.is c.requires.held

pub count_met-met-requires-clause-within : goal.count_met-met-requires-clause-within
count_met-met-requires-clause-within g c =
    let js = c.find_by_strips.new.near.items in
    let l = length-map c.args.edges.now (plain_edge g.I.IntNumber.whole g.C.EdgeCount.counts) in
    subst (λ (xs : List _). All (λ j. j < length c.args.edges.now) xs) (sym c.deref.ensures.value)
    (λ k d less. let j = get_or js k d in
    let within = c.in_ok-find_by_strips.ensures.ok.within j (k, less, get_or_default js k j d less) in
    omega (arith, within.1, l))
