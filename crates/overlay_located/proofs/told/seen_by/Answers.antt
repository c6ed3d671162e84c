-- The sectors next above the edge are found in both flanks.
use Rattle.std.proofs.Common.{Contains, [], map, sym, subst}
use Rattle.std.specs.Prelude.{Option}
use Rattle.std.specs.List.{All}
use Rattle.std.proofs.lemmas.List.Elements.{All-head}
use Rattle.std.proofs.lemmas.Option.{IfSome_then}
use Rattle.overlay_geom.specs.Plane.{in_plane}
use Rattle.overlay_geom.specs.Rules.{is_filled}
use Rattle.overlay_order.specs.Content.{plain_edge}
use Rattle.overlay_order.specs.declared.edge.CountedEdge.{CountedEdge}
use Rattle.overlay_located.specs.Few.{if_some}
use Rattle.overlay_located.specs.Queries.{plain_query, SeesRays}
use Rattle.overlay_located.proofs.ToldSeen.{sees_both, told_entry}
use Rattle.overlay_located.proofs.told.seen_by.Goals as goal

pub returns : goal.returns
returns g c = λ es told among.
    let plain = plain_edge g.I.IntNumber.whole g.C.EdgeCount.counts in
    let q = plain_query g.I.IntNumber.whole g.C.EdgeCount.counts c.args.q in
    let filled = is_filled c.args.fill_rule in
    let p = in_plane q.point in
    let e = plain c.in-Some.e in
    let at = subst (λ (o : Option (CountedEdge _ _)). All (Contains q.through) (map plain (if_some o))) c.in-Some.is
    among in
    IfSome_then c.seen_on-2.result (c.seen_on-2.ensures es told) (λ new sees.
    subst (λ (o : Option (CountedEdge _ _)). SeesRays filled es p (map plain (if_some o)) c.args.seen new)
    (sym c.in-Some.is)
    (sees_both filled es p e c.args.seen c.in_ok-left.left new
    (told_entry filled es q told c.requires e (All-head (Contains q.through) e [] at))
    (c.in_ok-left.ensures es told) sees))
