-- The sides found are those of all pieces, and the rule fills no winding 0.
use Rattle.std.proofs.Common.{length, sym, subst}
use Rattle.std.proofs.lemmas.List.{length-map}
use Rattle.overlay_geom.specs.Rules.{is_filled}
use Rattle.overlay_order.specs.Content.{plain_edge, plain_edges}
use Rattle.overlay_order.proofs.RuledContents.{zero_is_empty}
use Rattle.overlay_given.specs.Relations.{AreInteriorRelations}
use Rattle.overlay_given.specs.Walk.{AreSidesOf}
use Rattle.overlay_given.proofs.ToldRelations.{interiors_told, forward_of_held}
use Rattle.overlay_given.proofs.relations.interior_relations.Goals as goal

pub returns : goal.returns
returns g c =
    let plain = plain_edge g.I.IntNumber.whole g.C.EdgeCount.counts in
    let es = plain_edges g.I.IntNumber.whole g.C.EdgeCount.counts c.args.edges.now in
    let filled = is_filled c.args.rule in
    record {
      ok = λ content merged. subst (AreInteriorRelations filled content) (sym c.relations.ensures)
          (interiors_told filled content es (zero_is_empty c.args.rule)
          (forward_of_held g.I.IntNumber.limit es c.requires.held) c.requires.balanced merged c.deref.result.now
          (subst (λ xs. AreSidesOf filled es (length es) xs) (sym c.deref.ensures.value)
          (subst (λ n. AreSidesOf filled es n c.in_ok-sides.sides.pieces.items)
          (sym (length-map c.args.edges.now plain)) c.in_ok-sides.ensures.pieces)) c.found_in-told.result
          c.found_in-told.ensures);
    }
