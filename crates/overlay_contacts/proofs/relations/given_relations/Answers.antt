-- The contacts found tell the relations of each content that merges to the edges.
use Rattle.std.proofs.Common.{sym, subst}
use Rattle.overlay_geom.specs.Rules.{is_filled}
use Rattle.overlay_order.specs.Content.{plain_edges}
use Rattle.overlay_order.proofs.RuledContents.{zero_is_empty}
use Rattle.overlay_given.proofs.ToldRelations.{forward_of_held}
use Rattle.overlay_contacts.specs.ExactRelations.{AreExactRelations}
use Rattle.overlay_contacts.proofs.ExactRelations.{relations_told}
use Rattle.overlay_contacts.proofs.relations.given_relations.Goals as goal

pub returns : goal.returns
returns g c =
    let es = plain_edges g.I.IntNumber.whole g.C.EdgeCount.counts c.args.edges.now in
    let filled = is_filled c.args.rule in
    record {
      ok = λ content merged. subst (AreExactRelations filled content) (sym c.relations_by.ensures)
          (relations_told filled content es merged (forward_of_held g.I.IntNumber.limit es c.requires.held)
          c.requires.balanced (zero_is_empty c.args.rule) c.in_ok-found.found c.in_ok-found.ensures.ok);
    }
