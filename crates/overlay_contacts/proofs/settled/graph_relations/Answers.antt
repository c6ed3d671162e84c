-- The relations of the edges are those of each content whose points off the edges they keep.
use Rattle.std.proofs.Common.{sym, subst}
use Rattle.overlay_geom.specs.Rules.{is_filled}
use Rattle.overlay_graph.specs.Graphs.{graph_edges}
use Rattle.overlay_contacts.specs.ExactRelations.{AreExactRelations}
use Rattle.overlay_contacts.specs.SettledRelations.{relations_of}
use Rattle.overlay_contacts.proofs.SettledRelations.{exact_of_settled}
use Rattle.overlay_contacts.proofs.settled.graph_relations.Goals as goal

pub returns : goal.returns
returns g c =
    let es = graph_edges c.args.graph.now in
    let filled = is_filled c.args.graph.now.fill_rule in
    record {
      ok = λ content off. subst (AreExactRelations filled content) (sym c.relations.ensures)
          (exact_of_settled filled content es off c.in_ok-found.ensures.ok.fillable (relations_of c.in_ok-found.found)
          c.in_ok-found.ensures.ok.relations);
    }
