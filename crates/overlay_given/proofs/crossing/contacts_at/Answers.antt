-- The pieces of one edge tell, where the shapes cross.
use Rattle.std.proofs.Common.{◌<◌, sym, subst}
use Rattle.std.specs.List.{All}
use Rattle.std.proofs.lemmas.List.{length-map}
use Rattle.std.proofs.lemmas.Option.{IfSome_then}
use Rattle.overlay_geom.specs.Edges.{CountedEdge}
use Rattle.overlay_geom.specs.Rules.{is_filled}
use Rattle.overlay_order.specs.Content.{plain_edge, plain_edges}
use Rattle.overlay_order.proofs.RuledContents.{zero_is_empty}
use Rattle.overlay_exact.proofs.MetByStarts.{entry_at}
use Rattle.overlay_given.specs.Relations.{AreContacts, IsFoundOf}
use Rattle.overlay_given.specs.Walk.{IsSidesOn}
use Rattle.overlay_given.proofs.Crossings.{crossing_told}
use Rattle.overlay_given.proofs.OneEdge.{each_on}
use Rattle.overlay_given.proofs.ToldRelations.{forward_of_held}
use Rattle.overlay_given.proofs.crossing.contacts_at.Goals as goal

pub returns : goal.returns
returns g c =
    let plain = plain_edge g.I.IntNumber.whole g.C.EdgeCount.counts in
    let es = plain_edges g.I.IntNumber.whole g.C.EdgeCount.counts c.args.edges.now in
    let filled = is_filled c.args.rule in
    let l = length-map c.args.edges.now plain in
    let at = entry_at es c.args.i (subst (λ n. c.args.i < n) (sym l) c.requires.within) in
    let pieces = c.in_ok-pieces.pieces.items in
    let each : All (λ s. (e : CountedEdge) × IsSidesOn filled es e s) pieces =
    each_on filled es at.0 pieces (c.in_ok-pieces.ensures.ok at.0 at.1) in
    let told = c.found_in-told.result in
    let found : IsFoundOf pieces told = subst (λ xs. IsFoundOf xs told) c.deref.ensures.value c.found_in-told.ensures in
    record {
      ok = IfSome_then c.crossing.result c.crossing.ensures (λ contacts is.
          subst (AreContacts filled es) (sym is.contacts)
          (crossing_told filled es (zero_is_empty c.args.rule)
          (forward_of_held g.I.IntNumber.limit es c.requires.held) c.requires.balanced pieces each told found is.common
          is.subject is.clip));
    }
