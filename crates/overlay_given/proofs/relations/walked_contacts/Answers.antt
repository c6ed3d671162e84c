-- The sides of all pieces, and those at the meeting points, tell the contacts.
use Rattle.std.proofs.Common.{true, false, length, sym, subst, ap, ◌∙◌}
use Rattle.std.specs.List.{list_any}
use Rattle.std.proofs.lemmas.List.{length-map}
use Rattle.overlay_geom.specs.Rules.{is_filled}
use Rattle.overlay_order.specs.Content.{plain_edge, plain_edges}
use Rattle.overlay_order.proofs.RuledContents.{zero_is_empty}
use Rattle.overlay_exact.specs.Along.{plain_mets}
use Rattle.overlay_given.specs.Relations.{AreContacts, IsFoundOf}
use Rattle.overlay_given.specs.Sides.{sides_pass}
use Rattle.overlay_given.specs.Walk.{AreSidesOf}
use Rattle.overlay_given.specs.declared.relations.InteriorRelations.{InteriorRelations}
use Rattle.overlay_given.specs.declared.sides.SideTest.TheVariants.{BothShapes}
use Rattle.overlay_given.proofs.ToldContacts.{contacts_beside, contacts_apart, ranges_read, shared_read}
use Rattle.overlay_given.proofs.ToldRelations.{chained, forward_of_held}
use Rattle.overlay_given.proofs.relations.walked_contacts.Goals as goal

pub returns-then-some_pass : goal.returns-then-some_pass
returns-then-some_pass g c =
    let plain = plain_edge g.I.IntNumber.whole g.C.EdgeCount.counts in
    let es = plain_edges g.I.IntNumber.whole g.C.EdgeCount.counts c.args.edges.now in
    let filled = is_filled c.args.rule in
    let pieces = c.in_ok-sides.sides.pieces.items in
    let told = c.found_in-told.result in
    record {
      ok = subst (λ (x : InteriorRelations).
          AreContacts filled es (record { interiors = x; beside_piece = true; in_points = false }))
          (sym c.relations-interiors.ensures)
          (contacts_beside filled es (zero_is_empty c.args.rule)
          (forward_of_held g.I.IntNumber.limit es c.requires.held) c.requires.balanced pieces
          (subst (λ n. AreSidesOf filled es n pieces) (sym (length-map c.args.edges.now plain))
          c.in_ok-sides.ensures.pieces) told
          (subst (λ xs. IsFoundOf xs told) c.deref.ensures.value c.found_in-told.ensures)
          (sym c.if-some_pass.true ∙ c.some_pass.ensures
          ∙ ap (list_any (sides_pass BothShapes)) c.deref-2.ensures.value));
    }

pub has_shared_place-in_points-requires : goal.has_shared_place-in_points-requires
has_shared_place-in_points-requires g c =
    let plain = plain_edge g.I.IntNumber.whole g.C.EdgeCount.counts in
    let es = plain_edges g.I.IntNumber.whole g.C.EdgeCount.counts c.args.edges.now in
    let plainly = plain_mets g.I.Wide.WideIntNumber.whole in
    let found = c.in_ok-found.found in
    record {
      ranges = ranges_read (is_filled c.args.rule) es (length c.args.edges.now) (length-map c.args.edges.now plain)
          found.starts.items (plainly found.met.items) c.in_ok-sides.sides.places.items c.in_ok-found.ensures.ok
          c.in_ok-sides.ensures.places c.deref-3.result.now (plainly c.deref-4.result.now) c.deref-5.result.now
          c.deref-3.ensures.value (ap plainly c.deref-4.ensures.value) c.deref-5.ensures.value;
    }

pub returns : goal.returns
returns g c =
    let plain = plain_edge g.I.IntNumber.whole g.C.EdgeCount.counts in
    let es = plain_edges g.I.IntNumber.whole g.C.EdgeCount.counts c.args.edges.now in
    let plainly = plain_mets g.I.Wide.WideIntNumber.whole in
    let filled = is_filled c.args.rule in
    let found = c.in_ok-found.found in
    let pieces = c.in_ok-sides.sides.pieces.items in
    let told = c.found_in-told.result in
    let count = length-map c.args.edges.now plain in
    let forward = forward_of_held g.I.IntNumber.limit es c.requires.held in
    record {
      ok = subst (λ (x : InteriorRelations). AreContacts filled es
          (record { interiors = x; beside_piece = false; in_points = c.has_shared_place-in_points.result }))
          (sym c.relations-interiors.ensures)
          (contacts_apart filled es (zero_is_empty c.args.rule) forward c.requires.balanced pieces
          (subst (λ n. AreSidesOf filled es n pieces) (sym count) c.in_ok-sides.ensures.pieces) told
          (subst (λ xs. IsFoundOf xs told) c.deref.ensures.value c.found_in-told.ensures)
          (sym c.if-some_pass.false ∙ c.some_pass.ensures
          ∙ ap (list_any (sides_pass BothShapes)) c.deref-2.ensures.value) c.has_shared_place-in_points.result
          (chained c.has_shared_place-in_points.ensures
          (shared_read filled es (length c.args.edges.now) count found.starts.items (plainly found.met.items)
          c.in_ok-sides.sides.places.items c.in_ok-found.ensures.ok c.in_ok-sides.ensures.places
          c.deref-3.result.now (plainly c.deref-4.result.now) c.deref-5.result.now c.deref-3.ensures.value
          (ap plainly c.deref-4.ensures.value) c.deref-5.ensures.value c.requires.ascending forward
          c.requires.balanced)));
    }
