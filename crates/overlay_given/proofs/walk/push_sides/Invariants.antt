-- The sides of the pieces so far are pushed, and the windings beside the piece that begins here are known.
use Rattle.std.proofs.Common.{◌+◌, ◌-◌, ◌*◌, ◌≤◌, length}
use Rattle.overlay_geom.specs.Rules.{is_filled}
use Rattle.overlay_order.specs.Content.{plain_edges}
use Rattle.overlay_exact.specs.Along.{plain_mets}
use Rattle.overlay_given.specs.Beside.{IsNear}
use Rattle.overlay_given.proofs.PlacesWalked.{HasPlaces}
use Rattle.overlay_given.proofs.Walked.{HasWalked}
use Rattle.overlay_given.proofs.walk.push_sides.Given as goal

abbrev pub invariant-loop-from : goal.invariant-loop-from
invariant-loop-from g l =
    let es = plain_edges g.I.IntNumber.whole g.C.EdgeCount.counts l.edges in
    let ms = plain_mets g.I.Wide.WideIntNumber.whole l.met in record {
      within : l.from ≤ length l.met;
      near : IsNear (158456325028528675187087900672 + l.from * 4294967296) l.beside;
      walked : HasWalked (is_filled l.rule) es l.i ms l.from l.beside l.fn.pieces.items l.pieces.items;
      places : HasPlaces (is_filled l.rule) es l.i ms l.from l.fn.places.items l.places.items;
    }

abbrev pub decreases-loop-from : goal.decreases-loop-from
decreases-loop-from g l = length l.met - l.from
