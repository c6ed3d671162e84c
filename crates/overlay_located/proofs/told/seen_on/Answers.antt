-- The sector is found where the edge leads into the flank.
use Rattle.std.proofs.Common.{◌≡◌, ap, subst, ◌∙◌, rules, w64, to_z, of_z, to_z-of_z}
use Rattle.std.specs.Prelude.{Some}
use Rattle.std.proofs.lemmas.Bool.{both_ways}
use Rattle.overlay_geom.specs.Edges.{ends_of}
use Rattle.overlay_geom.specs.Rules.{is_filled}
use Rattle.overlay_order.specs.Content.{plain_edge}
use Rattle.overlay_sectors.specs.Seen.{AddsFilling}
use Rattle.overlay_located.specs.Queries.{plain_query}
use Rattle.overlay_located.proofs.ToldSeen.{told_fills}
use Rattle.overlay_located.proofs.told.seen_on.Goals as goal

pub winding_by-requires : goal.winding_by-requires
winding_by-requires g c =
    let held = c.is_held.ensures (search rules) in
    record { forward = held.forward; a_in_range = held.a_in_range; b_in_range = held.b_in_range }

pub returns : goal.returns
returns g c = λ es told.
    let whole = g.I.IntNumber.whole in
    let counts = g.C.EdgeCount.counts in
    let q = plain_query whole counts c.args.q in
    let ray = ends_of (plain_edge whole counts c.args.e.now) in
    let filled = is_filled c.args.fill_rule in
    let winding : to_z w64 (of_z w64 c.in_ok-winding.winding) ≡ c.in_ok-winding.winding = search (rules, to_z-of_z) in
    record {
      ray = λ leads. subst (λ t. AddsFilling t c.args.seen c.with.result)
          (c.fills.ensures ∙ ap filled winding
          ∙ told_fills filled es q told c.requires c.args.flank (Some ray) c.in_ok-winding.winding
          c.in_ok-winding.ensures)
          (record { filled = c.with.ensures.filled; empty = c.with.ensures.empty });
      other = λ apart. absurd (both_ways c.leads_from.result (c.leads_from.ensures ∙ apart) (search rules));
    }
