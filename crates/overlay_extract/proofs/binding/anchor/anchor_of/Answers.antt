-- The lowest step leads along the anchor.
use Rattle.std.proofs.Common.{ℕ, ap, sym, subst}
use Rattle.std.proofs.lemmas.List.Elements.{All-contains}
use Rattle.overlay_plane.specs.Anchors.{IsAnchor}
use Rattle.overlay_scan.specs.Scan.{Entry}
use Rattle.overlay_walk.specs.Steps.{plain_step, plain_steps, IsLong}
use Rattle.overlay_extract.proofs.binding.anchor.anchor_of.Goals as goal

pub edge_along-requires : goal.edge_along-requires
edge_along-requires g c =
    let whole = g.I.IntNumber.whole in
    All-contains (IsLong g.I.IntNumber.limit) (plain_steps whole c.args.walk.now)
    (plain_step whole c.lowest_step.result)
    c.requires.long c.lowest_step.ensures.among

pub returns-clause-index : goal.returns-clause-index
returns-clause-index g c = ap (λ (x : Entry ℕ). x.value) c.edge_along.ensures

pub returns-clause-anchor : goal.returns-clause-anchor
returns-clause-anchor g c =
    subst (IsAnchor (plain_steps g.I.IntNumber.whole c.args.walk.now))
    (sym (ap (λ (x : Entry ℕ). x.edge) c.edge_along.ensures)) c.lowest_step.ensures.anchor
