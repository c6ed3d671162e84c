-- The forms are those of the parts.
use Rattle.std.proofs.Common.{map, ◌∙◌}
use Rattle.polyover_calls.specs.Given.{contours_of}
use Rattle.polyover_calls.proofs.Preparing.{parts_formed}
use Rattle.polyover_calls.proofs.prepare.formed_parts.Goals as goal

pub returns : goal.returns
returns g c =
    let parts = c.in_ok-parts.parts in
    parts_formed g.I.IntNumber.whole g.I.IntNumber.limit c.args.fill c.args.solver
    (contours_of c.args.given.now.coordinates.now c.args.given.now.ends.now)
    parts.edges.items (map g.E.FormOf.meant c.in_ok-edges.edges.items)
    parts.blocks.items (map g.B.FormOf.meant c.in_ok-blocks.blocks.items)
    parts.groups.items (map g.B.FormOf.meant c.in_ok-groups.groups.items)
    c.in_ok-parts.ensures (c.in_ok-edges.ensures.formed ∙ c.deref.ensures.value)
    (c.in_ok-blocks.ensures.formed ∙ c.deref-2.ensures.value)
    (c.in_ok-groups.ensures.formed ∙ c.deref-3.ensures.value)
