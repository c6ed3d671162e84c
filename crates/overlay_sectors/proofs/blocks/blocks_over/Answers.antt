-- One block more.
use Rattle.std.proofs.Common.{[], ◌∷◌, sym, ap, ◌∙◌, subst}
use Rattle.std.specs.List.{All}
use Rattle.std.proofs.lemmas.List.{map-append}
use Rattle.std.proofs.lemmas.List.Elements.{All-push}
use Rattle.overlay_order.specs.Content.{plain_edges}
use Rattle.overlay_relate.specs.Blocks.{plain_block, plain_blocks}
use Rattle.overlay_sectors.specs.Blocks.{IsBlockOf}
use Rattle.overlay_sectors.proofs.blocks.blocks_over.Goals as goal

pub loop-start-preserved : goal.loop-start-preserved
loop-start-preserved g c =
    let whole = g.I.IntNumber.whole in
    let es = plain_edges whole g.C.EdgeCount.counts c.args.edges.now in
    let blocks = c.loop-start.blocks.items in
    subst (All (IsBlockOf es))
    (sym (ap (plain_blocks whole) c.in_ok-push.ensures.items
    ∙ map-append (plain_block whole) blocks (c.block_over.result ∷ [])))
    (All-push (IsBlockOf es) (plain_blocks whole blocks) (plain_block whole c.block_over.result) c.loop-start.invariant
    c.block_over.ensures)
