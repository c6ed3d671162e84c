-- The edges of the block that begins at the place.
use Rattle.std.proofs.Common.{sym, ◌∙◌, subst, List}
use Rattle.overlay_geom.specs.Edges.{CountedEdge}
use Rattle.overlay_geom.specs.Points.{plain_point}
use Rattle.overlay_relate.specs.Blocks.{plain_block}
use Rattle.overlay_relate.proofs.Forms.{all_at}
use Rattle.overlay_sectors.specs.Blocks.{IsBlockOf, AreAside}
use Rattle.overlay_sectors.proofs.AsideEdges.{aside_edges}
use Rattle.overlay_sectors.proofs.blocks.passed.Goals as goal

pub returns-then-is_clear : goal.returns-then-is_clear
returns-then-is_clear g c = λ (es : List CountedEdge) of.
    let whole = g.I.IntNumber.whole in
    let block = c.value-block.result in
    let q = plain_point whole c.args.p in
    subst (λ n. AreAside es q n block.end) c.if-block-at.true
    (aside_edges es (plain_block whole block) q
    (all_at (IsBlockOf es) (plain_block whole) g.B.FormOf.meant c.args.blocks.now _ c.index-blocks-place.result block
    c.if-place-blocks.false c.index-blocks-place.is c.value-block.ensures of)
    (sym c.is_clear.ensures ∙ c.if-is_clear.true))
