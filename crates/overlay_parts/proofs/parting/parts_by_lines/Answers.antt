-- The edges in the order of their lines are parted, and equal parts joined.
use Rattle.std.proofs.Common.{◌≡◌, All, ap, ◌∙◌, sym, subst, rules}
use Rattle.std.specs.Ordering.{is_lt}
use Rattle.std.proofs.lemmas.List.Sorted.{answers_always}
use Rattle.std.proofs.lemmas.Result.{IfOk-weaker}
use Rattle.overlay_order.specs.Content.{edge_cmp, plain_edge, plain_edges, IsContent}
use Rattle.overlay_parts.specs.PartedContents.{AreLightParts}
use Rattle.overlay_parts.specs.PartedContents.{edges_in_parts}
use Rattle.overlay_parts.specs.Parts.{plain_parts, AreParted, IsHeldPart}
use Rattle.overlay_parts.specs.EdgeOrder.{IsInOrder}
use Rattle.overlay_parts.specs.Stores.IsStoreReached.{unwritten}
use Rattle.overlay_parts.proofs.EdgeOrder.{edge_cmp-is_less}
use Rattle.overlay_parts.proofs.EdgesByLines.{content_light, content_moved, lines_parted, lone, ordered_held}
use Rattle.overlay_parts.proofs.EqualParts.{part_lt, part_lt-order, sorted_in_order}
use Rattle.overlay_parts.proofs.Parted.{parted_on}
use Rattle.overlay_parts.proofs.ReachedStores.{reached_on}
use Rattle.overlay_parts.proofs.parting.parts_by_lines.Goals as goal

pub returns-in_err-clone-clause-store : goal.returns-in_err-clone-clause-store
returns-in_err-clone-clause-store g c = unwritten _

pub returns-in_err-sorted-clause-store : goal.returns-in_err-sorted-clause-store
returns-in_err-sorted-clause-store g c = unwritten _

pub returns-in_err-clone-2-clause-store : goal.returns-in_err-clone-2-clause-store
returns-in_err-clone-2-clause-store g c = unwritten _

pub parts_line_by_line-requires : goal.parts_line_by_line-requires
parts_line_by_line-requires g c =
    let whole = g.I.IntNumber.whole in
    let counts = g.C.EdgeCount.counts in
    subst (λ es. IsContent g.I.IntNumber.limit (plain_edges whole counts es)) (sym c.deref.ensures.value)
    (content_moved whole counts c.args.edges.now c.in_ok-sorted.sorted.items c.in_ok-sorted.ensures g.I.IntNumber.limit
    c.requires)

pub equal_joined-requires-clause-held : goal.equal_joined-requires-clause-held
equal_joined-requires-clause-held g c =
    let whole = g.I.IntNumber.whole in
    let counts = g.C.EdgeCount.counts in
    subst (λ ps. All (IsHeldPart g.I.IntNumber.limit) (plain_parts whole counts ps)) (sym c.deref-2.ensures.value)
    (ordered_held whole counts g.C.EdgeCount.merges c.args.edges.now c.in_ok-sorted.sorted.items
    c.in_ok-parts.parts.items c.sort_by.new.self.items c.in_ok-sorted.ensures c.in_ok-sort_by.ensures.permutation
    (subst (λ es. AreParted g.C.EdgeCount.merges (lone whole counts es)
    (plain_parts whole counts c.in_ok-parts.parts.items)) c.deref.ensures.value c.in_ok-parts.ensures.parted)
    g.I.IntNumber.limit c.in_ok-parts.ensures.held)

pub equal_joined-requires-clause-order : goal.equal_joined-requires-clause-order
equal_joined-requires-clause-order g c =
    let whole = g.I.IntNumber.whole in
    let counts = g.C.EdgeCount.counts in
    subst (λ ps. IsInOrder (edges_in_parts (plain_parts whole counts ps))) (sym c.deref-2.ensures.value)
    (sorted_in_order whole counts c.sort_by.new.self.items
    (c.in_ok-sort_by.ensures.sorted (part_lt whole counts) (part_lt-order whole counts)
    (answers_always _ _ _ (λ f a r h k.
    let answer : r ≡ edge_cmp (plain_edge whole counts a.0.now.edge) (plain_edge whole counts a.1.0.now.edge) =
    search rules in
    ap is_lt answer
    ∙ edge_cmp-is_less (plain_edge whole counts a.0.now.edge) (plain_edge whole counts a.1.0.now.edge)))))

pub equal_joined-requires-clause-light : goal.equal_joined-requires-clause-light
equal_joined-requires-clause-light g c =
    let whole = g.I.IntNumber.whole in
    let counts = g.C.EdgeCount.counts in
    let merges = g.C.EdgeCount.merges in
    let ordered = c.sort_by.new.self.items in
    subst (λ ps. AreLightParts merges (plain_parts whole counts ps)) (sym c.deref-2.ensures.value)
    (content_light whole counts merges g.I.IntNumber.limit c.args.edges.now (plain_parts whole counts ordered)
    c.requires
    (lines_parted whole counts merges c.args.edges.now c.in_ok-sorted.sorted.items c.in_ok-parts.parts.items ordered
    c.in_ok-sorted.ensures c.in_ok-sort_by.ensures.permutation
    (subst (λ es. AreParted merges (lone whole counts es) (plain_parts whole counts c.in_ok-parts.parts.items))
    c.deref.ensures.value c.in_ok-parts.ensures.parted)))

pub returns-clause-parted : goal.returns-clause-parted
returns-clause-parted g c =
    let whole = g.I.IntNumber.whole in
    let counts = g.C.EdgeCount.counts in
    let merges = g.C.EdgeCount.merges in
    let ordered = c.sort_by.new.self.items in
    IfOk-weaker c.equal_joined.result _ _
    (λ joined more. parted_on merges
    (lines_parted whole counts merges c.args.edges.now c.in_ok-sorted.sorted.items c.in_ok-parts.parts.items ordered
    c.in_ok-sorted.ensures c.in_ok-sort_by.ensures.permutation
    (subst (λ es. AreParted merges (lone whole counts es) (plain_parts whole counts c.in_ok-parts.parts.items))
    c.deref.ensures.value c.in_ok-parts.ensures.parted))
    (subst (λ ps. AreParted merges (plain_parts whole counts ps) (plain_parts whole counts joined.items))
    c.deref-2.ensures.value more))
    c.equal_joined.ensures.parted

pub returns-clause-store : goal.returns-clause-store
returns-clause-store g c =
    reached_on g.C.EdgeCount.writes _ _ _ c.in_ok-parts.ensures.store c.equal_joined.ensures.store
