-- The parts of a content are held and light; their edges are the content then.
use Rattle.std.proofs.Common.{◌≡◌, ◌<◌, map, All, ap, ap₂, sym, ◌∙◌, subst}
use Rattle.overlay_plane.specs.Carried.{edges_in}
use Rattle.overlay_order.specs.Content.{carried_edges, IsAscending, IsContent}
use Rattle.overlay_parts.specs.PartedContents.{covered, edges_in_parts}
use Rattle.overlay_parts.specs.Parts.{lone_part, plain_parts, AreParted, IsHeldPart}
use Rattle.overlay_parts.specs.Stores.IsStoreReached.{unwritten}
use Rattle.overlay_parts.proofs.CoveredParts.{covered_again}
use Rattle.overlay_parts.proofs.EdgesByLines.{content_light}
use Rattle.overlay_parts.proofs.LightParts.{each_light}
use Rattle.overlay_arrange.proofs.content.Content.part.Goals as goal

pub returns-in_err-alloc-clause-store : goal.returns-in_err-alloc-clause-store
returns-in_err-alloc-clause-store g c = unwritten _

pub returns-in_err-clone-clause-store : goal.returns-in_err-clone-clause-store
returns-in_err-clone-clause-store g c = unwritten _

pub edges_of_parts-requires-clause-held : goal.edges_of_parts-requires-clause-held
edges_of_parts-requires-clause-held g c =
    subst (λ ps. All (IsHeldPart g.I.IntNumber.limit) (plain_parts g.I.IntNumber.whole g.C.EdgeCount.counts ps))
    (sym c.deref.ensures.value) c.in_ok-parts.ensures.held

pub edges_of_parts-requires-clause-light : goal.edges_of_parts-requires-clause-light
edges_of_parts-requires-clause-light g c =
    let whole = g.I.IntNumber.whole in
    let counts = g.C.EdgeCount.counts in
    let parts = plain_parts whole counts c.in_ok-parts.parts.items in
    subst (λ ps. All (λ part. part.cover < 2147483648) (plain_parts whole counts ps)) (sym c.deref.ensures.value)
    (each_light g.C.EdgeCount.merges g.I.IntNumber.limit parts
    (content_light whole counts g.C.EdgeCount.merges g.I.IntNumber.limit c.edges.result.now parts
    (subst (IsContent g.I.IntNumber.limit) (sym c.edges.ensures.plain) c.edges.ensures.content)
    c.in_ok-parts.ensures.parted) c.in_ok-parts.ensures.held)

pub returns-clause-ok : goal.returns-clause-ok
returns-clause-ok g c =
    let plain = plain_parts g.I.IntNumber.whole g.C.EdgeCount.counts in
    let merges = g.C.EdgeCount.merges in
    let held = subst (λ ps. All (IsHeldPart g.I.IntNumber.limit) (plain ps)) (sym c.deref.ensures.value)
    c.in_ok-parts.ensures.held in
    let same : covered c.in_ok-content.content c.in_ok-content.hidden.items ≡ plain c.in_ok-parts.parts.items =
    ap₂ covered c.in_ok-content.ensures.edges c.in_ok-content.ensures.hidden
    ∙ covered_again g.I.IntNumber.limit (plain c.deref.result.now) held ∙ ap plain c.deref.ensures.value in
    subst (λ xs. AreParted merges (map lone_part xs) (covered c.in_ok-content.content c.in_ok-content.hidden.items))
    c.edges.ensures.edges
    (subst (AreParted merges
    (map lone_part (carried_edges g.I.IntNumber.whole g.C.EdgeCount.counts c.edges.result.now))) (sym same)
    c.in_ok-parts.ensures.parted)

pub returns-clause-ascending : goal.returns-clause-ascending
returns-clause-ascending g c =
    let plain = plain_parts g.I.IntNumber.whole g.C.EdgeCount.counts in
    subst (λ xs. IsAscending (edges_in xs)) (sym c.in_ok-content.ensures.edges)
    (subst (λ ps. IsAscending (edges_in_parts (plain ps))) (sym c.deref.ensures.value) c.in_ok-parts.ensures.ascending)
