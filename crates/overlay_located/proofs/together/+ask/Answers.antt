-- The halves are asked with the edges that are kept.
use Rattle.std.proofs.Common.{◌≡◌, ℕ, ◌-◌, List, ◌++◌, length, get_or, take, drop, sym, subst}
use Rattle.std.specs.List.{All}
use Rattle.std.proofs.lemmas.List.Elements.{All-take, All-drop}
use Rattle.overlay_located.specs.Tells.{TellsWhere}
use Rattle.overlay_located.specs.Slabs.{plain_lines, Band, IsWithin}
use Rattle.overlay_located.specs.Chains.{plain_links, edges_of}
use Rattle.overlay_located.specs.Queries.{plain_query, IsOpen}
use Rattle.overlay_located.proofs.together.+ask.Goals as goal

-- what holds of all holds of both parts
parts_of : {X : Type 0} (P : X → Type 0) (n : ℕ) (xs ys front back : List X) → ys ≡ xs → front ≡ take n ys →
    back ≡ drop n ys → All P xs → All P front × All P back
parts_of P n xs ys front back same is_front is_back all =
    let every = subst (All P) (sym same) all in (
      subst (All P) (sym is_front) (All-take P n ys every),
      subst (All P) (sym is_back) (All-drop P n ys every),
    )

-- the first half is told
pub returns-in_err-ask : goal.returns-in_err-ask
returns-in_err-ask g t c = λ es left told.
    let whole = g.I.IntNumber.whole in
    let counts = g.C.EdgeCount.counts in
    let lines = plain_lines whole counts in
    let kept = lines c.in_ok-node.node.kept.items in
    let queries = c.args.queries.now in
    let slab : Band = record {
      from = whole (get_or queries 0 c.index-queries-0.result).point.x;
      to = whole (get_or queries (length queries - 1) c.index-queries-queries.result).point.x;
    } in
    let all = c.in_ok-rest.ensures.fewer es (lines c.args.lines.now) kept
    (subst (λ ks. TellsWhere (IsWithin slab) (lines c.args.lines.now) (edges_of (plain_links whole counts ks) ++ kept))
    (sym c.deref.ensures.value) c.in_ok-node.ensures.split) left in
    let parts = parts_of (λ q. IsOpen es kept (plain_query whole counts q)) _ c.in_ok-rest.rest.items
    c.deref-2.result.now c.split_at-halves.result.0.now c.split_at-halves.result.1.now c.deref-2.ensures.value
    c.split_at-halves.ensures.front c.split_at-halves.ensures.back all in
    c.ask.ensures es
    (subst (λ ls. All (λ q. IsOpen es (lines ls) (plain_query whole counts q)) c.split_at-halves.result.0.now)
    (sym c.deref-3.ensures.value) parts.0) told

-- and the second
pub returns : goal.returns
returns g t c = λ es left told.
    let whole = g.I.IntNumber.whole in
    let counts = g.C.EdgeCount.counts in
    let lines = plain_lines whole counts in
    let kept = lines c.in_ok-node.node.kept.items in
    let queries = c.args.queries.now in
    let slab : Band = record {
      from = whole (get_or queries 0 c.index-queries-0.result).point.x;
      to = whole (get_or queries (length queries - 1) c.index-queries-queries.result).point.x;
    } in
    let all = c.in_ok-rest.ensures.fewer es (lines c.args.lines.now) kept
    (subst (λ ks. TellsWhere (IsWithin slab) (lines c.args.lines.now) (edges_of (plain_links whole counts ks) ++ kept))
    (sym c.deref.ensures.value) c.in_ok-node.ensures.split) left in
    let parts = parts_of (λ q. IsOpen es kept (plain_query whole counts q)) _ c.in_ok-rest.rest.items
    c.deref-2.result.now c.split_at-halves.result.0.now c.split_at-halves.result.1.now c.deref-2.ensures.value
    c.split_at-halves.ensures.front c.split_at-halves.ensures.back all in
    c.ask-2.ensures es
    (subst (λ ls. All (λ q. IsOpen es (lines ls) (plain_query whole counts q)) c.split_at-halves.result.1.now)
    (sym c.deref-4.ensures.value) parts.1)
    (c.ask.ensures es
    (subst (λ ls. All (λ q. IsOpen es (lines ls) (plain_query whole counts q)) c.split_at-halves.result.0.now)
    (sym c.deref-3.ensures.value) parts.0) told)
