-- The entries below the start of the edge.
use Rattle.std.proofs.Common.{◌≡◌, ℤ, ◌≤ℤ◌, not, rules, List, [], ◌∷◌, ap, ◌∙◌, arith}
use Rattle.std.proofs.lemmas.Int.{ints}
use Rattle.std.specs.Ordering.{is_gt}
use Rattle.overlay_geom.specs.Lines.{plain_line}
use Rattle.overlay_geom.specs.declared.point.IntPoint.{IntPoint}
use Rattle.overlay_scan.specs.HeldEntries.{plain_sweep}
use Rattle.overlay_scan.specs.Lists.{plain_entry, IsComparable, is_lower}
use Rattle.overlay_scan.proofs.Asked.{moved, value_is_below, may_compare}
use Rattle.overlay_scan.proofs.Moving.{sweep_moved}
use Rattle.overlay_scan.proofs.list.ScanListScan.first_less.Goals as goal

-- an edge that starts at x starts at or before x
at_most : (a x : ℤ) → a ≡ x → a ≤ℤ x
at_most a x starts = omega (arith, ints)

pub look_up_at-found-requires : goal.look_up_at-found-requires
look_up_at-found-requires g c k d lt a b at_a at_b =
    let whole = g.I.IntNumber.whole in
    let limit = g.I.IntNumber.limit in
    let old = c.args.self.now in
    let asked = (plain_entry whole c.live_edge-asked.result).edge in
    let comparable : IsComparable limit (plain_line whole (a ∷ b ∷ [])) asked =
    may_compare whole limit c.args.x old.live old.reached asked (plain_line whole c.args.edge)
    (ap (λ n. n.edge) c.live_edge-asked.ensures) c.requires.state c.requires.moves
    (record { a = c.requires.asked.a_in_range; b = c.requires.asked.b_in_range })
    (at_most _ _ c.requires.asked.starts)
    k d lt a b at_a at_b in
    search rules

pub returns-clause-value : goal.returns-clause-value
returns-clause-value g c =
    let whole = g.I.IntNumber.whole in
    let old = c.args.self.now in
    let new = c.look_up_at-found.new.self in
    let asked = (plain_entry whole c.live_edge-asked.result).edge in
    c.unwrap_or.ensures
    ∙ value_is_below whole g.I.IntNumber.limit c.args.x old.live new.live old.reached new.reached c.requires.state
    c.requires.moves (plain_line whole c.args.edge) c.requires.meets
    (λ line o. List (IntPoint g.row.I.Denot) × (not (is_gt o) ≡ is_lower (plain_line whole line) asked))
    c.look_up_at-found.result asked (ap (λ n. n.edge) c.live_edge-asked.ensures) (λ line o answered. answered.1)
    c.requires.asked c.look_up_at-found.ensures.found c.args.default

pub returns-clause-content : goal.returns-clause-content
returns-clause-content g c =
    let whole = g.I.IntNumber.whole in
    let old = c.args.self.now in
    let new = c.look_up_at-found.new.self in
    let asked = (plain_entry whole c.live_edge-asked.result).edge in
    moved whole c.args.x old.live old.reached c.requires.moves new.live new.reached c.look_up_at-found.ensures.reached
    (λ line o. List (IntPoint g.row.I.Denot) × (not (is_gt o) ≡ is_lower (plain_line whole line) asked))
    c.look_up_at-found.result c.look_up_at-found.ensures.found

pub returns-clause-state : goal.returns-clause-state
returns-clause-state g c =
    let whole = g.I.IntNumber.whole in
    sweep_moved g.I.IntNumber.limit (whole c.args.x) (plain_sweep whole c.args.self.now)
    (plain_sweep whole c.look_up_at-found.new.self) c.requires.state c.requires.moves (returns-clause-content g c)

pub returns-clause-no_more : goal.returns-clause-no_more
returns-clause-no_more g c = c.look_up_at-found.ensures.no_more
