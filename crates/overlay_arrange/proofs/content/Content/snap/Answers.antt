-- If the merged list is settled no round is taken. Otherwise the edges are led once, and the merged pieces are settled.
use Rattle.std.proofs.Common.{◌≡◌, ◌↔◌, Option, Some, None, sym, subst, ◌∙◌}
use Rattle.std.proofs.lemmas.Result.{err_from_is_err_and}
use Rattle.overlay_plane.specs.Carried.{edges_in}
use Rattle.overlay_order.specs.Content.{IsContent}
use Rattle.overlay_parts.proofs.ReachedStores.{reached_on}
use Rattle.overlay_arrange.proofs.ArrangedLists.{carried_at_once, forward_content}
use Rattle.overlay_arrange.proofs.RoundsTaken.{cut_where_unsettled, split_at_once}
use Rattle.overlay_arrange.proofs.SnapsInParts.{heavy_of_heavy_parts, heavy_once_in_parts, once_in_parts}
use Rattle.overlay_arrange.proofs.SnapsTaken.{heavy_by_snapping, snapped_carrying}
use Rattle.overlay_arrange.proofs.content.Content.snap.Goals as goal

-- edges whose meetings are found are not settled
not_settled : {X : Type 0} {found : Option X} {x : X} {P : Type 0} → found ≡ Some x → (found ≡ None) ↔ P → ¬ P
not_settled is law settled = let none = sym is ∙ law.1 settled in absurd (cc)

pub returns-in_default-clause-split : goal.returns-in_default-clause-split
returns-in_default-clause-split g c = split_at_once 1 _ _ c.in_ok-merge_runs.ensures.ok
    (c.in_ok-gathered.ensures.settled.0 c.in_default.is)

pub returns-in_default-clause-carried : goal.returns-in_default-clause-carried
returns-in_default-clause-carried g c =
    carried_at_once g.C.EdgeCount.merges g.C.EdgeCount.splits g.C.EdgeCount.reverses 1 c.args.self.now
    c.merge_runs.new.self
    c.in_ok-merge_runs.ensures.ok (c.in_ok-gathered.ensures.settled.0 c.in_default.is)
    c.in_ok-merge_runs.ensures.carried

pub returns-in_err-meetings-clause-too_many : goal.returns-in_err-meetings-clause-too_many
returns-in_err-meetings-clause-too_many g c = λ same.
    let passed = err_from_is_err_and c.from_residual-in_err-meetings.result
    c.from_residual-in_err-meetings.ensures.1 in
    heavy_by_snapping g.C.EdgeCount.merges g.C.EdgeCount.splits g.C.EdgeCount.reverses g.I.IntNumber.limit
    c.args.self.now c.merge_runs.new.self c.merge_runs.ensures.content c.in_ok-merge_runs.ensures.ok
    (not_settled c.in-Some.is c.in_ok-gathered.ensures.settled) 2147483648
    (heavy_of_heavy_parts g.C.EdgeCount.merges g.C.EdgeCount.splits g.C.EdgeCount.reverses c.merge_runs.new.self
    (forward_content g.I.IntNumber.limit (edges_in c.merge_runs.new.self) c.merge_runs.ensures.content) 2147483648
    (c.in_err-meetings.ensures.too_many (cc)))

pub returns-in_err-lead_once-clause-too_many : goal.returns-in_err-lead_once-clause-too_many
returns-in_err-lead_once-clause-too_many g c = λ same.
    let passed = err_from_is_err_and c.from_residual-in_err-lead_once.result
    c.from_residual-in_err-lead_once.ensures.1 in
    heavy_by_snapping g.C.EdgeCount.merges g.C.EdgeCount.splits g.C.EdgeCount.reverses g.I.IntNumber.limit
    c.args.self.now c.merge_runs.new.self c.merge_runs.ensures.content c.in_ok-merge_runs.ensures.ok
    (not_settled c.in-Some.is c.in_ok-gathered.ensures.settled) 2147483648
    (heavy_once_in_parts g.C.EdgeCount.merges g.C.EdgeCount.splits g.C.EdgeCount.reverses c.merge_runs.new.self
    (forward_content g.I.IntNumber.limit (edges_in c.merge_runs.new.self) c.merge_runs.ensures.content)
    c.in_ok-meetings.meetings.hidden.items c.deref.result.now 2147483648 c.in_ok-meetings.ensures.parted
    c.deref.ensures.value (c.in_err-lead_once.ensures.too_many (cc)))

pub returns-clause-carried : goal.returns-clause-carried
returns-clause-carried g c =
    snapped_carrying g.C.EdgeCount.merges g.C.EdgeCount.splits g.C.EdgeCount.reverses g.I.IntNumber.limit
    c.args.self.now c.merge_runs.new.self c.merge_runs.ensures.content c.in_ok-merge_runs.ensures.ok
    (not_settled c.in-Some.is c.in_ok-gathered.ensures.settled) c.lead_once.new.self c.merge_runs-2.new.self
    c.merge_runs.ensures.before c.in_ok-merge_runs.ensures.carried
    (once_in_parts g.C.EdgeCount.merges g.C.EdgeCount.splits g.C.EdgeCount.reverses c.merge_runs.new.self
    (forward_content g.I.IntNumber.limit (edges_in c.merge_runs.new.self) c.merge_runs.ensures.content)
    c.in_ok-meetings.meetings.hidden.items c.deref.result.now c.in_ok-meetings.ensures.parted c.deref.ensures.value
    c.in_ok-lead_once.ensures.ok)
    c.in_ok-merge_runs-2.ensures.ok c.in_ok-merge_runs-2.ensures.carried

pub returns-clause-split : goal.returns-clause-split
returns-clause-split g c =
    (snapped_carrying g.C.EdgeCount.merges g.C.EdgeCount.splits g.C.EdgeCount.reverses g.I.IntNumber.limit
    c.args.self.now c.merge_runs.new.self c.merge_runs.ensures.content c.in_ok-merge_runs.ensures.ok
    (not_settled c.in-Some.is c.in_ok-gathered.ensures.settled) c.lead_once.new.self c.merge_runs-2.new.self
    c.merge_runs.ensures.before c.in_ok-merge_runs.ensures.carried
    (once_in_parts g.C.EdgeCount.merges g.C.EdgeCount.splits g.C.EdgeCount.reverses c.merge_runs.new.self
    (forward_content g.I.IntNumber.limit (edges_in c.merge_runs.new.self) c.merge_runs.ensures.content)
    c.in_ok-meetings.meetings.hidden.items c.deref.result.now c.in_ok-meetings.ensures.parted c.deref.ensures.value
    c.in_ok-lead_once.ensures.ok)
    c.in_ok-merge_runs-2.ensures.ok c.in_ok-merge_runs-2.ensures.carried).split

pub returns-clause-cut : goal.returns-clause-cut
returns-clause-cut g c = cut_where_unsettled c.in_ok-merge_runs.ensures.ok
    (not_settled c.in-Some.is c.in_ok-gathered.ensures.settled)

pub meetings_of-requires-clause-ascending : goal.meetings_of-requires-clause-ascending
meetings_of-requires-clause-ascending g c = c.in_ok-merge_runs.ensures.ok.ascending

-- the store is reached by merging, parting, leading the edges, and merging again
pub returns-in_err-meetings-clause-store : goal.returns-in_err-meetings-clause-store
returns-in_err-meetings-clause-store g c =
    reached_on g.C.EdgeCount.writes _ _ _ c.in_ok-merge_runs.ensures.store c.in_err-meetings.ensures.store

pub returns-in_err-lead_once-clause-store : goal.returns-in_err-lead_once-clause-store
returns-in_err-lead_once-clause-store g c =
    let writes = g.C.EdgeCount.writes in
    reached_on writes _ _ _ (reached_on writes _ _ _ c.in_ok-merge_runs.ensures.store c.in_ok-meetings.ensures.store)
    c.in_err-lead_once.ensures.store

pub returns-in_err-merge_runs-2-clause-store : goal.returns-in_err-merge_runs-2-clause-store
returns-in_err-merge_runs-2-clause-store g c =
    let writes = g.C.EdgeCount.writes in
    reached_on writes _ _ _ (reached_on writes _ _ _
    (reached_on writes _ _ _ c.in_ok-merge_runs.ensures.store c.in_ok-meetings.ensures.store)
    c.in_ok-lead_once.ensures.store)
    c.in_err-merge_runs-2.ensures.store

pub returns-clause-store : goal.returns-clause-store
returns-clause-store g c =
    let writes = g.C.EdgeCount.writes in
    reached_on writes _ _ _ (reached_on writes _ _ _
    (reached_on writes _ _ _ c.in_ok-merge_runs.ensures.store c.in_ok-meetings.ensures.store)
    c.in_ok-lead_once.ensures.store)
    c.in_ok-merge_runs-2.ensures.store

-- edges that are not led stay merged
pub returns-in_err-lead_once-clause-content : goal.returns-in_err-lead_once-clause-content
returns-in_err-lead_once-clause-content g c =
    subst (λ es. IsContent g.I.IntNumber.limit (edges_in es)) (sym c.in_err-lead_once.ensures.err)
    c.meetings_of.ensures.content
