-- If the merged list is settled no round is taken. Otherwise the cut is a round, and the rest is split with the rounds
-- that are left.
use Rattle.std.proofs.Common.{◌≡◌, ℕ, ◌-◌, ◌↔◌, List, Option, Some, None, refl, sym, ◌∙◌, subst, arith}
use Rattle.std.proofs.lemmas.Result.{err_from_is_err_and}
use Rattle.overlay_order.specs.Content.{IsContent}
use Rattle.overlay_parts.proofs.ReachedStores.{reached_on}
use Rattle.overlay_arrange.proofs.ArrangedLists.{forward_content, carried_at_once, carried_on}
use Rattle.overlay_arrange.proofs.CutsInParts.{cut_heavy_in_parts, cut_heavy_of_parts, cut_once_in_parts}
use Rattle.overlay_arrange.proofs.CutsOfParts.{whole_in_parts}
use Rattle.overlay_arrange.proofs.RoundsTaken.{split_at_once, unsettled_at_once, split_on, unsettled_on, heavy_on}
use Rattle.overlay_arrange.proofs.RoundsTaken.{heavy_at_once, uncut_where_settled, cut_where_unsettled, Leaves}
use Rattle.overlay_arrange.proofs.SolverRounds.{cut_in_rounds, leaves_of_taken}
use Rattle.overlay_arrange.proofs.StandingLists.{carries_of_standing, merged_of_standing}
use Rattle.overlay_arrange.proofs.StandingRounds.{carrying_for, heavy_for, split_for, unsettled_for}
use Rattle.overlay_geom.specs.Edges.{CountedEdge}
use Rattle.overlay_geom.specs.Merged.{IsMerged}
use Rattle.overlay_geom.specs.Settled.{IsSettled}
use Rattle.overlay_geom.specs.declared.solver.Solver.TheVariants.{Rounds}
use Rattle.overlay_plane.specs.Carried.{edges_in}
use Rattle.overlay_plane.specs.CutPoints.{cut_edges}
use Rattle.overlay_plane.specs.DerivedData.{computed_chain}
use Rattle.overlay_arrange.proofs.WholeMeetings.{settled_where_whole}
use Rattle.overlay_arrange.proofs.content.Content.+split_since.Goals as goal

-- edges whose meetings are found are not settled
not_settled : {X : Type 0} {found : Option X} {x : X} {P : Type 0} → found ≡ Some x → (found ≡ None) ↔ P → ¬ P
not_settled is law settled = let none = sym is ∙ law.1 settled in absurd (cc)

-- a merged content that is not settled is cut by a round
leaves_cut : (limit : ℕ) (old es new : List CountedEdge) → IsContent limit es → IsMerged old es → ¬ (IsSettled es) →
    new ≡ cut_edges es → Leaves Rounds old new
leaves_cut limit old es new content merged unsettled is = leaves_of_taken Rounds old es new (computed_chain es)
    (cut_in_rounds old es (forward_content limit es content) merged unsettled new is)

pub open_meetings-requires-clause-ascending : goal.open_meetings-requires-clause-ascending
open_meetings-requires-clause-ascending g n c = c.in_ok-merge_runs.ensures.ok.ascending

pub meetings_of-requires-clause-ascending : goal.meetings_of-requires-clause-ascending
meetings_of-requires-clause-ascending g n c = c.in_ok-merge_runs.ensures.ok.ascending

pub returns-in_default-clause-split : goal.returns-in_default-clause-split
returns-in_default-clause-split g n c = split_at_once c.args.rounds _ _ c.in_ok-merge_runs.ensures.ok
    (c.in_ok-gathered.ensures.settled.0 c.in_default.is)

pub returns-then-rounds-eq0-clause-not_settled : goal.returns-then-rounds-eq0-clause-not_settled
returns-then-rounds-eq0-clause-not_settled g n c = λ same. unsettled_at_once c.args.rounds _ _
    (omega arith) c.in_ok-merge_runs.ensures.ok
    (not_settled c.in-Some.is c.in_ok-gathered.ensures.settled)

pub returns-in_err-is_rounded-clause-too_many : goal.returns-in_err-is_rounded-clause-too_many
returns-in_err-is_rounded-clause-too_many g n c = λ same.
    let passed = err_from_is_err_and c.from_residual-in_err-is_rounded.result
    c.from_residual-in_err-is_rounded.ensures.1 in
    let first = leaves_cut g.I.IntNumber.limit (edges_in c.args.self.now) (edges_in c.merge_runs.new.self)
    (cut_edges (edges_in c.merge_runs.new.self)) c.merge_runs.ensures.content c.in_ok-merge_runs.ensures.ok
    (not_settled c.in-Some.is c.in_ok-gathered.ensures.settled)
    refl in
    heavy_at_once Rounds 2147483648 c.args.rounds _ _ (omega arith) first
    (cut_heavy_in_parts g.C.EdgeCount.merges g.C.EdgeCount.splits g.C.EdgeCount.reverses c.merge_runs.new.self
    (forward_content g.I.IntNumber.limit (edges_in c.merge_runs.new.self) c.merge_runs.ensures.content)
    c.in_ok-meetings.meetings.hidden.items c.deref.result.now 2147483648 c.in_ok-meetings.ensures.parted
    c.deref.ensures.value (c.in_err-is_rounded.ensures.too_many (cc)))

pub returns-then-is_rounded-clause-split : goal.returns-then-is_rounded-clause-split
returns-then-is_rounded-clause-split g n c =
    let joined =
    cut_once_in_parts g.C.EdgeCount.merges g.C.EdgeCount.splits g.C.EdgeCount.reverses c.merge_runs.new.self
    (forward_content g.I.IntNumber.limit (edges_in c.merge_runs.new.self) c.merge_runs.ensures.content)
    c.in_ok-meetings.meetings.hidden.items c.deref.result.now c.in_ok-meetings.ensures.parted c.deref.ensures.value
    c.in_ok-is_rounded.ensures.ok in
    let first = leaves_cut g.I.IntNumber.limit (edges_in c.args.self.now) (edges_in c.merge_runs.new.self)
    (edges_in joined.pieces) c.merge_runs.ensures.content c.in_ok-merge_runs.ensures.ok
    (not_settled c.in-Some.is c.in_ok-gathered.ensures.settled) joined.edges in
    split_on Rounds (c.args.rounds - 1) c.args.rounds _ _ _ (omega arith) first joined.light
    (split_for g.C.EdgeCount.merges joined.stands (c.args.rounds - 1) _ c.in_ok-split_since.ensures.split)

pub returns-in_default-clause-cut : goal.returns-in_default-clause-cut
returns-in_default-clause-cut g n c = uncut_where_settled c.in_ok-merge_runs.ensures.ok
    (c.in_ok-gathered.ensures.settled.0 c.in_default.is)

pub returns-then-is_rounded-clause-cut : goal.returns-then-is_rounded-clause-cut
returns-then-is_rounded-clause-cut g n c = cut_where_unsettled c.in_ok-merge_runs.ensures.ok
    (not_settled c.in-Some.is c.in_ok-gathered.ensures.settled)

pub returns-in_err-split_since-clause-not_settled : goal.returns-in_err-split_since-clause-not_settled
returns-in_err-split_since-clause-not_settled g n c = λ same.
    let passed = err_from_is_err_and c.from_residual-in_err-split_since.result
    c.from_residual-in_err-split_since.ensures.1 in
    let joined =
    cut_once_in_parts g.C.EdgeCount.merges g.C.EdgeCount.splits g.C.EdgeCount.reverses c.merge_runs.new.self
    (forward_content g.I.IntNumber.limit (edges_in c.merge_runs.new.self) c.merge_runs.ensures.content)
    c.in_ok-meetings.meetings.hidden.items c.deref.result.now c.in_ok-meetings.ensures.parted c.deref.ensures.value
    c.in_ok-is_rounded.ensures.ok in
    let first = leaves_cut g.I.IntNumber.limit (edges_in c.args.self.now) (edges_in c.merge_runs.new.self)
    (edges_in joined.pieces) c.merge_runs.ensures.content c.in_ok-merge_runs.ensures.ok
    (not_settled c.in-Some.is c.in_ok-gathered.ensures.settled) joined.edges in
    unsettled_on (c.args.rounds - 1) c.args.rounds _ _ (omega arith) first
    (unsettled_for g.C.EdgeCount.merges joined.stands (c.args.rounds - 1)
    (c.in_err-split_since.ensures.not_settled (cc)))

pub returns-in_err-split_since-clause-too_many : goal.returns-in_err-split_since-clause-too_many
returns-in_err-split_since-clause-too_many g n c = λ same.
    let passed = err_from_is_err_and c.from_residual-in_err-split_since.result
    c.from_residual-in_err-split_since.ensures.1 in
    let joined =
    cut_once_in_parts g.C.EdgeCount.merges g.C.EdgeCount.splits g.C.EdgeCount.reverses c.merge_runs.new.self
    (forward_content g.I.IntNumber.limit (edges_in c.merge_runs.new.self) c.merge_runs.ensures.content)
    c.in_ok-meetings.meetings.hidden.items c.deref.result.now c.in_ok-meetings.ensures.parted c.deref.ensures.value
    c.in_ok-is_rounded.ensures.ok in
    let first = leaves_cut g.I.IntNumber.limit (edges_in c.args.self.now) (edges_in c.merge_runs.new.self)
    (edges_in joined.pieces) c.merge_runs.ensures.content c.in_ok-merge_runs.ensures.ok
    (not_settled c.in-Some.is c.in_ok-gathered.ensures.settled) joined.edges in
    heavy_on Rounds 2147483648 (c.args.rounds - 1) c.args.rounds _ _ (omega arith) first
    (heavy_for g.C.EdgeCount.merges joined.stands (c.args.rounds - 1) 2147483648
    (c.in_err-split_since.ensures.too_many (cc)))

pub returns-in_default-clause-carried : goal.returns-in_default-clause-carried
returns-in_default-clause-carried g n c =
    carried_at_once g.C.EdgeCount.merges g.C.EdgeCount.splits g.C.EdgeCount.reverses c.args.rounds c.args.self.now
    c.merge_runs.new.self
    c.in_ok-merge_runs.ensures.ok (c.in_ok-gathered.ensures.settled.0 c.in_default.is)
    c.in_ok-merge_runs.ensures.carried

pub returns-then-is_rounded-clause-carried : goal.returns-then-is_rounded-clause-carried
returns-then-is_rounded-clause-carried g n c =
    let joined =
    cut_once_in_parts g.C.EdgeCount.merges g.C.EdgeCount.splits g.C.EdgeCount.reverses c.merge_runs.new.self
    (forward_content g.I.IntNumber.limit (edges_in c.merge_runs.new.self) c.merge_runs.ensures.content)
    c.in_ok-meetings.meetings.hidden.items c.deref.result.now c.in_ok-meetings.ensures.parted c.deref.ensures.value
    c.in_ok-is_rounded.ensures.ok in
    carried_on g.C.EdgeCount.merges g.C.EdgeCount.splits g.C.EdgeCount.reverses Rounds
    (c.args.rounds - 1) c.args.rounds
    c.args.self.now c.merge_runs.new.self joined.pieces _ (computed_chain (edges_in c.merge_runs.new.self))
    (omega arith)
    (cut_in_rounds (edges_in c.args.self.now) (edges_in c.merge_runs.new.self)
    (forward_content g.I.IntNumber.limit (edges_in c.merge_runs.new.self) c.merge_runs.ensures.content)
    c.in_ok-merge_runs.ensures.ok
    (not_settled c.in-Some.is c.in_ok-gathered.ensures.settled) (edges_in joined.pieces) joined.edges)
    c.in_ok-merge_runs.ensures.carried joined.carried joined.light
    (carrying_for g.C.EdgeCount.merges joined.stands g.C.EdgeCount.splits g.C.EdgeCount.reverses (c.args.rounds - 1) _
    c.in_ok-split_since.ensures.carried)

-- where no point was rounded, the pieces, merged, are settled
pub returns-clause-split : goal.returns-clause-split
returns-clause-split g n c =
    let unsettled : ¬ (IsSettled (edges_in c.merge_runs.new.self)) =
    not_settled c.in-Some.is c.in_ok-gathered.ensures.settled in
    let joined =
    cut_once_in_parts g.C.EdgeCount.merges g.C.EdgeCount.splits g.C.EdgeCount.reverses c.merge_runs.new.self
    (forward_content g.I.IntNumber.limit (edges_in c.merge_runs.new.self) c.merge_runs.ensures.content)
    c.in_ok-meetings.meetings.hidden.items c.deref.result.now c.in_ok-meetings.ensures.parted c.deref.ensures.value
    c.in_ok-is_rounded.ensures.ok in
    let merged = merged_of_standing g.C.EdgeCount.merges (edges_in c.merge_runs-2.new.self) joined.stands
    c.in_ok-merge_runs-2.ensures.ok in
    let first = leaves_cut g.I.IntNumber.limit (edges_in c.args.self.now) (edges_in c.merge_runs.new.self)
    (edges_in joined.pieces) c.merge_runs.ensures.content c.in_ok-merge_runs.ensures.ok unsettled joined.edges in
    let settled = settled_where_whole (edges_in c.args.self.now) (edges_in c.merge_runs.new.self)
    (edges_in joined.pieces) (edges_in c.merge_runs-2.new.self)
    (forward_content g.I.IntNumber.limit (edges_in c.merge_runs.new.self) c.merge_runs.ensures.content)
    c.in_ok-merge_runs.ensures.ok
    unsettled ((whole_in_parts g.C.EdgeCount.merges g.C.EdgeCount.splits g.C.EdgeCount.reverses c.merge_runs.new.self
    (forward_content g.I.IntNumber.limit (edges_in c.merge_runs.new.self) c.merge_runs.ensures.content)
    c.in_ok-meetings.ensures.parted).1 (c.in_ok-is_rounded.ensures.rounded.0 c.if-is_rounded.false)) joined.edges
    merged in
    split_on Rounds (c.args.rounds - 1) c.args.rounds _ _ _ (omega arith) first joined.light
    (split_at_once (c.args.rounds - 1) _ _ merged settled)

pub returns-clause-cut : goal.returns-clause-cut
returns-clause-cut g n c = cut_where_unsettled c.in_ok-merge_runs.ensures.ok
    (not_settled c.in-Some.is c.in_ok-gathered.ensures.settled)

pub returns-clause-carried : goal.returns-clause-carried
returns-clause-carried g n c =
    let unsettled : ¬ (IsSettled (edges_in c.merge_runs.new.self)) =
    not_settled c.in-Some.is c.in_ok-gathered.ensures.settled in
    let joined =
    cut_once_in_parts g.C.EdgeCount.merges g.C.EdgeCount.splits g.C.EdgeCount.reverses c.merge_runs.new.self
    (forward_content g.I.IntNumber.limit (edges_in c.merge_runs.new.self) c.merge_runs.ensures.content)
    c.in_ok-meetings.meetings.hidden.items c.deref.result.now c.in_ok-meetings.ensures.parted c.deref.ensures.value
    c.in_ok-is_rounded.ensures.ok in
    let merged = merged_of_standing g.C.EdgeCount.merges (edges_in c.merge_runs-2.new.self) joined.stands
    c.in_ok-merge_runs-2.ensures.ok in
    let settled = settled_where_whole (edges_in c.args.self.now) (edges_in c.merge_runs.new.self)
    (edges_in joined.pieces) (edges_in c.merge_runs-2.new.self)
    (forward_content g.I.IntNumber.limit (edges_in c.merge_runs.new.self) c.merge_runs.ensures.content)
    c.in_ok-merge_runs.ensures.ok
    unsettled ((whole_in_parts g.C.EdgeCount.merges g.C.EdgeCount.splits g.C.EdgeCount.reverses c.merge_runs.new.self
    (forward_content g.I.IntNumber.limit (edges_in c.merge_runs.new.self) c.merge_runs.ensures.content)
    c.in_ok-meetings.ensures.parted).1 (c.in_ok-is_rounded.ensures.rounded.0 c.if-is_rounded.false)) joined.edges
    merged in
    carried_on g.C.EdgeCount.merges g.C.EdgeCount.splits g.C.EdgeCount.reverses Rounds
    (c.args.rounds - 1) c.args.rounds
    c.args.self.now c.merge_runs.new.self joined.pieces _ (computed_chain (edges_in c.merge_runs.new.self))
    (omega arith)
    (cut_in_rounds (edges_in c.args.self.now) (edges_in c.merge_runs.new.self)
    (forward_content g.I.IntNumber.limit (edges_in c.merge_runs.new.self) c.merge_runs.ensures.content)
    c.in_ok-merge_runs.ensures.ok
    unsettled (edges_in joined.pieces) joined.edges)
    c.in_ok-merge_runs.ensures.carried joined.carried joined.light
    (carried_at_once g.C.EdgeCount.merges g.C.EdgeCount.splits g.C.EdgeCount.reverses (c.args.rounds - 1)
    joined.pieces c.merge_runs-2.new.self merged settled
    (carries_of_standing g.C.EdgeCount.merges c.merge_runs-2.new.self joined.stands
    c.in_ok-merge_runs-2.ensures.carried))

-- the store is reached by merging, cutting and the later rounds
pub returns-in_err-is_rounded-clause-store : goal.returns-in_err-is_rounded-clause-store
returns-in_err-is_rounded-clause-store g n c =
    let writes = g.C.EdgeCount.writes in
    reached_on writes _ _ _ (reached_on writes _ _ _ c.in_ok-merge_runs.ensures.store c.in_ok-meetings.ensures.store)
    c.in_err-is_rounded.ensures.store

-- or the store is reached by merging and parting
pub returns-in_err-meetings-clause-store : goal.returns-in_err-meetings-clause-store
returns-in_err-meetings-clause-store g n c =
    reached_on g.C.EdgeCount.writes _ _ _ c.in_ok-merge_runs.ensures.store c.in_err-meetings.ensures.store

-- parts that weigh too much make pieces that do
pub returns-in_err-meetings-clause-too_many : goal.returns-in_err-meetings-clause-too_many
returns-in_err-meetings-clause-too_many g n c = λ same.
    let passed = err_from_is_err_and c.from_residual-in_err-meetings.result
    c.from_residual-in_err-meetings.ensures.1 in
    let first = leaves_cut g.I.IntNumber.limit (edges_in c.args.self.now) (edges_in c.merge_runs.new.self)
    (cut_edges (edges_in c.merge_runs.new.self)) c.merge_runs.ensures.content c.in_ok-merge_runs.ensures.ok
    (not_settled c.in-Some.is c.in_ok-gathered.ensures.settled)
    refl in
    heavy_at_once Rounds 2147483648 c.args.rounds _ _ (omega arith) first
    (cut_heavy_of_parts g.C.EdgeCount.merges g.C.EdgeCount.splits g.C.EdgeCount.reverses c.merge_runs.new.self
    (forward_content g.I.IntNumber.limit (edges_in c.merge_runs.new.self) c.merge_runs.ensures.content) 2147483648
    (c.in_err-meetings.ensures.too_many (cc)))

pub returns-then-is_rounded-clause-store : goal.returns-then-is_rounded-clause-store
returns-then-is_rounded-clause-store g n c =
    let writes = g.C.EdgeCount.writes in
    reached_on writes _ _ _ (reached_on writes _ _ _
    (reached_on writes _ _ _ c.in_ok-merge_runs.ensures.store c.in_ok-meetings.ensures.store)
    c.in_ok-is_rounded.ensures.store)
    c.in_ok-split_since.ensures.store

pub returns-in_err-split_since-clause-store : goal.returns-in_err-split_since-clause-store
returns-in_err-split_since-clause-store g n c =
    let writes = g.C.EdgeCount.writes in
    reached_on writes _ _ _ (reached_on writes _ _ _
    (reached_on writes _ _ _ c.in_ok-merge_runs.ensures.store c.in_ok-meetings.ensures.store)
    c.in_ok-is_rounded.ensures.store)
    c.in_err-split_since.ensures.store

pub returns-clause-store : goal.returns-clause-store
returns-clause-store g n c =
    let writes = g.C.EdgeCount.writes in
    reached_on writes _ _ _ (reached_on writes _ _ _
    (reached_on writes _ _ _ c.in_ok-merge_runs.ensures.store c.in_ok-meetings.ensures.store)
    c.in_ok-is_rounded.ensures.store)
    c.in_ok-merge_runs-2.ensures.store

pub returns-in_err-merge_runs-2-clause-store : goal.returns-in_err-merge_runs-2-clause-store
returns-in_err-merge_runs-2-clause-store g n c =
    let writes = g.C.EdgeCount.writes in
    reached_on writes _ _ _ (reached_on writes _ _ _
    (reached_on writes _ _ _ c.in_ok-merge_runs.ensures.store c.in_ok-meetings.ensures.store)
    c.in_ok-is_rounded.ensures.store)
    c.in_err-merge_runs-2.ensures.store

-- a refused cut leaves the merged edges
pub returns-in_err-is_rounded-clause-content : goal.returns-in_err-is_rounded-clause-content
returns-in_err-is_rounded-clause-content g n c =
    subst (λ es. IsContent g.I.IntNumber.limit (edges_in es)) (sym c.in_err-is_rounded.ensures.err)
    c.meetings_of.ensures.content
