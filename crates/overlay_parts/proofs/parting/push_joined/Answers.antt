-- An equal part is joined with the last; another follows.
use Rattle.std.proofs.Common.{◌≡◌, ℕ, ◌+◌, ◌∷◌, ◌++◌, [], false, set, get_or, length, All, List}
use Rattle.std.proofs.Common.{ap, sym, ◌∙◌, subst, arith}
use Rattle.std.proofs.lemmas.List.{map-append, map-set}
use Rattle.std.proofs.lemmas.List.Elements.{All-push}
use Rattle.std.proofs.lemmas.List.Sorted.{IsPermutation-refl}
use Rattle.overlay_geom.specs.Edges.{ends_of}
use Rattle.overlay_geom.specs.Plane.{edge_eq}
use Rattle.overlay_geom.proofs.Mapped.{All-mapped_at}
use Rattle.overlay_geom.proofs.Orders.{edge_lt-itself}
use Rattle.overlay_order.specs.Content.{plain_edge, IsAscending}
use Rattle.overlay_parts.specs.PartedContents.{edges_in_parts}
use Rattle.overlay_parts.specs.Parts.{moved, plain_part, plain_parts, AreParted, IsHeldPart}
use Rattle.overlay_parts.specs.Stores.IsStoreReached.{unwritten, written}
use Rattle.overlay_parts.specs.declared.parts.Part.{Part as HeldPart}
use Rattle.overlay_parts.proofs.EqualParts.{ascend_alike, ascending_with, ends_written, held_last, joined_last}
use Rattle.overlay_parts.proofs.EqualParts.{joined_whole, last_equal, other_than_last, pair_light, up_to_alike}
use Rattle.overlay_parts.proofs.EqualParts.{up_to_with, IsUpTo}
use Rattle.overlay_parts.proofs.parting.push_joined.Goals as goal
use Rattle.overlay_parts.proofs.parting.push_joined.Goals.{else-last-len-via-then-last-len+else-have_same_ends}
use Rattle.overlay_parts.proofs.parting.push_joined.Goals.{else-last-len-via-else-last-len}

pub start_of_both-requires-clause-one : goal.start_of_both-requires-clause-one
start_of_both-requires-clause-one g c =
    All-mapped_at (IsHeldPart g.I.IntNumber.limit) (plain_part g.I.IntNumber.whole g.C.EdgeCount.counts)
    c.args.joined.now.items c.saturating_sub-last.result c.index-then-have_same_ends.result.now (omega arith)
    c.index-then-have_same_ends.ensures c.requires.parts

pub start_of_both-requires-clause-light : goal.start_of_both-requires-clause-light
start_of_both-requires-clause-light g c =
    let whole = g.I.IntNumber.whole in
    let counts = g.C.EdgeCount.counts in
    let items = c.args.joined.now.items in
    let n = c.saturating_sub-last.result in
    let s = c.index-then-have_same_ends.result.now in
    let is = last_equal whole counts items n s c.index.result.now c.args.part.now (omega arith)
    c.index-then-have_same_ends.ensures c.index.ensures (sym c.have_same_ends.ensures ∙ c.if-have_same_ends.true) in
    let held = All-mapped_at (IsHeldPart g.I.IntNumber.limit) (plain_part whole counts) items n s is.within
    c.index-then-have_same_ends.ensures c.requires.parts in
    pair_light g.C.EdgeCount.merges (plain_parts whole counts items) n (plain_part whole counts s)
    (plain_part whole counts c.args.part.now) is.long is.at is.equal c.requires.light.0 c.requires.light.1
    held.held.forward

pub returns-then-have_same_ends-clause-parted : goal.returns-then-have_same_ends-clause-parted
returns-then-have_same_ends-clause-parted g c =
    let whole = g.I.IntNumber.whole in
    let counts = g.C.EdgeCount.counts in
    let merges = g.C.EdgeCount.merges in
    let items = c.args.joined.now.items in
    let xs = plain_parts whole counts items in
    let n = c.saturating_sub-last.result in
    let s = plain_part whole counts c.index-then-have_same_ends.result.now in
    let t = plain_part whole counts c.args.part.now in
    let both = plain_part whole counts c.start_of_both.result in
    let is = last_equal whole counts items n c.index-then-have_same_ends.result.now c.index.result.now c.args.part.now
    (omega arith) c.index-then-have_same_ends.ensures c.index.ensures
    (sym c.have_same_ends.ensures ∙ c.if-have_same_ends.true) in
    subst (AreParted merges (xs ++ t ∷ [])) (sym (map-set (plain_part whole counts) items n c.start_of_both.result))
    (joined_last merges xs n s t is.long is.at is.equal both
    (joined_whole merges s t both is.equal c.start_of_both.ensures.joined))

pub returns-then-have_same_ends-clause-held : goal.returns-then-have_same_ends-clause-held
returns-then-have_same_ends-clause-held g c =
    let whole = g.I.IntNumber.whole in
    let counts = g.C.EdgeCount.counts in
    let merges = g.C.EdgeCount.merges in
    let limit = g.I.IntNumber.limit in
    let items = c.args.joined.now.items in
    let xs = plain_parts whole counts items in
    let n = c.saturating_sub-last.result in
    let s = plain_part whole counts c.index-then-have_same_ends.result.now in
    let t = plain_part whole counts c.args.part.now in
    let both = plain_part whole counts c.start_of_both.result in
    let is = last_equal whole counts items n c.index-then-have_same_ends.result.now c.index.result.now c.args.part.now
    (omega arith) c.index-then-have_same_ends.ensures c.index.ensures
    (sym c.have_same_ends.ensures ∙ c.if-have_same_ends.true) in
    let held = All-mapped_at (IsHeldPart limit) (plain_part whole counts) items n
    c.index-then-have_same_ends.result.now is.within c.index-then-have_same_ends.ensures c.requires.parts in
    subst (All (IsHeldPart limit)) (sym (map-set (plain_part whole counts) items n c.start_of_both.result))
    (held_last merges xs n s t is.long is.at is.equal both
    (joined_whole merges s t both is.equal c.start_of_both.ensures.joined) limit c.requires.parts held c.requires.part)

pub returns-then-have_same_ends-clause-ascending : goal.returns-then-have_same_ends-clause-ascending
returns-then-have_same_ends-clause-ascending g c =
    let whole = g.I.IntNumber.whole in
    let counts = g.C.EdgeCount.counts in
    let merges = g.C.EdgeCount.merges in
    let items = c.args.joined.now.items in
    let n = c.saturating_sub-last.result in
    let s = c.index-then-have_same_ends.result.now in
    let both = c.start_of_both.result in
    let is = last_equal whole counts items n s c.index.result.now c.args.part.now (omega arith)
    c.index-then-have_same_ends.ensures c.index.ensures (sym c.have_same_ends.ensures ∙ c.if-have_same_ends.true) in
    let same = ends_written whole counts merges items n s c.args.part.now both is
    (joined_whole merges (plain_part whole counts s) (plain_part whole counts c.args.part.now)
    (plain_part whole counts both) is.equal c.start_of_both.ensures.joined) in
    λ up behind. ascend_alike (plain_parts whole counts items) (plain_parts whole counts (set items n both)) same up

pub returns-then-have_same_ends-clause-up_to : goal.returns-then-have_same_ends-clause-up_to
returns-then-have_same_ends-clause-up_to g c =
    let whole = g.I.IntNumber.whole in
    let counts = g.C.EdgeCount.counts in
    let merges = g.C.EdgeCount.merges in
    let items = c.args.joined.now.items in
    let n = c.saturating_sub-last.result in
    let s = c.index-then-have_same_ends.result.now in
    let both = c.start_of_both.result in
    let is = last_equal whole counts items n s c.index.result.now c.args.part.now (omega arith)
    c.index-then-have_same_ends.ensures c.index.ensures (sym c.have_same_ends.ensures ∙ c.if-have_same_ends.true) in
    let same = ends_written whole counts merges items n s c.args.part.now both is
    (joined_whole merges (plain_part whole counts s) (plain_part whole counts c.args.part.now)
    (plain_part whole counts both) is.equal c.start_of_both.ensures.joined) in
    λ up. up_to_alike (ends_of (plain_edge whole counts c.args.part.now.edge)) (plain_parts whole counts items)
    (plain_parts whole counts (set items n both)) same up

pub returns-then-have_same_ends-clause-store : goal.returns-then-have_same_ends-clause-store
returns-then-have_same_ends-clause-store g c = written _ _ _ (unwritten _) c.start_of_both.ensures.writes

pub returns-in_err-push-clause-store : goal.returns-in_err-push-clause-store
returns-in_err-push-clause-store g c = unwritten _

pub returns-clause-parted : goal.returns-clause-parted
returns-clause-parted g c =
    let plain = plain_part g.I.IntNumber.whole g.C.EdgeCount.counts in
    let xs = plain_parts g.I.IntNumber.whole g.C.EdgeCount.counts c.args.joined.now.items in
    let all = xs ++ plain c.args.part.now ∷ [] in
    subst (AreParted g.C.EdgeCount.merges all)
    (sym (ap (plain_parts g.I.IntNumber.whole g.C.EdgeCount.counts) c.in_ok-push.ensures.items
    ∙ map-append plain c.args.joined.now.items (c.args.part.now ∷ []))) (moved (IsPermutation-refl all))

pub returns-clause-held : goal.returns-clause-held
returns-clause-held g c =
    let plain = plain_part g.I.IntNumber.whole g.C.EdgeCount.counts in
    subst (All (IsHeldPart g.I.IntNumber.limit))
    (sym (ap (plain_parts g.I.IntNumber.whole g.C.EdgeCount.counts) c.in_ok-push.ensures.items
    ∙ map-append plain c.args.joined.now.items (c.args.part.now ∷ [])))
    (All-push (IsHeldPart g.I.IntNumber.limit)
    (plain_parts g.I.IntNumber.whole g.C.EdgeCount.counts c.args.joined.now.items) (plain c.args.part.now)
    c.requires.parts c.requires.part)

pub returns-clause-ascending : goal.returns-clause-ascending
returns-clause-ascending g c =
    let whole = g.I.IntNumber.whole in
    let counts = g.C.EdgeCount.counts in
    let items = c.args.joined.now.items in
    let part = c.args.part.now in
    let ends = λ (p : HeldPart _ _). ends_of (plain_edge whole counts p.edge) in
    let other : (n : ℕ) (s : HeldPart _ _) → n + 1 ≡ length items → s ≡ get_or items n s →
    edge_eq (ends s) (ends part) ≡ false = elim c.else-last-len.branch [
      | else-last-len-via-then-last-len+else-have_same_ends w ↦
          other_than_last whole counts items c.saturating_sub-last.result w.index.result.now part
          (let short = w.if-last-len.true in omega (arith, short)) w.index.ensures
          (sym w.have_same_ends.ensures ∙ w.if-have_same_ends.false)
      | else-last-len-via-else-last-len w ↦ λ n s is at.
          absurd (let past = w.if-last-len.false in omega (arith, past, is))
    ] in
    λ up behind. subst (λ (ps : List (HeldPart _ _)). IsAscending (edges_in_parts (plain_parts whole counts ps)))
    (sym c.in_ok-push.ensures.items) (ascending_with whole counts items part other up behind)

pub returns-clause-up_to : goal.returns-clause-up_to
returns-clause-up_to g c =
    let whole = g.I.IntNumber.whole in
    let counts = g.C.EdgeCount.counts in
    let end = ends_of (plain_edge whole counts c.args.part.now.edge) in
    λ up. subst (λ (ps : List (HeldPart _ _)). IsUpTo end (edges_in_parts (plain_parts whole counts ps)))
    (sym c.in_ok-push.ensures.items)
    (up_to_with whole counts end c.args.joined.now.items c.args.part.now (edge_lt-itself end) up)

pub returns-clause-store : goal.returns-clause-store
returns-clause-store g c = unwritten _
