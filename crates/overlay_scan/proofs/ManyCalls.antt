-- Calls drop no more edges than those before them have put in, so all of them together visit few entries.
use Rattle.std.proofs.Common.{◌≡◌, ℕ, ◌+◌, ◌*◌, ◌^◌, ◌<◌, ◌≤◌, ℤ, List, [], ◌∷◌, length, Option, None, Some}
use Rattle.std.proofs.Common.{refl, ap, subst, arith}
use Rattle.std.specs.Option.{MatchOption, option_map}
use Rattle.overlay_scan.specs.Lists.{plain_entries}
use Rattle.overlay_scan.specs.Scan.{empty_sweep}
use Rattle.overlay_scan.specs.declared.list.LiveEdge.{LiveEdge}
use Rattle.overlay_scan.specs.HeldEntries.{live_where}
use Rattle.overlay_scan.specs.HeldEdges.{HeldEdges, held_sweep}
use Rattle.overlay_scan.specs.Runs.{Call, AreQuick, after_all, put_in_all, RunsAreQuick}

-- one call, and those after it
pub one_more : (old now next held left dropped put calls rest digits : ℕ) → left + dropped ≡ held + put →
    now ≤ old + 2 * (dropped + 1) * digits → next ≤ now + 2 * (calls + rest + left) * digits →
    next ≤ old + 2 * (calls + 1 + (put + rest) + held) * digits
one_more old now next held left dropped put calls rest digits count first others =
    let parts : calls + 1 + rest + (left + dropped) ≡ calls + 1 + (put + rest) + held = omega arith in
    let whole : 2 * (calls + 1 + rest + (left + dropped)) * digits ≡ 2 * (calls + 1 + (put + rest) + held) * digits
    = ap (λ n. 2 * n * digits) parts in
    omega arith

-- from a tree on that holds some edges
runs_from : {I V : Type 0} (s : HeldEdges I V) (cs : List (Call I V)) → AreQuick s cs → (digits : ℕ) →
    length s.entries + put_in_all cs + 1 < 2 ^ digits →
    (after_all s cs).visits ≤ s.visits + 2 * (length cs + put_in_all cs + length s.entries) * digits
runs_from s [] quick digits low = omega arith
runs_from s (c ∷ cs) quick digits low =
    let put : put_in_all (c ∷ cs) ≡ c.put + put_in_all cs = refl in
    let count = quick.0.count in
    let first = quick.0.visited.few digits (omega arith) in
    let others = runs_from c.after cs quick.1 digits (omega arith) in
    let long : length cs + 1 + (c.put + put_in_all cs) + length s.entries
    ≡ length (c ∷ cs) + put_in_all (c ∷ cs) + length s.entries = omega arith in
    subst (λ n. (after_all c.after cs).visits ≤ s.visits + 2 * n * digits) long
    (one_more s.visits c.after.visits (after_all c.after cs).visits (length s.entries) (length c.after.entries)
    quick.0.dropped c.put (length cs) (put_in_all cs) digits count first others)

-- an empty tree holds nothing
module _ {I V : Type 0} (whole : I → ℤ) where
  nothing_where : (o : Option I) (es : List (LiveEdge I V)) → option_map whole o ≡ None →
      live_where (option_map whole o) (plain_entries whole es) ≡ [] → length es ≡ 0
  nothing_where None [] none empty = refl
  nothing_where None (e ∷ es) none empty = let long = ap length empty in absurd (omega arith)
  nothing_where (Some x) es none empty = absurd (subst (λ o. MatchOption o ⊥ (λ _. Unit {0})) none tt)

  pub nothing_held : (s : HeldEdges I V) → held_sweep whole s ≡ empty_sweep → length s.entries ≡ 0
  nothing_held s empty = nothing_where s.reached s.entries (ap (λ w. w.reached) empty) (ap (λ w. w.entries) empty)

pub runs_are_quick : {I : Type 0} (whole : I → ℤ) (V : Type 0) → RunsAreQuick whole V
runs_are_quick whole V s cs empty quick digits low =
    let none = nothing_held whole s empty in
    let all = runs_from s cs quick digits (omega arith) in
    let same : length cs + put_in_all cs + length s.entries ≡ length cs + put_in_all cs = omega arith in
    subst (λ n. (after_all s cs).visits ≤ s.visits + 2 * n * digits) same all
