-- Calls of a list make no visits, until one moves its edges into a tree.
use Rattle.std.proofs.Common.{◌≡◌, Bool, true, false, ℕ, ◌+◌, ◌*◌, ◌^◌, ◌<◌, ◌≤◌, ℤ, List, [], ◌∷◌, length, refl}
use Rattle.std.proofs.Common.{subst, arith}
use Rattle.std.proofs.lemmas.Nat.{mul-le}
use Rattle.overlay_scan.specs.EitherRuns.{EitherCall, AreQuickInEither, after_each, put_in_each, EitherRunsAreQuick}
use Rattle.overlay_scan.specs.EitherScans.{EitherEdges}
use Rattle.overlay_scan.proofs.ManyCalls.{one_more, nothing_held}

-- some numbers for each digit, and more of them
wider : (old now a b digits : ℕ) → now ≤ old + 2 * a * digits → a ≤ b → now ≤ old + 2 * b * digits
wider old now a b digits few le =
    let more : 2 * a * digits ≤ 2 * b * digits = mul-le (2 * a) digits (2 * b) digits (omega arith) (omega arith) in
    omega arith

-- from a tree on
runs_in_tree : {I V : Type 0} (s : EitherEdges I V) (cs : List (EitherCall I V)) → s.is_tree ≡ true →
    AreQuickInEither s cs → (digits : ℕ) → length s.held.entries + put_in_each cs + 1 < 2 ^ digits →
    (after_each s cs).held.visits
    ≤ s.held.visits + 2 * (length cs + put_in_each cs + length s.held.entries) * digits
runs_in_tree s [] is quick digits low = omega arith
runs_in_tree s (c ∷ cs) is quick digits low =
    let put : put_in_each (c ∷ cs) ≡ c.put + put_in_each cs = refl in
    let here = quick.0.tree is in
    let count = here.1.count in
    let first = here.1.visited.few digits (omega arith) in
    let others = runs_in_tree c.after cs here.0 quick.1 digits (omega arith) in
    let long : length cs + 1 + (c.put + put_in_each cs) + length s.held.entries
    ≡ length (c ∷ cs) + put_in_each (c ∷ cs) + length s.held.entries = omega arith in
    subst (λ n. (after_each c.after cs).held.visits ≤ s.held.visits + 2 * n * digits) long
    (one_more s.held.visits c.after.held.visits (after_each c.after cs).held.visits (length s.held.entries)
    (length c.after.held.entries) here.1.dropped c.put (length cs) (put_in_each cs) digits count first others)

-- the visits of the edges moved, and of all calls after that
moved_and_called : (old moved next m calls digits : ℕ) → moved ≤ old + 2 * m * digits →
    next ≤ moved + 2 * (calls + m) * digits → next ≤ old + 2 * (calls + 2 * m) * digits
moved_and_called old moved next m calls digits first others = omega arith

-- from a list on
runs_in_list : {I V : Type 0} (s : EitherEdges I V) (cs : List (EitherCall I V)) → s.is_tree ≡ false →
    AreQuickInEither s cs → (digits : ℕ) → length s.held.entries + put_in_each cs + 1 < 2 ^ digits →
    (after_each s cs).held.visits
    ≤ s.held.visits + 2 * (length cs + 2 * put_in_each cs + 2 * length s.held.entries) * digits
runs_in_list s [] is quick digits low = omega arith
runs_in_list s (c ∷ cs) is quick digits low = by (λ still. runs_in_list c.after cs still quick.1 digits) c.after.is_tree
    refl
  where
    by : (c.after.is_tree ≡ false → length c.after.held.entries + put_in_each cs + 1 < 2 ^ digits →
        (after_each c.after cs).held.visits
        ≤ c.after.held.visits + 2 * (length cs + 2 * put_in_each cs + 2 * length c.after.held.entries) * digits) →
        (b : Bool) → c.after.is_tree ≡ b → (after_each c.after cs).held.visits
        ≤ s.held.visits + 2 * (length (c ∷ cs) + 2 * put_in_each (c ∷ cs) + 2 * length s.held.entries) * digits
    by rest false still =
        let put : put_in_each (c ∷ cs) ≡ c.put + put_in_each cs = refl in
        let here = quick.0.list is still in
        let fewer = here.0 in
        let others = rest still (omega arith) in
        wider s.held.visits (after_each c.after cs).held.visits
        (length cs + 2 * put_in_each cs + 2 * length c.after.held.entries)
        (length (c ∷ cs) + 2 * put_in_each (c ∷ cs) + 2 * length s.held.entries) digits
        (subst (λ n. (after_each c.after cs).held.visits
        ≤ n + 2 * (length cs + 2 * put_in_each cs + 2 * length c.after.held.entries) * digits) here.1 others)
        (omega arith)
    by rest true turned =
        let put : put_in_each (c ∷ cs) ≡ c.put + put_in_each cs = refl in
        let here = quick.0.turns is turned in
        let t = here.tree in
        let fewer = here.into.no_more in
        let count = here.quick.count in
        let first = here.quick.visited.few digits (omega arith) in
        let others = runs_in_tree c.after cs turned quick.1 digits (omega arith) in
        let from_tree = one_more t.visits c.after.held.visits (after_each c.after cs).held.visits (length t.entries)
        (length c.after.held.entries) here.quick.dropped c.put (length cs) (put_in_each cs) digits count first others in
        wider s.held.visits (after_each c.after cs).held.visits
        (length cs + 1 + (c.put + put_in_each cs) + 2 * length t.entries)
        (length (c ∷ cs) + 2 * put_in_each (c ∷ cs) + 2 * length s.held.entries) digits
        (moved_and_called s.held.visits t.visits (after_each c.after cs).held.visits (length t.entries)
        (length cs + 1 + (c.put + put_in_each cs)) digits (here.into.few digits (omega arith)) from_tree) (omega arith)

pub either_runs_are_quick : {I : Type 0} (whole : I → ℤ) (V : Type 0) → EitherRunsAreQuick whole V
either_runs_are_quick whole V s cs empty quick digits low = by s.is_tree refl
  where
    none : length s.held.entries ≡ 0
    none = nothing_held whole s.held empty

    by : (b : Bool) → s.is_tree ≡ b →
        (after_each s cs).held.visits ≤ s.held.visits + 2 * (length cs + 2 * put_in_each cs) * digits
    by true is = wider s.held.visits (after_each s cs).held.visits
        (length cs + put_in_each cs + length s.held.entries) (length cs + 2 * put_in_each cs) digits
        (runs_in_tree s cs is quick digits (omega (arith, none))) (omega (arith, none))
    by false is = wider s.held.visits (after_each s cs).held.visits
        (length cs + 2 * put_in_each cs + 2 * length s.held.entries) (length cs + 2 * put_in_each cs) digits
        (runs_in_list s cs is quick digits (omega (arith, none))) (omega (arith, none))
