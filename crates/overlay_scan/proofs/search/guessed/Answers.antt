-- The entry below the guess is live, and tells which part is left.
use Rattle.std.proofs.Common.{◌≡◌, ℕ, ◌-◌, ◌<◌, ◌≤◌, length, int_lt, refl, sym, ◌∙◌, subst, arith}
use Rattle.std.proofs.lemmas.Bool.{not-false}
use Rattle.overlay_scan.specs.Searches.{IsBetween}
use Rattle.overlay_scan.proofs.LastEntries.{before_one}
use Rattle.overlay_scan.proofs.Searching.{may_ask, between_all, fails_from, raised, lowered}
use Rattle.overlay_scan.proofs.search.guessed.Goals as goal

within : (n m : ℕ) → ¬ (n ≡ 0) → n ≤ m → n - 1 < m
within n m some le = omega arith

pub passes-requires : goal.passes-requires
passes-requires g c =
    let whole = g.I.IntNumber.whole in
    let f = c.index-entries-guess.result in
    may_ask whole (whole c.args.x) c.args.entries.now (goal.F-pre g c.args.order.now) c.requires (c.args.guess - 1) f
    (within c.args.guess (length c.args.entries.now) c.if-guess-eq0.false c.if-all-guess.false)
    c.index-entries-guess.is
    (not-false (int_lt (whole c.args.x) (whole f.b.x)) (sym c.has_ended.ensures ∙ c.if-has_ended.false))

pub returns-then-passes : goal.returns-then-passes
returns-then-passes g c =
    let whole = g.I.IntNumber.whole in
    let x = whole c.args.x in
    let es = c.args.entries.now in
    let post = goal.F-post g c.args.order.now in
    let f = c.index-entries-guess.result in
    let inside = within c.args.guess (length es) c.if-guess-eq0.false c.if-all-guess.false in
    subst (λ n. IsBetween whole post x es n (length es)) (before_one c.args.guess c.if-guess-eq0.false)
    (raised whole x es post (c.args.guess - 1) f inside c.index-entries-guess.is
    (not-false (int_lt x (whole f.b.x)) (sym c.has_ended.ensures ∙ c.if-has_ended.false))
    c.passes.result c.passes.ensures 0 (length es) (between_all whole x es post) inside c.if-passes.true)

pub returns-else-passes : goal.returns-else-passes
returns-else-passes g c =
    let whole = g.I.IntNumber.whole in
    let x = whole c.args.x in
    let es = c.args.entries.now in
    let post = goal.F-post g c.args.order.now in
    let f = c.index-entries-guess.result in
    let k = c.args.guess - 1 in
    let inside = within c.args.guess (length es) c.if-guess-eq0.false c.if-all-guess.false in
    lowered whole x es post 0 (length es) k k (between_all whole x es post) (omega arith) (omega arith) refl
    (fails_from whole x es post k f inside c.index-entries-guess.is
    (not-false (int_lt x (whole f.b.x)) (sym c.has_ended.ensures ∙ c.if-has_ended.false))
    c.passes.result c.passes.ensures c.if-passes.false)
