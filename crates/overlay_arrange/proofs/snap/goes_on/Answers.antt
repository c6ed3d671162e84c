-- Points behind one that lies right of x do too.
use Rattle.std.proofs.Common.{◌≡◌, Bool, true, false, not, ◌<ℤ◌, get_or, refl, sym, ◌∙◌, subst}
use Rattle.overlay_geom.specs.declared.point.IntPoint.{IntPoint}
use Rattle.overlay_plane.proofs.Tests.{lt_from_test}
use Rattle.overlay_arrange.proofs.HotRanks.{right_from}
use Rattle.overlay_arrange.proofs.snap.goes_on.Goals as goal

-- what is not false is true
is_true : (b : Bool) → not b ≡ false → b ≡ true
is_true true not_so = refl
is_true false not_so = sym not_so

pub returns-then-rank-hot-clause-right : goal.returns-then-rank-hot-clause-right
returns-then-rank-hot-clause-right g c = λ is.
    let whole = g.I.IntNumber.whole in
    let v = c.index-hot-rank.result in
    right_from whole c.args.hot.now c.requires (whole c.args.x) c.args.rank v c.index-hot-rank.is
    (subst (λ (u : IntPoint _). whole c.args.x <ℤ whole u.x) (sym c.index-hot-rank.is)
    (lt_from_test (whole c.args.x) (whole (get_or c.args.hot.now c.args.rank v).x)
    (sym c.is_less.ensures ∙ is_true c.is_less.result is)))
