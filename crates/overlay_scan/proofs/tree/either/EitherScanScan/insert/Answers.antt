-- The edge is inserted where room was made.
use Rattle.std.proofs.Common.{rules, ◌≡◌, sym, ap, subst, ◌∙◌, arith}
use Rattle.std.specs.Prelude.{OnOk, OnErr}
use Rattle.std.proofs.lemmas.Result.{on_ok_weaker, on_err_weaker}
use Rattle.overlay_geom.specs.Lines.{plain_line}
use Rattle.overlay_scan.specs.EitherScans.{either_sweep, either_edges, in_list, in_tree, IsQuickInEither}
use Rattle.overlay_scan.specs.Scan.{live_at, MayMoveTo, IsSweep, MeetsOthers, IsNewAmong}
use Rattle.overlay_scan.proofs.LinesFit.{line_fits}
use Rattle.overlay_scan.proofs.Moving.{sweep_moved}
use Rattle.overlay_scan.proofs.Turned.{quick_in_list, quick_in_tree}
use Rattle.overlay_scan.proofs.tree.either.EitherScanScan.insert.Goals as goal
use Rattle.overlay_scan.proofs.tree.either.EitherScanScan.insert.Goals.{in-Listed, in-Treed}

pub returns-in_err-make_room-clause-state : goal.returns-in_err-make_room-clause-state
returns-in_err-make_room-clause-state g c =
    let whole = g.I.IntNumber.whole in
    sweep_moved g.I.IntNumber.limit (whole c.args.x) (either_sweep whole c.args.self.now)
    (either_sweep whole c.make_room.new.self) c.requires.state c.requires.moves c.in_err-make_room.ensures.err

pub insert-requires : goal.insert-requires
insert-requires g c =
    let whole = g.I.IntNumber.whole in
    let limit = g.I.IntNumber.limit in
    let x = whole c.args.x in
    let e = plain_line whole c.args.edge in
    let list = c.in-Listed.list in
    let ready = c.in_ok-make_room.ensures.ready in
    let is : c.make_room.new.self ≡ in_list list.live list.reached c.self.inside.most = search rules in (
      line_fits _ _ g.met.I.IntNumber.small.align_bound g.met.I.IntNumber.small.size_bound,
      (
        subst (λ s. IsSweep limit (either_sweep whole s)) is ready.state,
        (
          subst (λ s. MayMoveTo x (either_sweep whole s)) is ready.moves,
          (
            c.requires.over,
            (
              subst (MeetsOthers e) (sym ready.live ∙ ap (λ s. live_at x (either_sweep whole s).entries) is)
                  c.requires.meets,
              subst (IsNewAmong e) (sym ready.live ∙ ap (λ s. live_at x (either_sweep whole s).entries) is)
                  c.requires.fresh,
            ),
          ),
        ),
      ),
    )

pub returns-clause-quick : goal.returns-clause-quick
returns-clause-quick g c =
    let old = c.args.self.now in
    let room = c.make_room.new.self in
    let made = c.in_ok-make_room.ensures.ok in
    let most = c.self.inside.most in
    elim c.match-self.branch [
      | in-Listed w ↦
          let list = w.in-Listed.list in
          let new = w.insert.new.self in
          let is : room ≡ in_list list.live list.reached most = search rules in
          subst (λ r. OnOk r (IsQuickInEither old (either_edges c.match-self.self-inside.kept
          c.match-self.self-inside.most) 1)) (sym w.result-is)
          (subst (λ (s : _). OnOk w.insert.result (IsQuickInEither old (either_edges s.kept s.most) 1))
          (sym w.self-inside-is)
          (on_ok_weaker w.insert.result (λ more. quick_in_list old room made most 1 list.live new.live list.reached
          new.reached is (omega arith) more) w.insert.ensures.one_more))
      | in-Treed w ↦
          let t = w.in-Treed.tree in
          let is : room ≡ in_tree t most = search rules in
          subst (λ r. OnOk r (IsQuickInEither old (either_edges c.match-self.self-inside.kept
          c.match-self.self-inside.most) 1)) (sym w.result-is)
          (subst (λ (s : _). OnOk w.insert-in-Treed.result (IsQuickInEither old (either_edges s.kept s.most) 1))
          (sym w.self-inside-is)
          (on_ok_weaker w.insert-in-Treed.result (quick_in_tree old room made most 1 t w.insert-in-Treed.new.self is)
          w.insert-in-Treed.ensures.quick))
    ]

pub returns-clause-quick_err : goal.returns-clause-quick_err
returns-clause-quick_err g c =
    let old = c.args.self.now in
    let room = c.make_room.new.self in
    let made = c.in_ok-make_room.ensures.ok in
    let most = c.self.inside.most in
    elim c.match-self.branch [
      | in-Listed w ↦
          let list = w.in-Listed.list in
          let new = w.insert.new.self in
          let is : room ≡ in_list list.live list.reached most = search rules in
          subst (λ r. OnErr r (IsQuickInEither old (either_edges c.match-self.self-inside.kept
          c.match-self.self-inside.most) 0)) (sym w.result-is)
          (subst (λ (s : _). OnErr w.insert.result (IsQuickInEither old (either_edges s.kept s.most) 0))
          (sym w.self-inside-is)
          (on_err_weaker w.insert.result (λ no_more. quick_in_list old room made most 0 list.live new.live list.reached
          new.reached is (omega arith) (omega (arith, no_more))) w.insert.ensures.no_more))
      | in-Treed w ↦
          let t = w.in-Treed.tree in
          let is : room ≡ in_tree t most = search rules in
          subst (λ r. OnErr r (IsQuickInEither old (either_edges c.match-self.self-inside.kept
          c.match-self.self-inside.most) 0)) (sym w.result-is)
          (subst (λ (s : _). OnErr w.insert-in-Treed.result (IsQuickInEither old (either_edges s.kept s.most) 0))
          (sym w.self-inside-is)
          (on_err_weaker w.insert-in-Treed.result (quick_in_tree old room made most 0 t w.insert-in-Treed.new.self is)
          w.insert-in-Treed.ensures.quick_err))
    ]
