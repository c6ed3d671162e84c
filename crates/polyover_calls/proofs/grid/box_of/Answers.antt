-- A coordinate more is kept as an x, or is the y of one point more.
use Rattle.std.proofs.Common.{◌≡◌, ◌+◌, ◌++◌, ◌∷◌, [], drop, sym, ap, subst, ◌∙◌}
use Rattle.std.proofs.lemmas.List.{append_assoc, drop_more}
use Rattle.overlay_geom.specs.Plane.{Point}
use Rattle.overlay_geom.specs.Points.{plain_points}
use Rattle.overlay_tiles.specs.Spans.{IsBoxFound}
use Rattle.polyover_calls.specs.Arrays.{points_behind, points_of}
use Rattle.polyover_calls.proofs.grid.box_of.Goals as goal
use Rattle.polyover_calls.proofs.grid.box_of.Goals.{in-None, in-Some}

pub loop-coordinate-preserved : goal.loop-coordinate-preserved
loop-coordinate-preserved g c =
    let whole = g.I.IntNumber.whole in
    let i = c.loop-coordinate.coordinate-index in
    let cs = c.args.coordinates.now in
    let item = c.coordinate-item.result in
    let rest = drop (i + 1) cs in
    let seen = c.loop-coordinate.invariant.0 in
    let next = drop_more cs i item c.loop-coordinate-test.true ∙ ap (λ y. y ∷ rest) (sym c.coordinate-item.is) in
    let left = subst (λ ys. seen ++ plain_points whole (points_behind c.loop-coordinate.before ys)
    ≡ plain_points whole (points_of cs)) next c.loop-coordinate.invariant.1 in
    elim c.match-before.branch [
      | in-None w ↦ (
        seen,
        subst (λ b. seen ++ plain_points whole (points_behind b rest) ≡ plain_points whole (points_of cs))
            (sym w.before-is)
            (subst (λ b. seen ++ plain_points whole (points_behind b (item ∷ rest))
            ≡ plain_points whole (points_of cs)) w.in-None.is left),
        subst (IsBoxFound whole seen) (sym w.bounds-is) c.loop-coordinate.invariant.2,
      )
      | in-Some w ↦
          let p : Point = record { x = whole w.in-Some.x; y = whole item } in (
            seen ++ p ∷ [],
            subst (λ b. (seen ++ p ∷ []) ++ plain_points whole (points_behind b rest)
                ≡ plain_points whole (points_of cs)) (sym w.before-is)
                (append_assoc seen (p ∷ []) (plain_points whole (points_of rest))
                ∙ subst (λ b. seen ++ plain_points whole (points_behind b (item ∷ rest))
                ≡ plain_points whole (points_of cs)) w.in-Some.is left),
            subst (IsBoxFound whole (seen ++ p ∷ [])) (sym w.bounds-is)
                (w.with_point.ensures seen c.loop-coordinate.invariant.2),
          )
    ]
