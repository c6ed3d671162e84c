-- Each line stays, or is moved to the point, which lies beyond it.
use Rattle.std.proofs.Common.{◌≡◌, inl, inr, pos, sym, ap, ◌∙◌}
use Rattle.std.proofs.lemmas.Bool.{false≢true}
use Rattle.overlay_geom.specs.Plane.{Point}
use Rattle.overlay_geom.specs.Points.{plain_point}
use Rattle.overlay_geom.proofs.Comparisons.{Decides-int_lt}
use Rattle.overlay_pairs.specs.Bundles.{Bundle, IsLeftOfParallel, across, plain_bundle}
use Rattle.overlay_pairs.proofs.BundleLines.{IsMovedTo, reached_by}
use Rattle.overlay_pairs.proofs.bundles.reached.Goals as goal
use Rattle.overlay_pairs.proofs.bundles.reached.Goals.{then-is_beyond_left, else-is_beyond_left}
use Rattle.overlay_pairs.proofs.bundles.reached.Goals.{then-is_beyond_right, else-is_beyond_right}

pub returns-clause-reached : goal.returns-clause-reached
returns-clause-reached g c =
    let whole = g.I.IntNumber.whole in
    let plain = plain_point whole in
    let bundle : Bundle = plain_bundle whole c.args.bundle in
    let v : Point = plain c.args.v in
    let tells_left = c.is_left_of_parallel-is_beyond_left.ensures in
    let tells_right = c.is_left_of_parallel-is_beyond_right.ensures in
    let decides = λ (p q : Point). Decides-int_lt (pos 0) (across bundle.along p q) in
    let left : IsMovedTo (IsLeftOfParallel bundle.along bundle.left v) bundle.left v
    (plain c.if-is_beyond_left.result) =
    elim c.if-is_beyond_left.branch [
      | then-is_beyond_left w ↦ inl (
        (decides bundle.left v).0 (sym tells_left ∙ w.if-is_beyond_left.true),
        ap plain w.result-is,
      )
      | else-is_beyond_left w ↦ inr (
        (λ beyond. false≢true (sym w.if-is_beyond_left.false ∙ tells_left
            ∙ (decides bundle.left v).1 beyond)),
        ap plain w.result-is,
      )
    ] in
    let right : IsMovedTo (IsLeftOfParallel bundle.along v bundle.right) bundle.right v
    (plain c.if-is_beyond_right.result) =
    elim c.if-is_beyond_right.branch [
      | then-is_beyond_right w ↦ inl (
        (decides v bundle.right).0 (sym tells_right ∙ w.if-is_beyond_right.true),
        ap plain w.result-is,
      )
      | else-is_beyond_right w ↦ inr (
        (λ beyond. false≢true (sym w.if-is_beyond_right.false ∙ tells_right
            ∙ (decides v bundle.right).1 beyond)),
        ap plain w.result-is,
      )
    ] in
    reached_by bundle v (plain c.if-is_beyond_left.result) (plain c.if-is_beyond_right.result) left right
