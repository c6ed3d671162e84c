-- Both ends lie beyond the left line.
use Rattle.std.proofs.Common.{inl, pos, sym, ◌∙◌}
use Rattle.std.proofs.lemmas.Bool.{false≢true}
use Rattle.overlay_geom.proofs.Comparisons.{Decides-int_lt}
use Rattle.overlay_order.specs.Content.{plain_edge}
use Rattle.overlay_pairs.specs.Bundles.{Bundle, across, plain_bundle}
use Rattle.overlay_pairs.proofs.beside.is_beyond_line.Goals as goal
use Rattle.overlay_pairs.proofs.beside.is_beyond_line.Goals.{then-is_left_of_parallel, else-is_left_of_parallel}

pub returns-then-is_left_of_parallel-2 : goal.returns-then-is_left_of_parallel-2
returns-then-is_left_of_parallel-2 g c =
    let bundle : Bundle = plain_bundle g.I.IntNumber.whole c.args.bundle.now in
    let e = plain_edge g.I.IntNumber.whole g.C.EdgeCount.counts c.args.e.now in
    let both = c.if-is_left_of_parallel-2.true in
    elim c.if-is_left_of_parallel.branch [
      | then-is_left_of_parallel w ↦ λ yes. inl (
        (Decides-int_lt (pos 0) (across bundle.along bundle.left e.a)).0
            (sym c.is_left_of_parallel.ensures ∙ w.if-is_left_of_parallel.true),
        (Decides-int_lt (pos 0) (across bundle.along bundle.left e.b)).0
            (sym w.is_left_of_parallel-then-is_left_of_parallel.ensures ∙ sym w.value-is ∙ both),
      )
      | else-is_left_of_parallel w ↦ absurd
          (false≢true (sym w.if-is_left_of_parallel.false ∙ sym w.value-is ∙ both))
    ]
