-- The first group, where it lies at the start.
use Rattle.std.proofs.Common.{inl, inr, refl, sym, subst, ◌∙◌, arith}
use Rattle.std.proofs.lemmas.Bool.{false≢true}
use Rattle.std.proofs.lemmas.List.{length-map}
use Rattle.overlay_pairs.proofs.Entries.{one_entry, placed_in_mapped}
use Rattle.overlay_exact.specs.Along.{Met, plain_met, plain_mets}
use Rattle.overlay_exact.specs.Parts.{start_part, AreEqual}
use Rattle.overlay_given.proofs.walk.first_end.Goals as goal
use Rattle.overlay_given.proofs.walk.first_end.Goals.{else-not-is_empty-via-then-not-is_empty+else-is_start}
use Rattle.overlay_given.proofs.walk.first_end.Goals.{else-not-is_empty-via-else-not-is_empty}

pub returns-then-is_start : goal.returns-then-is_start
returns-then-is_start g c =
    let met = plain_met g.I.Wide.WideIntNumber.whole in
    let empty = c.is_empty.ensures in
    let some = c.if-not-is_empty.true in
    inl (
      met c.index-met-0.result,
      placed_in_mapped met c.args.met.now 0 c.index-met-0.result (grind (arith, empty, some)) c.index-met-0.is,
      subst (λ x. AreEqual (met x).part start_part) (sym c.index-met-0.is) (c.is_start.ensures.0 c.if-is_start.true),
      c.group_end.ensures,
    )

pub returns-else-not-is_empty : goal.returns-else-not-is_empty
returns-else-not-is_empty g c =
    let met = plain_met g.I.Wide.WideIntNumber.whole in
    let ms = plain_mets g.I.Wide.WideIntNumber.whole c.args.met.now in
    let empty = c.is_empty.ensures in
    let l = length-map c.args.met.now met in
    elim c.else-not-is_empty.branch [
      | else-not-is_empty-via-then-not-is_empty+else-is_start w ↦
          let some = w.if-not-is_empty.true in
          inr (
            refl,
            λ m at equal. false≢true (sym w.if-is_start.false ∙ w.is_start.ensures.1
                (subst (λ x. AreEqual (met x).part start_part) w.index-met-0.is
                (subst (λ (n : Met). AreEqual n.part start_part)
                (one_entry ms 0 m (met w.index-met-0.result) at (placed_in_mapped met c.args.met.now 0
                w.index-met-0.result (grind (arith, empty, some)) w.index-met-0.is)) equal))),
          )
      | else-not-is_empty-via-else-not-is_empty w ↦
          let none = w.if-not-is_empty.false in
          inr (refl, λ m at equal. let within = at.0 in absurd (grind (arith, empty, none, within, l)))
    ]
