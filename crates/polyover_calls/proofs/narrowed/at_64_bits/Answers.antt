-- One number more is taken.
use Rattle.std.proofs.Common.{rules, ◌≡◌, ◌++◌, ◌∷◌, [], ◌+◌, ℤ, pos, drop, get_or, sym, ap, ◌∙◌, to_z, of_z, w64}
use Rattle.std.proofs.lemmas.Int.{to_z-of_z}
use Rattle.std.proofs.lemmas.List.{append_assoc, drop_more}
use Rattle.polyover_calls.proofs.narrowed.at_64_bits.Goals as goal

pub loop-coordinate-preserved : goal.loop-coordinate-preserved
loop-coordinate-preserved c =
    let cs = c.args.coordinates.now in
    let i = c.loop-coordinate.coordinate-index in
    let item : ℤ = get_or cs i (pos 0) in
    let ys = c.loop-coordinate.widened.items in
    let same : to_z w64 (of_z w64 c.from.result) ≡ item = search (rules, to_z-of_z, c.from.ensures) in (
      ap (λ xs. xs ++ drop (i + 1) cs) (c.push_reserved.ensures.items ∙ ap (λ x. ys ++ x ∷ []) same)
          ∙ append_assoc ys (item ∷ []) (drop (i + 1) cs)
          ∙ ap (λ zs. ys ++ zs) (sym (drop_more cs i (pos 0) c.loop-coordinate-test.true))
          ∙ c.loop-coordinate.invariant.0,
      search rules,
      search rules,
    )
