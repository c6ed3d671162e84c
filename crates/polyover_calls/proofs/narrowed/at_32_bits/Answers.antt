-- One number more is taken.
use Rattle.std.proofs.Common.{rules, arith, ◌≡◌, ◌++◌, ◌∷◌, [], ◌+◌, All, ℤ, pos, drop, get_or, lit<, sym, ap}
use Rattle.std.proofs.Common.{subst, ◌∙◌, FitsSigned, to_z, of_z, w32, w64}
use Rattle.std.proofs.lemmas.Int.{ints, to_z-of_z}
use Rattle.std.proofs.lemmas.List.{append_assoc, drop_more}
use Rattle.std.proofs.lemmas.List.Elements.{All-push}
use Rattle.overlay_geom.specs.Numbers.{Within}
use Rattle.overlay_geom.proofs.Widths.{Within-fits}
use Rattle.polyover_calls.specs.Narrowed.{greatest_of_32_bits}
use Rattle.polyover_calls.proofs.narrowed.at_32_bits.Goals as goal

pub loop-coordinate-preserved : goal.loop-coordinate-preserved
loop-coordinate-preserved c =
    let cs = c.args.coordinates.now in
    let i = c.loop-coordinate.coordinate-index in
    let item : ℤ = get_or cs i (pos 0) in
    let ys = c.loop-coordinate.narrowed.items in
    let fits : FitsSigned w64 item = search rules in
    let same : to_z w64 (of_z w64 item) ≡ item = to_z-of_z w64 item fits in
    let within : Within greatest_of_32_bits item = record {
      low = omega (arith, ints, same, c.if-coordinate.false);
      high = omega (arith, ints, same, c.if-coordinate-gt-GREATEST_OF_32_BITS.false);
    } in
    let narrow : to_z w32 (of_z w32 (to_z w64 (of_z w64 item))) ≡ item =
    ap (λ x. to_z w32 (of_z w32 x)) same
    ∙ to_z-of_z w32 item (Within-fits w32 greatest_of_32_bits item (lit< tt) within) in
    let items = c.push_reserved.ensures.items ∙ ap (λ x. ys ++ x ∷ []) narrow in (
      ap (λ xs. xs ++ drop (i + 1) cs) items
          ∙ append_assoc ys (item ∷ []) (drop (i + 1) cs)
          ∙ ap (λ zs. ys ++ zs) (sym (drop_more cs i (pos 0) c.loop-coordinate-test.true))
          ∙ c.loop-coordinate.invariant.0,
      subst (All (Within greatest_of_32_bits)) (sym items)
          (All-push (Within greatest_of_32_bits) ys item c.loop-coordinate.invariant.1 within),
      search rules,
      search rules,
    )
