-- Strips that are there are those of the points.
use Rattle.std.proofs.Common.{◌≡◌, ⊎_elim, true, nat_eq, ap, length, sym, ◌∙◌}
use Rattle.std.proofs.lemmas.Bool.{false≢true}
use Rattle.std.proofs.lemmas.List.{length-map}
use Rattle.overlay_geom.specs.Points.{plain_point}
use Rattle.overlay_arrange.proofs.snap.make_strips.Goals as goal

pub returns-else-is_empty : goal.returns-else-is_empty
returns-else-is_empty g c = record {
  ok = ⊎_elim (λ none. let ok = c.args.strips.now.ok in let zero : length c.args.strips.now.items ≡ 0 =
      sym (length-map c.args.strips.now.items (plain_point g.I.IntNumber.whole)) ∙ ap length none in
      let is : c.is_empty.result ≡ true = c.is_empty.ensures ∙ ap (λ n. nat_eq n 0) (ok.0 ∙ zero) in
      absurd (false≢true (sym c.if-is_empty.false ∙ is))) (λ strips. strips) c.requires.strips;
}
