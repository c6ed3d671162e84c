-- The edge that is joined with the last ones stands behind what is left.
use Rattle.std.proofs.Common.{[], ◌∷◌, sym, ap, subst, ◌∙◌}
use Rattle.std.proofs.lemmas.List.{map-append}
use Rattle.overlay_vector.specs.DataVectors.{plain_data_vector, plain_data_vectors}
use Rattle.overlay_vector.specs.Joining.{IsAppended}
use Rattle.overlay_vector.proofs.joining.append.Goals as goal

pub returns : goal.returns
returns g c = record {
  ok = let whole = g.I.IntNumber.whole in
      let back = c.join_back-vector in
      subst (IsAppended g.D.PartialEq.eq g.I.IntNumber.limit (plain_data_vectors whole c.args.path.now.items)
      (plain_data_vector whole c.args.vector))
      (sym (ap (plain_data_vectors whole) c.in_ok-push.ensures.items
      ∙ map-append (plain_data_vector whole) back.new.path.items (back.result ∷ [])))
      back.ensures;
}
