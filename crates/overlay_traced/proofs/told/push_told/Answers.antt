-- The edge stands behind those before it.
use Rattle.std.proofs.Common.{◌≡◌, ◌∷◌, ◌++◌, [], length, map, rules, ap, ◌∙◌, arith}
use Rattle.std.proofs.lemmas.List.{map-append}
use Rattle.std.proofs.lemmas.Grind.{common_steps}
use Rattle.overlay_traced.specs.Told.{traced_arrays}
use Rattle.overlay_traced.proofs.Telling.{one_more_told}
use Rattle.overlay_vector.specs.DataVectors.{plain_data_vector}
use Rattle.overlay_traced.proofs.told.push_told.Goals as goal

pub returns : goal.returns
returns g c =
    let whole = g.I.IntNumber.whole in
    let v = plain_data_vector whole c.args.edge.now in
    let old = c.args.told.now in
    let e = c.args.edge.now in
    let coordinates : c.push-4.new.self.items
    ≡ old.coordinates.items ++ e.a.x ∷ e.a.y ∷ e.b.x ∷ e.b.y ∷ [] = Prim.grind (arith, common_steps) in
    let fills : c.push-5.new.self.items ≡ old.fills.items ++ e.fill ∷ [] = search rules in
    let ends : c.push-6.new.self.items ≡ old.source_ends.items ++ length c.push_sources.new.sources.items ∷ [] =
    search rules in
    λ vs told. one_more_told whole vs v
    (traced_arrays old.coordinates.items old.fills.items old.source_ends.items old.sources.items)
    (traced_arrays c.push-4.new.self.items c.push-5.new.self.items c.push-6.new.self.items
    c.push_sources.new.sources.items) told
    (ap (map whole) coordinates ∙ map-append whole old.coordinates.items (e.a.x ∷ e.a.y ∷ e.b.x ∷ e.b.y ∷ []))
    fills c.in_ok-push_sources.ensures ends
