-- The step stands behind those before it.
use Rattle.std.proofs.Common.{◌≡◌, ◌∷◌, ◌++◌, [], map, refl, rules, ap, ◌∙◌, arith}
use Rattle.std.proofs.lemmas.List.{map-append}
use Rattle.std.proofs.lemmas.Grind.{common_steps}
use Rattle.polyover_vectors.proofs.flat.push_step.Goals as goal

pub returns : goal.returns
returns g c =
    let whole = g.I.IntNumber.whole in
    let old = c.args.flat.now in
    let step = c.args.step.now in
    let coordinates : c.push-2.new.self.items ≡ old.coordinates.items ++ step.a.x ∷ step.a.y ∷ [] =
    Prim.grind (arith, common_steps) in
    let fills : c.push-3.new.self.items ≡ old.fills.items ++ step.fill ∷ [] = search rules in
    record {
      added = record {
        coordinates_added = ap (map whole) coordinates
            ∙ map-append whole old.coordinates.items (step.a.x ∷ step.a.y ∷ []);
        fills_added = fills;
      };
      contours = refl;
      shapes = refl;
    }
