-- The place stands behind those of the shape with the number.
use Rattle.std.proofs.Common.{◌<◌, ◌++◌, [], ◌∷◌, length, set, sym, ap, ◌∙◌, subst}
use Rattle.std.specs.Prelude.{IfSome}
use Rattle.std.proofs.lemmas.List.{map-set}
use Rattle.overlay_geom.proofs.Mapped.{read_mapped}
use Rattle.overlay_extract.specs.Places.{place_list, place_lists, with_place}
use Rattle.overlay_extract.proofs.binding.places.push_place.Goals as goal

pub returns-in_ok-push-in-Some : goal.returns-in_ok-push-in-Some
returns-in_ok-push-in-Some g c = record {
  ok = let old = c.args.places.now.items in
      let shape = c.index_mut.result.now in
      let n = c.in-Some.number in
      map-set place_list old n (record shape { holes = c.push.new.self })
      ∙ ap (set (place_lists old) n)
      (ap (λ holes. shape.outline ∷ holes) c.in_ok-push-in-Some.ensures.items
      ∙ ap (λ ps. ps ++ c.args.place ∷ [])
      (sym (read_mapped place_list old n shape []
      (subst (λ number. IfSome number (λ m. m < length old)) c.in-Some.is c.requires) c.index_mut.ensures.value)))
      ∙ ap (λ number. with_place number c.args.place (place_lists old)) (sym c.in-Some.is);
}
