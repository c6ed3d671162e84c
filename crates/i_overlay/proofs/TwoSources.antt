-- The paths of two resources, added one after another.
use Rattle.std.proofs.Common.{◌≡◌, List, ◌++◌, sym, ap, subst, ◌∙◌}
use Rattle.std.proofs.lemmas.List.{map-append}
use Rattle.std.specs.Prelude.{Result, Ok, Err}
use Rattle.overlay_geom.specs.Edges.{weight}
use Rattle.overlay_geom.specs.declared.error.OverlayError.{OverlayError}
use Rattle.overlay_builder.specs.PathLists.{AddsAsAsked}
use Rattle.overlay_builder.proofs.PathLists.{first_refused, both_added}
use Rattle.i_overlay.specs.Adding.{BuilderAdds}
use Rattle.i_overlay.specs.Builder.{Builder, held_by}
use Rattle.overlay_builder.specs.GivenPaths.{GivenPath, added_path, added_paths}

module _ {U V : Type 0} (ps qs : List GivenPath) (old mid : Builder U) where
  -- where one of the first paths is refused, the others are not added
  pub first_source_refused : (e : OverlayError) → BuilderAdds {V = V} ps old mid (Err e) →
      BuilderAdds {V = V} (ps ++ qs) old mid (Err e)
  first_source_refused e h =
      let keep = old.options.preserve_input_collinear in
      record {
        added = subst (λ l. AddsAsAsked {V = V} weight l (held_by old) (held_by mid) (Err e))
            (sym (map-append (added_path keep) ps qs))
            (first_refused weight (added_paths keep ps) (added_paths keep qs) (held_by old) (held_by mid) e h.added);
        kept = h.kept;
      }

  -- where the first ones are added, the others are added, or refused, after them
  pub both_sources : (new : Builder U) (v : V) → BuilderAdds ps old mid (Ok v) → (r : Result V OverlayError) →
      BuilderAdds qs mid new r
      → BuilderAdds (ps ++ qs) old new r
  both_sources new v first r h =
      let keep = old.options.preserve_input_collinear in
      let same_options : mid.options ≡ old.options = ap (λ b. b.options) first.kept in
      record {
        added = subst (λ l. AddsAsAsked weight l (held_by old) (held_by new) r)
            (sym (map-append (added_path keep) ps qs))
            (both_added weight (added_paths keep ps) (added_paths keep qs) (held_by old) (held_by mid)
            (held_by new) v first.added r
            (subst (λ o. AddsAsAsked weight (added_paths o.preserve_input_collinear qs) (held_by mid)
            (held_by new) r) same_options h.added));
        kept = h.kept ∙ ap {A = Builder U} (λ b. record b { edges = new.edges }) first.kept;
      }
