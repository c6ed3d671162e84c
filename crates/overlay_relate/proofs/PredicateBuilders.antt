-- What calls leave of a builder for predicates, and the paths of two resources, added one after another.
use Rattle.std.proofs.Common.{◌≡◌, Bool, false, List, ◌++◌, sym, ap, subst, ◌∙◌}
use Rattle.std.proofs.lemmas.List.{map-append}
use Rattle.std.specs.Prelude.{Result, Ok, Err}
use Rattle.overlay_geom.specs.Edges.{CountedEdge, weight}
use Rattle.overlay_geom.specs.declared.error.OverlayError.{OverlayError}
use Rattle.overlay_builder.specs.GivenPaths.{GivenPath, added_path, added_paths}
use Rattle.overlay_builder.specs.PathLists.{AddsAsAsked}
use Rattle.overlay_builder.proofs.PathLists.{first_refused, both_added}
use Rattle.overlay_relate.specs.PredicateBuilder.{PredicateBuilder, held_by, PredicateBuilderAdds}

-- a builder of which nothing but the edges is new
pub only_edges_new : (v old : PredicateBuilder) (es : List CountedEdge) (failed : Bool) → v ≡ old → failed ≡ v.failed
    → record v { edges = es; failed = failed } ≡ record old { edges = es }
only_edges_new v old es failed is same =
    ap {B = PredicateBuilder} (λ f. record v { edges = es; failed = f }) same
    ∙ ap {A = PredicateBuilder} (λ b. record b { edges = es }) is

module _ {V : Type 0} (ps qs : List GivenPath) (old mid : PredicateBuilder) where
  -- where one of the first paths is refused, the others are not added
  pub first_source_refused : (e : OverlayError) → PredicateBuilderAdds {V = V} ps old mid (Err e) →
      PredicateBuilderAdds {V = V} (ps ++ qs) old mid (Err e)
  first_source_refused e h = record {
    added = subst (λ l. AddsAsAsked {V = V} weight l (held_by old) (held_by mid) (Err e))
        (sym (map-append (added_path false) ps qs))
        (first_refused weight (added_paths false ps) (added_paths false qs) (held_by old) (held_by mid) e h.added);
    kept = h.kept;
  }

  -- where the first ones are added, the others are added, or refused, after them
  pub both_sources : (new : PredicateBuilder) (v : V) → PredicateBuilderAdds ps old mid (Ok v)
      → (r : Result V OverlayError) → PredicateBuilderAdds qs mid new r
      → PredicateBuilderAdds (ps ++ qs) old new r
  both_sources new v first r h = record {
    added = subst (λ l. AddsAsAsked weight l (held_by old) (held_by new) r)
        (sym (map-append (added_path false) ps qs))
        (both_added weight (added_paths false ps) (added_paths false qs) (held_by old) (held_by mid)
        (held_by new) v first.added r h.added);
    kept = h.kept ∙ ap {A = PredicateBuilder} (λ b. record b { edges = new.edges }) first.kept;
  }
