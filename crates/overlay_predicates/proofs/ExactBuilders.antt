-- What calls leave of a builder for exact predicates, and what it answers of the paths that it holds.
use Rattle.std.proofs.Common.{◌≡◌, false, List, ◌++◌, sym, ap, subst, ◌∙◌}
use Rattle.std.proofs.lemmas.List.{map-append}
use Rattle.std.specs.Prelude.{Result, Ok, Err}
use Rattle.overlay_geom.specs.Edges.{CountedEdge, weight}
use Rattle.overlay_geom.specs.declared.error.OverlayError.{OverlayError}
use Rattle.overlay_geom.specs.declared.fill_rule.FillRule.{FillRule}
use Rattle.overlay_builder.specs.GivenPaths.{GivenPath, added_path, added_paths}
use Rattle.overlay_builder.specs.Held.{Held}
use Rattle.overlay_builder.specs.PathLists.{AddsAsAsked}
use Rattle.overlay_builder.proofs.PathLists.{first_refused, both_added}
use Rattle.overlay_predicates.specs.ExactBuilder.{ExactBuilder, held_by, ExactBuilderAdds}

-- the builder around a core
abbrev pub builder_of : FillRule → Held CountedEdge → ExactBuilder
builder_of rule held = record { fill_rule = rule; edges = held.edges }

-- what is so of the core before and after a call is so of the builder, since it never fails
pub seen_so : (P : Held CountedEdge → Held CountedEdge → Type 0) (rule : FillRule) (old : ExactBuilder)
    (before after : Held CountedEdge) → builder_of rule before ≡ old → before.failed ≡ false →
    after.failed ≡ before.failed → P before after → P (held_by old) (held_by (builder_of rule after))
seen_so P rule old before after is usable kept so =
    subst (λ b. P (held_by b) (held_by (builder_of rule after))) is
    (subst (λ failed. P (record { edges = before.edges; failed = failed }) (held_by (builder_of rule after))) usable
    (subst (λ failed. P before (record { edges = after.edges; failed = failed })) (kept ∙ usable) so))

module _ {V : Type 0} (ps qs : List GivenPath) (old mid : ExactBuilder) where
  -- where one of the first paths is refused, the others are not added
  pub first_source_refused : (e : OverlayError) → ExactBuilderAdds {V = V} ps old mid (Err e) →
      ExactBuilderAdds {V = V} (ps ++ qs) old mid (Err e)
  first_source_refused e h = record {
    added = subst (λ l. AddsAsAsked {V = V} weight l (held_by old) (held_by mid) (Err e))
        (sym (map-append (added_path false) ps qs))
        (first_refused weight (added_paths false ps) (added_paths false qs) (held_by old) (held_by mid) e h.added);
    kept = h.kept;
  }

  -- where the first ones are added, the others are added, or refused, after them
  pub both_sources : (new : ExactBuilder) (v : V) → ExactBuilderAdds ps old mid (Ok v)
      → (r : Result V OverlayError) → ExactBuilderAdds qs mid new r
      → ExactBuilderAdds (ps ++ qs) old new r
  both_sources new v first r h = record {
    added = subst (λ l. AddsAsAsked weight l (held_by old) (held_by new) r)
        (sym (map-append (added_path false) ps qs))
        (both_added weight (added_paths false ps) (added_paths false qs) (held_by old) (held_by mid)
        (held_by new) v first.added r h.added);
    kept = h.kept ∙ ap {A = ExactBuilder} (λ b. record b { edges = new.edges }) first.kept;
  }
