-- What a builder that is asked says of the arrays that tells of the links between shapes.
use Rattle.std.proofs.Common.{◌≡◌, ℕ, ℤ, List, [], ◌∷◌, map, refl, sym, ap, subst, ◌∙◌}
use Rattle.std.specs.Prelude.{Ok}
use Rattle.std.specs.Int.{Width}
use Rattle.overlay_graph.specs.Arranged.{IsArranged}
use Rattle.overlay_geom.specs.declared.fill_rule.FillRule.{FillRule}
use Rattle.overlay_geom.specs.declared.overlay_rule.OverlayRule.{OverlayRule}
use Rattle.overlay_geom.specs.Plane.{Point}
use Rattle.overlay_extract.specs.ChildLinks.{plain_link}
use Rattle.overlay_extract.specs.PlacedResults.{IsHierarchy}
use Rattle.overlay_extract.specs.Results.{asked}
use Rattle.overlay_extract.specs.declared.child_link.ChildLink.{ChildLink as LinkTaken}
use Rattle.i_overlay.specs.Builder.{Builder}
use Rattle.i_overlay.specs.Queries.{BuilderExtracts}
use Rattle.polyover_calls.proofs.Kept.{hierarchy_as_added}
use Rattle.polyover_calls.proofs.Overlays.{same_asked}
use Rattle.polyover_calls.specs.Asked.{rule_of, fill_of, solver_of, options_of, keeps_given}
use Rattle.polyover_calls.specs.Given.{Contours, paths_given}
use Rattle.polyover_calls.specs.Hierarchies.{IsLinkedOverlay}
use Rattle.polyover_calls.specs.Linked.{link_of, link_at, LinkedFlat, AreFlatLinked}
use Rattle.polyover_calls.specs.Overlays.{IsAskedOverlay}
use Rattle.polyover_calls.specs.Written.{AreFlattened}
use Rattle.polyover_calls.specs.declared.numbers.OptionNumbers.{OptionNumbers}

-- the links as C has them are those that are answered
pub links_at : (links : List LinkTaken) → map link_at (map link_of links) ≡ map plain_link links
links_at [] = refl
links_at (l ∷ ls) = ap (λ rest. plain_link l ∷ rest) (links_at ls)

pub hierarchy_answered : {I U : Type 0} (whole : I → ℤ) (limit rule fill : ℕ) (options : OptionNumbers U)
    (subject clip : Contours I) (r : OverlayRule) (f : FillRule) (b : Builder U)
    (is : IsAskedOverlay whole limit rule fill options subject clip r f b) {V : Type 0} (v : V) (new : Builder U)
    (width : Width) (natural : U → ℕ) (shapes : List (List (List Point))) (links : List LinkTaken)
    (flat : LinkedFlat I) → BuilderExtracts {V = V} limit b new (Ok v) →
    IsHierarchy (asked width natural f r b.options) new.edges shapes (map plain_link links) →
    AreFlattened whole shapes flat.shapes → flat.links ≡ map link_of links →
    AreFlatLinked (IsLinkedOverlay whole limit width natural rule fill options subject clip) whole flat
hierarchy_answered whole limit rule fill options subject clip r f b is v new width natural shapes links flat extracts
    hierarchy flattened same_links = record {
      shapes = shapes;
      answer = record {
        known = is.known;
        subject_given = is.subject_given;
        clip_given = is.clip_given;
        is_hierarchy = hierarchy_as_added (keeps_given options) (solver_of options.solver)
            (asked width natural (fill_of fill) (rule_of rule) (options_of options)) (paths_given whole subject clip)
            b.edges new.edges is.holds
            (subst (λ t. IsArranged t b.edges new.edges) is.solver_asked extracts.query.arranged) shapes
            (map link_at flat.links)
            (subst (λ a. IsHierarchy a new.edges shapes (map link_at flat.links))
            (same_asked whole limit rule fill options subject clip r f b is width natural)
            (subst (IsHierarchy (asked width natural f r b.options) new.edges shapes)
            (sym (ap (map link_at) same_links ∙ links_at links)) hierarchy));
      };
      flattened = flattened;
    }
