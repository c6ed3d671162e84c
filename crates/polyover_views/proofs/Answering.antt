-- How an overlay of a graph is answered, or refused.
use Rattle.std.proofs.Common.{◌≡◌, ◌<◌, ℕ, ℤ, List, map, inr, sym, ap, ap₂, subst, ◌∙◌}
use Rattle.std.specs.Int.{Width}
use Rattle.overlay_extract.specs.ChildLinks.{plain_link}
use Rattle.overlay_extract.specs.PlacedResults.{IsHierarchy}
use Rattle.overlay_extract.specs.Results.{IsResult, asked}
use Rattle.overlay_extract.specs.declared.child_link.ChildLink.{ChildLink as LinkTaken}
use Rattle.overlay_geom.specs.Edges.{CountedEdge}
use Rattle.overlay_geom.specs.Plane.{Point}
use Rattle.overlay_geom.specs.declared.error.OverlayError.{OverlayError}
use Rattle.overlay_geom.specs.declared.error.OverlayError.TheVariants as error
use Rattle.overlay_geom.specs.declared.fill_rule.FillRule.{FillRule}
use Rattle.overlay_geom.specs.declared.options.IntOverlayOptions.{IntOverlayOptions}
use Rattle.overlay_geom.specs.declared.overlay_rule.OverlayRule.{OverlayRule}
use Rattle.polyover_calls.specs.Asked.{rule_of, fill_of, options_of}
use Rattle.polyover_calls.specs.Linked.{AreFlatLinked, LinkedFlat, link_at, link_of}
use Rattle.polyover_calls.specs.Statuses.{status_of_error}
use Rattle.polyover_calls.specs.Written.{AreFlattened, Flat, IsFlat}
use Rattle.polyover_calls.specs.declared.numbers.OptionNumbers.{OptionNumbers}
use Rattle.polyover_calls.specs.declared.status.Status.{Status}
use Rattle.polyover_calls.specs.declared.status.Status.TheVariants.{Memory}
use Rattle.polyover_calls.proofs.Hierarchies.{links_at}
use Rattle.polyover_views.specs.Asked.{AreGraphOptions, IsAskingRefused, IsHierarchyOfGraph}
use Rattle.polyover_views.specs.Asked.{IsOverlayOfGraph, asked_of_graph}
use Rattle.polyover_views.specs.Held.{HeldArrangement}

module _ {U : Type 0} (g : HeldArrangement) (rule : ℕ) (options : OptionNumbers U) (known_rule : rule < 7)
    (known : AreGraphOptions g.solver g.keep_given options) where
  pub memory_refused : (s : Status) → s ≡ Memory → IsAskingRefused g rule options s
  memory_refused s same = inr (inr (same, (known_rule, known)))

  pub extraction_refused : (e : OverlayError) → e ≡ error.Memory → IsAskingRefused g rule options (status_of_error e)
  extraction_refused e same = memory_refused (status_of_error e) (ap status_of_error same)

  -- ---- answers over the edges of the graph that is taken

  module _ (width : Width) (natural : U → ℕ) (r : OverlayRule) (f : FillRule) (o : IntOverlayOptions U)
      (es : List CountedEdge) (same_r : r ≡ rule_of rule) (same_f : f ≡ fill_of g.fill)
      (same_o : o ≡ options_of options)
      (same_es : es ≡ g.edges) where
    same_asked : asked width natural f r o ≡ asked_of_graph width natural g rule options
    same_asked = ap₂ (λ x y. asked width natural x y o) same_f same_r
        ∙ ap (asked width natural (fill_of g.fill) (rule_of rule)) same_o

    pub overlay_answered : {I : Type 0} (whole : I → ℤ) (shapes : List (List (List Point))) (flat : Flat I) →
        IsResult (asked width natural f r o) es shapes → AreFlattened whole shapes flat →
        IsFlat (IsOverlayOfGraph width natural g rule options) whole flat
    overlay_answered whole shapes flat is flattened = record {
      shapes = shapes;
      answer = record {
        known = (known_rule, known);
        is_result = subst (λ x. IsResult (asked_of_graph width natural g rule options) x shapes) same_es
            (subst (λ q. IsResult q es shapes) same_asked is);
      };
      flattened = flattened;
    }

    pub hierarchy_answered : {I : Type 0} (whole : I → ℤ) (shapes : List (List (List Point)))
        (links : List LinkTaken) (flat : LinkedFlat I) →
        IsHierarchy (asked width natural f r o) es shapes (map plain_link links) →
        AreFlattened whole shapes flat.shapes → flat.links ≡ map link_of links →
        AreFlatLinked (IsHierarchyOfGraph width natural g rule options) whole flat
    hierarchy_answered whole shapes links flat is flattened same_links = record {
      shapes = shapes;
      answer = record {
        known = (known_rule, known);
        is_hierarchy = subst
            (IsHierarchy (asked_of_graph width natural g rule options) g.edges shapes)
            (sym (ap (map link_at) same_links ∙ links_at links))
            (subst (λ x. IsHierarchy (asked_of_graph width natural g rule options) x shapes (map plain_link links))
            same_es (subst (λ q. IsHierarchy q es shapes (map plain_link links)) same_asked is));
      };
      flattened = flattened;
    }
