-- A builder may hold edges that count once, where they are not too many, and the upright ones, turned.
use Rattle.std.proofs.Common.{◌≡◌, inl, inr, ℕ, ◌<◌, ◌^◌, ℤ, Bool, true, false, cond, List, [], ◌∷◌, Contains, length}
use Rattle.std.proofs.Common.{map, refl, sym, ap, ◌∙◌, subst, arith}
use Rattle.std.specs.List.{All}
use Rattle.std.specs.Ordering.{int_eq}
use Rattle.std.proofs.lemmas.Bool.Decides.{Decides-int_eq}
use Rattle.std.proofs.lemmas.List.Elements.{All-map, All-weaker, All-contains}
use Rattle.std.proofs.lemmas.List.Sums.{sum_by-cons}
use Rattle.overlay_geom.specs.Edges.{weight}
use Rattle.overlay_geom.specs.Counts.{weight_of_counts}
use Rattle.overlay_geom.specs.Plane.{Edge}
use Rattle.overlay_geom.specs.Resolved.{plain_edge, plain_edges, IsLongEdge}
use Rattle.overlay_geom.specs.declared.edge.IntEdge.{IntEdge}
use Rattle.overlay_geom.proofs.Entries.{Contains-cases}
use Rattle.overlay_geom.proofs.PointOrder.{Decides-point_lt}
use Rattle.overlay_geom.proofs.Signs.{linear}
use Rattle.overlay_order.specs.Content.{plain_edges as plain_counted, IsHeld, IsContent}
use Rattle.overlay_order.specs.Counts.{boolean_counts}
use Rattle.overlay_plane.proofs.Entries.{all_of_entries, Contains-from_flat_map}
use Rattle.overlay_sectors.specs.Once.{once}
use Rattle.overlay_located.specs.Once.{counted_once, turned, turned_if_upright, turned_uprights}

-- edges of the program that count once, as counted edges
pub counted_same : {I : Type 0} (whole : I → ℤ) (es : List (IntEdge I)) →
    plain_counted whole boolean_counts (map once es) ≡ map counted_once (plain_edges whole es)
counted_same whole [] = refl
counted_same whole (e ∷ es) = ap (λ fs. counted_once (plain_edge whole e) ∷ fs) (counted_same whole es)

weight_once : (es : List Edge) → weight (map counted_once es) ≡ length es
weight_once [] = refl
weight_once (e ∷ es) =
    sum_by-cons (λ f. weight_of_counts f.counts) (counted_once e) (map counted_once es)
    ∙ (let so_far = weight_once es in omega arith)

pub content_once : (limit : ℕ) (es : List Edge) → All (IsLongEdge limit) es → length es < 2 ^ 31 →
    IsContent limit (map counted_once es)
content_once limit es long few = record {
  held = All-map (IsHeld limit) counted_once es (All-weaker (IsLongEdge limit) (λ e. IsHeld limit (counted_once e))
      (λ e l. record { forward = l.forward; a_in_range = l.a_in_range; b_in_range = l.b_in_range }) es long);
  light = subst (λ n. n < 2 ^ 31) (sym (weight_once es)) few;
}

-- an upright edge, turned, runs from its smaller to its larger end too
turned_long : (limit : ℕ) (e w : Edge) → IsLongEdge limit e → Contains (turned_if_upright e) w → IsLongEdge limit w
turned_long limit e w long at = by (int_eq e.a.x e.b.x) refl at
  where
    here : e.a.x ≡ e.b.x → IsLongEdge limit (turned e)
    here upright = let before = (Decides-point_lt e.a e.b).0 long.forward in
        let high = before.y (omega linear) in record {
          forward = (Decides-point_lt (turned e).a (turned e).b).1
              (record { x = omega linear; y = λ le. absurd (omega linear) });
          a_in_range = record { x = long.a_in_range.y; y = long.a_in_range.x };
          b_in_range = record { x = long.b_in_range.y; y = long.b_in_range.x };
        }

    by : (t : Bool) → int_eq e.a.x e.b.x ≡ t → Contains (cond t (turned e ∷ []) []) w → IsLongEdge limit w
    by true upright c = elim (Contains-cases (turned e) [] w c) [
      | inl is ↦ subst (IsLongEdge limit) is (here ((Decides-int_eq e.a.x e.b.x).0 upright))
      | inr later ↦ absurd (omega (arith, later.1))
    ]
    by false wide c = absurd (omega (arith, c.1))

pub turned_uprights_long : (limit : ℕ) (es : List Edge) → All (IsLongEdge limit) es →
    All (IsLongEdge limit) (turned_uprights es)
turned_uprights_long limit es long = all_of_entries (IsLongEdge limit) (turned_uprights es)
    (λ w at. let found = Contains-from_flat_map turned_if_upright es w at in
    turned_long limit found.0 w (All-contains (IsLongEdge limit) es found.0 long found.1) found.2)
