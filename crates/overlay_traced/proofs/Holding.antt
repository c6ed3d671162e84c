-- Given edges that are held one after another.
use Rattle.std.proofs.Common.{◌≡◌, ◌^◌, ◌≤◌, ◌+◌, ℕ, Bool, cond, is_eq, is_lt, List, [], ◌∷◌, ◌++◌, map}
use Rattle.std.proofs.Common.{sym, ap, ◌∙◌, subst, arith}
use Rattle.std.proofs.lemmas.List.{map-append}
use Rattle.std.proofs.lemmas.List.Sums.{sum_by-append}
use Rattle.std.specs.Prelude.{pos, negsuc}
use Rattle.std.specs.declared.cmp.Ordering.{Ordering}
use Rattle.std.specs.declared.cmp.Ordering.TheVariants.{Less, Equal, Greater}
use Rattle.overlay_geom.specs.Edges.{weight}
use Rattle.overlay_geom.specs.Plane.{Edge, Point, Step, steps_between}
use Rattle.overlay_geom.specs.Resolved.{point_cmp}
use Rattle.overlay_geom.specs.declared.options.ShapeType.{ShapeType}
use Rattle.overlay_geom.proofs.PointComparisons.{point_cmp-is_tie, point_cmp-is_less}
use Rattle.overlay_geom.proofs.Weights.{edge_weight}
use Rattle.overlay_order.specs.Content.{count_for, edge_with}
use Rattle.overlay_order.specs.Counts.{boolean_counts}
use Rattle.overlay_order.specs.declared.data.CountWithData.{CountWithData}
use Rattle.overlay_plane.specs.Carried.{Carried, edges_in}
use Rattle.overlay_traced.specs.Given.{held_edge, held_step, value_along, value_back}
use Rattle.overlay_traced.specs.declared.source.Passage.{Passage}

abbrev pub Held : Type 0 → Type 0
Held D = Carried (CountWithData D)

-- the edge between two points that carries the value
abbrev pub carrying : {D : Type 0} → Point → Point → CountWithData D → Held D
carrying p q v = record { edge = edge_with p q (boolean_counts v.count); carries = v }

module _ {D : Type 0} (data_of : ℕ → Passage → D) (side : ShapeType) (n : ℕ) (p q : Point) where
  abbrev step : Step
  step = record { from = p; to = q }

  -- the edge of the step, as it is held if it runs along, or back
  abbrev held_if : Bool → Held D
  held_if b =
      let e : Edge = cond b (record { a = p; b = q }) (record { a = q; b = p }) in
      record {
        edge = edge_with e.a e.b (boolean_counts (cond b (count_for side (pos 1)) (count_for side (negsuc 0))));
        carries = cond b (value_along data_of side n) (value_back data_of side n);
      }

  abbrev held : List (Held D)
  held = held_edge data_of n (record { a = p; b = q; side = side })

  steps_if : (o : Ordering) → point_cmp p q ≡ o → steps_between p q ≡ cond (is_eq o) [] (step ∷ [])
  steps_if o is = ap (λ t. cond t [] (step ∷ [])) (sym (point_cmp-is_tie p q) ∙ ap is_eq is)

  runs_if : (o : Ordering) → point_cmp p q ≡ o → held_step data_of side n step ≡ held_if (is_lt o)
  runs_if o is = ap held_if (sym (point_cmp-is_less p q) ∙ ap is_lt is)

  -- no edge is held between equal points
  pub held_equal : point_cmp p q ≡ Equal → held ≡ []
  held_equal is = ap (map (held_step data_of side n)) (steps_if Equal is)

  -- the edge to a larger point
  pub held_along : (v : CountWithData D) → v ≡ value_along data_of side n → point_cmp p q ≡ Less →
      held ≡ carrying p q v ∷ []
  held_along v same is = ap (map (held_step data_of side n)) (steps_if Less is) ∙ ap (λ x. x ∷ []) (runs_if Less is)
      ∙ ap (λ w. carrying p q w ∷ []) (sym same)

  -- and to a smaller one
  pub held_back : (v : CountWithData D) → v ≡ value_back data_of side n → point_cmp p q ≡ Greater →
      held ≡ carrying q p v ∷ []
  held_back v same is = ap (map (held_step data_of side n)) (steps_if Greater is)
      ∙ ap (λ x. x ∷ []) (runs_if Greater is) ∙ ap (λ w. carrying q p w ∷ []) (sym same)

-- ---- weights

weight_append : {D : Type 0} (xs ys : List (Held D)) →
    weight (edges_in (xs ++ ys)) ≡ weight (edges_in xs) + weight (edges_in ys)
weight_append xs ys =
    ap weight (map-append (λ x. x.edge) xs ys) ∙ sum_by-append edge_weight (edges_in xs) (edges_in ys)

-- an edge is refused as too heavy
pub one_heavy : {D : Type 0} (old one : List (Held D)) (x : Held D) → one ≡ x ∷ [] →
    2 ^ 31 ≤ weight (edges_in old ++ x.edge ∷ []) → 2 ^ 31 ≤ weight (edges_in (old ++ one))
one_heavy old one x is heavy = subst (λ es. 2 ^ 31 ≤ weight es)
    (sym (ap (λ k. edges_in (old ++ k)) is ∙ map-append (λ y. y.edge) old (x ∷ []))) heavy

-- so all of them are
pub too_heavy : {D : Type 0} (es more rest all : List (Held D)) → es ++ (more ++ rest) ≡ all →
    2 ^ 31 ≤ weight (edges_in (es ++ more)) → 2 ^ 31 ≤ weight (edges_in all)
too_heavy es more rest all makes heavy =
    Prim.omega (
      arith,
      heavy,
      weight_append es more,
      weight_append es (more ++ rest),
      weight_append more rest,
      ap (λ xs. weight (edges_in xs)) makes,
    )
