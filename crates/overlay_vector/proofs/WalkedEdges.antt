-- A step along an edge of a graph, with what the edge has.
use Rattle.std.proofs.Common.{◌≡◌, ℕ, ◌<◌, Bool, true, false, cond, ℤ, List, map, length, get_or, Contains, Some}
use Rattle.std.proofs.Common.{MatchBool, [], ◌∷◌, refl, sym, ap, subst, ◌∙◌, arith}
use Rattle.std.specs.List.{slice_get}
use Rattle.std.proofs.lemmas.List.{length-map, get_or-map}
use Rattle.std.proofs.lemmas.List.Elements.{Contains-get_or, All-get_or}
use Rattle.std.proofs.lemmas.Option.{get_or_from_slice_get, slice_get_within}
use Rattle.overlay_geom.specs.Counts.{Counts}
use Rattle.overlay_geom.specs.Edges.{ends_of, all_ends}
use Rattle.overlay_geom.specs.Plane.{Step, Edge, edge_of, is_forward, point_lt}
use Rattle.overlay_geom.specs.Points.{plain_point, InRange}
use Rattle.overlay_geom.specs.declared.point.IntPoint.{IntPoint}
use Rattle.overlay_geom.specs.Rules.{fill_bits}
use Rattle.overlay_geom.specs.declared.fill_rule.FillRule.{FillRule}
use Rattle.overlay_plane.specs.Carried.{Carried, edges_in}
use Rattle.overlay_plane.specs.SelectedSteps.{step_with_left}
use Rattle.overlay_plane.proofs.SelectedWindings.{along_edge}
use Rattle.overlay_order.specs.Content.{IsHeld}
use Rattle.overlay_order.specs.Vectors.{Vector, plain_vector, vector_of}
use Rattle.overlay_order.specs.declared.data.CountWithData.{CountWithData}
use Rattle.overlay_order.specs.declared.vector.DataVectorEdge.{DataVectorEdge}
use Rattle.overlay_graph.specs.Graphs.{carried_vector, carried_vectors, IsArrangement}
use Rattle.overlay_vector.specs.DataVectors.{DataVector}
use Rattle.overlay_vector.specs.Joining.{IsInRange}
use Rattle.overlay_vector.specs.SideFills.{turned_fill}
use Rattle.overlay_vector.specs.VectorContours.{plain_ends}
use Rattle.overlay_vector.specs.VectorShapes.{step_along, IsVectorAlong}

-- the step between two points of a program
abbrev pub step_between : {I : Type 0} → (I → ℤ) → IntPoint I → IntPoint I → Step
step_between whole p q = record { from = plain_point whole p; to = plain_point whole q }

module _ {I D : Type 0} (whole : I → ℤ) (counts : CountWithData D → Counts)
    (vs : List (DataVectorEdge I (CountWithData D))) (xs : List (Carried (CountWithData D)))
    (seen : carried_vectors whole counts vs ≡ xs) where
  -- the ends of the edges are those of the graph's
  same_ends : map (plain_ends whole) vs ≡ map ends_of (edges_in xs)
  same_ends = go vs ∙ ap (λ ys. map ends_of (edges_in ys)) seen
    where
      go : (ws : List (DataVectorEdge I (CountWithData D))) →
          map (plain_ends whole) ws ≡ map ends_of (edges_in (carried_vectors whole counts ws))
      go [] = refl
      go (w ∷ ws) = ap (λ es. plain_ends whole w ∷ es) (go ws)

  -- a number of one of the graph's is that of an edge
  pub within_edges_seen : (k : ℕ) (e : Edge) → slice_get (all_ends (edges_in xs)) k ≡ Some e → k < length vs
  within_edges_seen k e stands =
      let inside = slice_get_within (all_ends (edges_in xs)) k e stands in
      let same = ap length same_ends in
      let long = length-map vs (plain_ends whole) in
      omega (arith, inside, same, long)

  module _ (limit : ℕ) (rule : FillRule) (arranged : IsArrangement limit (edges_in xs))
      (filled : map (plain_vector whole) vs ≡ map (vector_of rule (edges_in xs)) (edges_in xs))
      (k : ℕ) (d : DataVectorEdge I (CountWithData D)) (within : k < length vs) where
    abbrev pub v : DataVectorEdge I (CountWithData D)
    v = get_or vs k d

    -- the edge at a place, and its entry
    abbrev pub x : Carried (CountWithData D)
    x = carried_vector whole counts v

    within_seen : k < length xs
    within_seen = subst (λ ys. k < length ys) seen (let long = length-map vs (carried_vector whole counts) in
        omega (arith, within, long))

    x_at : get_or xs k x ≡ x
    x_at = ap (λ ys. get_or ys k x) (sym seen) ∙ get_or-map (carried_vector whole counts) vs k d x within

    among : Contains xs x
    among = subst (Contains xs) x_at (Contains-get_or xs k x within_seen)

    edge_at : get_or (edges_in xs) k x.edge ≡ x.edge
    edge_at = get_or-map (λ (y : Carried (CountWithData D)). y.edge) xs k x x.edge within_seen
        ∙ ap (λ (y : Carried (CountWithData D)). y.edge) x_at

    within_edges : k < length (edges_in xs)
    within_edges = let long = length-map xs (λ (y : Carried (CountWithData D)). y.edge) in omega
        (arith, within_seen, long)

    fill_at : v.fill ≡ fill_bits rule (edges_in xs) x.edge
    fill_at = ap (λ (w : Vector). w.fill) (sym (get_or-map (plain_vector whole) vs k d (plain_vector whole d) within)
        ∙ ap (λ ws. get_or ws k (plain_vector whole d)) filled
        ∙ get_or-map (vector_of rule (edges_in xs)) (edges_in xs) k x.edge (plain_vector whole d) within_edges
        ∙ ap (vector_of rule (edges_in xs)) edge_at)

    held : IsHeld limit x.edge
    held = subst (IsHeld limit) edge_at
        (All-get_or (IsHeld limit) (edges_in xs) k x.edge within_edges arranged.content.held)

    -- a step along the edge with this number among the graph's leads along it
    pub leads_along : (e : Edge) → slice_get (all_ends (edges_in xs)) k ≡ Some e → (above : Bool) (s : Step) →
        s ≡ step_with_left above e → ends_of x.edge ≡ edge_of s
    leads_along e stands above s walks = here ∙ sym (along_edge e forward above) ∙ ap edge_of (sym walks)
      where
        here : plain_ends whole v ≡ e
        here = sym (get_or-map (plain_ends whole) vs k d e within) ∙ ap (λ es. get_or es k e) same_ends
            ∙ get_or_from_slice_get (all_ends (edges_in xs)) k e e stands

        forward : point_lt e.a e.b ≡ true
        forward = ap (λ (f : Edge). point_lt f.a f.b) (sym here) ∙ held.forward

    module _ (reverses : D → D → Type 0) (s : Step) (ends : ends_of x.edge ≡ edge_of s) (r : DataVector D)
        (walks : step_along r ≡ s) where
      pub along : r.fill ≡ cond (is_forward s) v.fill (turned_fill v.fill) →
          MatchBool (is_forward s) (r.data_of ≡ v.edge_data.edge_data) (reverses v.edge_data.edge_data r.data_of) →
          IsVectorAlong reverses rule xs s r
      along fill carries = record {
        entry = x;
        among = among;
        ends = ends;
        walks = walks;
        fill = fill ∙ ap (λ n. cond (is_forward s) n (turned_fill n)) fill_at;
        carries = carries;
      }

      pub ends_in_range : IsInRange limit r
      ends_in_range = by (is_forward s) ends
        where
          by : (t : Bool) → ends_of x.edge ≡ cond t (record { a = s.from; b = s.to })
              (record { a = s.to; b = s.from }) →
              IsInRange limit r
          by true same = record {
            a = subst (InRange limit) (ap (λ (e : Edge). e.a) same ∙ sym (ap (λ (t : Step). t.from) walks))
                held.a_in_range;
            b = subst (InRange limit) (ap (λ (e : Edge). e.b) same ∙ sym (ap (λ (t : Step). t.to) walks))
                held.b_in_range;
          }
          by false same = record {
            a = subst (InRange limit) (ap (λ (e : Edge). e.b) same ∙ sym (ap (λ (t : Step). t.from) walks))
                held.b_in_range;
            b = subst (InRange limit) (ap (λ (e : Edge). e.a) same ∙ sym (ap (λ (t : Step). t.to) walks))
                held.a_in_range;
          }
