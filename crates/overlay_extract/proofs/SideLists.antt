-- The list of the filled sides has exactly the steps with a filled side on their left, and each walks along an edge.
use Rattle.std.proofs.Common.{◌≡◌, inl, inr, ⊎_elim, Bool, true, false, cond, ℤ, List, [], ◌∷◌, Contains}
use Rattle.std.proofs.Common.{refl, sym, ap, ◌∙◌, subst}
use Rattle.std.proofs.lemmas.List.Elements.{Contains-append_left, Contains-append_right}
use Rattle.std.proofs.lemmas.List.Elements.{Contains-append_cases}
use Rattle.overlay_geom.specs.Plane.{Step, edge_of, point_lt}
use Rattle.overlay_geom.specs.Edges.{CountedEdge, ends_of, winding_below, winding_above}
use Rattle.overlay_geom.proofs.Orders.{point_eq-of_same}
use Rattle.overlay_plane.specs.Nodes.{IsBalancedArrangement}
use Rattle.overlay_plane.specs.Turn.{Hand}
use Rattle.overlay_plane.specs.Turn.Hand.{left}
use Rattle.overlay_plane.specs.BesideOrbits.{WalksAlong}
use Rattle.overlay_plane.specs.SelectedSteps.{step_with_left}
use Rattle.overlay_plane.specs.WindingsBeside.{IsStepAlong, winding_on_side}
use Rattle.overlay_plane.proofs.Entries.{Contains-flat_map, Contains-from_flat_map}
use Rattle.overlay_plane.proofs.SelectedWindings.{along_edge}
use Rattle.overlay_plane.proofs.SpokeWindings.{forward_entry, not_start}
use Rattle.overlay_geom.proofs.Entries.{Contains-cases, Contains-head}
use Rattle.overlay_extract.specs.FilledSides.{sides_of, filled_sides, IsFilledSide, AreFilledSides, FilledSidesOfEdges}

-- an entry of a list with one entry or none
entry_if : (t : Bool) (x y : Step) → Contains (cond t (x ∷ []) []) y → (t ≡ true) × (x ≡ y)
entry_if true x y c = (refl, ⊎_elim (λ same. same) (λ none. elim none.1 [ ]) (Contains-cases x [] y c))
entry_if false x y c = elim c.1 [ ]

-- where the test passes it is there
entry_there : (t : Bool) (x : Step) → t ≡ true → Contains (cond t (x ∷ []) []) x
entry_there t x e = subst (λ b. Contains (cond b (x ∷ []) []) x) (sym e) (Contains-head x [])

module _ (fills : ℤ → Bool) (count : CountedEdge → ℤ) (es : List CountedEdge)
    (arranged : IsBalancedArrangement count es) where
  module _ (e : CountedEdge) (at : Contains es e) where
    -- on the left of the step along the edge is its upper side
    pub left_of_along : winding_on_side left count es e (step_with_left true (ends_of e)) ≡ winding_above count es e
    left_of_along = ap (λ t. cond t (winding_above count es e) (winding_below count es e))
        (point_eq-of_same e.a e.a refl)

    -- on that of the step back its lower one
    pub left_of_back : winding_on_side left count es e (step_with_left false (ends_of e)) ≡ winding_below count es e
    left_of_back = ap (λ t. cond t (winding_above count es e) (winding_below count es e))
        (not_start count es arranged e.b e at refl)

    -- the steps listed for the edge are filled sides
    listed : (s : Step) → Contains (sides_of fills count es e) s → IsFilledSide fills count es left s
    listed s c = ⊎_elim
        (λ up. let own = entry_if (fills (winding_above count es e)) (step_with_left true (ends_of e)) s up in
        subst (IsFilledSide fills count es left) own.1 (record {
          edge = e;
          along = record { entry = at; walks = inl refl };
          filled = ap fills left_of_along ∙ own.0;
        }))
        (λ down. let own = entry_if (fills (winding_below count es e)) (step_with_left false (ends_of e)) s down in
        subst (IsFilledSide fills count es left) own.1 (record {
          edge = e;
          along = record { entry = at; walks = inr refl };
          filled = ap fills left_of_back ∙ own.0;
        }))
        (Contains-append_cases
        (cond (fills (winding_above count es e)) (step_with_left true (ends_of e) ∷ []) [])
        (cond (fills (winding_below count es e)) (step_with_left false (ends_of e) ∷ []) []) s c)

    -- and each of its filled sides is listed
    all_listed : (s : Step) → IsStepAlong es e s → fills (winding_on_side left count es e s) ≡ true →
        Contains (sides_of fills count es e) s
    all_listed s along filled = ⊎_elim
        (λ forth. subst (Contains (sides_of fills count es e)) (sym forth) (Contains-append_left
        (cond (fills (winding_above count es e)) (step_with_left true (ends_of e) ∷ []) [])
        (cond (fills (winding_below count es e)) (step_with_left false (ends_of e) ∷ []) [])
        (step_with_left true (ends_of e))
        (entry_there (fills (winding_above count es e)) (step_with_left true (ends_of e))
        (sym (ap fills left_of_along) ∙ sym (ap (λ t. fills (winding_on_side left count es e t)) forth) ∙ filled))))
        (λ back. subst (Contains (sides_of fills count es e)) (sym back) (Contains-append_right
        (cond (fills (winding_above count es e)) (step_with_left true (ends_of e) ∷ []) [])
        (cond (fills (winding_below count es e)) (step_with_left false (ends_of e) ∷ []) [])
        (step_with_left false (ends_of e))
        (entry_there (fills (winding_below count es e)) (step_with_left false (ends_of e))
        (sym (ap fills left_of_back) ∙ sym (ap (λ t. fills (winding_on_side left count es e t)) back) ∙ filled))))
        along.walks

    -- and have its ends
    pub listed_edge : (s : Step) → Contains (sides_of fills count es e) s → edge_of s ≡ ends_of e
    listed_edge s c = ⊎_elim
        (λ up. sym (ap edge_of (entry_if (fills (winding_above count es e)) (step_with_left true (ends_of e)) s up).1)
        ∙ along_edge (ends_of e) (forward_entry count es arranged e at) true)
        (λ down. sym (ap edge_of
        (entry_if (fills (winding_below count es e)) (step_with_left false (ends_of e)) s down).1)
        ∙ along_edge (ends_of e) (forward_entry count es arranged e at) false)
        (Contains-append_cases
        (cond (fills (winding_above count es e)) (step_with_left true (ends_of e) ∷ []) [])
        (cond (fills (winding_below count es e)) (step_with_left false (ends_of e) ∷ []) []) s c)

  -- so the list has the filled sides
  pub sides_listed : AreFilledSides fills count es left (filled_sides fills count es)
  sides_listed = record {
    sides = λ s c. let from = Contains-from_flat_map (sides_of fills count es) es s c in listed from.0 from.1 s from.2;
    all = λ s side. Contains-flat_map (sides_of fills count es) es side.edge s side.along.entry
        (all_listed side.edge side.along.entry s side.along side.filled);
  }

  -- a step along an edge has the edge's ends
  pub edge_of_along : (e : CountedEdge) (s : Step) → IsStepAlong es e s → edge_of s ≡ ends_of e
  edge_of_along e s along = ⊎_elim (λ forth. ap edge_of forth ∙ along_edge (ends_of e) forward true)
      (λ back. ap edge_of back ∙ along_edge (ends_of e) forward false) along.walks
    where
      forward : point_lt e.a e.b ≡ true
      forward = forward_entry count es arranged e along.entry

  -- filled sides walk along edges
  pub sides_walk_along : (hand : Hand) (steps : List Step) → AreFilledSides fills count es hand steps →
      WalksAlong es steps
  sides_walk_along hand steps are = record {
    planar = arranged.planar;
    along = λ s c. let side = are.sides s c in
        (side.edge, side.along.entry, edge_of_along side.edge s side.along);
  }

-- the law
pub filled_sides_of_edges : FilledSidesOfEdges
filled_sides_of_edges = sides_listed
