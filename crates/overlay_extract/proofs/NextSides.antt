-- The next one of a filled side by its hand is along the next edge of all at the node, or back along the same edge; so
-- by this hand filled sides lead on, and the next one leads back.
use Rattle.std.proofs.Common.{◌≡◌, inl, inr, ⊎_elim, ◌||◌, Bool, true, false, ℤ, List, Contains, refl, sym, ap, ◌∙◌}
use Rattle.std.proofs.Common.{subst}
use Rattle.std.proofs.lemmas.Bool.{both_ways, false_from_ne_true, or_cases, or_left, or_right}
use Rattle.overlay_geom.specs.Plane.{Point, Step, edge_eq, point_eq, reversed_step}
use Rattle.overlay_geom.specs.Edges.{CountedEdge, ends_of}
use Rattle.overlay_geom.proofs.Orders.{point_eq-same, point_eq-of_same}
use Rattle.overlay_plane.specs.Turn.{Hand, other_hand, is_met_before, IsMetBefore, IsNextStep}
use Rattle.overlay_plane.specs.Turn.Hand.{left, right}
use Rattle.overlay_plane.specs.Alternates.{AreOneWay}
use Rattle.overlay_plane.specs.Nodes.{IsBalancedArrangement}
use Rattle.overlay_plane.specs.NextSteps.{LeadsOn}
use Rattle.overlay_plane.specs.Rays.{Apart}
use Rattle.overlay_plane.specs.Spokes.{IsSpoke, far_end}
use Rattle.overlay_plane.specs.WindingsBeside.{IsStepAlong, winding_on_side}
use Rattle.overlay_plane.proofs.CyclicOrder.{met_shifted, met_after}
use Rattle.overlay_plane.proofs.Entries.{all_of_entries}
use Rattle.overlay_plane.proofs.LeadingOn.{one_next}
use Rattle.overlay_plane.proofs.Nearest.{nearest}
use Rattle.overlay_plane.proofs.SingleEntries.{one_entry}
use Rattle.overlay_plane.proofs.SpokeRays.{far_apart, one_ray_one_spoke, spokes_apart}
use Rattle.overlay_plane.proofs.TurnOrder.{apart_exchanged, met_irreflexive, met_transitive, start_is_last}
use Rattle.overlay_extract.specs.FilledSides.{IsFilledSide, AreFilledSides, FilledSidesLeadOn, NextSidesLeadBack}
use Rattle.overlay_extract.proofs.SideSpokes.{Arrives, Leaves, arrives, leaves, long, along_back, side_of_back}
use Rattle.overlay_extract.proofs.SideSpokes.{step_leaving, one_step_from, turned_back, beside_both}

-- the hand of the other side of the other side
back_again : (hand : Hand) (v u p q : Point) → IsMetBefore (other_hand (other_hand hand)) v u p q →
    IsMetBefore hand v u p q
back_again left v u p q h = h
back_again right v u p q h = h

module _ (fills : ℤ → Bool) (count : CountedEdge → ℤ) (es : List CountedEdge)
    (arranged : IsBalancedArrangement count es) (hand : Hand) where
  -- a step with a filled side by the hand
  abbrev Side : Step → Type 0
  Side = IsFilledSide fills count es hand

  -- the edge starts or ends in the node
  abbrev touches : Point → CountedEdge → Bool
  touches v m = point_eq m.a v || point_eq m.b v

  touches_spoke : (v : Point) (m : CountedEdge) → IsSpoke es v m → touches v m ≡ true
  touches_spoke v m spoke = ⊎_elim (λ at. or_left (point_eq m.a v) (point_eq m.b v) (point_eq-of_same m.a v at))
      (λ at. or_right (point_eq m.a v) (point_eq m.b v) (point_eq-of_same m.b v at)) spoke.at

  spoke_that_touches : (v : Point) (m : CountedEdge) → Contains es m → touches v m ≡ true → IsSpoke es v m
  spoke_that_touches v m at test = record {
    entry = at;
    at = ⊎_elim (λ a. inl (point_eq-same m.a v a)) (λ b. inr (point_eq-same m.b v b))
        (or_cases (point_eq m.a v) (point_eq m.b v) test);
  }

  -- of the edges at a node one is met first
  first_spoke : (v u : Point) → ¬ (u ≡ v) → (e : CountedEdge) → IsSpoke es v e → (f : CountedEdge) × IsSpoke es v f ×
      ((m : CountedEdge) → IsSpoke es v m → is_met_before hand v u (far_end v m) (far_end v f) ≡ false)
  first_spoke v u apart e spoke =
      let found = nearest (touches v) (λ m n. is_met_before hand v u (far_end v m) (far_end v n))
      (λ m. met_irreflexive hand v u (far_end v m))
      (λ l m n. met_transitive hand v u (far_end v l) (far_end v m) (far_end v n) apart) es e spoke.entry
      (touches_spoke v e spoke) in (
        found.0,
        spoke_that_touches v found.0 (found.1).among (found.1).passed,
        λ m at. (found.1).first m at.entry (touches_spoke v m at),
      )

  -- t is a side that leaves where s ends, and the hand meets no edge before it
  pub record IsNeighbour (s t : Step) : Type 0 where
    pub side : IsFilledSide fills count es hand t
    pub leaves : t.from ≡ s.to
    pub none : (m : CountedEdge) → IsSpoke es s.to m →
        is_met_before hand s.to s.from (far_end s.to m) t.to ≡ false

  module _ (s : Step) (side : Side s) where
    -- the side as a spoke where it arrives
    arriving : (v : Point) → s.to ≡ v → Arrives count es arranged v side.edge s
    arriving v ends = arrives count es arranged v side.edge s side.along ends

    -- and where it leaves
    leaving : (v : Point) → s.from ≡ v → Leaves count es arranged v side.edge s
    leaving v starts = leaves count es arranged v side.edge s side.along starts

    side_long : ¬ (s.from ≡ s.to)
    side_long = long count es arranged s.to side.edge s side.along

    -- each side has such a neighbour
    pub neighbour : (t : Step) × IsNeighbour s t
    neighbour = (on.0, record { side = on_side; leaves = on.2; none = none_before })
      where
        found : (f : CountedEdge) × IsSpoke es s.to f × ((m : CountedEdge) → IsSpoke es s.to m →
            is_met_before hand s.to s.from (far_end s.to m) (far_end s.to f) ≡ false)
        found = first_spoke s.to s.from side_long side.edge (arriving s.to refl).spoke

        on : (t : Step) × IsStepAlong es found.0 t × (t.from ≡ s.to)
        on = step_leaving count es arranged s.to found.0 found.1

        goes : Leaves count es arranged s.to found.0 on.0
        goes = leaves count es arranged s.to found.0 on.0 on.1 on.2

        not_between : (m : CountedEdge) → IsSpoke es s.to m →
            ¬ (IsMetBefore hand s.to (far_end s.to side.edge) (far_end s.to m) (far_end s.to found.0))
        not_between m spoke h = both_ways
            (is_met_before hand s.to (far_end s.to side.edge) (far_end s.to m) (far_end s.to found.0))
            (subst (λ (p : Point). is_met_before hand s.to p (far_end s.to m) (far_end s.to found.0) ≡ false)
            (sym (arriving s.to refl).far) (found.2 m spoke)) h

        one_winding : winding_on_side hand count es side.edge s ≡ winding_on_side hand count es found.0 on.0
        one_winding = beside_both count es arranged s.to side.edge found.0 s on.0 (arriving s.to refl) goes hand
            not_between

        on_side : IsFilledSide fills count es hand on.0
        on_side = record { edge = found.0; along = on.1; filled = sym (ap fills one_winding) ∙ side.filled }

        none_before : (m : CountedEdge) → IsSpoke es s.to m →
            is_met_before hand s.to s.from (far_end s.to m) (on.0).to ≡ false
        none_before m spoke = subst (λ (r : Point). is_met_before hand s.to s.from (far_end s.to m) r ≡ false)
            goes.far (found.2 m spoke)

  -- two sides that leave one point one way are one
  one_leaves : (s t : Step) → Side s → Side t → s.from ≡ t.from → AreOneWay s.from s.to t.to → s ≡ t
  one_leaves s t side_s side_t same one_way =
      let from_s = leaving s side_s s.from refl in
      let from_t = leaving t side_t s.from (sym same) in
      let one = one_ray_one_spoke count es arranged s.from side_s.edge side_t.edge from_s.spoke from_t.spoke
      (subst (λ (p : Point). AreOneWay s.from p (far_end s.from side_t.edge)) (sym from_s.far)
      (subst (λ (p : Point). AreOneWay s.from s.to p) (sym from_t.far) one_way)) in
      one_step_from count es arranged side_t.edge s t
      (subst (λ (e : CountedEdge). IsStepAlong es e s) one side_s.along) side_t.along same

  -- ---- no two sides have one neighbour

  module _ (v : Point) (e f g : CountedEdge) (spoke_e : IsSpoke es v e) (spoke_f : IsSpoke es v f)
      (spoke_g : IsSpoke es v g) where
    -- two spokes one of which is not met before a third one from the other, and the other way about, are one
    one_before : is_met_before hand v (far_end v e) (far_end v f) (far_end v g) ≡ false →
        is_met_before hand v (far_end v f) (far_end v e) (far_end v g) ≡ false → e ≡ f
    one_before from_e from_f = by (edge_eq (ends_of e) (ends_of f)) refl (edge_eq (ends_of g) (ends_of e)) refl
        (edge_eq (ends_of g) (ends_of f)) refl
      where
        one : (x y : CountedEdge) → IsSpoke es v x → IsSpoke es v y → edge_eq (ends_of x) (ends_of y) ≡ true → x ≡ y
        one x y sx sy same = one_entry es arranged.planar.distinct x y sx.entry sy.entry same

        -- from a spoke another one is met before it comes again
        met_first : (x y : CountedEdge) → IsSpoke es v x → IsSpoke es v y → Apart v (far_end v y) (far_end v x) →
            is_met_before hand v (far_end v x) (far_end v y) (far_end v x) ≡ false → ⊥
        met_first x y sx sy apart not_met = both_ways
            (is_met_before hand v (far_end v x) (far_end v x) (far_end v y))
            (start_is_last hand v (far_end v x) (far_end v y))
            (met_after hand v (far_end v x) (far_end v y) (far_end v x) (far_apart count es arranged v x sx) apart
            not_met)

        by : (i : Bool) → edge_eq (ends_of e) (ends_of f) ≡ i → (j : Bool) → edge_eq (ends_of g) (ends_of e) ≡ j →
            (k : Bool) → edge_eq (ends_of g) (ends_of f) ≡ k → e ≡ f
        by true ef j ge k gf = one e f spoke_e spoke_f ef
        by false ef true ge k gf = absurd (met_first e f spoke_e spoke_f
            (apart_exchanged v (far_end v e) (far_end v f) (spokes_apart count es arranged v e f spoke_e spoke_f ef))
            (subst (λ (x : CountedEdge). is_met_before hand v (far_end v e) (far_end v f) (far_end v x) ≡ false)
            (one g e spoke_g spoke_e ge) from_e))
        by false ef false ge true gf = absurd (met_first f e spoke_f spoke_e
            (spokes_apart count es arranged v e f spoke_e spoke_f ef)
            (subst (λ (x : CountedEdge). is_met_before hand v (far_end v f) (far_end v e) (far_end v x) ≡ false)
            (one g f spoke_g spoke_f gf) from_f))
        by false ef false ge false gf =
            let e_f = spokes_apart count es arranged v e f spoke_e spoke_f ef in
            let g_e = spokes_apart count es arranged v g e spoke_g spoke_e ge in
            let g_f = spokes_apart count es arranged v g f spoke_g spoke_f gf in
            let f_e = apart_exchanged v (far_end v e) (far_end v f) e_f in
            let e_g = apart_exchanged v (far_end v g) (far_end v e) g_e in
            let f_g = apart_exchanged v (far_end v g) (far_end v f) g_f in
            let after_e = met_after hand v (far_end v e) (far_end v f) (far_end v g)
            (far_apart count es arranged v e spoke_e) f_g from_e in
            let after_g = met_shifted hand v (far_end v e) (far_end v g) (far_end v f)
            (record { one = e_g; two = g_f; three = f_e }) after_e in
            let after_f = met_shifted hand v (far_end v g) (far_end v f) (far_end v e)
            (record { one = g_f; two = f_e; three = e_g }) after_g in
            absurd (both_ways (is_met_before hand v (far_end v f) (far_end v e) (far_end v g)) from_f after_f)

  -- sides with one neighbour are one
  one_neighbour : (s t u : Step) → Side s → Side t → IsNeighbour s u → IsNeighbour t u → s ≡ t
  one_neighbour s t u side_s side_t to_s to_t =
      let ends : t.to ≡ s.to = sym to_t.leaves ∙ to_s.leaves in
      let at_s = arriving s side_s s.to refl in
      let at_t = arriving t side_t s.to ends in
      let at_u = leaving u to_s.side s.to to_s.leaves in
      let from_s = subst (λ (p : Point). is_met_before hand s.to p (far_end s.to side_t.edge)
      (far_end s.to (to_s.side).edge) ≡ false) (sym at_s.far)
      (subst (λ (r : Point). is_met_before hand s.to s.from (far_end s.to side_t.edge) r ≡ false) (sym at_u.far)
      (to_s.none side_t.edge at_t.spoke)) in
      let from_t = subst (λ (p : Point). is_met_before hand s.to p (far_end s.to side_s.edge)
      (far_end s.to (to_s.side).edge) ≡ false) (sym at_t.far)
      (subst (λ (r : Point). is_met_before hand s.to t.from (far_end s.to side_s.edge) r ≡ false) (sym at_u.far)
      (subst (λ (w : Point). (m : CountedEdge) → IsSpoke es w m →
      is_met_before hand w t.from (far_end w m) u.to ≡ false) ends to_t.none side_s.edge at_s.spoke)) in
      let one = one_before s.to side_s.edge side_t.edge (to_s.side).edge at_s.spoke at_t.spoke at_u.spoke from_s
      from_t in
      ap reversed_step (one_step_from count es arranged side_t.edge (reversed_step s) (reversed_step t)
      (along_back count es arranged s.to side_t.edge s
      (subst (λ (e : CountedEdge). IsStepAlong es e s) one side_s.along))
      (along_back count es arranged t.to side_t.edge t side_t.along) (sym ends))

  -- ---- next steps

  module _ (steps : List Step) (are : AreFilledSides fills count es hand steps) where
    -- the neighbour is the next step
    pub neighbour_is_next : (s t : Step) → IsNeighbour s t → IsNextStep steps hand s t
    neighbour_is_next s t near = record {
      among = are.all t near.side;
      leaves = near.leaves;
      first = all_of_entries (λ u. u.from ≡ s.to → is_met_before hand s.to s.from u.to t.to ≡ false) steps
          (λ u c starts. let at_u = leaving u (are.sides u c) s.to starts in
          subst (λ (r : Point). is_met_before hand s.to s.from r t.to ≡ false) at_u.far
          (near.none (are.sides u c).edge at_u.spoke));
    }

    steps_long : (s : Step) → Contains steps s → ¬ (s.from ≡ s.to)
    steps_long s c = side_long s (are.sides s c)

    steps_leave : (s t : Step) → Contains steps s → Contains steps t → s.from ≡ t.from → AreOneWay s.from s.to t.to →
        s ≡ t
    steps_leave s t c d = one_leaves s t (are.sides s c) (are.sides t d)

    -- and the next step is the neighbour
    pub next_is_neighbour : (s t : Step) → Contains steps s → IsNextStep steps hand s t → IsNeighbour s t
    next_is_neighbour s t c next =
        let near = neighbour s (are.sides s c) in
        subst (IsNeighbour s) (one_next steps hand steps_long steps_leave s near.0 t c
        (neighbour_is_next s near.0 near.1) next) near.1

    -- so the steps lead on
    pub sides_lead_on : LeadsOn steps hand
    sides_lead_on = record {
      long = steps_long;
      one_leaves = steps_leave;
      goes_on = λ s c. let near = neighbour s (are.sides s c) in
          (near.0, are.all near.0 (near.1).side, (near.1).leaves);
      apart = λ s t u c d to_u from_u. one_neighbour s t u (are.sides s c) (are.sides t d)
          (next_is_neighbour s u c to_u) (next_is_neighbour t u d from_u);
    }

    -- and each next step leads back
    pub sides_lead_back : (backs : List Step) → AreFilledSides fills count es (other_hand hand) backs →
        (s t : Step) → Contains steps s → IsNextStep steps hand s t →
        IsNextStep backs (other_hand hand) (reversed_step t) (reversed_step s)
    sides_lead_back backs are_backs s t c next = record {
      among = are_backs.all (reversed_step s) (record {
        edge = side.edge;
        along = along_back count es arranged s.to side.edge s side.along;
        filled = ap fills (side_of_back count es arranged side.edge s side.along hand) ∙ side.filled;
      });
      leaves = sym near.leaves;
      first = all_of_entries (λ u. u.from ≡ t.from → is_met_before (other_hand hand) t.from t.to u.to s.from ≡ false)
          backs not_before;
    }
      where
        side : Side s
        side = are.sides s c

        near : IsNeighbour s t
        near = next_is_neighbour s t c next

        not_before : (u : Step) → Contains backs u → u.from ≡ t.from →
            is_met_before (other_hand hand) t.from t.to u.to s.from ≡ false
        not_before u d starts = false_from_ne_true (is_met_before (other_hand hand) t.from t.to u.to s.from)
            (λ h. both_ways (is_met_before hand s.to s.from (far_end s.to own.edge) t.to)
            (near.none own.edge at_u.spoke)
            (subst (λ (p : Point). IsMetBefore hand s.to p (far_end s.to own.edge) t.to) at_s.far
            (subst (λ (r : Point). IsMetBefore hand s.to (far_end s.to side.edge) (far_end s.to own.edge) r) at_t.far
            (back_again hand s.to (far_end s.to side.edge) (far_end s.to own.edge) (far_end s.to (near.side).edge)
            (turned_back count es arranged s.to side.edge own.edge (near.side).edge at_s.spoke at_u.spoke at_t.spoke
            (other_hand hand) (met_at h))))))
          where
            own : IsFilledSide fills count es (other_hand hand) u
            own = are_backs.sides u d

            at_s : Arrives count es arranged s.to side.edge s
            at_s = arriving s side s.to refl

            at_t : Leaves count es arranged s.to (near.side).edge t
            at_t = leaving t near.side s.to near.leaves

            at_u : Leaves count es arranged s.to own.edge u
            at_u = leaves count es arranged s.to own.edge u own.along (starts ∙ near.leaves)

            met_at : IsMetBefore (other_hand hand) t.from t.to u.to s.from →
                IsMetBefore (other_hand hand) s.to (far_end s.to (near.side).edge) (far_end s.to own.edge)
                (far_end s.to side.edge)
            met_at h = subst (λ (p : Point). IsMetBefore (other_hand hand) s.to p (far_end s.to own.edge)
                (far_end s.to side.edge)) (sym at_t.far)
                (subst (λ (q : Point). IsMetBefore (other_hand hand) s.to t.to q (far_end s.to side.edge))
                (sym at_u.far)
                (subst (λ (r : Point). IsMetBefore (other_hand hand) s.to t.to u.to r) (sym at_s.far)
                (subst (λ (w : Point). IsMetBefore (other_hand hand) w t.to u.to s.from) near.leaves h)))

-- the laws
pub filled_sides_lead_on : FilledSidesLeadOn
filled_sides_lead_on fills count es arranged hand steps are = sides_lead_on fills count es arranged hand steps are

pub next_sides_lead_back : NextSidesLeadBack
next_sides_lead_back fills count es arranged hand steps backs are are_backs =
    sides_lead_back fills count es arranged hand steps are backs are_backs
