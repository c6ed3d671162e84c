-- An orbit has equal windings beside two steps that it leaves and that meet. Between these two spokes of their node it
-- has with each arriving step the step that leaves next, or neither.
use Rattle.std.proofs.Common.{◌≡◌, ⊎_elim, ℕ, suc, Bool, true, false, cond, ◌&&◌, ℤ, pos, negsuc, ◌+ℤ◌, ◌-ℤ◌, ◌*ℤ◌}
use Rattle.std.proofs.Common.{neg_ℤ}
use Rattle.std.proofs.Common.{List, Contains, refl, sym, ap, ◌∙◌, subst}
use Rattle.std.proofs.lemmas.Bool.{false≢true, and_parts, false_from_ne_true}
use Rattle.std.proofs.lemmas.List.Elements.{All-contains}
use lib.IntN.{*ℤ-zero, +ℤ_idr}
use Rattle.overlay_geom.specs.Plane.{Point, Step, Edge, point_eq, edge_eq, is_forward, edge_of, sign_of}
use Rattle.overlay_geom.specs.Edges.{CountedEdge, ends_of}
use Rattle.overlay_geom.proofs.Identities.{solve, number, ◌⊗◌, ◌⊖◌, ◌≗◌}
use Rattle.overlay_geom.proofs.Signs.{linear}
use Rattle.overlay_geom.proofs.Orders.{point_eq-same, edge_eq-same}
use Rattle.overlay_plane.specs.Turn.{Hand, IsNextStep, IsOrbit, step_round, no_step, is_met_before}
use Rattle.overlay_plane.specs.Turn.Hand.{left, right}
use Rattle.overlay_plane.specs.Alternates.{Alternates}
use Rattle.overlay_plane.specs.Nodes.{IsBalancedArrangement}
use Rattle.overlay_plane.specs.Regions.{one_if}
use Rattle.overlay_plane.specs.Rays.{Apart}
use Rattle.overlay_plane.specs.Spokes.{IsSpoke, far_end, spoke_count, total_between, winding_after}
use Rattle.overlay_plane.specs.BesideOrbits.{count_on, winding_beside, WalksAlong, IsBalancedPart}
use Rattle.overlay_plane.specs.ShapesAlone.{OneWindingPastOrbits}
use Rattle.overlay_plane.specs.WindingsBeside.{IsStepAlong}
use Rattle.overlay_plane.proofs.AtNodes.{no_way_back}
use Rattle.overlay_plane.proofs.BalancedSteps.{orbits_are_balanced}
use Rattle.overlay_plane.proofs.BesideAcross.{one_of_two, winding_across_alternating_steps}
use Rattle.overlay_plane.proofs.CountedSteps.{numbers_counted}
use Rattle.overlay_plane.proofs.EdgesOfSteps.{along_or_back, one_side, edge_by}
use Rattle.overlay_plane.proofs.ItemsRound.{Contains-item_round}
use Rattle.overlay_plane.proofs.NextSteps.{next_is_one_to_one}
use Rattle.overlay_plane.proofs.NextWindings.{Arrives, Leaves, arrives, leaves}
use Rattle.overlay_plane.proofs.OrbitSteps.{goes_on_round}
use Rattle.overlay_plane.proofs.RoundNodes.{winding_round_a_node}
use Rattle.overlay_plane.proofs.RoundWalks.{total_round}
use Rattle.overlay_plane.proofs.SameSector.{FourApart, neighbours_alike}
use Rattle.overlay_plane.proofs.SpokeRays.{spokes_apart}
use Rattle.overlay_plane.proofs.Totals.{total-same}

-- ---- the count of a step at a node

-- the count of an edge from u to w at a node: 1 where it starts there and its far end passes, -1 where it ends there
-- and its far end passes
abbrev at_node : (starts ends there here : Bool) → ℤ
at_node starts ends there here = cond (cond starts there here) (cond starts (pos 1) (cond ends (negsuc 0) (pos 0)))
    (pos 0)

-- of a step: with its sign this is whether it leaves the node to a point that passes, less whether it arrives from one
step_at_node : (forward from to passes_to passes_from : Bool) → (from && to) ≡ false →
    cond forward (pos 1) (negsuc 0) *ℤ cond forward (at_node from to passes_to passes_from)
    (at_node to from passes_from passes_to) ≡
    cond from (one_if passes_to) (pos 0) -ℤ cond to (one_if passes_from) (pos 0)
step_at_node forward true true i j none = absurd (false≢true (sym none))
step_at_node true true false true j none = refl
step_at_node true true false false j none = refl
step_at_node true false true i true none = refl
step_at_node true false true i false none = refl
step_at_node true false false i true none = refl
step_at_node true false false i false none = refl
step_at_node false true false true j none = refl
step_at_node false true false false j none = refl
step_at_node false false true i true none = refl
step_at_node false false true i false none = refl
step_at_node false false false true j none = refl
step_at_node false false false false j none = refl

-- a count that is taken so at a node
count_at_node : (t starts ends : Bool) (c : ℤ) → cond t (cond starts c (cond ends (neg_ℤ c) (pos 0))) (pos 0) ≡
    c *ℤ cond t (cond starts (pos 1) (cond ends (negsuc 0) (pos 0))) (pos 0)
count_at_node true true e c = solve 1 (λ a. a ≗ a ⊗ number (pos 1)) tt c
count_at_node true false true c = by (neg_ℤ c) (c *ℤ negsuc 0) (omega linear) (solve 1 (λ a. a ⊗ number (negsuc 0) ≗
    number (pos 0) ⊖ a) tt c)
  where
    by : (x y : ℤ) → x ≡ pos 0 -ℤ c → y ≡ pos 0 -ℤ c → x ≡ y
    by x y p q = p ∙ sym q
count_at_node true false false c = sym (*ℤ-zero c)
count_at_node false s e c = sym (*ℤ-zero c)

module _ (es : List CountedEdge) (steps : List Step) (along : WalksAlong es steps) (alternates : Alternates steps)
    (hand : Hand) (walk : List Step) (orbit : IsOrbit steps hand walk) where
  part : IsBalancedPart es steps walk
  part = orbits_are_balanced es steps along hand walk orbit

  arranged : IsBalancedArrangement (count_on walk) es
  arranged = record { planar = along.planar; balanced = part.balanced }

  -- the entry of a step of the set
  entry_of : (s : Step) → Contains steps s → CountedEdge
  entry_of s c = (along.along s c).0

  along_it : (s : Step) (c : Contains steps s) → IsStepAlong es (entry_of s c) s
  unfolding entry_of
  along_it s c = record { entry = (along.along s c).1; walks = along_or_back s (along.along s c).0 (along.along s c).2 }

  edge_is : (s : Step) (c : Contains steps s) → edge_of s ≡ ends_of (entry_of s c)
  unfolding entry_of
  edge_is s c = (along.along s c).2

  -- two steps that neither are one nor lead back along each other have different edges
  edges_differ : (s t : Step) (c : Contains steps s) (d : Contains steps t) → ¬ (s ≡ t) →
      edge_eq (ends_of (entry_of s c)) (ends_of (entry_of t d)) ≡ false
  edges_differ s t c d apart = false_from_ne_true (edge_eq (ends_of (entry_of s c)) (ends_of (entry_of t d)))
      (λ same. ⊎_elim apart
      (λ back. no_way_back steps alternates s t c d (ap (λ u. u.from) back) (ap (λ u. u.to) back))
      (one_of_two s t (edge_is s c ∙ edge_eq-same (ends_of (entry_of s c)) (ends_of (entry_of t d)) same
      ∙ sym (edge_is t d))))

  module _ (v : Point) (e g : CountedEdge) where
    -- whether a ray from e meets a point before g
    abbrev passes : Point → Bool
    passes r = is_met_before right v (far_end v e) r (far_end v g)

    -- the count of an edge between the two
    abbrev number_of : Edge → ℤ
    number_of k = at_node (point_eq k.a v) (point_eq k.b v) (passes k.b) (passes k.a)

    -- the numbers of the start and the end of a step
    abbrev begins : Step → ℤ
    begins s = cond (point_eq s.from v) (one_if (passes s.to)) (pos 0)

    abbrev ends : Step → ℤ
    ends s = cond (point_eq s.to v) (one_if (passes s.from)) (pos 0)

    -- a test of the far end
    far_test : (m : CountedEdge) → passes (far_end v m) ≡ cond (point_eq m.a v) (passes m.b) (passes m.a)
    far_test m = by (point_eq m.a v)
      where
        by : (t : Bool) → passes (cond t m.b m.a) ≡ cond t (passes m.b) (passes m.a)
        by true = refl
        by false = refl

    counted : (m : CountedEdge) → cond (passes (far_end v m)) (spoke_count (count_on walk) v m) (pos 0) ≡
        count_on walk m *ℤ number_of (ends_of m)
    counted m = ap (λ t. cond t (spoke_count (count_on walk) v m) (pos 0)) (far_test m)
        ∙ count_at_node (cond (point_eq m.a v) (passes m.b) (passes m.a)) (point_eq m.a v) (point_eq m.b v)
        (count_on walk m)

    -- a step's number, with its sign
    signed : (s : Step) → Contains walk s → sign_of s *ℤ number_of (edge_of s) ≡ begins s -ℤ ends s
    signed s c = ap (λ z. sign_of s *ℤ z) (by (is_forward s))
        ∙ step_at_node (is_forward s) (point_eq s.from v) (point_eq s.to v) (passes s.to) (passes s.from)
        (false_from_ne_true (point_eq s.from v && point_eq s.to v) (λ both. alternates.long s (part.inside s c)
        (let parts = and_parts (point_eq s.from v) (point_eq s.to v) both in
        point_eq-same s.from v parts.0 ∙ sym (point_eq-same s.to v parts.1))))
      where
        by : (t : Bool) → number_of (edge_by t s) ≡ cond t
            (at_node (point_eq s.from v) (point_eq s.to v) (passes s.to) (passes s.from))
            (at_node (point_eq s.to v) (point_eq s.from v) (passes s.from) (passes s.to))
        by true = refl
        by false = refl

    -- nothing counts between, if each step of the walk ends with the start number of the next
    nothing_between : ((k : ℕ) → begins (step_round walk (suc k)) ≡ ends (step_round walk k)) →
        total_between (spoke_count (count_on walk) v) es v e g ≡ pos 0
    nothing_between round =
        total-same (λ m. cond (passes (far_end v m)) (spoke_count (count_on walk) v m) (pos 0))
        (λ m. count_on walk m *ℤ number_of (ends_of m)) es (λ m c. counted m)
        ∙ numbers_counted es steps along walk part.inside number_of
        ∙ total-same (λ s. sign_of s *ℤ number_of (edge_of s)) (λ s. begins s -ℤ ends s) walk signed
        ∙ total_round begins ends walk round

  module _ (s t : Step) (at_s : Contains steps s) (at_t : Contains steps t) (off_s : ¬ (Contains walk s))
      (off_t : ¬ (Contains walk t)) (meet : s.to ≡ t.from) where
    -- the node, and the two spokes
    abbrev v : Point
    v = s.to

    abbrev e : CountedEdge
    e = entry_of s at_s

    abbrev g : CountedEdge
    g = entry_of t at_t

    arriving : Arrives (count_on walk) es arranged v e s
    arriving = arrives (count_on walk) es arranged v e s (along_it s at_s) refl

    leaving : Leaves (count_on walk) es arranged v g t
    leaving = leaves (count_on walk) es arranged v g t (along_it t at_t) (sym meet)

    -- they are two
    two : ¬ (s ≡ t)
    two same = alternates.long s at_s (ap (λ u. u.from) same ∙ sym meet)

    module _ (a b : Step) (in_a : Contains walk a) (in_b : Contains walk b) (next : IsNextStep steps hand a b)
        (here : a.to ≡ v) where
      at_a : Contains steps a
      at_a = part.inside a in_a

      at_b : Contains steps b
      at_b = part.inside b in_b

      from_a : Arrives (count_on walk) es arranged v (entry_of a at_a) a
      from_a = arrives (count_on walk) es arranged v (entry_of a at_a) a (along_it a at_a) here

      to_b : Leaves (count_on walk) es arranged v (entry_of b at_b) b
      to_b = leaves (count_on walk) es arranged v (entry_of b at_b) b (along_it b at_b) (next.leaves ∙ here)

      apart_of : (m n : CountedEdge) (x y : Point) → IsSpoke es v m → IsSpoke es v n → far_end v m ≡ x →
          far_end v n ≡ y → edge_eq (ends_of m) (ends_of n) ≡ false → Apart v x y
      apart_of m n x y spoke_m spoke_n far_x far_y differ =
          subst (λ z. Apart v x z) far_y (subst (λ z. Apart v z (far_end v n)) far_x
          (spokes_apart (count_on walk) es arranged v m n spoke_m spoke_n differ))

      four : FourApart v a.from b.to (far_end v e) (far_end v g)
      four = record {
        ab = apart_of (entry_of a at_a) (entry_of b at_b) a.from b.to from_a.spoke to_b.spoke from_a.far to_b.far
            (edges_differ a b at_a at_b (λ same. alternates.long a at_a (ap (λ u. u.from) same ∙ next.leaves)));
        ap = apart_of (entry_of a at_a) e a.from (far_end v e) from_a.spoke arriving.spoke from_a.far refl
            (edges_differ a s at_a at_s (λ same. off_s (subst (Contains walk) same in_a)));
        aq = apart_of (entry_of a at_a) g a.from (far_end v g) from_a.spoke leaving.spoke from_a.far refl
            (edges_differ a t at_a at_t (λ same. off_t (subst (Contains walk) same in_a)));
        bp = apart_of (entry_of b at_b) e b.to (far_end v e) to_b.spoke arriving.spoke to_b.far refl
            (edges_differ b s at_b at_s (λ same. off_s (subst (Contains walk) same in_b)));
        bq = apart_of (entry_of b at_b) g b.to (far_end v g) to_b.spoke leaving.spoke to_b.far refl
            (edges_differ b t at_b at_t (λ same. off_t (subst (Contains walk) same in_b)));
        pq = apart_of e g (far_end v e) (far_end v g) arriving.spoke leaving.spoke refl refl
            (edges_differ s t at_s at_t two);
      }

      -- s and t are not between a and b
      past_s : is_met_before hand v a.from (far_end v e) b.to ≡ false
      past_s = subst (λ z. is_met_before hand v a.from z b.to ≡ false) (sym arriving.far)
          (subst (λ (z : Point). is_met_before hand z a.from s.from b.to ≡ false) here
          ((next_is_one_to_one steps alternates hand).neighbours a b s at_a next at_s (sym here)))

      past_t : is_met_before hand v a.from (far_end v g) b.to ≡ false
      past_t = subst (λ z. is_met_before hand v a.from z b.to ≡ false) (sym leaving.far)
          (subst (λ (z : Point). is_met_before hand z a.from t.to b.to ≡ false) here
          (All-contains (λ (u : Step). u.from ≡ a.to → is_met_before hand a.to a.from u.to b.to ≡ false) steps t
          next.first at_t (sym meet ∙ sym here)))

      -- both a and b are between them, or neither is
      both_or_none : passes v e g a.from ≡ passes v e g b.to
      both_or_none = neighbours_alike hand v a.from b.to (far_end v e) (far_end v g) four past_s past_t

    -- each step of the walk ends with the start number of the next
    linked : (k : ℕ) → begins v e g (step_round walk (suc k)) ≡ ends v e g (step_round walk k)
    linked k = ap (λ z. cond (point_eq z v) (one_if (passes v e g b.to)) (pos 0)) next.leaves
        ∙ by (point_eq a.to v) refl
      where
        a : Step
        a = step_round walk k

        b : Step
        b = step_round walk (suc k)

        next : IsNextStep steps hand a b
        next = goes_on_round steps hand walk orbit k

        by : (z : Bool) → point_eq a.to v ≡ z →
            cond z (one_if (passes v e g b.to)) (pos 0) ≡ cond z (one_if (passes v e g a.from)) (pos 0)
        by true is = ap one_if (sym (both_or_none a b (Contains-item_round walk no_step k orbit.some)
            (Contains-item_round walk no_step (suc k) orbit.some) next (point_eq-same a.to v is)))
        by false is = refl

    -- on the right the walk winds alike
    on_right : winding_beside right es walk s ≡ winding_beside right es walk t
    on_right = one_side s e (edge_is s at_s) (alternates.long s at_s) es walk right
        ∙ arriving.on_right
        ∙ sym (+ℤ_idr (winding_after (count_on walk) es v e))
        ∙ ap (λ z. winding_after (count_on walk) es v e +ℤ z) (sym (nothing_between v e g linked))
        ∙ winding_round_a_node (count_on walk) es arranged v e g arriving.spoke leaving.spoke
        ∙ sym leaving.on_right
        ∙ sym (one_side t g (edge_is t at_t) (alternates.long t at_t) es walk right)

    -- the winding on the left is equal too, since it takes neither step
    pub alike : (side : Hand) → winding_beside side es walk s ≡ winding_beside side es walk t
    alike right = on_right
    alike left =
        let across = winding_across_alternating_steps es steps walk alternates part.inside in
        across.stays s at_s off_s ∙ on_right ∙ sym (across.stays t at_t off_t)

-- the law
pub one_winding_past_orbits : OneWindingPastOrbits
one_winding_past_orbits es steps along alternates hand walk orbit s t at_s at_t off_s off_t meet =
    alike es steps along alternates hand walk orbit s t at_s at_t off_s off_t meet
