-- Between the anchor of a hole and the next filled-above edge below it no walk that follows a rule has a step. So its
-- steps have equal windings below the anchor and above that edge.
use Rattle.std.proofs.Common.{◌≡◌, ⊎_elim, Bool, true, false, cond, not, ◌&&◌, ℤ, pos, ◌+ℤ◌, ◌-ℤ◌, ◌<ℤ◌, ◌≤ℤ◌, List}
use Rattle.std.proofs.Common.{Contains, refl, sym, ap, ◌∙◌, subst}
use Rattle.std.specs.List.{filter}
use Rattle.std.proofs.lemmas.Bool.{both_ways, and_parts, and_from, false_from_ne_true, not-true}
use Rattle.std.proofs.lemmas.Int.{by_lt_z}
use Rattle.overlay_geom.specs.Plane.{Step, Edge, edge_of, edge_eq}
use Rattle.overlay_geom.specs.Edges.{CountedEdge, ends_of}
use Rattle.overlay_geom.proofs.Signs.{linear}
use Rattle.overlay_geom.proofs.Orders.{edge_eq-from_ends, edge_eq-exchanged}
use Rattle.overlay_plane.specs.Heights.{covers, is_under}
use Rattle.overlay_plane.specs.Regions.{holds_above, holds_below, one_if, selected_sign, total_taken}
use Rattle.overlay_plane.specs.Windings.{total_under}
use Rattle.overlay_plane.specs.BesideOrbits.{count_on, winding_under, winding_over, IsBalancedPart}
use Rattle.overlay_plane.specs.Contours.{all_steps, is_filled_above}
use Rattle.overlay_plane.specs.Anchors.{is_below_anchor}
use Rattle.overlay_plane.specs.Binding.{all_filled_above, IsNextWalk}
use Rattle.overlay_plane.specs.Turn.{Hand}
use Rattle.overlay_plane.proofs.BelowHoles.{below_is, own, anchor_is, anchor_over, holds_there}
use Rattle.overlay_plane.proofs.BetweenEdges.{under_parted, below_is_above, each_zero}
use Rattle.overlay_plane.proofs.Entries.{Contains-flat_map, Contains-from_map, Contains-from_filter}
use Rattle.overlay_plane.proofs.HoleWindings.{HasEmptyAbove}
use Rattle.overlay_plane.proofs.LowerEdges.{lower_at_is_under}
use Rattle.overlay_plane.proofs.OrderLaws.{order_over_an_abscissa}
use Rattle.overlay_plane.proofs.RegionBelow.{region_below_an_edge}
use Rattle.overlay_plane.proofs.RuledWalks.{FollowRule, IsFilledBeside, above_kept, above_listed, one_or_meet}
use Rattle.overlay_plane.proofs.SelectedAlternate.{one_if_rises}
use Rattle.overlay_plane.proofs.SingleEntries.{one_entry}
use Rattle.overlay_plane.proofs.StepTotals.{unwalked_counts_nothing}
use Rattle.overlay_plane.proofs.WalksOfCuts.{IsEdgeOf}

-- where two truths count alike, each follows from the other
same_truth : (u v : Bool) → one_if u -ℤ one_if v ≡ pos 0 → v ≡ true → u ≡ true
same_truth true v none is = refl
same_truth false true none is = absurd (omega linear)
same_truth false false none is = is

-- a number not above 0 is at most 0
not_above : (z : ℤ) → ¬ (pos 0 <ℤ z) → z ≤ℤ pos 0
not_above z h = by_lt_z (pos 0) z (λ more. absurd (h more)) (λ le. le)

-- a term that is taken, or 0
at_most_taken : (t : Bool) (z : ℤ) → (t ≡ true → z ≤ℤ pos 0) → cond t z (pos 0) ≤ℤ pos 0
at_most_taken true z h = h refl
at_most_taken false z h = omega linear

module _ (holds : ℤ → ℤ → Bool) (subj clip : CountedEdge → ℤ) (es : List CountedEdge) (filled : Hand)
    (walks : List (List Step)) (follow : FollowRule holds subj clip es filled walks) (hole next : List Step)
    (at : Contains walks hole) (n : IsNextWalk filled walks hole next) (empty : HasEmptyAbove filled hole n.anchor)
  where
    -- the x-coordinate of the anchor
    abbrev x : ℤ
    x = n.anchor.a.x

    -- the anchor's entry, below which the rule holds
    abbrev upper : IsFilledBeside holds subj clip es filled empty.step
    upper = own holds subj clip es filled walks follow hole at n.anchor n.anchored empty

    abbrev e : CountedEdge
    e = upper.entry

    own_is : n.anchor ≡ ends_of e
    own_is = anchor_is holds subj clip es filled walks follow hole at n.anchor n.anchored empty

    over_e : covers (ends_of e) x (pos 1) ≡ true
    over_e = anchor_over holds subj clip es filled walks follow hole at n.anchor n.anchored empty

    -- the step along the next edge
    found : (s : Step) × Contains (filter (is_filled_above filled) next) s × (edge_of s ≡ n.edge)
    found = Contains-from_map edge_of (filter (is_filled_above filled) next) n.edge n.has

    found_parts : Contains next found.0 × (is_filled_above filled found.0 ≡ true)
    found_parts = Contains-from_filter (is_filled_above filled) next found.0 found.1

    -- its entry, above which the rule holds
    low : IsFilledBeside holds subj clip es filled found.0
    low = follow.beside found.0 (Contains-flat_map (λ (w : List Step). w) walks next found.0 n.kept found_parts.0)

    abbrev g : CountedEdge
    g = low.entry

    edge_found : n.edge ≡ ends_of g
    edge_found = sym found.2 ∙ low.ends

    holds_here : holds_above holds subj clip es g ≡ true
    holds_here = subst (λ t. cond t (holds_above holds subj clip es g) (holds_below holds subj clip es g) ≡ true)
        found_parts.1 low.there

    -- an edge of the list is below the anchor exactly where it is under it
    below_there : (f : Edge) → IsEdgeOf es f → is_below_anchor n.anchor f ≡
        (covers f x (pos 1) && is_under f (ends_of e) x (pos 1))
    below_there f of_f = below_is holds subj clip es filled walks follow hole at n.anchor n.anchored f of_f
        ∙ ap (λ k. covers f x (pos 1) && is_under f k x (pos 1)) own_is

    g_parts : (covers n.edge x (pos 1) ≡ true) × (is_under n.edge (ends_of e) x (pos 1) ≡ true)
    g_parts = and_parts (covers n.edge x (pos 1)) (is_under n.edge (ends_of e) x (pos 1))
        (sym (below_there n.edge (above_listed holds subj clip es filled walks follow n.edge n.next_below.among))
        ∙ n.next_below.below)

    over_g : covers (ends_of g) x (pos 1) ≡ true
    over_g = subst (λ (k : Edge). covers k x (pos 1) ≡ true) edge_found g_parts.0

    lower : is_under (ends_of g) (ends_of e) x (pos 1) ≡ true
    lower = subst (λ (k : Edge). is_under k (ends_of e) x (pos 1) ≡ true) edge_found g_parts.1

    -- the edge is between the two
    abbrev between : CountedEdge → Bool
    between f = (covers (ends_of f) x (pos 1) && is_under (ends_of f) (ends_of e) x (pos 1))
        && not (covers (ends_of f) x (pos 1) && is_under (ends_of f) (ends_of g) x (pos 1))
        && not (edge_eq (ends_of f) (ends_of g))

    abbrev sign : CountedEdge → ℤ
    sign f = selected_sign holds subj clip es f

    -- no walk has it filled above
    none_above : (f : CountedEdge) → Contains es f → between f ≡ true →
        ¬ (Contains (all_filled_above filled walks) (ends_of f))
    none_above f c is kept = ⊎_elim
        (λ under. both_ways (is_under (ends_of g) (ends_of f) x (pos 1)) not_under under)
        (λ under. both_ways (covers (ends_of f) x (pos 1) && is_under (ends_of f) (ends_of g) x (pos 1))
        (not-true (covers (ends_of f) x (pos 1) && is_under (ends_of f) (ends_of g) x (pos 1)) inner.1)
        (and_from (covers (ends_of f) x (pos 1)) (is_under (ends_of f) (ends_of g) x (pos 1)) over_f under))
        ((order_over_an_abscissa es follow.ruled.planar.settled x (pos 1) (record { lt = tt })).total g f
        (record { entry = low.among; over = over_g }) (record { entry = c; over = over_f })
        (false_from_ne_true (edge_eq (ends_of g) (ends_of f)) (λ same. both_ways (edge_eq (ends_of f) (ends_of g))
        (not-true (edge_eq (ends_of f) (ends_of g)) outer.1) (edge_eq-exchanged (ends_of g) (ends_of f) same))))
      where
        -- f is under e and not under g, and it is not g
        outer : (((covers (ends_of f) x (pos 1) && is_under (ends_of f) (ends_of e) x (pos 1))
            && not (covers (ends_of f) x (pos 1) && is_under (ends_of f) (ends_of g) x (pos 1))) ≡ true) ×
            (not (edge_eq (ends_of f) (ends_of g)) ≡ true)
        outer = and_parts ((covers (ends_of f) x (pos 1) && is_under (ends_of f) (ends_of e) x (pos 1))
            && not (covers (ends_of f) x (pos 1) && is_under (ends_of f) (ends_of g) x (pos 1)))
            (not (edge_eq (ends_of f) (ends_of g))) is

        inner : ((covers (ends_of f) x (pos 1) && is_under (ends_of f) (ends_of e) x (pos 1)) ≡ true) ×
            (not (covers (ends_of f) x (pos 1) && is_under (ends_of f) (ends_of g) x (pos 1)) ≡ true)
        inner = and_parts (covers (ends_of f) x (pos 1) && is_under (ends_of f) (ends_of e) x (pos 1))
            (not (covers (ends_of f) x (pos 1) && is_under (ends_of f) (ends_of g) x (pos 1))) outer.0

        over_f : covers (ends_of f) x (pos 1) ≡ true
        over_f = (and_parts (covers (ends_of f) x (pos 1)) (is_under (ends_of f) (ends_of e) x (pos 1)) inner.0).0

        of_f : IsEdgeOf es (ends_of f)
        of_f = record { entry = f; among = c; ends = refl }

        -- so the next edge is not under it
        not_under : is_under (ends_of g) (ends_of f) x (pos 1) ≡ false
        not_under = subst (λ (k : Edge). is_under k (ends_of f) x (pos 1) ≡ false) edge_found
            (sym (lower_at_is_under n.edge (ends_of f)
            (one_or_meet holds subj clip es filled walks follow n.edge (ends_of f)
            (above_listed holds subj clip es filled walks follow n.edge n.next_below.among) of_f) x g_parts.0 over_f)
            ∙ n.next_below.greatest (ends_of f) kept (below_there (ends_of f) of_f ∙ inner.0))

    -- so the rule does not hold above it alone
    none_rises : (f : CountedEdge) → Contains es f → between f ≡ true → ¬ (pos 0 <ℤ sign f)
    none_rises f c is rises =
        let change = one_if_rises (holds_above holds subj clip es f) (holds_below holds subj clip es f) rises in
        none_above f c is (follow.rising f c change.0 change.1)

    -- the signs between add up to 0
    signs_between : total_taken between sign es ≡ pos 0
    signs_between =
        let parts = under_signs in
        let above = region_below_an_edge holds subj clip es follow.ruled e upper.among x (pos 1) (record { lt = tt })
        over_e ∙ ap one_if (holds_there holds subj clip es filled walks follow hole at n.anchor n.anchored empty) in
        let below = region_below_an_edge holds subj clip es follow.ruled g low.among x (pos 1) (record { lt = tt })
        over_g in
        let own : one_if (holds_above holds subj clip es g) ≡ pos 1 = ap one_if holds_here in
        omega linear
      where
        under_signs : total_under ends_of sign es (ends_of e) x (pos 1) ≡
            (total_under ends_of sign es (ends_of g) x (pos 1) +ℤ sign g) +ℤ total_taken between sign es
        under_signs = under_parted es e g upper.among low.among x over_e over_g lower sign follow.ruled.planar.distinct

    -- so each is 0
    no_sign : (f : CountedEdge) → Contains es f → between f ≡ true → sign f ≡ pos 0
    no_sign f c is = subst (λ t. cond t (sign f) (pos 0) ≡ pos 0) is
        (each_zero (λ k. cond (between k) (sign k) (pos 0)) es
        (λ k d. at_most_taken (between k) (sign k) (λ t. not_above (sign k) (none_rises k d t))) signs_between f c)

    -- and no step walks along an edge between: the rule would hold on its filled side, and so on both sides
    none_between : (f : CountedEdge) → Contains es f → between f ≡ true → (s : Step) → Contains (all_steps walks) s →
        ¬ (edge_of s ≡ ends_of f)
    none_between f c is s d along = by (is_filled_above filled s) refl
      where
        own : IsFilledBeside holds subj clip es filled s
        own = follow.beside s d

        one : own.entry ≡ f
        one = let ends = sym own.ends ∙ along in
            one_entry es follow.ruled.planar.distinct own.entry f own.among c
            (edge_eq-from_ends (ends_of own.entry) (ends_of f) (ap (λ k. k.a) ends) (ap (λ k. k.b) ends))

        by : (t : Bool) → is_filled_above filled s ≡ t → ⊥
        by true over = none_above f c is (subst (Contains (all_filled_above filled walks)) along
            (above_kept filled walks s d over))
        by false over = none_above f c is (follow.passed f c
            (same_truth (holds_above holds subj clip es f) (holds_below holds subj clip es f) (no_sign f c is)
            (subst (λ (k : CountedEdge). holds_below holds subj clip es k ≡ true) one
            (subst (λ t. cond t (holds_above holds subj clip es own.entry) (holds_below holds subj clip es own.entry)
            ≡ true) over own.there))) s d along)

    -- some of the steps have equal windings there
    pub alike_above_next : (steps taken : List Step) → ((s : Step) → Contains taken s → Contains (all_steps walks) s) →
        IsBalancedPart es steps taken → winding_under es taken n.anchor ≡ winding_over es taken n.edge
    alike_above_next steps taken inside part =
        ap (λ k. winding_under es taken k) own_is
        ∙ below_is_above es e g upper.among low.among x over_e over_g lower (count_on taken)
        (record { planar = follow.ruled.planar; balanced = part.balanced })
        (λ f c is. unwalked_counts_nothing taken f (λ s d along. none_between f c is s (inside s d) along))
        ∙ ap (λ k. winding_over es taken k) (sym edge_found)
