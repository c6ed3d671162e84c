-- The winding before a spoke is the winding at the node plus the counts of earlier spokes. A ray that turns
-- counterclockwise from straight down meets these before the spoke.
use Rattle.std.proofs.Common.{◌≡◌, ⊎_elim, Bool, true, false, cond, ◌&&◌, ◌||◌, ℤ, pos, ◌+ℤ◌, ◌-ℤ◌, neg_ℤ, List}
use Rattle.std.proofs.Common.{Contains, refl, sym, ap, ◌∙◌, subst}
use Rattle.std.proofs.lemmas.Bool.{false≢true, false_from_ne_true}
use Rattle.std.proofs.lemmas.List.Elements.{All-contains}
use Rattle.overlay_geom.specs.Plane.{Point, Edge, in_plane, point_lt, point_eq, edge_eq, total}
use Rattle.overlay_geom.specs.Edges.{CountedEdge, ends_of, winding_by, winding_below, winding_above}
use Rattle.overlay_geom.proofs.Signs.{linear, by_sign}
use Rattle.overlay_geom.proofs.Orders.{point_eq-same, edge_eq-same, point_eq-of_same, edge_eq-exchanged}
use Rattle.overlay_plane.specs.Nodes.{IsBalancedArrangement, edge_turn, turns_left, total_starting, total_ending}
use Rattle.overlay_plane.specs.Spokes.{IsSpoke, winding_before, winding_after, spoke_count}
use Rattle.overlay_plane.proofs.Tests.{test_from_lt, test_from_ge}
use Rattle.overlay_plane.proofs.Totals.{total-same, total-add, total-sub}
use Rattle.overlay_plane.proofs.NodeWindings.{winding_from_a_start, winding_from_an_end, node_is_balanced}
use Rattle.overlay_plane.proofs.SameWay.{ends_differ, same_from_end}
use Rattle.overlay_plane.proofs.SingleEntries.{single_total}
use Rattle.overlay_plane.proofs.EdgeTurns.{IsForward, edge_turn_exchanged, edge_turn_same}
use Rattle.overlay_plane.proofs.JoinedLists.{nothing_taken}
use Rattle.overlay_plane.proofs.SpokeSigns.{first_from_down}

-- a ray that turns counterclockwise from straight down meets g before e
abbrev pub is_first_from_down : Point → CountedEdge → CountedEdge → Bool
is_first_from_down v g e = first_from_down (point_eq g.a v) (point_eq e.a v) (turns_left (ends_of g) (ends_of e))

-- the counts of the spokes met before e, summed
abbrev pub total_first : (CountedEdge → ℤ) → List CountedEdge → Point → CountedEdge → ℤ
total_first count es v e = total (λ g. cond (is_first_from_down v g e) (spoke_count count v g) (pos 0)) es

-- an entry of an arrangement leads forward
pub forward_entry : (count : CountedEdge → ℤ) (es : List CountedEdge) → IsBalancedArrangement count es →
    (f : CountedEdge) → Contains es f → IsForward (ends_of f)
forward_entry count es arranged f at = All-contains (λ h. point_lt (ends_of h).a (ends_of h).b ≡ true) es f
    arranged.planar.forward at

-- an edge that starts in v does not end there
not_both_ends : (v : Point) (e : CountedEdge) → IsForward (ends_of e) → point_eq e.a v ≡ true → point_eq e.b v ≡ false
not_both_ends v e forward starts = false_from_ne_true (point_eq e.b v)
    (λ ends. ends_differ (ends_of e) forward (point_eq-same e.a v starts ∙ sym (point_eq-same e.b v ends)))

-- a spoke that does not start in v ends there
pub ends_there : (es : List CountedEdge) (v : Point) (e : CountedEdge) → IsSpoke es v e → point_eq e.a v ≡ false →
    e.b ≡ v
ends_there es v e spoke other = ⊎_elim (λ starts. absurd (false≢true (sym other ∙ point_eq-of_same e.a v starts)))
    (λ ends. ends) spoke.at

-- an edge that ends in v does not start there
pub not_start : (count : CountedEdge → ℤ) (es : List CountedEdge) → IsBalancedArrangement count es →
    (v : Point) (e : CountedEdge) → Contains es e → e.b ≡ v → point_eq e.a v ≡ false
not_start count es arranged v e at same = false_from_ne_true (point_eq e.a v)
    (λ starts. ends_differ (ends_of e) (forward_entry count es arranged e at) (point_eq-same e.a v starts ∙ sym same))

-- a count where two tests pass, read by the first
cond_beside : (h t : Bool) (c d : ℤ) → cond (h && t) c (pos 0) ≡ cond (h && t) (cond h c d) (pos 0)
cond_beside true t c d = refl
cond_beside false t c d = refl

module _ (count : CountedEdge → ℤ) (es : List CountedEdge) (arranged : IsBalancedArrangement count es) (v : Point) where
  -- the counts round a node add up to 0
  pub spokes_add_up : total (spoke_count count v) es ≡ pos 0
  spokes_add_up = total-same (spoke_count count v)
      (λ g. cond (point_eq g.a v) (count g) (pos 0) -ℤ cond (point_eq g.b v) (count g) (pos 0)) es
      (λ g at. each g (forward_entry count es arranged g at) (point_eq g.a v) refl (point_eq g.b v) refl)
      ∙ total-sub (λ g. cond (point_eq g.a v) (count g) (pos 0)) (λ g. cond (point_eq g.b v) (count g) (pos 0)) es
      ∙ level (total_starting count es v) (total_ending count es v) (node_is_balanced count es arranged.balanced v)
    where
      level : (a b : ℤ) → a ≡ b → a -ℤ b ≡ pos 0
      level a b e = omega linear

      less_nothing : (c : ℤ) → c ≡ c -ℤ pos 0
      less_nothing c = omega linear

      from_nothing : (c : ℤ) → neg_ℤ c ≡ pos 0 -ℤ c
      from_nothing c = omega linear

      each : (g : CountedEdge) → IsForward (ends_of g) → (s : Bool) → point_eq g.a v ≡ s →
          (t : Bool) → point_eq g.b v ≡ t →
          cond s (count g) (cond t (neg_ℤ (count g)) (pos 0)) ≡ cond s (count g) (pos 0) -ℤ cond t (count g) (pos 0)
      each g forward true starts true ends = absurd (false≢true (sym (not_both_ends v g forward starts) ∙ ends))
      each g forward true starts false ends = less_nothing (count g)
      each g forward false starts true ends = from_nothing (count g)
      each g forward false starts false ends = refl

  module _ (e : CountedEdge) (spoke : IsSpoke es v e) where
    -- the meaning of `before_is`, by whether the spoke starts in v
    abbrev before_at : Bool → Type 0
    before_at h = cond h (winding_below count es e) (winding_above count es e) ≡ winding_by count es
        (in_plane v) +ℤ total (λ g. cond (first_from_down (point_eq g.a v) h (turns_left (ends_of g) (ends_of e)))
        (spoke_count count v g) (pos 0)) es

    -- of a spoke that starts in v
    before_starting : e.a ≡ v → before_at true
    before_starting same = subst (λ (p : Point). winding_below count es e ≡ winding_by count es (in_plane p) +ℤ total
        (λ g. cond (point_eq g.a p && turns_left (ends_of g) (ends_of e)) (count g) (pos 0)) es) same
        (winding_from_a_start count es arranged e spoke.entry)
        ∙ ap (λ z. winding_by count es (in_plane v) +ℤ z)
        (total-same (λ g. cond (point_eq g.a v && turns_left (ends_of g) (ends_of e)) (count g) (pos 0))
        (λ g. cond (point_eq g.a v && turns_left (ends_of g) (ends_of e)) (spoke_count count v g) (pos 0)) es
        (λ g at. cond_beside (point_eq g.a v) (turns_left (ends_of g) (ends_of e)) (count g)
        (cond (point_eq g.b v) (neg_ℤ (count g)) (pos 0))))

    -- of one that ends there
    before_ending : e.b ≡ v → before_at false
    before_ending same = together (winding_below count es e) (winding_by count es (in_plane v)) (total under es)
        (count e) (total first es) (total (spoke_count count v) es) (total itself es)
        (subst (λ (p : Point). winding_below count es e ≡ winding_by count es (in_plane p) +ℤ total
        (λ g. cond (point_eq g.b p && turns_left (ends_of e) (ends_of g)) (count g) (pos 0)) es) same
        (winding_from_an_end count es arranged e spoke.entry))
        (total-same first (λ g. spoke_count count v g +ℤ (under g +ℤ itself g)) es each
        ∙ total-add (spoke_count count v) (λ g. under g +ℤ itself g) es
        ∙ ap (λ z. total (spoke_count count v) es +ℤ z) (total-add under itself es))
        spokes_add_up (single_total es arranged.planar.distinct count e spoke.entry)
      where
        first : CountedEdge → ℤ
        first g = cond (point_eq g.a v || turns_left (ends_of g) (ends_of e)) (spoke_count count v g) (pos 0)

        under : CountedEdge → ℤ
        under g = cond (point_eq g.b v && turns_left (ends_of e) (ends_of g)) (count g) (pos 0)

        itself : CountedEdge → ℤ
        itself g = cond (edge_eq (ends_of g) (ends_of e)) (count g) (pos 0)

        together : (below w u c t s i : ℤ) → below ≡ w +ℤ u → t ≡ s +ℤ (u +ℤ i) → s ≡ pos 0 → i ≡ c →
            below +ℤ c ≡ w +ℤ t
        together below w u c t s i a b d f = omega linear

        each : (g : CountedEdge) → Contains es g → first g ≡ spoke_count count v g +ℤ (under g +ℤ itself g)
        each g at = by (point_eq g.a v) refl (point_eq g.b v) refl
          where
            forward_g : IsForward (ends_of g)
            forward_g = forward_entry count es arranged g at

            not_itself : point_eq g.b v ≡ false → edge_eq (ends_of g) (ends_of e) ≡ false
            not_itself other = false_from_ne_true (edge_eq (ends_of g) (ends_of e))
                (λ one. false≢true (sym other ∙ point_eq-of_same g.b v
                (ap (λ (h : Edge). h.b) (edge_eq-same (ends_of g) (ends_of e) one) ∙ same)))

            not_turned : ¬ (edge_turn (ends_of e) (ends_of g) ≡ pos 0) → edge_eq (ends_of g) (ends_of e) ≡ false
            not_turned off = false_from_ne_true (edge_eq (ends_of g) (ends_of e))
                (λ one. off (subst (λ (h : Edge). edge_turn (ends_of e) h ≡ pos 0)
                (sym (edge_eq-same (ends_of g) (ends_of e) one)) (edge_turn_same (ends_of e))))

            opposite : edge_turn (ends_of e) (ends_of g) ≡ neg_ℤ (edge_turn (ends_of g) (ends_of e))
            opposite = edge_turn_exchanged (ends_of e) (ends_of g)

            tests : (s t l r i l' r' i' : Bool) → l ≡ l' → r ≡ r' → i ≡ i' →
                cond (s || l') (cond s (count g) (cond t (neg_ℤ (count g)) (pos 0))) (pos 0) ≡ cond s (count g)
                (cond t (neg_ℤ (count g)) (pos 0)) +ℤ (cond (t && r') (count g) (pos 0) +ℤ cond i'
                (count g) (pos 0)) →
                cond (s || l) (cond s (count g) (cond t (neg_ℤ (count g)) (pos 0))) (pos 0) ≡ cond s (count g)
                (cond t (neg_ℤ (count g)) (pos 0)) +ℤ (cond (t && r) (count g) (pos 0) +ℤ cond i (count g) (pos 0))
            tests s t l r i l' r' i' el er ei h =
                subst (λ z. cond (s || z) (cond s (count g) (cond t (neg_ℤ (count g)) (pos 0))) (pos 0) ≡ cond s
                (count g) (cond t (neg_ℤ (count g)) (pos 0)) +ℤ (cond (t && r) (count g) (pos 0) +ℤ cond i (count g)
                (pos 0))) (sym el)
                (subst (λ z. cond (s || l') (cond s (count g) (cond t (neg_ℤ (count g)) (pos 0))) (pos 0) ≡ cond s
                (count g) (cond t (neg_ℤ (count g)) (pos 0)) +ℤ (cond (t && z) (count g) (pos 0) +ℤ cond i (count g)
                (pos 0))) (sym er)
                (subst (λ z. cond (s || l') (cond s (count g) (cond t (neg_ℤ (count g)) (pos 0))) (pos 0) ≡ cond s
                (count g) (cond t (neg_ℤ (count g)) (pos 0)) +ℤ (cond (t && r') (count g) (pos 0) +ℤ cond z
                (count g) (pos 0))) (sym ei) h))

            alone : (c : ℤ) → c ≡ c +ℤ (pos 0 +ℤ pos 0)
            alone c = omega linear

            cancels_first : (c : ℤ) → pos 0 ≡ neg_ℤ c +ℤ (c +ℤ pos 0)
            cancels_first c = omega linear

            cancels_second : (c : ℤ) → pos 0 ≡ neg_ℤ c +ℤ (pos 0 +ℤ c)
            cancels_second c = omega linear

            l : Bool
            l = turns_left (ends_of g) (ends_of e)

            r : Bool
            r = turns_left (ends_of e) (ends_of g)

            i : Bool
            i = edge_eq (ends_of g) (ends_of e)

            by : (s : Bool) → point_eq g.a v ≡ s → (t : Bool) → point_eq g.b v ≡ t →
                cond (s || l) (cond s (count g) (cond t (neg_ℤ (count g)) (pos 0))) (pos 0) ≡ cond s (count g)
                (cond t (neg_ℤ (count g)) (pos 0)) +ℤ (cond (t && r) (count g) (pos 0) +ℤ cond i (count g) (pos 0))
            by true starts true ends = absurd (false≢true (sym (not_both_ends v g forward_g starts) ∙ ends))
            by true starts false ends = tests true false l r i l r false refl refl (not_itself ends) (alone (count g))
            by false starts false ends = tests false false l r i l r false refl refl (not_itself ends) (nothing_taken l)
            by false starts true ends = by_sign (edge_turn (ends_of e) (ends_of g))
                (λ low. tests false true l r i true false false
                (test_from_lt (pos 0) (edge_turn (ends_of g) (ends_of e)) (let o = opposite in omega linear))
                (test_from_ge (pos 0) (edge_turn (ends_of e) (ends_of g)) (omega linear))
                (not_turned (λ z. omega linear)) (alone (neg_ℤ (count g))))
                (λ level. tests false true l r i false false true
                (test_from_ge (pos 0) (edge_turn (ends_of g) (ends_of e)) (let o = opposite in omega linear))
                (test_from_ge (pos 0) (edge_turn (ends_of e) (ends_of g)) (omega linear))
                (edge_eq-exchanged (ends_of e) (ends_of g)
                (same_from_end (ends_of e) (ends_of g) (forward_entry count es arranged e spoke.entry) forward_g
                level (arranged.planar.settled e g spoke.entry at) (same ∙ sym (point_eq-same g.b v ends))))
                (cancels_second (count g)))
                (λ high. tests false true l r i false true false
                (test_from_ge (pos 0) (edge_turn (ends_of g) (ends_of e)) (let o = opposite in omega linear))
                (test_from_lt (pos 0) (edge_turn (ends_of e) (ends_of g)) high) (not_turned (λ z. omega linear))
                (cancels_first (count g)))

    -- the winding before a spoke
    pub before_is : winding_before count es v e ≡ winding_by count es (in_plane v) +ℤ total_first count es v e
    before_is = by (point_eq e.a v) refl
      where
        by : (h : Bool) → point_eq e.a v ≡ h → before_at h
        by true starts = before_starting (point_eq-same e.a v starts)
        by false other = before_ending (ends_there es v e spoke other)

    -- and after it
    pub after_is : winding_after count es v e ≡ winding_before count es v e +ℤ spoke_count count v e
    after_is = by (point_eq e.a v) refl
      where
        back : (b c : ℤ) → b ≡ (b +ℤ c) +ℤ neg_ℤ c
        back b c = omega linear

        by : (h : Bool) → point_eq e.a v ≡ h → cond h (winding_above count es e) (winding_below count es e) ≡ cond h
            (winding_below count es e) (winding_above count es e) +ℤ cond h (count e)
            (cond (point_eq e.b v) (neg_ℤ (count e)) (pos 0))
        by true starts = refl
        by false other = back (winding_below count es e) (count e)
            ∙ ap (λ t. winding_above count es e +ℤ cond t (neg_ℤ (count e)) (pos 0))
            (sym (point_eq-of_same e.b v (ends_there es v e spoke other)))
