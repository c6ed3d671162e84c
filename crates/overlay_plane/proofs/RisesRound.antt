-- The rise of a function of two windings across the spokes between two spokes, round a node, is its rise from the first
-- to the last.
use Rattle.std.proofs.Common.{◌≡◌, ◌⊎◌, inl, inr, ⊎_elim, Bool, true, false, cond, ◌&&◌, ◌||◌, ℤ, pos, ◌+ℤ◌, ◌-ℤ◌, ◌<ℤ◌}
use Rattle.std.proofs.Common.{List, [], ◌∷◌, Contains, filter, refl, sym, ap, ap₂, ◌∙◌}
use Rattle.std.proofs.lemmas.Bool.{false≢true, and_parts, and_from, or_cases, or_left, or_right}
use Rattle.std.proofs.lemmas.Int.{by_lt_z}
use lib.IntN.{+ℤ_idr}
use Rattle.overlay_geom.specs.Plane.{Point, point_eq, edge_eq, total}
use Rattle.overlay_geom.specs.Edges.{CountedEdge, ends_of}
use Rattle.overlay_geom.proofs.Signs.{linear}
use Rattle.overlay_geom.proofs.Orders.{point_eq-same, point_eq-of_same}
use Rattle.overlay_plane.specs.Turn.{is_met_before}
use Rattle.overlay_plane.specs.Turn.Hand.{right}
use Rattle.overlay_plane.specs.Nodes.{IsBalancedArrangement}
use Rattle.overlay_plane.specs.Spokes.{IsSpoke, far_end, winding_before, winding_after, spoke_count}
use Rattle.overlay_plane.proofs.Entries.{Contains-from_filter}
use Rattle.overlay_plane.proofs.LaterEntries.{Each, Each-from_all_pairs, Each-filter, Each-weaker}
use Rattle.overlay_plane.proofs.Totals.{Contains-head, Contains-later, total-same, total-filter}
use Rattle.overlay_plane.proofs.Chains.{total_before, rises}
use Rattle.overlay_plane.proofs.InOrderLists.{Before, Ordered, total-in_order, Contains-in_order, Each-in_order}
use Rattle.overlay_plane.proofs.JoinedLists.{nothing_taken}
use Rattle.overlay_plane.specs.InOrder.{in_order}
use Rattle.overlay_plane.proofs.TurnOrder.{met_irreflexive, met_asymmetric, met_transitive, met_total}
use Rattle.overlay_plane.proofs.SpokeWindings.{after_is}
use Rattle.overlay_plane.proofs.RoundNodes.{spoke_or_nothing, winding_round_a_node}
use Rattle.overlay_plane.proofs.SpokeRays.{far_apart, spokes_apart}

-- where a sum is above 0, so is one of its terms
pub some_positive : {X : Type 0} → (f : X → ℤ) (xs : List X) → pos 0 <ℤ total f xs →
    (x : X) × Contains xs x × (pos 0 <ℤ f x)
some_positive f [] h = absurd (omega linear)
some_positive f (x ∷ xs) h = by_lt_z (pos 0) (f x) (λ high. (x, Contains-head x xs, high))
    (λ ge. let later = some_positive f xs (omega linear) in (later.0, Contains-later x xs later.0 later.1, later.2))

-- where a sum is below 0, so is one of its terms
pub some_negative : {X : Type 0} → (f : X → ℤ) (xs : List X) → total f xs <ℤ pos 0 →
    (x : X) × Contains xs x × (f x <ℤ pos 0)
some_negative f [] h = absurd (omega linear)
some_negative f (x ∷ xs) h = by_lt_z (f x) (pos 0) (λ low. (x, Contains-head x xs, low))
    (λ ge. let later = some_negative f xs (omega linear) in (later.0, Contains-later x xs later.0 later.1, later.2))

-- the edge is a spoke at v
abbrev pub is_spoke : Point → CountedEdge → Bool
is_spoke v e = point_eq e.a v || point_eq e.b v

-- an edge that passes the test is a spoke
pub spoke_from_test : (es : List CountedEdge) (v : Point) (e : CountedEdge) → Contains es e → is_spoke v e ≡ true →
    IsSpoke es v e
spoke_from_test es v e at t = record {
  entry = at;
  at = ⊎_elim (λ starts. inl (point_eq-same e.a v starts))
      (λ ends. inr (point_eq-same e.b v ends)) (or_cases (point_eq e.a v) (point_eq e.b v) t);
}

module _ (subj clip : CountedEdge → ℤ) (es : List CountedEdge) (by_subj : IsBalancedArrangement subj es)
    (by_clip : IsBalancedArrangement clip es) (h : ℤ → ℤ → ℤ) (v : Point) (e f : CountedEdge) (spoke_e : IsSpoke es v e)
    (spoke_f : IsSpoke es v f) where
  -- a ray that turns counterclockwise from e meets m before n
  abbrev met_first : CountedEdge → CountedEdge → Bool
  met_first m n = is_met_before right v (far_end v e) (far_end v m) (far_end v n)

  -- the spokes strictly between the two
  abbrev pub taken : CountedEdge → Bool
  taken m = is_spoke v m && met_first m f

  -- in the order in which the ray meets them
  abbrev pub round : List CountedEdge
  round = in_order met_first (filter taken es)

  -- the far end of e is not v
  long : ¬ (far_end v e ≡ v)
  long = far_apart subj es by_subj v e spoke_e

  -- an edge taken is a spoke met before f
  taken_spoke : (m : CountedEdge) → Contains (filter taken es) m → IsSpoke es v m × (met_first m f ≡ true)
  taken_spoke m c =
      let both = Contains-from_filter taken es m c in
      let tests = and_parts (is_spoke v m) (met_first m f) both.1 in
      (spoke_from_test es v m both.0 tests.0, tests.1)

  -- and so is what is put in order
  pub in_round : (m : CountedEdge) → Contains round m → IsSpoke es v m × (met_first m f ≡ true)
  in_round m c = taken_spoke m (Contains-in_order met_first (filter taken es) m c)

  -- the spokes taken are in order
  ascends : Each (Before met_first) round
  ascends = Each-in_order met_first (IsSpoke es v) (λ x y z gx gy gz. met_transitive right v (far_end v e) (far_end v x)
      (far_end v y) (far_end v z) long)
      (filter taken es) (λ m c. (taken_spoke m c).0)
      (Each-weaker (λ m n. edge_eq (ends_of m) (ends_of n) ≡ false) (Ordered met_first) (filter taken es) ordered
      (Each-filter (λ m n. edge_eq (ends_of m) (ends_of n) ≡ false) taken es
      (Each-from_all_pairs (λ m n. edge_eq (ends_of m) (ends_of n) ≡ false) es by_subj.planar.distinct)))
    where
      ordered : (m n : CountedEdge) → Contains (filter taken es) m → Contains (filter taken es) n →
          edge_eq (ends_of m) (ends_of n) ≡ false → Ordered met_first m n
      ordered m n cm cn differ = met_total right v (far_end v e) (far_end v m) (far_end v n) long
          (spokes_apart subj es by_subj v m n (taken_spoke m cm).0 (taken_spoke n cn).0 differ)

  -- a sum over the spokes in order is one over those taken
  total_round : (g : CountedEdge → ℤ) → total g round ≡ total (λ m. cond (taken m) (g m) (pos 0)) es
  total_round g = total-in_order met_first g (filter taken es) ∙ total-filter taken g es

  -- the winding before a spoke between, from that after e
  windings_before : (count : CountedEdge → ℤ) → IsBalancedArrangement count es → (m : CountedEdge) → Contains round m →
      winding_after count es v e +ℤ total_before met_first (spoke_count count v) round m ≡ winding_before count es v m
  windings_before count arranged m c = ap (λ z. winding_after count es v e +ℤ z)
      (total_round (λ g. cond (met_first g m) (spoke_count count v g) (pos 0))
      ∙ total-same (λ g. cond (taken g) (cond (met_first g m) (spoke_count count v g) (pos 0)) (pos 0))
      (λ g. cond (met_first g m) (spoke_count count v g) (pos 0)) es
      (λ g at. each g at (met_first g m) refl))
      ∙ winding_round_a_node count es arranged v e m spoke_e (in_round m c).0
    where
      each : (g : CountedEdge) → Contains es g → (t : Bool) → met_first g m ≡ t →
          cond (taken g) (cond t (spoke_count count v g) (pos 0)) (pos 0) ≡ cond t (spoke_count count v g) (pos 0)
      each g at false first = nothing_taken (taken g)
      each g at true first = ⊎_elim
          (λ spoke. ap (λ t. cond t (spoke_count count v g) (pos 0))
          (and_from (is_spoke v g) (met_first g f) (tested spoke.at)
          (met_transitive right v (far_end v e) (far_end v g) (far_end v m) (far_end v f) long first
          (in_round m c).1)))
          (λ none. ap (λ z. cond (taken g) z (pos 0)) none ∙ nothing_taken (taken g) ∙ sym none)
          (spoke_or_nothing count es v g at)
        where
          tested : (g.a ≡ v) ⊎ (g.b ≡ v) → is_spoke v g ≡ true
          tested at_v = ⊎_elim (λ starts. or_left (point_eq g.a v) (point_eq g.b v) (point_eq-of_same g.a v starts))
              (λ ends. or_right (point_eq g.a v) (point_eq g.b v) (point_eq-of_same g.b v ends)) at_v

  -- and so is that before f
  windings_to : (count : CountedEdge → ℤ) → IsBalancedArrangement count es →
      winding_after count es v e +ℤ total (spoke_count count v) round ≡ winding_before count es v f
  windings_to count arranged = ap (λ z. winding_after count es v e +ℤ z)
      (total_round (spoke_count count v) ∙ total-same (λ g. cond (taken g) (spoke_count count v g) (pos 0))
      (λ g. cond (met_first g f) (spoke_count count v g) (pos 0)) es
      (λ g at. each g at))
      ∙ winding_round_a_node count es arranged v e f spoke_e spoke_f
    where
      beside : (s t : Bool) (c : ℤ) → s ≡ true → cond (s && t) c (pos 0) ≡ cond t c (pos 0)
      beside true t c is = refl
      beside false t c is = absurd (false≢true is)

      nothing : (s t : Bool) (c : ℤ) → c ≡ pos 0 → cond (s && t) c (pos 0) ≡ cond t c (pos 0)
      nothing true t c none = refl
      nothing false true c none = sym none
      nothing false false c none = refl

      each : (g : CountedEdge) → Contains es g → cond (taken g) (spoke_count count v g) (pos 0) ≡ cond (met_first g f)
          (spoke_count count v g) (pos 0)
      each g at = ⊎_elim
          (λ spoke. beside (is_spoke v g) (met_first g f) (spoke_count count v g)
          (⊎_elim (λ starts. or_left (point_eq g.a v) (point_eq g.b v) (point_eq-of_same g.a v starts))
          (λ ends. or_right (point_eq g.a v) (point_eq g.b v) (point_eq-of_same g.b v ends)) spoke.at))
          (λ none. nothing (is_spoke v g) (met_first g f) (spoke_count count v g) none)
          (spoke_or_nothing count es v g at)

  -- the sum of the rises of h across the spokes between
  pub rises_round : total (λ m. h (winding_after subj es v m) (winding_after clip es v m) -ℤ h
      (winding_before subj es v m) (winding_before clip es v m)) round ≡ h (winding_before subj es v f)
      (winding_before clip es v f) -ℤ h (winding_after subj es v e) (winding_after clip es v e)
  rises_round = total-same (λ m. h (winding_after subj es v m) (winding_after clip es v m) -ℤ h
      (winding_before subj es v m) (winding_before clip es v m))
      (λ m. from_e (before_by subj m +ℤ spoke_count subj v m) (before_by clip m +ℤ spoke_count clip v m) -ℤ from_e
      (before_by subj m) (before_by clip m)) round
      (λ m c. ap₂ (λ x y. x -ℤ y) (ap₂ (λ x y. h x y) (after subj by_subj m c) (after clip by_clip m c))
      (ap₂ (λ x y. h x y) (sym (windings_before subj by_subj m c)) (sym (windings_before clip by_clip m c))))
      ∙ rises met_first (λ m. met_irreflexive right v (far_end v e) (far_end v m))
      (λ m n. met_asymmetric right v (far_end v e) (far_end v m) (far_end v n) long) from_e (spoke_count subj v)
      (spoke_count clip v) round ascends
      ∙ ap₂ (λ x y. x -ℤ y) (ap₂ (λ x y. h x y) (windings_to subj by_subj) (windings_to clip by_clip))
      (ap₂ (λ x y. h x y) (+ℤ_idr (winding_after subj es v e)) (+ℤ_idr (winding_after clip es v e)))
    where
      from_e : ℤ → ℤ → ℤ
      from_e x y = h (winding_after subj es v e +ℤ x) (winding_after clip es v e +ℤ y)

      before_by : (CountedEdge → ℤ) → CountedEdge → ℤ
      before_by count m = total_before met_first (spoke_count count v) round m

      after : (count : CountedEdge → ℤ) → IsBalancedArrangement count es → (m : CountedEdge) → Contains round m →
          winding_after count es v m ≡ winding_after count es v e +ℤ (before_by count m +ℤ spoke_count count v m)
      after count arranged m c = together (winding_after count es v m) (winding_before count es v m)
          (spoke_count count v m) (winding_after count es v e) (before_by count m)
          (after_is count es arranged v m (in_round m c).0) (windings_before count arranged m c)
        where
          together : (a b s e t : ℤ) → a ≡ b +ℤ s → e +ℤ t ≡ b → a ≡ e +ℤ (t +ℤ s)
          together a b s e t p q = omega linear
