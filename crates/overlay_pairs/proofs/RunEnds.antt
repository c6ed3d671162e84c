-- The edges up to the end of an edge's run: ascending edges part where they start right of its end. The edge meets all
-- later edges in ends alone if it meets those of its run so.
use Rattle.std.proofs.Common.{◌+◌, ◌-◌, drop, slice_range}
use Rattle.std.proofs.Common.{◌≡◌, ⊎_elim, ℕ, ◌<◌, ◌≤◌, Bool, true, false, not, ℤ, ◌<ℤ◌, ◌≤ℤ◌, int_lt, List}
use Rattle.std.proofs.Common.{[], ◌∷◌, ◌++◌, All, Contains, length, get_or, refl, sym, ap, ◌∙◌, subst, arith}
use Rattle.std.specs.List.Sorted.{IsPartitionedBy, IsPartitionPoint}
use Rattle.std.proofs.lemmas.Bool.{both_ways, cases_lt, false≢true}
use Rattle.std.specs.Bool.{Decides}
use Rattle.std.proofs.lemmas.List.{get_or-drop, get_or-map, get_or-take, length-drop, length-map, length-take-le}
use Rattle.std.proofs.lemmas.List.Elements.{Contains-push_cases}
use Rattle.std.proofs.Math.Nat.{eq-or-lt_of_le}
use Rattle.overlay_geom.specs.Edges.{CountedEdge, ends_of}
use Rattle.overlay_geom.specs.Counts.{Counts}
use Rattle.overlay_geom.proofs.Comparisons.{Decides-int_lt}
use Rattle.overlay_geom.proofs.Entries.{some_entry}
use Rattle.overlay_geom.proofs.Signs.{linear}
use Rattle.overlay_order.specs.Content.{IsAscending, IsHeld, plain_edge, plain_edges}
use Rattle.overlay_order.specs.declared.edge.CountedEdge.{CountedEdge as HeldEdge}
use Rattle.overlay_pairs.specs.Near.{AreNear}
use Rattle.overlay_pairs.specs.Places.{AreSettledUpTo, IsAt, IsRunEnd}
use Rattle.overlay_pairs.specs.Settle.{AreSettled}
use Rattle.overlay_pairs.proofs.Entries.{one_entry}
use Rattle.overlay_pairs.proofs.SettledLists.{starts_no_further_left}

-- ---- part of a list

module _ {X : Type 0} (xs : List X) (from to : ℕ) (ordered : from ≤ to) (within : to ≤ length xs) where
  -- how many entries it has, and where they stand
  count_between : length (slice_range xs from to) ≡ to - from
  count_between = length-take-le (to - from) (drop from xs)
      (let l = length-drop from xs in omega (arith, l, ordered, within))

  at_between : (k : ℕ) (d : X) → k < to - from → get_or (slice_range xs from to) k d ≡ get_or xs (from + k) d
  at_between k d less = get_or-take (to - from) (drop from xs) k d less ∙ get_or-drop from xs k d

  -- where a test passes in the front of a list alone, so it does in the part's
  pub parted_between : (p : X → Bool) → IsPartitionedBy p xs → IsPartitionedBy p (slice_range xs from to)
  parted_between p parted j k d le inside passes =
      let less : k < to - from = (let count = count_between in omega (arith, count, inside)) in
      ap p (at_between j d (omega (arith, le, less)))
      ∙ parted (from + j) (from + k) d (omega (arith, le)) (omega (arith, less, within))
      (sym (ap p (at_between k d less)) ∙ passes)

-- ---- where the run ends

module _ {I C : Type 0} (whole : I → ℤ) (counts : C → Counts) where
  -- the edge does not start right of x
  abbrev pub starts_up_to : ℤ → HeldEdge I C → Bool
  starts_up_to x f = not (int_lt x (whole f.a.x))

  module _ (limit : ℕ) (es : List (HeldEdge I C)) (held : All (IsHeld limit) (plain_edges whole counts es))
      (up : IsAscending (plain_edges whole counts es)) where
    -- a place of the list and that of its numbers
    start_at : (k : ℕ) (d : HeldEdge I C) (f : CountedEdge) → k < length es →
        (get_or (plain_edges whole counts es) k f).a.x ≡ whole (get_or es k d).a.x
    start_at k d f within = ap (λ (g : CountedEdge). g.a.x) (get_or-map (plain_edge whole counts) es k d f within)

    -- no later edge starts further left
    no_further_left : (j k : ℕ) (d : HeldEdge I C) → j ≤ k → k < length es →
        whole (get_or es j d).a.x ≤ℤ whole (get_or es k d).a.x
    no_further_left j k d le within =
        ⊎_elim (λ (same : j ≡ k). subst (λ n. whole (get_or es j d).a.x ≤ℤ whole (get_or es n d).a.x) same
        (omega linear))
        (λ (less : j < k).
        let f = plain_edge whole counts d in
        let first = start_at j d f (omega arith) in
        let second = start_at k d f within in
        let further = starts_no_further_left (ends_of (get_or (plain_edges whole counts es) j f))
        (ends_of (get_or (plain_edges whole counts es) k f))
        (up j k f less (let l = length-map es (plain_edge whole counts) in omega arith)) in
        omega (linear, first, second, further))
        (eq-or-lt_of_le le)

    -- a test that fails says that the edge starts right of x, and one that passes that it does not
    right_of_false : (x z : ℤ) → not (int_lt x z) ≡ false → x <ℤ z
    right_of_false x z fails = (Decides-int_lt x z).0 (by (int_lt x z) fails)
      where
        by : (t : Bool) → not t ≡ false → t ≡ true
        by true h = refl
        by false h = absurd (false≢true (sym h))

    up_to_of_true : (x z : ℤ) → not (int_lt x z) ≡ true → ¬ (x <ℤ z)
    up_to_of_true x z passes less = both_ways (int_lt x z) (by (int_lt x z) passes) ((Decides-int_lt x z).1 less)
      where
        by : (t : Bool) → not t ≡ true → t ≡ false
        by true h = absurd (false≢true h)
        by false h = refl

    true_of_up_to : (x z : ℤ) → ¬ (x <ℤ z) → not (int_lt x z) ≡ true
    true_of_up_to x z none = by (int_lt x z) (Decides-int_lt x z)
      where
        by : (t : Bool) → Decides t (x <ℤ z) → not t ≡ true
        by true d = absurd (none (d.0 refl))
        by false d = refl

    -- the test passes in the front of the list alone
    pub starts-parted : (x : ℤ) → IsPartitionedBy (starts_up_to x) es
    starts-parted x j k d le within passes =
        let further = no_further_left j k d le within in
        true_of_up_to x (whole (get_or es j d).a.x) (λ less. up_to_of_true x (whole (get_or es k d).a.x) passes
        (omega linear))

    -- the run of an edge ends where its search ends
    pub run_ends : (x : ℤ) (first to count : ℕ) → first ≤ to → to ≤ length es →
        ((f : CountedEdge) → IsAt (plain_edges whole counts es) to f → x <ℤ f.a.x) →
        count ≤ length (slice_range es first to) →
        IsPartitionPoint (λ f. starts_up_to x f ≡ true) (λ f. starts_up_to x f ≡ false) (slice_range es first to)
        count →
        IsRunEnd (plain_edges whole counts es) x first (first + count)
    run_ends x first to count ordered fits bound few parted = record {
      ordered = omega arith;
      within = (let l = length-map es (plain_edge whole counts) in let all = count_between es first to ordered fits in
          omega (arith, l, all, few, fits, ordered));
      right = right;
    }
      where
        right : (f : CountedEdge) → IsAt (plain_edges whole counts es) (first + count) f → x <ℤ f.a.x
        right f at_f =
            let all = count_between es first to ordered fits in
            ⊎_elim
            (λ (less : count < to - first).
            let inside : first + count < length es = omega (arith, less, fits) in
            let e = some_entry es (first + count) inside in
            let fails = parted.1 count e (omega arith) (omega (arith, all, less)) in
            let there = at_between es first to ordered fits count e less in
            let right = right_of_false x (whole (get_or es (first + count) e).a.x)
            (subst (λ (h : HeldEdge I C). starts_up_to x h ≡ false) there fails) in
            subst (λ (h : CountedEdge). x <ℤ h.a.x)
            (sym (get_or-map (plain_edge whole counts) es (first + count) e f inside) ∙ at_f.1) right)
            (λ (past : to - first ≤ count).
            let last : first + count ≡ to = omega (arith, past, all, few, ordered) in
            bound f (subst (λ n. IsAt (plain_edges whole counts es) n f) last at_f)) (cases_lt count (to - first))

-- ---- edges that meet in ends alone

-- the edge at place i meets those at the places js in ends alone
abbrev pub AreSettledWith : List CountedEdge → ℕ → List ℕ → Type 0
AreSettledWith es i js = (k : ℕ) (e f : CountedEdge) → Contains js k → IsAt es i e → IsAt es k f → AreSettled e f

module _ (es : List CountedEdge) (i : ℕ) where
  -- at first there is none to look at
  pub none_settled : AreSettledWith es i []
  none_settled k e f has = absurd (omega (arith, has.1))

  -- where it meets those so that are near it, it meets all later ones so
  pub settled_with_near : (js : List ℕ) → AreNear es i js → AreSettledWith es i js → AreSettledUpTo es i (length es)
  settled_with_near js near with_near k g f past less at_g at_f =
      ⊎_elim (λ has. with_near k g f has at_g at_f) (λ settled. settled)
      ((near g at_g).all k f (omega (arith, past)) at_f)

  module _ (e : CountedEdge) (at_e : IsAt es i e) where
    -- one more may meet it so
    pub settled_more : (js : List ℕ) (j : ℕ) (f : CountedEdge) → IsAt es j f → AreSettled e f →
        AreSettledWith es i js → AreSettledWith es i (js ++ j ∷ [])
    settled_more js j f at_f meets so_far k g h has at_g at_h = ⊎_elim
        (λ before. so_far k g h before at_g at_h)
        (λ (same : j ≡ k). subst (λ (u : CountedEdge). AreSettled u h) (one_entry es i e g at_e at_g)
        (subst (AreSettled e) (one_entry es j f h at_f (subst (λ n. IsAt es n h) (sym same) at_h)) meets))
        (Contains-push_cases js j k has)
