-- A sweep over the first edges: what the next edge asks of it, and what it holds then.
use Rattle.std.proofs.Common.{◌≡◌, ◌⊎◌, ⊎_elim, inl, inr, ℕ, zero, suc, ◌+◌, ◌<◌, true, false, ◌&&◌, ◌||◌, ℤ, pos, ◌≤ℤ◌}
use Rattle.std.proofs.Common.{◌<ℤ◌, int_lt, List, ◌∷◌, ◌++◌, length, drop, get_or, Contains, Some, refl, sym, ap, ap₂}
use Rattle.std.proofs.Common.{◌∙◌, subst, arith}
use Rattle.std.specs.Ordering.{int_eq}
use Rattle.std.specs.List.{All}
use Rattle.std.specs.Option.{IfSome}
use Rattle.std.proofs.lemmas.Bool.{cases_lt, both_ways, and_from, false_from_ne_true}
use Rattle.std.proofs.lemmas.Int.{ints}
use Rattle.std.proofs.Math.Nat.{eq-or-lt_of_le}
use Rattle.std.proofs.lemmas.List.{get_or_default, get_or-drop, length-drop, drop_more}
use Rattle.std.proofs.lemmas.List.Elements.{All-head, All-tail, All-weaker, All-contains, Contains-append_right}
use Rattle.overlay_geom.specs.Plane.{Edge, edge_eq, point_lt}
use Rattle.overlay_geom.specs.Points.{InRange}
use Rattle.overlay_geom.specs.Settled.{MeetInEnds}
use Rattle.overlay_geom.proofs.Entries.{Contains-head}
use Rattle.overlay_geom.proofs.Orders.{edge_eq-flip, edge_eq-itself, edge_eq-same}
use Rattle.overlay_plane.specs.Anchors.{is_anchored_before, is_below_anchor}
use Rattle.overlay_plane.specs.Heights.{covers, is_under}
use Rattle.overlay_plane.proofs.BelowAnchors.{below_an_anchor_is_under}
use Rattle.overlay_plane.proofs.Entries.{all_of_entries, Contains-filter, Contains-from_filter}
use Rattle.overlay_plane.proofs.ShuffledSteps.{beside_one, one_or_beside}
use Rattle.overlay_plane.proofs.Tests.{lt_from_test, test_from_lt}
use Rattle.overlay_plane.proofs.Under.{covers_to, under_irreflexive}
use Rattle.overlay_plane.proofs.WhereEdgesStart.{covers_start}
use Rattle.overlay_scan.specs.Scan.{Entry, Sweep, empty_sweep, live_at, moved_to, MayMoveTo, IsAsked, IsOver, AreLive}
use Rattle.overlay_scan.specs.Scan.{IsSweep, MeetsOthers, IsNewAmong, IsPutIn}
use Rattle.overlay_scan.proofs.EntriesByStart.{start_order, below_is_before}
use Rattle.overlay_scan.proofs.Moving.{live_after_move}
use Rattle.overlay_relate.specs.Sweeps.{AreSweepable, IsSwept}

-- what is live after a move is live and in order
pub live_are : (limit : ℕ) (x : ℤ) (s : Sweep ℕ) → IsSweep limit s → MayMoveTo x s →
    AreLive limit x (live_at x s.entries)
live_are limit x s state moves = live_after_move limit x s.entries s.reached state moves

-- before the sweep nothing is put in
pub nothing_swept : (limit : ℕ) (fs : List Edge) (s : Sweep ℕ) → s ≡ empty_sweep → IsSwept limit fs 0 s
nothing_swept limit fs s is = subst (IsSwept limit fs 0) (sym is) (record {
  state = refl;
  moves = λ k d lt. tt;
  from = λ f c. absurd (let within = c.1 in omega (arith, within));
  all = λ i e lt at x may ends. absurd (omega (arith, lt));
})

module _ (fs : List Edge) (sweepable : AreSweepable fs) (n : ℕ) (e : Edge) (lt : n < length fs)
    (is : get_or fs n e ≡ e) where
  -- from the next edge on all start no further left
  pub later_starts : All (λ f. e.a.x ≤ℤ f.a.x) (drop n fs)
  later_starts k d h = subst (λ (f : Edge). e.a.x ≤ℤ f.a.x) (sym (get_or-drop n fs k d)) (by k h)
    where
      by : (k : ℕ) → k < length (drop n fs) → e.a.x ≤ℤ (get_or fs (n + k) d).a.x
      by zero h =
          let here : n ≡ n + 0 = omega arith in
          subst (λ (f : Edge). e.a.x ≤ℤ f.a.x) (sym is ∙ get_or_default fs n e d lt ∙ ap (λ m. get_or fs m d) here)
          (omega (arith, ints))
      by (suc k) h =
          let l = length-drop n fs in
          start_order e (get_or fs (n + suc k) d)
          (subst (λ (f : Edge). is_anchored_before (get_or fs (n + suc k) d) f ≡ false)
          (get_or_default fs n d e lt ∙ is)
          (sweepable.order n (n + suc k) d (omega arith) (omega arith)))

  -- where it starts right of x, so do those after it
  pub right_of : (x : ℤ) → int_lt x e.a.x ≡ true → All (λ f. x <ℤ f.a.x) (drop n fs)
  right_of x far = All-weaker (λ f. e.a.x ≤ℤ f.a.x) (λ f. x <ℤ f.a.x)
      (λ f le. let less = lt_from_test x e.a.x far in omega (arith, ints)) (drop n fs) later_starts

  -- the edges from the next one on
  rest : drop n fs ≡ e ∷ drop (n + 1) fs
  rest = drop_more fs n e lt ∙ ap (λ f. f ∷ drop (n + 1) fs) is

  pub later_after : All (λ f. e.a.x ≤ℤ f.a.x) (drop (n + 1) fs)
  later_after = All-tail (λ f. e.a.x ≤ℤ f.a.x) e (drop (n + 1) fs) (subst (All (λ f. e.a.x ≤ℤ f.a.x)) rest later_starts)

  -- the next edge is one of the edges
  pub own : Contains fs e
  own = (n, lt, is)

  wide : e.a.x <ℤ e.b.x
  wide = All-contains (λ f. f.a.x <ℤ f.b.x) fs e sweepable.wide own

  -- it is over its start
  pub over : covers e e.a.x (pos 1) ≡ true
  over = covers_start e wide

  forward : point_lt e.a e.b ≡ true
  forward = ap (λ t. t || (int_eq e.a.x e.b.x && int_lt e.a.y e.b.y)) (test_from_lt e.a.x e.b.x wide)

  -- the scan may be asked for it
  pub is_asked : (limit : ℕ) → InRange limit e.a → InRange limit e.b → IsAsked limit e.a.x e
  is_asked limit a_in_range b_in_range = record {
    a_in_range = a_in_range;
    b_in_range = b_in_range;
    forward = forward;
    starts = refl;
  }

  pub is_over : (limit : ℕ) → InRange limit e.a → InRange limit e.b → IsOver limit e.a.x e
  is_over limit a_in_range b_in_range = record { a_in_range = a_in_range; b_in_range = b_in_range; over = over }

  module _ (limit : ℕ) (s : Sweep ℕ) (swept : IsSwept limit fs n s) where
    -- the sweep may move to where it starts
    pub may_move : MayMoveTo e.a.x s
    may_move = All-head (λ f. MayMoveTo f.a.x s) e (drop (n + 1) fs)
        (subst (All (λ f. MayMoveTo f.a.x s)) rest swept.moves)

    -- a live entry stands before it
    pub live_from : (f : Entry ℕ) → Contains (live_at e.a.x s.entries) f →
        (f.value < n) × (get_or fs f.value f.edge ≡ f.edge)
    live_from f c = swept.from f (Contains-from_filter (λ g. int_lt e.a.x g.edge.b.x) s.entries f c).0

    -- and has another edge
    new_among : (f : Entry ℕ) → Contains (live_at e.a.x s.entries) f → edge_eq e f.edge ≡ false
    new_among f c =
        let at = live_from f c in
        edge_eq-flip f.edge e (subst (λ (g : Edge). edge_eq f.edge g ≡ false) is
        (subst (λ (g : Edge). edge_eq g (get_or fs n e) ≡ false) (get_or_default fs f.value e f.edge (let less = at.0 in
        omega arith) ∙ at.1)
        (sweepable.distinct f.value n e at.0 lt)))

    pub fresh : IsNewAmong e (live_at e.a.x s.entries)
    fresh = all_of_entries (λ f. edge_eq e f.edge ≡ false) (live_at e.a.x s.entries) new_among

    -- that it meets in ends alone
    pub meets : MeetsOthers e (live_at e.a.x s.entries)
    meets = all_of_entries (λ f. edge_eq e f.edge ≡ false → MeetInEnds e f.edge) (live_at e.a.x s.entries)
        (λ f c differ. let at = live_from f c in
        sweepable.settled e f.edge own (f.value, (let less = at.0 in omega arith), at.1) differ)

    -- an edge over the start and under the next edge is live
    pub under_live : (h : Edge) → Contains fs h → point_lt e.a e.b ≡ true → point_lt h.a h.b ≡ true →
        covers h e.a.x (pos 1) ≡ true → is_under h e e.a.x (pos 1) ≡ true →
        (f : Entry ℕ) × Contains (live_at e.a.x s.entries) f × (f.edge ≡ h)
    under_live h c forward_e forward_h over_h under = (
      record { edge = h; value = c.0 },
      Contains-filter (λ g. int_lt e.a.x g.edge.b.x) s.entries (record { edge = h; value = c.0 })
          (swept.all c.0 h early c.2 e.a.x may_move ends) (test_from_lt e.a.x h.b.x ends),
      refl,
    )
      where
        ends : e.a.x <ℤ h.b.x
        ends = let to = covers_to h e.a.x (pos 1) over_h in omega (arith, ints)

        differ : edge_eq e h ≡ false
        differ = false_from_ne_true (edge_eq e h) (λ same. both_ways (is_under h e e.a.x (pos 1))
            (subst (λ (g : Edge). is_under g e e.a.x (pos 1) ≡ false) (edge_eq-same e h same)
            (under_irreflexive e e.a.x (pos 1))) under)

        below : is_below_anchor e h ≡ true
        below = below_an_anchor_is_under e h forward_e forward_h (inr (sweepable.settled e h own c differ)) over
            ∙ and_from (covers h e.a.x (pos 1)) (is_under h e e.a.x (pos 1)) over_h under

        before : is_anchored_before h e ≡ true
        before = below_is_before e h below

        early : c.0 < n
        early = ⊎_elim (λ less. less) (λ more. absurd (later (eq-or-lt_of_le more))) (cases_lt c.0 n)
          where
            later : (n ≡ c.0) ⊎ (n < c.0) → ⊥
            later (inl here) = both_ways (edge_eq e h) differ (subst (λ (g : Edge). edge_eq e g ≡ true)
                (sym is ∙ get_or_default fs n e h lt ∙ ap (λ m. get_or fs m h) here ∙ c.2) (edge_eq-itself e))
            later (inr after) = both_ways (is_anchored_before h e)
                (subst (λ (g : Edge). is_anchored_before g e ≡ false) c.2
                (subst (λ (g : Edge). is_anchored_before (get_or fs c.0 h) g ≡ false) (get_or_default fs n h e lt ∙ is)
                (sweepable.order n c.0 h after c.1))) before

    -- put in, it is one of the edges of the sweep
    pub put_in : (t : Sweep ℕ) → IsPutIn e.a.x (record { edge = e; value = n }) (live_at e.a.x s.entries) t.entries →
        t.reached ≡ Some e.a.x → IsSweep limit t →
        IsSwept limit fs (n + 1) t
    put_in t put reached state = record {
      state = state;
      moves = subst (λ o. All (λ f. IfSome o (λ r. r ≤ℤ f.a.x)) (drop (n + 1) fs)) (sym reached) later_after;
      from = λ f c. ⊎_elim
          (λ new. subst (λ (g : Entry ℕ). (g.value < n + 1) × (get_or fs g.value g.edge ≡ g.edge)) new
          (omega arith, is))
          (λ old. let at = live_from f (subst (λ gs. Contains gs f) (sym put.live_is) old) in
          ((let less = at.0 in omega arith), at.1))
          (one_or_beside put.before (record { edge = e; value = n }) put.after f
          (subst (λ gs. Contains gs f) put.new_is c));
      all = λ i h less at x may ends. subst (λ gs. Contains gs (record { edge = h; value = i })) (sym put.new_is)
          (held i h less at x (subst (λ o. IfSome o (λ r. r ≤ℤ x)) reached may) ends);
    }
      where
        held : (i : ℕ) (h : Edge) → i < n + 1 → get_or fs i h ≡ h → (x : ℤ) → e.a.x ≤ℤ x → x <ℤ h.b.x →
            Contains (put.before ++ record { edge = e; value = n } ∷ put.after) (record { edge = h; value = i })
        held i h less at x later ends = ⊎_elim
            (λ early. let far : e.a.x <ℤ h.b.x = omega (arith, ints) in
            beside_one put.before (record { edge = e; value = n }) put.after (record { edge = h; value = i })
            (subst (λ gs. Contains gs (record { edge = h; value = i })) put.live_is
            (Contains-filter (λ g. int_lt e.a.x g.edge.b.x) s.entries (record { edge = h; value = i })
            (swept.all i h early at e.a.x may_move far)
            (test_from_lt e.a.x h.b.x far))))
            (λ more. let here : n ≡ i = omega (arith, less, more) in
            subst (λ (g : Entry ℕ). Contains (put.before ++ record { edge = e; value = n } ∷ put.after) g) (same here)
            (Contains-append_right put.before (record { edge = e; value = n } ∷ put.after)
            (record { edge = e; value = n })
            (Contains-head (record { edge = e; value = n }) put.after)))
            (cases_lt i n)
          where
            entry : Edge → ℕ → Entry ℕ
            entry g m = record { edge = g; value = m }

            same : n ≡ i → entry e n ≡ entry h i
            same here = ap₂ entry
                (sym is ∙ get_or_default fs n e h lt ∙ ap (λ m. get_or fs m h) here ∙ at) here

-- the sweep moves on, no further than to where the edges left start
pub moved_on : (limit : ℕ) (fs : List Edge) (n : ℕ) (s : Sweep ℕ) → IsSwept limit fs n s → (x : ℤ) → MayMoveTo x s →
    All (λ f. x ≤ℤ f.a.x) (drop n fs) →
    (t : Sweep ℕ) → t ≡ moved_to x s → IsSweep limit t → IsSwept limit fs n t
moved_on limit fs n s swept x moves later t is state = subst (IsSwept limit fs n) (sym is) (record {
  state = subst (IsSweep limit) is state;
  moves = later;
  from = λ f c. swept.from f (Contains-from_filter (λ g. int_lt x g.edge.b.x) s.entries f c).0;
  all = λ i e less at y may ends. let far : x <ℤ e.b.x = omega (arith, ints) in
      Contains-filter (λ g. int_lt x g.edge.b.x) s.entries (record { edge = e; value = i })
      (swept.all i e less at x moves far) (test_from_lt x e.b.x far);
})
