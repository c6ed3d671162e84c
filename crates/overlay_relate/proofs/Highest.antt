-- The highest edge of the scan that is not above a point is the highest of all edges.
use Rattle.std.proofs.Common.{◌≡◌, ⊎_elim, inl, inr, ℕ, ◌+◌, ◌-◌, ◌<◌, ◌≤◌, Bool, true, not, ℤ, pos, neg_ℤ, ◌+ℤ◌, ◌-ℤ◌}
use Rattle.std.proofs.Common.{◌*ℤ◌, ◌<ℤ◌, ◌≤ℤ◌, int_lt, List, length, drop, get_or, Contains, Option, None, Some, refl}
use Rattle.std.proofs.Common.{sym, ap, ◌∙◌, subst, arith}
use Rattle.std.specs.List.{All, filter}
use Rattle.std.specs.Ordering.{is_gt, is_lt}
use Rattle.std.specs.declared.cmp.Ordering.{Ordering}
use Rattle.std.specs.declared.cmp.Ordering.TheVariants.{Less, Equal, Greater}
use Rattle.std.proofs.lemmas.Bool.{cases_lt, false≢true}
use Rattle.std.proofs.lemmas.Int.{ints, by_lt_z}
use Rattle.std.proofs.lemmas.List.{length-drop, get_or-drop}
use Rattle.std.proofs.lemmas.List.Elements.{All-contains}
use Rattle.std.proofs.lemmas.List.Kept.{AllPairs-filter}
use Rattle.overlay_geom.specs.Plane.{Point, Edge, cross_at, side, in_plane}
use Rattle.overlay_geom.specs.Settled.{MeetInEnds}
use Rattle.overlay_geom.proofs.Identities.{solve, ◌⊗◌, ◌⊖◌, ⊝◌, ◌≗◌}
use Rattle.overlay_geom.proofs.Comparisons.{is_lt-int_cmp, is_gt-int_cmp}
use Rattle.overlay_geom.proofs.OneLine.{meet_in_ends_exchanged}
use Rattle.overlay_geom.proofs.Signs.{linear, by_sign, mul-pos, mul-neg, pos_of_mul-pos, neg_of_mul-neg}
use Rattle.overlay_plane.specs.Heights.{width, gap, covers, is_under}
use Rattle.overlay_plane.proofs.Crossing.{no_crossing}
use Rattle.overlay_plane.proofs.Entries.{Contains-filter, Contains-from_filter}
use Rattle.overlay_plane.proofs.LineForms.{gap-line_form}
use Rattle.overlay_plane.proofs.Tests.{lt_from_test, ge_from_test, test_from_lt, test_from_ge, same_tests}
use Rattle.overlay_plane.proofs.Under.{covers_from, covers_to, covers_wide, shared_just_right}
use Rattle.overlay_plane.proofs.WhereEdgesStart.{covers_spans}
use Rattle.overlay_scan.specs.Scan.{Entry, Sweep, live_at, MayMoveTo, IsOver, AreLive, IsAtMost, AnswersRise}
use Rattle.overlay_scan.specs.Scan.{last_entry, value_or, value_up_to}
use Rattle.overlay_scan.proofs.LastEntries.{last_is, no_last}
use Rattle.overlay_relate.specs.Sweeps.{IsSwept, IsFound, side_answer}
use Rattle.overlay_relate.proofs.OnEdges.{side-whole}
use Rattle.overlay_relate.proofs.Swept.{live_are}
use Rattle.std.proofs.lemmas.Bool.{not-true}

-- an edge that is under another one just right of an abscissa is not above it there
pub weakly_under : (f e : Edge) (x d : ℤ) → pos 0 <ℤ d → MeetInEnds e f → covers f x d ≡ true → covers e x d ≡ true →
    is_under f e x d ≡ true → pos 0 ≤ℤ gap f e x d
weakly_under f e x d positive meet over_f over_e under =
    let above = lt_from_test (pos 0) (gap f e (x +ℤ x +ℤ pos 1) (d +ℤ d)) under in
    by_sign (gap f e x d)
    (λ below. absurd (no_crossing f e (x +ℤ x +ℤ pos 1) (d +ℤ d) x d (covers_wide f x d positive over_f)
    (covers_wide e x d positive over_e)
    meet (shared_just_right f e x d positive over_f over_e) positive (covers_spans e x d over_e)
    (covers_spans f x d over_f) above below))
    (λ zero. omega linear) (λ more. omega linear)

-- so a point above the upper one is above the lower one, and a point below the lower one below the upper one
module _ (f e : Edge) (p : Point) (meet : MeetInEnds e f) (over_f : covers f p.x (pos 1) ≡ true)
    (over_e : covers e p.x (pos 1) ≡ true)
    (under : is_under f e p.x (pos 1) ≡ true) where
  gap_is : pos 0 ≤ℤ (width e *ℤ side f (in_plane p) -ℤ width f *ℤ side e (in_plane p))
  gap_is = let weak = weakly_under f e p.x (pos 1) (omega linear) meet over_f over_e under in
      let level = gap-line_form f e p.x p.y (pos 1) in omega linear

  wide_f : pos 0 <ℤ width f
  wide_f = covers_wide f p.x (pos 1) (omega linear) over_f

  wide_e : pos 0 <ℤ width e
  wide_e = covers_wide e p.x (pos 1) (omega linear) over_e

  pub above_both : pos 0 <ℤ side e (in_plane p) → pos 0 <ℤ side f (in_plane p)
  above_both above = let product = mul-pos (width f) (side e (in_plane p)) wide_f above in let weak = gap_is in
      pos_of_mul-pos (width e) (side f (in_plane p)) wide_e (omega linear)

  pub below_both : side f (in_plane p) <ℤ pos 0 → side e (in_plane p) <ℤ pos 0
  below_both below = let product = mul-neg (width e) (side f (in_plane p)) wide_e below in let weak = gap_is in
      neg_of_mul-neg (width f) (side e (in_plane p)) wide_f (omega linear)

-- what the side answers
cross_back : (e : Edge) (p : Point) → cross_at e.b e.a p ≡ neg_ℤ (side e (in_plane p))
cross_back e p = solve 6 (λ ax ay bx by x y. (ax ⊖ bx) ⊗ (y ⊖ by) ⊖ (ay ⊖ by) ⊗ (x ⊖ bx) ≗ ⊝
    ((bx ⊖ ax) ⊗ (y ⊖ ay) ⊖ (by ⊖ ay) ⊗ (x ⊖ ax))) tt e.a.x e.a.y e.b.x e.b.y p.x p.y
    ∙ ap neg_ℤ (sym (side-whole e p))

-- Greater is answered for an edge above the point
above_answer : (p : Point) (e : Edge) → is_gt (side_answer p e) ≡ int_lt (side e (in_plane p)) (pos 0)
above_answer p e = is_gt-int_cmp (cross_at e.b e.a p) (pos 0) ∙ ap (int_lt (pos 0)) (cross_back e p)
    ∙ same_tests (int_lt (pos 0) (neg_ℤ (side e (in_plane p)))) (int_lt (side e (in_plane p)) (pos 0))
    (λ t. let less = lt_from_test (pos 0) (neg_ℤ (side e (in_plane p))) t in
    test_from_lt (side e (in_plane p)) (pos 0) (omega linear))
    (λ t. let less = lt_from_test (side e (in_plane p)) (pos 0) t in
    test_from_lt (pos 0) (neg_ℤ (side e (in_plane p))) (omega linear))

-- and Less for an edge below it
below_answer : (p : Point) (e : Edge) → is_lt (side_answer p e) ≡ int_lt (pos 0) (side e (in_plane p))
below_answer p e = is_lt-int_cmp (cross_at e.b e.a p) (pos 0) ∙ ap (λ z. int_lt z (pos 0)) (cross_back e p)
    ∙ same_tests (int_lt (neg_ℤ (side e (in_plane p))) (pos 0)) (int_lt (pos 0) (side e (in_plane p)))
    (λ t. let less = lt_from_test (neg_ℤ (side e (in_plane p))) (pos 0) t in
    test_from_lt (pos 0) (side e (in_plane p)) (omega linear))
    (λ t. let less = lt_from_test (pos 0) (side e (in_plane p)) t in
    test_from_lt (neg_ℤ (side e (in_plane p))) (pos 0) (omega linear))

greater_told : (o : Ordering) → is_gt o ≡ true → o ≡ Greater
greater_told Less t = absurd (false≢true t)
greater_told Equal t = absurd (false≢true t)
greater_told Greater t = refl

less_told : (o : Ordering) → is_lt o ≡ true → o ≡ Less
less_told Less t = refl
less_told Equal t = absurd (false≢true t)
less_told Greater t = absurd (false≢true t)

-- what is not answered by Greater is not above the point
up_to_told : (p : Point) (e : Edge) → not (is_gt (side_answer p e)) ≡ true → pos 0 ≤ℤ side e (in_plane p)
up_to_told p e t = ge_from_test (side e (in_plane p)) (pos 0) (sym (above_answer p e)
    ∙ not-true (is_gt (side_answer p e)) t)

up_to_tested : (p : Point) (e : Edge) → pos 0 ≤ℤ side e (in_plane p) → not (is_gt (side_answer p e)) ≡ true
up_to_tested p e up = ap not (above_answer p e ∙ test_from_ge (side e (in_plane p)) (pos 0) up)

-- the answers for two edges, one under the other
answers_rise_for : (p : Point) (f e : Edge) → MeetInEnds e f → covers f p.x (pos 1) ≡ true →
    covers e p.x (pos 1) ≡ true → is_under f e p.x (pos 1) ≡ true →
    IsAtMost (side_answer p f) (side_answer p e)
answers_rise_for p f e meet over_f over_e under = record {
  greater = λ o. greater_told (side_answer p e) (above_answer p e ∙ test_from_lt (side e (in_plane p)) (pos 0)
      (below_both f e p meet over_f over_e under
      (lt_from_test (side f (in_plane p)) (pos 0) (sym (above_answer p f) ∙ ap is_gt o))));
  less = λ o. less_told (side_answer p f) (below_answer p f ∙ test_from_lt (pos 0) (side f (in_plane p))
      (above_both f e p meet over_f over_e under
      (lt_from_test (pos 0) (side e (in_plane p)) (sym (below_answer p e) ∙ ap is_lt o))));
}

-- the entry's edge is not above the point
abbrev is_up_to : Point → Entry ℕ → Bool
is_up_to p f = not (is_gt (side_answer p f.edge))

module _ (limit : ℕ) (fs : List Edge) (n : ℕ) (s : Sweep ℕ) (swept : IsSwept limit fs n s) (p : Point)
    (moves : MayMoveTo p.x s) where
  abbrev live : List (Entry ℕ)
  live = live_at p.x s.entries

  are_live : AreLive limit p.x live
  are_live = live_are limit p.x s swept.state moves

  -- from bottom to top the live edges are below the point, then on it, then above it
  pub answers_rise : AnswersRise (side_answer p) live
  answers_rise i j d lt end = answers_rise_for p (get_or live i d).edge (get_or live j d).edge
      (meet_in_ends_exchanged (get_or live j d).edge (get_or live i d).edge (are_live.apart i j d lt end))
      (are_live.over i d (omega (arith, lt, end))).over (are_live.over j d end).over (are_live.order i j d lt end)

  module _ (rest : All (λ e. p.x <ℤ e.a.x) (drop n fs)) where
    -- an edge over the abscissa of the point is live
    covering : (f : Edge) (c : Contains fs f) → covers f p.x (pos 1) ≡ true →
        Contains live (record { edge = f; value = c.0 })
    covering f c over = ⊎_elim
        (λ early. Contains-filter (λ g. int_lt p.x g.edge.b.x) s.entries (record { edge = f; value = c.0 })
        (swept.all c.0 f early c.2 p.x moves ends)
        (test_from_lt p.x f.b.x ends))
        (λ late. absurd (right late)) (cases_lt c.0 n)
      where
        ends : p.x <ℤ f.b.x
        ends = let to = covers_to f p.x (pos 1) over in omega (arith, ints)

        right : n ≤ c.0 → ⊥
        right late =
            let count = length-drop n fs in
            let inside : c.0 - n < length (drop n fs) = let k = c.1 in omega arith in
            let same : n + (c.0 - n) ≡ c.0 = omega arith in
            let start = subst (λ (g : Edge). p.x <ℤ g.a.x) (get_or-drop n fs (c.0 - n) f ∙ ap (λ m. get_or fs m f) same
            ∙ c.2) (rest (c.0 - n) f inside) in
            let from = covers_from f p.x (pos 1) over in omega (arith, ints)

    -- so the last live edge not above the point is the highest of all
    pub found : (none : ℕ) → n ≤ none → n ≤ length fs → (i : ℕ) → i ≡ value_up_to none (side_answer p) live →
        IsFound fs p n i
    found none past within i is = by (last_entry (is_up_to p) live) refl is
      where
        by : (o : Option (Entry ℕ)) → last_entry (is_up_to p) live ≡ o → i ≡ value_or none o → IsFound fs p n i
        by None nothing is = inr (record {
          past = subst (λ m. n ≤ m) (sym is) past;
          none = λ f c over. by_lt_z (side f (in_plane p)) (pos 0) (λ less. less)
              (λ up. absurd (no_last (filter (is_up_to p) live) (record { edge = f; value = c.0 })
              (Contains-filter (is_up_to p) live (record { edge = f; value = c.0 }) (covering f c over)
              (up_to_tested p f up)) nothing));
        })
        by (Some f) last is =
            let top = last_is (λ g h. is_under g.edge h.edge p.x (pos 1) ≡ true) (filter (is_up_to p) live)
            (AllPairs-filter (λ g h. is_under g.edge h.edge p.x (pos 1) ≡ true) (is_up_to p) live are_live.order) f
            last in
            let kept = Contains-from_filter (is_up_to p) live f top.0 in
            let from = swept.from f (Contains-from_filter (λ g. int_lt p.x g.edge.b.x) s.entries f kept.0).0 in
            let less = from.0 in
            inl (record {
              edge = f.edge;
              within = subst (λ m. m < n) (sym is) from.0;
              at = ap (λ m. get_or fs m f.edge) is ∙ from.1;
              is = record {
                among = (f.value, omega arith, from.1);
                over = (All-contains (λ h. IsOver limit p.x h.edge) live f are_live.over kept.0).over;
                up_to = up_to_told p f.edge kept.1;
                highest = λ h c over up. ⊎_elim
                    (λ same. inl (ap (λ (g : Entry ℕ). g.edge) same))
                    (λ lower. inr lower)
                    (top.1 (record { edge = h; value = c.0 })
                    (Contains-filter (is_up_to p) live (record { edge = h; value = c.0 }) (covering h c over)
                    (up_to_tested p h up)));
              };
            })
