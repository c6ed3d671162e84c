-- Edges that do not cross meet in ends of one of them, or overlap: all their meeting points are whole. The edges of a
-- list that do not cross.
use Rattle.std.proofs.Common.{◌≡◌, ◌⊎◌, ⊎_elim, inl, inr, true, false, ◌&&◌, ◌||◌, ℕ, ◌+◌, ◌<◌, ◌≤◌, ℤ, pos, ◌<ℤ◌}
use Rattle.std.proofs.Common.{◌≤ℤ◌, int_lt, List, All, Contains, length, refl, sym, ap₂, ◌∙◌, subst, arith}
use Rattle.std.proofs.lemmas.Bool.{false≢true, and_cases, cases_lt}
use Rattle.std.proofs.lemmas.Bool.Decides.{Decides-and, Decides-or}
use Rattle.std.proofs.lemmas.Int.{by_lt_z}
use Rattle.std.proofs.lemmas.List.Elements.{All-contains}
use Rattle.std.proofs.Math.Nat.{eq-or-lt_of_le}
use Rattle.overlay_geom.specs.Edges.{CountedEdge, ends_of}
use Rattle.overlay_geom.specs.Placed.{IsAlong, IsBeside, IsAcross}
use Rattle.overlay_geom.specs.Plane.{Point, PlanePoint, Edge, IsAt as LiesAt, IsEnd, SamePlace, cross_at, in_plane}
use Rattle.overlay_geom.specs.Settled.{IsCommon}
use Rattle.overlay_geom.proofs.Comparisons.{Decides-int_lt}
use Rattle.overlay_geom.proofs.Identities.{solve, number, ◌⊗◌, ◌⊖◌, ◌≗◌}
use Rattle.overlay_geom.proofs.PointOrder.{IsBefore}
use Rattle.overlay_geom.proofs.Signs.{linear, mul-zero}
use Rattle.overlay_plane.specs.Meetings.{IsMeetingPoint, MeetInWholePoints}
use Rattle.overlay_plane.proofs.CommonPoints.{along_of_parallel, one_on_both}
use Rattle.overlay_plane.proofs.LinesWithin.{only_common_is_end}
use Rattle.overlay_plane.proofs.Placements.{AreCrossing, by_placement, both_across, beside_have_no_common}
use Rattle.overlay_plane.proofs.WholeOnEdges.{at_itself, by_end, forward_from_test, side_at}
use Rattle.overlay_plane.proofs.WholePlaces.{at_moved}
use Rattle.overlay_order.specs.Content.{IsHeld, IsAscending}
use Rattle.overlay_pairs.specs.Near.{AreNear}
use Rattle.overlay_pairs.specs.Places.{IsAt, AreSettledBefore}
use Rattle.overlay_pairs.proofs.Entries.{one_entry}
use Rattle.overlay_pairs.proofs.SettledLists.{starts_no_further_left}
use Rattle.overlay_exact.proofs.MetByStarts.{entry_at}
use Rattle.overlay_exact.proofs.ToldMeetings.{less_at}
use Rattle.overlay_given.specs.Crossing.{cross, crosses_line}
use Rattle.overlay_given.specs.Uncrossed.{SomeCross, NoneCross, CrossesNoneBehind, CrossesSomeBehind}
use Rattle.overlay_given.specs.Uncrossed.{CrossesNoneOf}
use Rattle.overlay_given.proofs.ApartEdges.{left_uncrossed, cross_back}
use Rattle.overlay_given.proofs.NearTests.{FailsAt, edges_cross}
use Rattle.overlay_given.proofs.SettledEdges.{settled_uncrossed}

-- ---- two edges

-- an end of an edge is a whole point
whole_end : (e : Edge) (p : PlanePoint) → IsEnd e p → (v : Point) × LiesAt v p
whole_end e p (inl at) = (e.a, at)
whole_end e p (inr at) = (e.b, at)

-- a whole point on the lines of two edges across each other is the point that they have in common
whole_crossing : (e f : Edge) (v : Point) (p : PlanePoint) → ¬ (IsAlong e f) → IsBefore f.a f.b →
    cross_at e.a e.b v ≡ pos 0 → cross_at f.a f.b v ≡ pos 0 → IsCommon e f p → LiesAt v p
whole_crossing e f v p apart forward on_e on_f (e_p, f_p) =
    at_moved v (in_plane v) p (one_on_both e f p (in_plane v)
    (λ none. apart (along_of_parallel e f p forward none e_p.on_line f_p.on_line)) e_p.on_line f_p.on_line
    (side_at e v (in_plane v) (at_itself v) ∙ mul-zero (pos 1) (cross_at e.a e.b v) on_e)
    (side_at f v (in_plane v) (at_itself v) ∙ mul-zero (pos 1) (cross_at f.a f.b v) on_f)) (at_itself v)

-- the ends of an edge lie on its line
start_on_line : (e : Edge) → cross_at e.a e.b e.a ≡ pos 0
start_on_line e = solve 4 (λ a b c d. (c ⊖ a) ⊗ (b ⊖ b) ⊖ (d ⊖ b) ⊗ (a ⊖ a) ≗ number (pos 0)) tt e.a.x e.a.y e.b.x
    e.b.y

end_on_line : (e : Edge) → cross_at e.a e.b e.b ≡ pos 0
end_on_line e = solve 4 (λ a b c d. (c ⊖ a) ⊗ (d ⊖ b) ⊖ (d ⊖ b) ⊗ (c ⊖ a) ≗ number (pos 0)) tt e.a.x e.a.y e.b.x
    e.b.y

-- the signs of the two numbers are opposite
opposite : (s t : ℤ) → (s <ℤ pos 0) × (pos 0 <ℤ t) →
    ((int_lt (pos 0) s && int_lt t (pos 0)) || (int_lt s (pos 0) && int_lt (pos 0) t)) ≡ true
opposite s t signs = (Decides-or _ _ (Decides-and _ _ (Decides-int_lt (pos 0) s) (Decides-int_lt t (pos 0)))
    (Decides-and _ _ (Decides-int_lt s (pos 0)) (Decides-int_lt (pos 0) t))).1 (inr signs)

opposite_back : (s t : ℤ) → (pos 0 <ℤ s) × (t <ℤ pos 0) →
    ((int_lt (pos 0) s && int_lt t (pos 0)) || (int_lt s (pos 0) && int_lt (pos 0) t)) ≡ true
opposite_back s t signs = (Decides-or _ _ (Decides-and _ _ (Decides-int_lt (pos 0) s) (Decides-int_lt t (pos 0)))
    (Decides-and _ _ (Decides-int_lt s (pos 0)) (Decides-int_lt (pos 0) t))).1 (inl signs)

-- an edge across a line that it does not cross has an end there
end_on : (e f : Edge) → IsAcross e f → crosses_line e f ≡ false →
    (cross_at e.a e.b f.a ≡ pos 0) ⊎ (cross_at e.a e.b f.b ≡ pos 0)
end_on e f (inl (low, high, less)) test =
    let s = cross_at e.a e.b f.a in
    let t = cross_at e.a e.b f.b in
    by_lt_z s (pos 0) (λ below. by_lt_z (pos 0) t
    (λ above. absurd (false≢true (sym test ∙ opposite s t (below, above))))
    (λ most. inr (let zero : t ≡ pos 0 = omega linear in zero)))
    (λ least. inl (let zero : s ≡ pos 0 = omega linear in zero))
end_on e f (inr (low, high, less)) test =
    let s = cross_at e.a e.b f.a in
    let t = cross_at e.a e.b f.b in
    by_lt_z t (pos 0) (λ below. by_lt_z (pos 0) s
    (λ above. absurd (false≢true (sym test ∙ opposite_back s t (above, below))))
    (λ most. inl (let zero : s ≡ pos 0 = omega linear in zero)))
    (λ least. inr (let zero : t ≡ pos 0 = omega linear in zero))

-- so the meeting points of edges that do not cross are whole
uncrossed : (e f : Edge) → IsBefore e.a e.b → IsBefore f.a f.b → cross e f ≡ false → (p : PlanePoint) →
    IsMeetingPoint e f p → (v : Point) × LiesAt v p
uncrossed e f e_before f_before test p meeting = by_placement e f along beside across
  where
    along : IsAlong e f → (v : Point) × LiesAt v p
    along line = by meeting.only_or_end
      where
        by : ((q : PlanePoint) → IsCommon e f q → SamePlace q p) ⊎ (IsEnd e p ⊎ IsEnd f p) →
            (v : Point) × LiesAt v p
        by (inl only) = by_end e p (whole_end e p) (λ no_end_e. by_end f p (whole_end f p)
            (λ no_end_f. absurd (only_common_is_end e f p e_before f_before line meeting.common only no_end_e
            no_end_f)))
        by (inr (inl end)) = whole_end e p end
        by (inr (inr end)) = whole_end f p end

    beside : ¬ (IsAlong e f) → IsBeside e f ⊎ IsBeside f e → (v : Point) × LiesAt v p
    beside apart (inl one) = absurd (beside_have_no_common e f p f_before one meeting.common)
    beside apart (inr other) = absurd (beside_have_no_common f e p e_before other
        (meeting.common.1, meeting.common.0))

    across : AreCrossing e f → (v : Point) × LiesAt v p
    across c =
        let both = both_across e f c in
        let common = whole_crossing e f in
        ⊎_elim
        (λ forth. ⊎_elim
        (λ zero. (f.a, common f.a p c.apart f_before zero (start_on_line f) meeting.common))
        (λ zero. (f.b, common f.b p c.apart f_before zero (end_on_line f) meeting.common))
        (end_on e f both.0 forth))
        (λ back. ⊎_elim
        (λ zero. (e.a, common e.a p c.apart f_before (start_on_line e) zero meeting.common))
        (λ zero. (e.b, common e.b p c.apart f_before (end_on_line e) zero meeting.common))
        (end_on f e both.1 back))
        (and_cases (crosses_line e f) (crosses_line f e) test)

-- an edge does not cross itself
not_itself : (e : Edge) → cross e e ≡ false
not_itself e = ap₂ (λ s t. ((int_lt (pos 0) s && int_lt t (pos 0)) || (int_lt s (pos 0) && int_lt (pos 0) t)) &&
    ((int_lt (pos 0) s && int_lt t (pos 0)) || (int_lt s (pos 0) && int_lt (pos 0) t))) (start_on_line e)
    (end_on_line e)

-- ---- a list

-- the edge at place i crosses none of the edges after it, up to place j
abbrev pub CrossesNoneUpTo : List CountedEdge → ℕ → ℕ → Type 0
CrossesNoneUpTo es i j = (k : ℕ) (e f : CountedEdge) → i < k → k < j → IsAt es i e → IsAt es k f →
    cross (ends_of e) (ends_of f) ≡ false

-- nor of those from there up to a further place
pub crosses_none_further : (es : List CountedEdge) (i j end : ℕ) (e : CountedEdge) → IsAt es i e →
    CrossesNoneUpTo es i j → CrossesNoneOf es e j end → CrossesNoneUpTo es i end
crosses_none_further es i j end e at_e so_far none k g h past less at_g at_h = ⊎_elim
    (λ (before : k < j). so_far k g h past before at_g at_h)
    (λ (from : j ≤ k). subst (λ (u : CountedEdge). cross (ends_of u) (ends_of h) ≡ false)
    (one_entry es i e g at_e at_g) (none k h from less at_h))
    (cases_lt k j)

-- it crosses none up to a place, nor the edge there
pub crosses_none_more : (es : List CountedEdge) (e : CountedEdge) (from k : ℕ) (f : CountedEdge) → IsAt es k f →
    cross (ends_of e) (ends_of f) ≡ false → CrossesNoneOf es e from k → CrossesNoneOf es e from (k + 1)
crosses_none_more es e from k f at_f fails so_far m h past less at_h = ⊎_elim
    (λ (same : m ≡ k). subst (λ (u : CountedEdge). cross (ends_of e) (ends_of u) ≡ false)
    (one_entry es k f h at_f (subst (λ n. IsAt es n h) same at_h)) fails)
    (λ (before : m < k). so_far m h past before at_h)
    (eq-or-lt_of_le (let le : m ≤ k = omega (arith, less) in le))

module _ (limit : ℕ) (es : List CountedEdge) (held : All (IsHeld limit) es) where
  leads : (e : CountedEdge) → Contains es e → IsBefore e.a e.b
  leads e at = forward_from_test (ends_of e) (All-contains (IsHeld limit) es e held at).forward

  -- others are not near: they meet the edge in ends alone
  pub none_behind : (i : ℕ) (js : List ℕ) → AreNear es i js → FailsAt edges_cross es i js → CrossesNoneBehind es i
  none_behind i js near none_at k e f past at_e at_f = ⊎_elim
      (λ has. none_at k e f has at_e at_f)
      (λ settled. settled_uncrossed (ends_of e) (ends_of f) (leads e (i, at_e.0, at_e.1)) (leads f (k, at_f.0, at_f.1))
      settled)
      ((near e at_e).all k f (omega (arith, past)) at_f)

  -- nor do those from the first on that does not start left of the edge's right end
  pub none_behind_run : IsAscending es → (i j : ℕ) → i < j → ((e f : CountedEdge) → IsAt es i e → IsAt es j f →
      e.b.x ≤ℤ f.a.x) → CrossesNoneUpTo es i j → CrossesNoneBehind es i
  none_behind_run up i j ordered right so_far k e f past at_e at_f = ⊎_elim
      (λ (before : k < j). so_far k e f past before at_e at_f)
      (λ (from : j ≤ k).
      let first = entry_at es j (let within = at_f.0 in omega (arith, from, within)) in
      let starts = right e first.0 at_e first.1 in
      let later : first.0.a.x ≤ℤ f.a.x = ⊎_elim
      (λ (same : j ≡ k). subst (λ (g : CountedEdge). first.0.a.x ≤ℤ g.a.x)
      (one_entry es j first.0 f first.1 (subst (λ n. IsAt es n f) (sym same) at_f)) (omega linear))
      (λ (behind : j < k). starts_no_further_left (ends_of first.0) (ends_of f)
      (less_at es j first.0 first.1 up j k first.0 f behind first.1 at_f))
      (eq-or-lt_of_le from) in
      let e_leads = (leads e (i, at_e.0, at_e.1)).x in
      let f_leads = (leads f (k, at_f.0, at_f.1)).x in
      left_uncrossed (ends_of e) (ends_of f) e.b.x e_leads (omega linear) (omega linear) (omega linear))
      (cases_lt k j)

  -- the edges before place n meet later edges in ends alone
  pub none_behind_settled : (n : ℕ) → AreSettledBefore es n → (i : ℕ) → i < n → CrossesNoneBehind es i
  none_behind_settled n settled i less k e f past at_e at_f =
      settled_uncrossed (ends_of e) (ends_of f) (leads e (i, at_e.0, at_e.1)) (leads f (k, at_f.0, at_f.1))
      (settled.meet i less k e f past at_f.0 at_e at_f)

  -- any two edges
  pub none_cross : (n : ℕ) → length es ≡ n → ((i : ℕ) → i < n → CrossesNoneBehind es i) → NoneCross es
  none_cross n count behind e f (i, i_in, i_is) (j, j_in, j_is) = ⊎_elim
      (λ (less : i < j). behind i (omega (arith, count, i_in)) j e f less (i_in, i_is) (j_in, j_is))
      (λ (le : j ≤ i). ⊎_elim
      (λ (same : j ≡ i). subst (λ (g : CountedEdge). cross (ends_of e) (ends_of g) ≡ false)
      (one_entry es i e f (i_in, i_is) (subst (λ k. IsAt es k f) same (j_in, j_is))) (not_itself (ends_of e)))
      (λ (before : j < i). cross_back (ends_of f) (ends_of e)
      (behind j (omega (arith, count, j_in)) i f e before (j_in, j_is) (i_in, i_is)))
      (eq-or-lt_of_le le))
      (cases_lt i j)

  -- then all meeting points are whole
  pub whole_uncrossed : NoneCross es → MeetInWholePoints es
  whole_uncrossed none e f p has_e has_f meeting =
      uncrossed (ends_of e) (ends_of f) (leads e has_e) (leads f has_f) (none e f has_e has_f) p meeting

  -- and edges that meet in ends alone cross none
  pub settled_none_cross : AreSettledBefore es (length es) → NoneCross es
  settled_none_cross settled = none_cross (length es) refl (none_behind_settled (length es) settled)

-- an edge that crosses a later edge
pub some_cross : (es : List CountedEdge) (i : ℕ) → CrossesSomeBehind es i → SomeCross es
some_cross es i (k, e, f, less, at_e, at_f, test) = (e, f, (i, at_e.0, at_e.1), (k, at_f.0, at_f.1), test)
