-- Edges that a sweep has passed: where none is left out that may meet the next edge, all meeting points are gathered.
use Rattle.std.proofs.Common.{◌≡◌, ◌≢◌, ⊎_elim, ℕ, ◌+◌, ◌<◌, ◌≤◌, Bool, true, false, not, ℤ, pos, ◌*ℤ◌, ◌<ℤ◌, ◌≤ℤ◌}
use Rattle.std.proofs.Common.{int_lt, List, [], ◌∷◌, ◌++◌, All, AllPairs, Contains, filter, length, map, get_or, refl}
use Rattle.std.proofs.Common.{sym, ap, ◌∙◌, subst, arith}
use lib.IntN.{*ℤ_comm}
use Rattle.std.specs.List.{Any}
use Rattle.std.proofs.lemmas.Bool.{cases_lt}
use Rattle.std.proofs.lemmas.Int.{by_lt_z}
use Rattle.std.proofs.lemmas.List.{get_or_default, map-append}
use Rattle.std.proofs.lemmas.List.Elements.{All-nil, All-push, All-filter, All-weaker, All-contains}
use Rattle.std.proofs.lemmas.List.Elements.{Contains-append_left, Contains-append_right}
use Rattle.std.proofs.lemmas.List.Quantifiers.{all_pairs_push}
use Rattle.std.proofs.Math.Nat.{eq-or-lt_of_le}
use Rattle.overlay_geom.specs.Edges.{CountedEdge, ends_of}
use Rattle.overlay_geom.specs.Plane.{PlanePoint, Edge, edge_lt}
use Rattle.overlay_geom.proofs.AlongEdge.{order_of_on}
use Rattle.overlay_geom.proofs.Mapped.{All-mapped_at, map-filter}
use Rattle.overlay_geom.proofs.PointOrder.{IsBefore}
use Rattle.overlay_geom.proofs.Signs.{linear, mul-lt}
use Rattle.overlay_plane.specs.Meetings.{IsMeetingPoint}
use Rattle.overlay_plane.proofs.Entries.{any_of_entry, Contains-from_any, Contains-filter}
use Rattle.overlay_plane.proofs.LaterEntries.{Each-from_all_pairs, AllPairs-from_each, Each-filter}
use Rattle.overlay_plane.proofs.Tests.{test_from_ge}
use Rattle.overlay_plane.proofs.Totals.{Contains-head}
use Rattle.overlay_plane.proofs.WholeOnEdges.{forward_from_test}
use Rattle.overlay_order.specs.Content.{IsAscending, IsHeld}
use Rattle.overlay_pairs.specs.Places.{IsAt}
use Rattle.overlay_pairs.proofs.Entries.{one_entry}
use Rattle.overlay_pairs.proofs.SettledLists.{starts_no_further_left}
use Rattle.overlay_exact.specs.AllMet.{IsMetBefore, AreMetBefore}
use Rattle.overlay_exact.specs.Along.{Met}
use Rattle.overlay_exact.specs.Passed.{Passed, IsPassed, ArePassed, plain_passed}
use Rattle.overlay_exact.specs.declared.passed.PassedEdge.{PassedEdge}
use Rattle.overlay_exact.proofs.GatheredMet.{later}
use Rattle.overlay_exact.proofs.ToldMeetings.{less_at}

-- ---- edges apart

-- an edge that ends left of another does not meet it
pub apart_in_x : (e f : Edge) (p : PlanePoint) → IsBefore e.a e.b → IsBefore f.a f.b → e.b.x <ℤ f.a.x →
    ¬ (IsMeetingPoint e f p)
apart_in_x e f p e_before f_before left meeting =
    let to = (order_of_on e p e_before meeting.common.0).1.x in
    let from = (order_of_on f p f_before meeting.common.1).0.x in
    let less = mul-lt p.d e.b.x f.a.x p.positive left in
    let one = *ℤ_comm e.b.x p.d in
    let other = *ℤ_comm f.a.x p.d in
    omega linear

pub apart_in_x_back : (e f : Edge) (p : PlanePoint) → IsBefore e.a e.b → IsBefore f.a f.b → f.b.x <ℤ e.a.x →
    ¬ (IsMeetingPoint e f p)
apart_in_x_back e f p e_before f_before left meeting =
    let to = (order_of_on f p f_before meeting.common.1).1.x in
    let from = (order_of_on e p e_before meeting.common.0).0.x in
    let less = mul-lt p.d f.b.x e.a.x p.positive left in
    let one = *ℤ_comm f.b.x p.d in
    let other = *ℤ_comm e.a.x p.d in
    omega linear

-- edges that do not meet e are passed over
pub gathered_past : (es : List CountedEdge) (n l i : ℕ) (e : CountedEdge) (ms : List Met) → n ≤ l →
    ((j : ℕ) (f : CountedEdge) (p : PlanePoint) → n ≤ j → j < l → IsAt es j f →
    ¬ (IsMeetingPoint (ends_of e) (ends_of f) p)) →
    AreMetBefore es n i e ms → AreMetBefore es l i e ms
gathered_past es n l i e ms up none so_far = record {
  each = All-weaker (IsMetBefore es n i e) (IsMetBefore es l i e) (later es i e n l up) ms so_far.each;
  every = λ j f p less other at meeting. ⊎_elim
      (λ (early : j < n). so_far.every j f p early other at meeting)
      (λ (late : n ≤ j). absurd (none j f p late less at meeting))
      (cases_lt j n);
  once = so_far.once;
}

-- ---- passed edges

pub passed_none : (es : List CountedEdge) (x : ℤ) → ArePassed es 0 x []
passed_none es x = record {
  each = All-nil (IsPassed es 0);
  order = λ i j d less within. absurd (omega (arith, within));
  all = λ j f less at ends. absurd (omega (arith, less));
}

-- further right there are none more
pub passed_later : (es : List CountedEdge) (i : ℕ) (x z : ℤ) (ps : List Passed) → x ≤ℤ z → ArePassed es i x ps →
    ArePassed es i z ps
passed_later es i x z ps up so_far = record {
  each = so_far.each;
  order = so_far.order;
  all = λ j f less at ends. so_far.all j f less at (omega linear);
}

-- those that end left of x are dropped
pub passed_kept : (es : List CountedEdge) (i : ℕ) (x : ℤ) (ps : List Passed) → ArePassed es i x ps →
    ArePassed es i x (filter (λ p. not (int_lt p.right x)) ps)
passed_kept es i x ps so_far = record {
  each = All-filter (λ p. not (int_lt p.right x)) (IsPassed es i) ps so_far.each;
  order = AllPairs-from_each (λ (p : Passed) (q : Passed). p.place < q.place)
      (filter (λ p. not (int_lt p.right x)) ps)
      (Each-filter (λ (p : Passed) (q : Passed). p.place < q.place) (λ p. not (int_lt p.right x)) ps
      (Each-from_all_pairs (λ (p : Passed) (q : Passed). p.place < q.place) ps so_far.order));
  all = λ j f less at ends.
      let found = Contains-from_any (λ (p : Passed). p.place ≡ j) ps (so_far.all j f less at ends) in
      let p : Passed = found.0 in
      let is : p.right ≡ f.b.x = (All-contains (IsPassed es i) ps p so_far.each found.1).ends f
      (subst (λ k. IsAt es k f) (sym found.2) at) in
      any_of_entry (λ (q : Passed). q.place ≡ j) (filter (λ q. not (int_lt q.right x)) ps) p
      (Contains-filter (λ (q : Passed). not (int_lt q.right x)) ps p found.1
      (ap not (test_from_ge p.right x (omega linear)))) found.2;
}

-- the edge at place i is passed
pub passed_more : (es : List CountedEdge) (i : ℕ) (x : ℤ) (ps : List Passed) (e : CountedEdge) → IsAt es i e →
    ArePassed es i x ps → ArePassed es (i + 1) x (ps ++ (record { place = i; right = e.b.x }) ∷ [])
passed_more es i x ps e at so_far = record {
  each = All-push (IsPassed es (i + 1)) ps (record { place = i; right = e.b.x })
      (All-weaker (IsPassed es i) (IsPassed es (i + 1))
      (λ p is. record { before = let less = is.before in omega arith; ends = is.ends }) ps so_far.each)
      (record {
        before = omega arith;
        ends = λ f at_f. ap (λ (g : CountedEdge). g.b.x) (one_entry es i e f at at_f);
      });
  order = all_pairs_push (λ (p : Passed) (q : Passed). p.place < q.place) ps (record { place = i; right = e.b.x })
      so_far.order (λ k d within. (so_far.each k d within).before);
  all = λ j f less at_f ends. ⊎_elim
      (λ (same : j ≡ i). any_of_entry (λ (q : Passed). q.place ≡ j) (ps ++ (record { place = i; right = e.b.x }) ∷ [])
      (record { place = i; right = e.b.x })
      (Contains-append_right ps ((record { place = i; right = e.b.x }) ∷ []) (record { place = i; right = e.b.x })
      (Contains-head (record { place = i; right = e.b.x }) [])) (sym same))
      (λ (early : j < i).
      let found = Contains-from_any (λ (p : Passed). p.place ≡ j) ps (so_far.all j f early at_f ends) in
      any_of_entry (λ (q : Passed). q.place ≡ j) (ps ++ (record { place = i; right = e.b.x }) ∷ []) found.0
      (Contains-append_left ps ((record { place = i; right = e.b.x }) ∷ []) found.0 found.1) found.2)
      (eq-or-lt_of_le (let le : j ≤ i = omega (arith, less) in le));
}

-- ---- gathering from them

-- the meeting points of e with the first k passed edges are gathered, and those with all edges before the place `next`
pub record GathersPassed (es : List CountedEdge) (i : ℕ) (e : CountedEdge) (ps : List Passed) (k : ℕ)
    (ms : List Met) : Type 0 where
  pub next : ℕ
  pub up : next ≤ i
  pub done : (n : ℕ) (d : Passed) → n < k → (get_or ps n d).place < next
  pub left : (n : ℕ) (d : Passed) → k ≤ n → n < length ps → next ≤ (get_or ps n d).place
  pub met : AreMetBefore es next i e ms

pub gathers_none : (es : List CountedEdge) (i : ℕ) (e : CountedEdge) (ps : List Passed) (ms : List Met) →
    AreMetBefore es 0 i e ms → GathersPassed es i e ps 0 ms
gathers_none es i e ps ms so_far = record {
  next = 0;
  up = omega arith;
  done = λ n d less. absurd (omega (arith, less));
  left = λ n d le within. omega arith;
  met = so_far;
}

module _ (es : List CountedEdge) (i : ℕ) (e : CountedEdge) (ps : List Passed) (k : ℕ) (ms : List Met)
    (forward : (j : ℕ) (f : CountedEdge) → IsAt es j f → IsBefore f.a f.b) (at : IsAt es i e)
    (passed : ArePassed es i e.a.x ps) (so_far : GathersPassed es i e ps k ms) where
  -- an edge between the last place and the next passed one does not meet e
  none_between : (l : ℕ) → l ≤ i → ((n : ℕ) (d : Passed) → k ≤ n → n < length ps → l ≤ (get_or ps n d).place) →
      (j : ℕ) (f : CountedEdge) (p : PlanePoint) → so_far.next ≤ j → j < l → IsAt es j f →
      ¬ (IsMeetingPoint (ends_of e) (ends_of f) p)
  none_between l within behind j f p late early at_f = by_lt_z f.b.x e.a.x
      (λ left. apart_in_x_back (ends_of e) (ends_of f) p (forward i e at) (forward j f at_f) left)
      (λ reaches. absurd (not_passed (passed.all j f (omega (arith, within, early)) at_f reaches)))
    where
      not_passed : Any (λ p. p.place ≡ j) ps → ⊥
      not_passed some =
          let found = Contains-from_any (λ (p : Passed). p.place ≡ j) ps some in
          let n = found.1.0 in
          let is : (get_or ps n found.0).place ≡ j = ap (λ (q : Passed). q.place) found.1.2 ∙ found.2 in
          ⊎_elim
          (λ (first : n < k). let less = so_far.done n found.0 first in omega (arith, is, less, late))
          (λ (rest : k ≤ n). let le = behind n found.0 rest found.1.1 in omega (arith, is, le, early))
          (cases_lt n k)

  -- so up to the next passed edge all are gathered
  module _ (d : Passed) (more : k < length ps) where
    abbrev place : ℕ
    place = (get_or ps k d).place

    place_before : place < i
    place_before = (passed.each k d more).before

    place_least : (n : ℕ) (b : Passed) → k ≤ n → n < length ps → place ≤ (get_or ps n b).place
    place_least n b up within = ⊎_elim
        (λ (same : k ≡ n). let is = ap (λ (q : Passed). q.place)
        (ap (λ m. get_or ps m d) same ∙ get_or_default ps n d b within) in omega (arith, is))
        (λ (behind : k < n).
        let less = passed.order k n d behind within in
        let is = ap (λ (q : Passed). q.place) (get_or_default ps n d b within) in
        omega (arith, less, is))
        (eq-or-lt_of_le up)

    pub gathers_to : AreMetBefore es place i e ms
    gathers_to = gathered_past es so_far.next place i e ms (so_far.left k d (omega arith) more)
        (none_between place (let less = place_before in omega (arith, less)) place_least) so_far.met

    -- and with it one more
    pub gathers_more : (new : List Met) → AreMetBefore es (place + 1) i e new → GathersPassed es i e ps (k + 1) new
    gathers_more new met = record {
      next = place + 1;
      up = let less = place_before in omega (arith, less);
      done = λ n b less. ⊎_elim
          (λ (same : n ≡ k). let is = ap (λ (q : Passed). q.place)
          (ap (λ m. get_or ps m b) same ∙ get_or_default ps k b d more) in omega (arith, is))
          (λ (early : n < k).
          let up = so_far.left k d (omega arith) more in
          let last = so_far.done n b early in
          omega (arith, up, last))
          (eq-or-lt_of_le (let le : n ≤ k = omega (arith, less) in le));
      left = λ n b up within.
          let less = passed.order k n b (omega (arith, up)) within in
          let is = ap (λ (q : Passed). q.place) (get_or_default ps k d b more) in
          omega (arith, less, is);
      met = met;
    }

  -- after the last of them all before e are gathered
  pub gathers_all : length ps ≤ k → AreMetBefore es i i e ms
  gathers_all all = gathered_past es so_far.next i i e ms so_far.up
      (none_between i (omega arith) (λ n d up within. absurd (omega (arith, all, up, within)))) so_far.met

-- ---- behind an edge

-- edges from a place on that starts right of the end of e do not meet it
pub gathers_behind : (es : List CountedEdge) (i n l : ℕ) (e : CountedEdge) (ms : List Met) → IsAscending es →
    ((j : ℕ) (f : CountedEdge) → IsAt es j f → IsBefore f.a f.b) → IsAt es i e → n ≤ l → l ≤ length es →
    ((f : CountedEdge) → IsAt es n f → e.b.x <ℤ f.a.x) → AreMetBefore es n i e ms → AreMetBefore es l i e ms
gathers_behind es i n l e ms ascending forward at up within right so_far = gathered_past es n l i e ms up none so_far
  where
    none : (j : ℕ) (f : CountedEdge) (p : PlanePoint) → n ≤ j → j < l → IsAt es j f →
        ¬ (IsMeetingPoint (ends_of e) (ends_of f) p)
    none j f p late early at_f = apart_in_x (ends_of e) (ends_of f) p (forward i e at) (forward j f at_f) (⊎_elim
        (λ (same : n ≡ j). right f (subst (λ k. IsAt es k f) (sym same) at_f))
        (λ (behind : n < j).
        let first = get_or es n f in
        let from = right first (
          omega (arith, within, late, early),
          get_or_default es n first f
              (omega (arith, within, late, early)),
        ) in
        let less = ascending n j f behind (omega (arith, within, early)) in
        let no_less = starts_no_further_left (ends_of first) (ends_of f)
        (subst (λ (g : CountedEdge). edge_lt (ends_of first) (ends_of g) ≡ true) at_f.1 less) in
        omega linear)
        (eq-or-lt_of_le late))

-- ---- of the program

-- a passed edge of the program stands before place i
pub passed_within : {I : Type 0} (whole : I → ℤ) (es : List CountedEdge) (i : ℕ) (x : ℤ) (ps : List (PassedEdge I))
    (k : ℕ) (p : PassedEdge I) → ArePassed es i x (map (plain_passed whole) ps) → k < length ps → p ≡ get_or ps k p →
    p.place < i
passed_within whole es i x ps k p passed within is = (All-mapped_at (IsPassed es i) (plain_passed whole) ps k p within
    is passed.each).before

-- edges that a builder may hold lead forward
pub forward_held : (limit : ℕ) (es : List CountedEdge) → All (IsHeld limit) es → (j : ℕ) (f : CountedEdge) →
    IsAt es j f → IsBefore f.a f.b
forward_held limit es held j f at = forward_from_test (ends_of f)
    (All-contains (IsHeld limit) es f held (j, at.0, at.1)).forward

-- dropping those that end left of x leaves the others
pub passed_dropped : {I : Type 0} (whole : I → ℤ) (es : List CountedEdge) (i : ℕ) (x : ℤ)
    (old new : List (PassedEdge I)) → new ≡ filter (λ p. not (int_lt (whole p.right) x)) old →
    ArePassed es i x (map (plain_passed whole) old) → ArePassed es i x (map (plain_passed whole) new)
passed_dropped whole es i x old new dropped so_far = subst (ArePassed es i x)
    (sym (ap (map (plain_passed whole)) dropped ∙ map-filter (plain_passed whole) (λ p. not (int_lt p.right x)) old))
    (passed_kept es i x (map (plain_passed whole) old) so_far)

-- with the edge at place i they are those for the next edge
pub passed_on : {I : Type 0} (whole : I → ℤ) (es : List CountedEdge) (i : ℕ) (f : CountedEdge) → IsAt es i f →
    IsAscending es → (kept new : List (PassedEdge I)) (p : PassedEdge I) →
    plain_passed whole p ≡ record { place = i; right = f.b.x } → new ≡ kept ++ p ∷ [] →
    ArePassed es i f.a.x (map (plain_passed whole) kept) → (e : CountedEdge) → IsAt es (i + 1) e →
    ArePassed es (i + 1) e.a.x (map (plain_passed whole) new)
passed_on whole es i f at ascending kept new p is pushed so_far e at_e =
    let no_less = starts_no_further_left (ends_of f) (ends_of e)
    (less_at es i f at ascending i (i + 1) f e (omega arith) at at_e) in
    passed_later es (i + 1) f.a.x e.a.x (map (plain_passed whole) new) no_less
    (subst (ArePassed es (i + 1) f.a.x)
    (sym (ap (map (plain_passed whole)) pushed ∙ map-append (plain_passed whole) kept (p ∷ [])
    ∙ ap (λ q. map (plain_passed whole) kept ++ q ∷ []) is))
    (passed_more es i f.a.x (map (plain_passed whole) kept) f at so_far))
