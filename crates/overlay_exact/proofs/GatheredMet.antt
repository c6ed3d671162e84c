-- The meeting points of an edge with others, gathered one edge after the other, and then sorted.
use Rattle.std.proofs.Common.{◌≡◌, ◌≢◌, ⊎_elim, ℕ, ◌+◌, ◌<◌, ◌≤◌, Bool, true, false, ◌==◌, ◌&&◌, ◌*ℤ◌, List}
use Rattle.std.proofs.Common.{[], ◌∷◌, ◌++◌, All, AllPairs, Contains, get_or, sym, ◌∙◌, subst, arith}
use Rattle.std.specs.Bool.{Decides}
use Rattle.std.specs.List.{Any}
use Rattle.std.specs.List.Sorted.{IsPermutation}
use Rattle.std.specs.Ordering.{int_eq}
use Rattle.std.proofs.lemmas.Bool.{false_from_ne_true}
use Rattle.std.proofs.lemmas.Bool.Decides.{Decides-eqb, Decides-int_eq, Decides-and, not_from_Decides}
use Rattle.std.proofs.lemmas.List.Elements.{All-nil, All-append, All-contains, All-weaker}
use Rattle.std.proofs.lemmas.List.Elements.{Contains-append_left, Contains-append_right, Contains-append_cases}
use Rattle.std.proofs.lemmas.List.Sorted.{All-permutation, Contains-permutation}
use Rattle.std.proofs.Math.Nat.{eq-or-lt_of_le}
use Rattle.overlay_geom.specs.Edges.{CountedEdge, ends_of}
use Rattle.overlay_geom.specs.Plane.{PlanePoint, Edge}
use Rattle.overlay_geom.specs.Resolved.{IsLongEdge}
use Rattle.overlay_geom.proofs.Signs.{linear}
use Rattle.overlay_plane.specs.Meetings.{IsMeetingPoint}
use Rattle.overlay_plane.proofs.Entries.{any_of_entry, Contains-from_any}
use Rattle.overlay_plane.proofs.LaterEntries.{Each, Each-from_all_pairs, AllPairs-from_each}
use Rattle.overlay_plane.proofs.ShuffledPairs.{pairs_shuffled}
use Rattle.overlay_plane.proofs.Totals.{Contains-head, Contains-later}
use Rattle.overlay_order.specs.Content.{IsHeld}
use Rattle.overlay_pairs.specs.Places.{IsAt}
use Rattle.overlay_pairs.proofs.Entries.{one_entry}
use Rattle.overlay_exact.specs.AllMet.{IsMetBefore, TellsOf, AreDifferent, AreMetBefore}
use Rattle.overlay_exact.specs.Along.{Met, AreMetAt, AddsMet}
use Rattle.overlay_exact.specs.Parts.{IsLess, AreEqual, LiesAt}

-- ---- pairs of two lists

-- a relation holds of the pairs of two lists joined, if it holds of the pairs of each, and of each entry of the first
-- with each of the second
each_joined : {X : Type 0} (R : X → X → Type 0) (xs ys : List X) → Each R xs → Each R ys →
    ((x y : X) → Contains xs x → Contains ys y → R x y) → Each R (xs ++ ys)
each_joined R [] ys h k between = k
each_joined R (x ∷ xs) ys h k between = (
  λ z at. ⊎_elim (λ old. h.0 z old) (λ new. between x z (Contains-head x xs) new) (Contains-append_cases xs ys z at),
  each_joined R xs ys h.1 k (λ a b in_a in_b. between a b (Contains-later x xs a in_a) in_b),
)

pairs_joined : {X : Type 0} (R : X → X → Type 0) (xs ys : List X) → AllPairs R xs → AllPairs R ys →
    ((x y : X) → Contains xs x → Contains ys y → R x y) → AllPairs R (xs ++ ys)
pairs_joined R xs ys h k between = AllPairs-from_each R (xs ++ ys)
    (each_joined R xs ys (Each-from_all_pairs R xs h) (Each-from_all_pairs R ys k) between)

-- ---- a test for entries that are not different

abbrev is_same : Met → Met → Bool
is_same m n = (m.other == n.other) && int_eq (m.part.n *ℤ n.part.d) (n.part.n *ℤ m.part.d)

Decides-is_same : (m n : Met) → Decides (is_same m n) ((m.other ≡ n.other) × AreEqual m.part n.part)
Decides-is_same m n = Decides-and (m.other == n.other) (int_eq (m.part.n *ℤ n.part.d) (n.part.n *ℤ m.part.d))
    (Decides-eqb m.other n.other) (Decides-int_eq (m.part.n *ℤ n.part.d) (n.part.n *ℤ m.part.d))

is_same-exchanged : (m n : Met) → is_same m n ≡ true → is_same n m ≡ true
is_same-exchanged m n same =
    let both = (Decides-is_same m n).0 same in
    (Decides-is_same n m).1 (sym both.0, sym both.1)

-- entries stay different in another order
different_shuffled : (ms ns : List Met) → IsPermutation ms ns → AllPairs AreDifferent ms → AllPairs AreDifferent ns
different_shuffled ms ns moved once =
    let tested : AllPairs (λ m n. is_same m n ≡ false) ms = λ i j d less within.
    let m = get_or ms i d in
    let n = get_or ms j d in
    false_from_ne_true (is_same m n) (λ same. let both = (Decides-is_same m n).0 same in
    once i j d less within both.0 both.1) in
    λ i j d less within same equal.
    let m = get_or ns i d in
    let n = get_or ns j d in
    not_from_Decides (is_same m n) (Decides-is_same m n)
    (pairs_shuffled is_same is_same-exchanged ms ns moved tested i j d less within) (same, equal)

-- ---- gathering

-- m is a meeting point of the two edges, under this number
abbrev IsMetWith : CountedEdge → CountedEdge → ℕ → Met → Type 0
IsMetWith e f n m = (m.other ≡ n) × AreMetAt (ends_of e) (ends_of f) m.part

-- the points added are those of equal edges
pub adds_alike : (d e f g : Edge) (n : ℕ) (old new : List Met) → d ≡ e → f ≡ g → AddsMet d f n old new →
    AddsMet e g n old new
adds_alike d e f g n old new one other adds = subst (λ x. AddsMet x g n old new) one
    (subst (λ y. AddsMet d y n old new) other adds)

-- the ends of an edge that a builder may hold
pub long_of_held : (limit : ℕ) (e : CountedEdge) → IsHeld limit e → IsLongEdge limit (ends_of e)
long_of_held limit e held = record {
  forward = held.forward;
  a_in_range = held.a_in_range;
  b_in_range = held.b_in_range;
}

module _ (es : List CountedEdge) (i : ℕ) (e : CountedEdge) where
  -- before the first edge there are none
  pub gathered_none : AreMetBefore es 0 i e []
  gathered_none = record {
    each = All-nil (IsMetBefore es 0 i e);
    every = λ j f p less. absurd (omega (arith, less));
    once = λ j k d less within. absurd (omega (arith, within));
  }

  -- a meeting point before place n is one before a later place
  pub later : (n l : ℕ) → n ≤ l → (m : Met) → IsMetBefore es n i e m → IsMetBefore es l i e m
  later n l le m met = record {
    before = let less = met.before in omega arith;
    other = met.other;
    edge = met.edge;
    at = met.at;
    met = met.met;
  }

  -- the edge itself is left out
  pub gathered_past_itself : (ms : List Met) → AreMetBefore es i i e ms → AreMetBefore es (i + 1) i e ms
  gathered_past_itself ms so_far = record {
    each = All-weaker (IsMetBefore es i i e) (IsMetBefore es (i + 1) i e) (later i (i + 1) (omega arith)) ms
        so_far.each;
    every = λ j f p less apart. so_far.every j f p (⊎_elim (λ (same : j ≡ i). absurd (apart same)) (λ before. before)
        (eq-or-lt_of_le (let le : j ≤ i = omega arith in le))) apart;
    once = so_far.once;
  }

  module _ (n : ℕ) (f : CountedEdge) (at : IsAt es n f) (apart : n ≢ i) (ms : List Met)
      (so_far : AreMetBefore es n i e ms) (added : List Met)
      (each : All (IsMetWith e f n) added)
      (every : (p : PlanePoint) → IsMeetingPoint (ends_of e) (ends_of f) p →
      Any (λ m. LiesAt (ends_of e) m.part p) added)
      (once : AllPairs (λ m n. IsLess m.part n.part) added) where
    -- the points added are meeting points
    is_met : (m : Met) → IsMetWith e f n m → IsMetBefore es (n + 1) i e m
    is_met m (is, met) = record {
      before = omega arith;
      other = λ same. apart (sym is ∙ same);
      edge = f;
      at = subst (λ k. IsAt es k f) (sym is) at;
      met = met;
    }

    -- those with f are among them
    every_here : (p : PlanePoint) → IsMeetingPoint (ends_of e) (ends_of f) p → Any (TellsOf e n p) (ms ++ added)
    every_here p meeting =
        let found = Contains-from_any (λ m. LiesAt (ends_of e) m.part p) added (every p meeting) in
        any_of_entry (TellsOf e n p) (ms ++ added) found.0 (Contains-append_right ms added found.0 found.1)
        ((All-contains (IsMetWith e f n) added found.0 each found.1).0, found.2)

    -- and those with earlier edges stay
    every_before : (j : ℕ) (p : PlanePoint) → Any (TellsOf e j p) ms → Any (TellsOf e j p) (ms ++ added)
    every_before j p some =
        let found = Contains-from_any (TellsOf e j p) ms some in
        any_of_entry (TellsOf e j p) (ms ++ added) found.0 (Contains-append_left ms added found.0 found.1) found.2

    pub gathered_joined : AreMetBefore es (n + 1) i e (ms ++ added)
    gathered_joined = record {
      each = All-append (IsMetBefore es (n + 1) i e) ms added
          (All-weaker (IsMetBefore es n i e) (IsMetBefore es (n + 1) i e) (later n (n + 1) (omega arith)) ms
          so_far.each)
          (All-weaker (IsMetWith e f n) (IsMetBefore es (n + 1) i e) is_met added each);
      every = λ j g p less other at_g meeting. ⊎_elim
          (λ (same : j ≡ n).
          let is : g ≡ f = one_entry es n g f (subst (λ k. IsAt es k g) same at_g) at in
          subst (λ k. Any (TellsOf e k p) (ms ++ added)) (sym same)
          (every_here p (subst (λ h. IsMeetingPoint (ends_of e) (ends_of h) p) is meeting)))
          (λ (before : j < n). every_before j p (so_far.every j g p before other at_g meeting))
          (eq-or-lt_of_le (let le : j ≤ n = omega (arith, less) in le));
      once = pairs_joined AreDifferent ms added so_far.once
          (λ j k d less within same equal. let more = once j k d less within in absurd (omega linear))
          (λ x y in_ms in_added same equal.
          let less = (All-contains (IsMetBefore es n i e) ms x so_far.each in_ms).before in
          let is = (All-contains (IsMetWith e f n) added y each in_added).0 in
          absurd (omega (arith, less, is, same)));
    }

  -- the meeting points with the edge at place n are added
  pub gathered_more : (n : ℕ) (f : CountedEdge) → IsAt es n f → n ≢ i → (old new : List Met) →
      AreMetBefore es n i e old → AddsMet (ends_of e) (ends_of f) n old new → AreMetBefore es (n + 1) i e new
  gathered_more n f at apart old new so_far adds = subst (AreMetBefore es (n + 1) i e) (sym adds.after)
      (gathered_joined n f at apart old so_far adds.added adds.each adds.every adds.once)

  -- in another order they are all the same
  pub gathered_shuffled : (n : ℕ) (ms ns : List Met) → IsPermutation ms ns → AreMetBefore es n i e ms →
      AreMetBefore es n i e ns
  gathered_shuffled n ms ns moved all = record {
    each = All-permutation (IsMetBefore es n i e) ms ns moved all.each;
    every = λ j f p less apart at meeting.
        let found = Contains-from_any (TellsOf e j p) ms (all.every j f p less apart at meeting) in
        any_of_entry (TellsOf e j p) ns found.0 (Contains-permutation ms ns found.0 moved found.1) found.2;
    once = different_shuffled ms ns moved all.once;
  }
