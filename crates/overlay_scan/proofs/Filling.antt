-- Edges that are live at x are put into a tree one by one, from bottom to top.
use Rattle.std.proofs.Common.{◌≡◌, Bool, true, false, not, ℕ, ◌+◌, ◌*◌, ◌<◌, ◌≤◌, ℤ, pos, ◌≤ℤ◌, int_lt, List, []}
use Rattle.std.proofs.Common.{◌∷◌, ◌++◌, length, take, drop, get_or, Option, None, Some, refl, sym, ap, ap₂, ◌∙◌}
use Rattle.std.proofs.Common.{subst, arith}
use Rattle.std.proofs.lemmas.Int.{ints}
use Rattle.std.proofs.lemmas.Bool.{both_ways}
use Rattle.std.specs.List.{All, AllPairs}
use Rattle.std.specs.Option.{IfSome, option_map}
use Rattle.std.proofs.lemmas.List.{map-append, take-append-drop, length-append, length-map}
use Rattle.std.proofs.lemmas.List.Elements.{All-cons, All-head, All-weaker}
use Rattle.overlay_geom.specs.Plane.{Edge, edge_eq}
use Rattle.overlay_geom.specs.Settled.{MeetInEnds}
use Rattle.overlay_geom.proofs.Mapped.{mapped_more}
use Rattle.overlay_geom.proofs.Merging.{AllPairs-head, AllPairs-tail}
use Rattle.overlay_geom.proofs.OneLine.{meet_in_ends_exchanged}
use Rattle.overlay_geom.proofs.Orders.{edge_eq-same}
use Rattle.overlay_plane.specs.Heights.{is_under}
use Rattle.overlay_plane.proofs.Entries.{All-first, All-rest}
use Rattle.overlay_plane.proofs.Tests.{test_from_lt}
use Rattle.overlay_plane.proofs.Under.{covers_to, under_irreflexive}
use Rattle.overlay_scan.specs.HeldEdges.{HeldEdges, held_sweep, IsQuick}
use Rattle.overlay_scan.specs.HeldEntries.{live_where}
use Rattle.overlay_scan.specs.Lists.{plain_entry, plain_entries}
use Rattle.overlay_scan.specs.Scan.{Entry, live_at, IsOver, AreLive, IsSweep, IsPutIn, MeetsOthers}
use Rattle.overlay_scan.specs.Scan.{IsNewAmong}
use Rattle.overlay_scan.specs.Turning.{IsTreeOf}
use Rattle.overlay_scan.specs.declared.list.LiveEdge.{LiveEdge}
use Rattle.overlay_scan.proofs.LiveParts.{no_more, rest_is}
use Rattle.overlay_scan.proofs.OneSweep.{under, beyond, all_kept, none_kept, put_in_is}

-- R leads from each item before n to it
pairs_before : {X : Type 0} (R : X → X → Type 0) (xs ys : List X) (n : X) → AllPairs R (xs ++ n ∷ ys) →
    All (λ x. R x n) xs
pairs_before R [] ys n pairs = λ k d lt. absurd (omega (arith, lt))
pairs_before R (x ∷ xs) ys n pairs = All-cons (λ y. R y n) x xs
    (All-head (R x) n ys (All-rest (R x) xs (n ∷ ys) (AllPairs-head R x (xs ++ n ∷ ys) pairs)))
    (pairs_before R xs ys n (AllPairs-tail R x (xs ++ n ∷ ys) pairs))

-- live entries end right of x
pub all_live : {V : Type 0} (limit : ℕ) (x : ℤ) (fs : List (Entry V)) → All (λ f. IsOver limit x f.edge) fs →
    live_at x fs ≡ fs
all_live limit x fs over = all_kept (λ f. int_lt x f.edge.b.x) fs
    (All-weaker (λ f. IsOver limit x f.edge) (λ f. int_lt x f.edge.b.x ≡ true)
    (λ f at. let to = covers_to f.edge x (pos 1) at.over in test_from_lt x f.edge.b.x (omega (arith, ints))) fs over)

-- the entries before n, and n
module _ {V : Type 0} (limit : ℕ) (x : ℤ) (before : List (Entry V)) (n : Entry V) (after : List (Entry V))
    (live : AreLive limit x (before ++ n ∷ after)) where
  pub over_here : IsOver limit x n.edge
  over_here = All-head (λ f. IsOver limit x f.edge) n after
      (All-rest (λ f. IsOver limit x f.edge) before (n ∷ after) live.over)

  pub live_before : live_at x before ≡ before
  live_before = all_live limit x before (All-first (λ f. IsOver limit x f.edge) before (n ∷ after) live.over)

  all_under : All (λ f. is_under f.edge n.edge x (pos 1) ≡ true) before
  all_under = pairs_before (λ f g. is_under f.edge g.edge x (pos 1) ≡ true) before after n live.order

  pub meets_before : MeetsOthers n.edge before
  meets_before = All-weaker (λ f. MeetInEnds f.edge n.edge)
      (λ f. edge_eq n.edge f.edge ≡ false → MeetInEnds n.edge f.edge)
      (λ f m apart. meet_in_ends_exchanged n.edge f.edge m) before
      (pairs_before (λ f g. MeetInEnds f.edge g.edge) before after n live.apart)

  differs : (f : Entry V) → is_under f.edge n.edge x (pos 1) ≡ true → edge_eq n.edge f.edge ≡ false
  differs f low = by (edge_eq n.edge f.edge) refl
    where
      by : (b : Bool) → edge_eq n.edge f.edge ≡ b → edge_eq n.edge f.edge ≡ false
      by false apart = apart
      by true same = absurd (both_ways (is_under f.edge n.edge x (pos 1))
          (subst (λ (e : Edge). is_under f.edge e x (pos 1) ≡ false) (sym (edge_eq-same n.edge f.edge same))
          (under_irreflexive f.edge x (pos 1))) low)

  pub new_before : IsNewAmong n.edge before
  new_before = All-weaker (λ f. is_under f.edge n.edge x (pos 1) ≡ true) (λ f. edge_eq n.edge f.edge ≡ false)
      differs before all_under

  -- n goes above all of them
  pub at_top : (new : List (Entry V)) → IsPutIn x n before new → new ≡ before ++ n ∷ []
  at_top new put = put_in_is x n before new put
      ∙ ap₂ (λ a b. a ++ n ∷ b) (all_kept (under x n) before all_under)
      (none_kept (beyond x n) before (All-weaker (λ f. under x n f ≡ true) (λ f. beyond x n f ≡ false)
      (λ f is. ap not is) before all_under))

-- no more entries are live than there are
live_where-no_more : {V : Type 0} (o : Option ℤ) (fs : List (Entry V)) → length (live_where o fs) ≤ length fs
live_where-no_more None fs = omega arith
live_where-no_more (Some x) fs = no_more (λ f. int_lt x f.edge.b.x) fs

-- the visits of one call more
few_more : (old now m dropped digits : ℕ) → dropped ≡ 0 → old ≤ 2 * m * digits →
    now ≤ old + 2 * (dropped + 1) * digits → now ≤ 2 * (m + 1) * digits
few_more old now m dropped digits none few more =
    let one : 2 * (dropped + 1) * digits ≡ 2 * digits = ap (λ d. 2 * (d + 1) * digits) none in
    omega arith

-- ---- the edge at place i

module _ {I V : Type 0} (whole : I → ℤ) (limit : ℕ) (x : ℤ) (es : List (LiveEdge I V))
    (live : AreLive limit x (plain_entries whole es)) (i : ℕ) (f : LiveEdge I V) (within : i < length es)
    (is : f ≡ get_or es i f) where
  abbrev before : List (Entry V)
  before = plain_entries whole (take i es)

  parted : plain_entries whole es ≡ before ++ plain_entry whole f ∷ plain_entries whole (drop (i + 1) es)
  parted = ap (plain_entries whole) (sym (take-append-drop i es))
      ∙ map-append (plain_entry whole) (take i es) (drop i es)
      ∙ ap (λ fs. before ++ plain_entries whole fs) (rest_is whole x es i f within is)

  parts : AreLive limit x (before ++ plain_entry whole f ∷ plain_entries whole (drop (i + 1) es))
  parts = subst (AreLive limit x) parted live

  -- it may be inserted
  pub over : IsOver limit x (plain_entry whole f).edge
  over = over_here limit x before (plain_entry whole f) (plain_entries whole (drop (i + 1) es)) parts

  module _ (t : HeldEdges I V) (filled : IsTreeOf whole limit x (take i es) t) where
    live_there : live_at x (held_sweep whole t).entries ≡ before
    live_there = ap (live_at x) filled.entries
        ∙ live_before limit x before (plain_entry whole f) (plain_entries whole (drop (i + 1) es)) parts

    pub meets : MeetsOthers (plain_entry whole f).edge (live_at x (held_sweep whole t).entries)
    meets = subst (MeetsOthers (plain_entry whole f).edge) (sym live_there)
        (meets_before limit x before (plain_entry whole f) (plain_entries whole (drop (i + 1) es)) parts)

    pub fresh : IsNewAmong (plain_entry whole f).edge (live_at x (held_sweep whole t).entries)
    fresh = subst (IsNewAmong (plain_entry whole f).edge) (sym live_there)
        (new_before limit x before (plain_entry whole f) (plain_entries whole (drop (i + 1) es)) parts)

    -- and then the tree holds one edge more
    module _ (new : HeldEdges I V)
        (put : IsPutIn x (plain_entry whole f) (live_at x (held_sweep whole t).entries) (held_sweep whole new).entries)
        (reached : (held_sweep whole new).reached ≡ Some x) (state : IsSweep limit (held_sweep whole new))
        (quick : IsQuick t new 1) where
      longer : plain_entries whole (take (i + 1) es) ≡ before ++ plain_entry whole f ∷ []
      longer = mapped_more (plain_entry whole) es i f within is

      now : (held_sweep whole new).entries ≡ plain_entries whole (take (i + 1) es)
      now = at_top limit x before (plain_entry whole f) (plain_entries whole (drop (i + 1) es)) parts
          (held_sweep whole new).entries
          (subst (λ fs. IsPutIn x (plain_entry whole f) fs (held_sweep whole new).entries) live_there put)
          ∙ sym longer

      one_more : length (take (i + 1) es) ≡ length (take i es) + 1
      one_more =
          let long = length-map (take (i + 1) es) (plain_entry whole) in
          let short = length-map (take i es) (plain_entry whole) in
          let all : length (plain_entries whole (take (i + 1) es)) ≡ length before + 1 = ap length longer
          ∙ length-append before (plain_entry whole f ∷ []) in
          omega arith

      none_dropped : quick.dropped ≡ 0
      none_dropped =
          let held = live_where-no_more (option_map whole new.reached) (plain_entries whole new.entries) in
          let plain = length-map new.entries (plain_entry whole) in
          let many = ap length now in
          let long = length-map (take (i + 1) es) (plain_entry whole) in
          let was = filled.count in
          let count = quick.count in
          omega (arith, one_more)

      pub filled_more : IsTreeOf whole limit x (take (i + 1) es) new
      filled_more = record {
        entries = now;
        state = state;
        moves = subst (λ o. IfSome o (λ l. l ≤ℤ x)) (sym reached) (omega (arith, ints));
        count = let was = filled.count in let count = quick.count in omega (arith, one_more, none_dropped);
        few = λ digits low. subst (λ n. new.visits ≤ 2 * n * digits) (sym one_more)
            (few_more t.visits new.visits (length (take i es)) quick.dropped digits none_dropped
            (filled.few digits (omega (arith, one_more)))
            (quick.visited.few digits (let was = filled.count in omega (arith, one_more))));
      }
