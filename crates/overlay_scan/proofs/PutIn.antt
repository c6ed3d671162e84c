-- The place of a new entry: above all entries under it, and below the others.
use Rattle.std.proofs.Common.{◌≡◌, ⊎_elim, true, false, ℕ, List, [], ◌∷◌, ◌++◌, take, drop, get_or, ℤ, pos, sym}
use Rattle.std.proofs.Common.{ap, ◌∙◌, subst, arith}
use Rattle.std.proofs.lemmas.Int.{ints}
use Rattle.std.proofs.lemmas.Bool.{false≢true}
use Rattle.std.specs.List.{All, AllPairs, filter, prefix_len}
use Rattle.std.proofs.lemmas.List.{take-append-drop}
use Rattle.std.proofs.lemmas.List.Elements.{All-cons, All-head, All-tail, All-weaker, All-drop}
use Rattle.std.proofs.lemmas.List.Kept.{AllPairs-cons}
use Rattle.overlay_geom.specs.Plane.{Edge}
use Rattle.overlay_geom.specs.Settled.{MeetInEnds}
use Rattle.overlay_geom.proofs.Merging.{AllPairs-head, AllPairs-tail}
use Rattle.overlay_geom.proofs.OneLine.{meet_in_ends_exchanged}
use Rattle.overlay_geom.proofs.Orders.{edge_eq-flip}
use Rattle.overlay_plane.specs.Anchors.{is_below_anchor}
use Rattle.overlay_plane.specs.Heights.{covers, is_under}
use Rattle.overlay_plane.proofs.Entries.{All-first, All-rest}
use Rattle.overlay_plane.proofs.Under.{under_transitive, under_total}
use Rattle.overlay_scan.specs.Scan.{Entry, IsOver, IsAsked, AreLive, IsFromBottomToTop, IsPutIn, MeetsOthers}
use Rattle.overlay_scan.specs.Scan.{IsNewAmong}
use Rattle.overlay_scan.specs.Lists.{PassBefore, is_lower}
use Rattle.overlay_scan.proofs.AtStarts.{lower_is_under}
use Rattle.overlay_scan.proofs.BelowStarts.{IsBeside, lower_is_below, below_through}
use Rattle.overlay_scan.proofs.Prefixes.{prefix-same, filter_is_prefix, prefix_passes, others_fail}

-- ---- lists with one more item

-- a fact of all items and of the new item
pub All-with : {X : Type 0} (P : X → Type 0) (xs ys : List X) (n : X) → All P (xs ++ ys) → P n → All P (xs ++ n ∷ ys)
All-with P [] ys n all here = All-cons P n ys here all
All-with P (x ∷ xs) ys n all here = All-cons P x (xs ++ n ∷ ys) (All-head P x (xs ++ ys) all)
    (All-with P xs ys n (All-tail P x (xs ++ ys) all) here)

-- R leads from each item to each later one, from those before the new to it, and from it to those after it
pub AllPairs-with : {X : Type 0} (R : X → X → Type 0) (xs ys : List X) (n : X) → AllPairs R (xs ++ ys) →
    All (λ x. R x n) xs → All (R n) ys →
    AllPairs R (xs ++ n ∷ ys)
AllPairs-with R [] ys n pairs before after = AllPairs-cons R n ys after pairs
AllPairs-with R (x ∷ xs) ys n pairs before after = AllPairs-cons R x (xs ++ n ∷ ys)
    (All-with (R x) xs ys n (AllPairs-head R x (xs ++ ys) pairs) (All-head (λ x. R x n) x xs before))
    (AllPairs-with R xs ys n (AllPairs-tail R x (xs ++ ys) pairs) (All-tail (λ x. R x n) x xs before) after)

-- ---- the place of an edge

module _ {V : Type 0} (limit : ℕ) (x : ℤ) (e : Edge) (fs : List (Entry V)) (live : AreLive limit x fs)
    (at_e : IsOver limit x e) (meets : MeetsOthers e fs) where
  -- the test says which entries are under the edge
  pub tests_agree : All (λ f. is_lower f.edge e ≡ is_under f.edge e x (pos 1)) fs
  tests_agree k d lt =
      let f = get_or fs k d in
      lower_is_under f.edge e x (meets k d lt)
      (λ apart. meet_in_ends_exchanged f.edge e (meets k d lt (edge_eq-flip f.edge e apart)))
      (live.over k d lt).over at_e.over

  -- entries under an entry that is under the edge are under the edge
  pub under_before : PassBefore (λ f. is_under f.edge e x (pos 1)) fs
  under_before i j d lt end below =
      let f = get_or fs i d in
      let g = get_or fs j d in
      under_transitive f.edge g.edge e x (pos 1) (omega (arith, ints)) (live.over i d (omega arith)).over
      (live.over j d end).over at_e.over (live.order i j d lt end) below

  -- the test passes in the front of the list alone
  pub lower_before : PassBefore (λ f. is_lower f.edge e) fs
  lower_before i j d lt end lower = tests_agree i d (omega arith)
      ∙ under_before i j d lt end (sym (tests_agree j d end) ∙ lower)

  -- how many entries the test counts
  pub count_agrees : prefix_len (λ f. is_lower f.edge e) fs ≡ prefix_len (λ f. is_under f.edge e x (pos 1)) fs
  count_agrees = prefix-same (λ f. is_lower f.edge e) (λ f. is_under f.edge e x (pos 1)) fs tests_agree

  module _ (fresh : IsNewAmong e fs) (value : V) where
    before : All (λ f. is_under f.edge e x (pos 1) ≡ true) (take (prefix_len (λ f. is_lower f.edge e) fs) fs)
    before = rw count_agrees (prefix_passes (λ f. is_under f.edge e x (pos 1)) fs)

    over_if : (f : Entry V) → covers f.edge x (pos 1) ≡ true → MeetInEnds e f.edge →
        is_under f.edge e x (pos 1) ≡ false → is_under e f.edge x (pos 1) ≡ true
    over_if f over meet not_under = ⊎_elim (λ low. absurd (false≢true (sym not_under ∙ low))) (λ high. high)
        (under_total f.edge e x (pos 1) (omega (arith, ints)) meet over at_e.over)

    all_meet : All (λ f. MeetInEnds e f.edge) fs
    all_meet k d lt = meets k d lt (fresh k d lt)

    after : All (λ f. is_under e f.edge x (pos 1) ≡ true) (drop (prefix_len (λ f. is_lower f.edge e) fs) fs)
    after k d lt =
        let n = prefix_len (λ f. is_lower f.edge e) fs in
        let fails : All (λ f. is_under f.edge e x (pos 1) ≡ false) (drop n fs) = rw count_agrees
        (others_fail (λ f. is_under f.edge e x (pos 1)) fs under_before) in
        over_if (get_or (drop n fs) k d) (All-drop (λ f. IsOver limit x f.edge) n fs live.over k d lt).over
        (All-drop (λ f. MeetInEnds e f.edge) n fs all_meet k d lt) (fails k d lt)

    -- inserted where the count ends, the entry is above those under it and below the others
    pub put_in : (new : List (Entry V)) → new ≡ take (prefix_len (λ f. is_lower f.edge e) fs) fs
        ++ record { edge = e; value = value } ∷ drop (prefix_len (λ f. is_lower f.edge e) fs) fs →
        IsPutIn x (record { edge = e; value = value }) fs new
    put_in new is = record {
      before = take (prefix_len (λ f. is_lower f.edge e) fs) fs;
      after = drop (prefix_len (λ f. is_lower f.edge e) fs) fs;
      live_is = sym (take-append-drop (prefix_len (λ f. is_lower f.edge e) fs) fs);
      new_is = is;
      under = before;
      over = after;
    }

-- ---- the place of the start of an edge that is asked for

module _ {V : Type 0} (limit : ℕ) (x : ℤ) (e : Edge) (fs : List (Entry V)) (live : AreLive limit x fs)
    (asked : IsAsked limit x e) (meets : MeetsOthers e fs) where
  beside : All (λ f. IsBeside e asked.forward f.edge) fs
  beside k d lt = record {
    over = subst (λ z. covers (get_or fs k d).edge z (pos 1) ≡ true) (sym asked.starts) (live.over k d lt).over;
    meets = meets k d lt;
  }

  -- entries under an entry below the start are below it
  below_before : PassBefore (λ f. is_below_anchor e f.edge) fs
  below_before i j d lt end below = below_through e asked.forward (get_or fs i d).edge (get_or fs j d).edge
      (beside i d (omega arith)) (beside j d end)
      (meet_in_ends_exchanged (get_or fs j d).edge (get_or fs i d).edge (live.apart i j d lt end))
      (subst (λ z. is_under (get_or fs i d).edge (get_or fs j d).edge z (pos 1) ≡ true) (sym asked.starts)
      (live.order i j d lt end)) below

  -- the test says which entries are below the start
  tests_below : All (λ f. is_lower f.edge e ≡ is_below_anchor e f.edge) fs
  tests_below k d lt = lower_is_below e asked.forward (get_or fs k d).edge (beside k d lt)

  -- the test passes in the front of the list alone
  pub asked_before : PassBefore (λ f. is_lower f.edge e) fs
  asked_before i j d lt end lower = tests_below i d (omega arith)
      ∙ below_before i j d lt end (sym (tests_below j d end) ∙ lower)

  -- the entries below the start are those that the count passes
  pub found_below : take (prefix_len (λ f. is_lower f.edge e) fs) fs ≡ filter (λ f. is_below_anchor e f.edge) fs
  found_below = ap (λ n. take n fs) (prefix-same (λ f. is_lower f.edge e) (λ f. is_below_anchor e f.edge) fs
      tests_below)
      ∙ sym (filter_is_prefix (λ f. is_below_anchor e f.edge) fs below_before)

-- the entries that a new entry is inserted between are live with it
pub live_with : {V : Type 0} (limit : ℕ) (x : ℤ) (n : Entry V) (fs new : List (Entry V)) → AreLive limit x fs →
    IsOver limit x n.edge →
    All (λ f. MeetInEnds n.edge f.edge) fs → IsPutIn x n fs new → AreLive limit x new
live_with limit x n fs new live at_n meets put = subst (AreLive limit x) (sym put.new_is) (record {
  over = All-with (λ f. IsOver limit x f.edge) put.before put.after n
      (subst (All (λ f. IsOver limit x f.edge)) put.live_is live.over) at_n;
  apart = AllPairs-with (λ f g. MeetInEnds f.edge g.edge) put.before put.after n
      (subst (AllPairs (λ f g. MeetInEnds f.edge g.edge)) put.live_is live.apart)
      (All-weaker (λ f. MeetInEnds n.edge f.edge) (λ f. MeetInEnds f.edge n.edge)
      (λ f m. meet_in_ends_exchanged f.edge n.edge m) put.before
      (All-first (λ f. MeetInEnds n.edge f.edge) put.before put.after met))
      (All-rest (λ f. MeetInEnds n.edge f.edge) put.before put.after met);
  order = AllPairs-with (λ f g. is_under f.edge g.edge x (pos 1) ≡ true) put.before put.after n
      (subst (IsFromBottomToTop x) put.live_is live.order) put.under put.over;
})
  where
    met : All (λ f. MeetInEnds n.edge f.edge) (put.before ++ put.after)
    met = subst (All (λ f. MeetInEnds n.edge f.edge)) put.live_is meets
