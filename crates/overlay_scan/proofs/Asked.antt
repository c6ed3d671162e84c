-- The answers of a sweep, found among the held edges.
use Rattle.std.proofs.Common.{◌≡◌, Bool, not, ℕ, ℤ, List, [], ◌∷◌, ◌++◌, Option, None, Some}
use Rattle.std.proofs.Common.{take, drop, get_or, true, pos, ◌≤ℤ◌, int_lt, sym, ap, subst, ◌∙◌, arith}
use Rattle.std.proofs.lemmas.Int.{ints}
use Rattle.std.specs.List.{last_or, filter, prefix_len}
use Rattle.std.specs.Option.{option_map}
use Rattle.std.specs.Prelude.{Result, Ok, Err, OnErr}
use Rattle.std.specs.Ordering.{is_gt}
use Rattle.std.specs.declared.cmp.Ordering.{Ordering}
use Rattle.overlay_geom.specs.Lines.{plain_line}
use Rattle.overlay_geom.specs.Plane.{Point, Edge}
use Rattle.overlay_geom.specs.declared.point.IntPoint.{IntPoint}
use Rattle.overlay_plane.proofs.Tests.{test_from_lt}
use Rattle.overlay_plane.proofs.Under.{covers_to}
use Rattle.overlay_scan.specs.HeldEntries.{live_of, live_where, sweep_of, Tells, IsLookedUp}
use Rattle.overlay_scan.specs.Lists.{plain_entries, PassBefore, IsInRange, IsComparable, is_lower}
use Rattle.overlay_scan.specs.Scan.{Entry, live_at, moved_to, MayMoveTo, IsOver, IsAsked, AreLive, IsSweep, IsPutIn}
use Rattle.overlay_scan.specs.Scan.{MeetsOthers, IsNewAmong, value_or, value_below, value_up_to, AnswersRise}
use Rattle.overlay_scan.specs.Scan.{IsAnsweredBy, IsCallableOn}
use Rattle.overlay_scan.specs.declared.list.LiveEdge.{LiveEdge}
use Rattle.overlay_scan.proofs.Answered.{pass_before}
use Rattle.overlay_scan.proofs.Found.{live_held, filter_parted, placed_between, value_from, value_of_last}
use Rattle.overlay_scan.proofs.Moving.{sweep_after_move, sweep_from_live, live_in_range}
use Rattle.overlay_scan.proofs.Prefixes.{filter_is_prefix}
use Rattle.overlay_scan.proofs.PutIn.{lower_before, asked_before, found_below, put_in, live_with}

-- the sweep at x has the live edges among those held then
pub now_is : {I V : Type 0} (whole : I → ℤ) (x : I) (es : List (LiveEdge I V)) (reached : Option I) → reached ≡ Some x →
    sweep_of whole es reached ≡ record { entries = live_of whole (whole x) es; reached = Some (whole x) }
now_is whole x es reached at = ap (λ o. record {
  entries = live_where (option_map whole o) (plain_entries whole es);
  reached = option_map whole o;
}) at

module _ {I V : Type 0} (whole : I → ℤ) (x : I) (old : List (LiveEdge I V)) (from : Option I)
    (moves : MayMoveTo (whole x) (sweep_of whole old from)) where
  -- the live entries of the sweep are those of the held edges
  pub live_is : live_at (whole x) (sweep_of whole old from).entries ≡ live_of whole (whole x) old
  live_is = live_held (whole x) (option_map whole from) (plain_entries whole old) moves

  module _ (new : List (LiveEdge I V)) (reached : Option I) (at : reached ≡ Some x) where
    -- where the same edges are live, the sweep only moves
    pub only_moved : live_of whole (whole x) new ≡ live_of whole (whole x) old →
        sweep_of whole new reached ≡ moved_to (whole x) (sweep_of whole old from)
    only_moved same = now_is whole x new reached at
        ∙ ap (λ fs. record { entries = fs; reached = Some (whole x) }) (same ∙ sym live_is)

    module _ (post : List (IntPoint I) → Ordering → Type 0) (v : Option V) where
      -- a look-up moves the sweep
      pub moved : IsLookedUp whole post (whole x) old new [] v →
          sweep_of whole new reached ≡ moved_to (whole x) (sweep_of whole old from)
      moved found = only_moved (found.now ∙ sym found.was)

      -- an insert puts the entry where the count of those that pass ends
      pub put_where_counted : (n : Entry V) (found : IsLookedUp whole post (whole x) old new (n ∷ []) v)
          (passes : Entry V → Bool) → Tells whole post passes (live_at (whole x) (sweep_of whole old from).entries) →
          PassBefore passes (live_at (whole x) (sweep_of whole old from).entries) →
          (sweep_of whole new reached).entries
          ≡ take (prefix_len passes (live_at (whole x) (sweep_of whole old from).entries))
          (live_at (whole x) (sweep_of whole old from).entries) ++ n ∷ drop
          (prefix_len passes (live_at (whole x) (sweep_of whole old from).entries))
          (live_at (whole x) (sweep_of whole old from).entries)
      put_where_counted n found passes tells front =
          let parted = found.parted passes (subst (Tells whole post passes) live_is tells)
          (subst (PassBefore passes) live_is front) in
          placed_between passes (live_at (whole x) (sweep_of whole old from).entries) found.before found.after
          (sweep_of whole new reached).entries n parted.pass parted.fail (live_is ∙ found.was)
          (ap (λ s. s.entries) (now_is whole x new reached at) ∙ found.now)

  -- the value found is that of the last live entry that passes
  pub value_passes : (post : List (IntPoint I) → Ordering → Type 0) (new : List (LiveEdge I V)) (put : List (Entry V))
      (v : Option V) (found : IsLookedUp whole post (whole x) old new put v) (passes : Entry V → Bool) →
      Tells whole post passes (live_at (whole x) (sweep_of whole old from).entries) →
      PassBefore passes (live_at (whole x) (sweep_of whole old from).entries) → (default : V) →
      value_from default v ≡ value_or default (last_or None
      (filter passes (live_at (whole x) (sweep_of whole old from).entries)))
  value_passes post new put v found passes tells front default =
      let parted = found.parted passes (subst (Tells whole post passes) live_is tells)
      (subst (PassBefore passes) live_is front) in
      ap (value_from default) parted.value ∙ value_of_last default (last_or None found.before)
      ∙ ap (λ fs. value_or default (last_or None fs)) (sym (ap (filter passes) (live_is ∙ found.was)
      ∙ filter_parted passes found.before found.after parted.pass parted.fail))

  -- a look-up by an order
  pub value_is_up_to : (post : List (IntPoint I) → Ordering → Type 0) (new : List (LiveEdge I V)) (v : Option V) →
      IsLookedUp whole post (whole x) old new [] v → (answer : Edge → Ordering) →
      IsAnsweredBy whole post answer (live_at (whole x) (sweep_of whole old from).entries) →
      AnswersRise answer (live_at (whole x) (sweep_of whole old from).entries) → (default : V) →
      value_from default v ≡ value_up_to default answer (live_at (whole x) (sweep_of whole old from).entries)
  value_is_up_to post new v found answer answered rise default =
      value_passes post new [] v found (λ f. not (is_gt (answer f.edge)))
      (λ k d lt a b at_a at_b o p. ap (λ q. not (is_gt q)) (answered k d lt a b at_a at_b o p))
      (pass_before answer (live_at (whole x) (sweep_of whole old from).entries) rise) default

-- a closure that tells lines under an edge from others tells entries under it
pub told_by : {I V : Type 0} (whole : I → ℤ) (post : List (IntPoint I) → Ordering → Type 0) (e d : Edge)
    (fs : List (Entry V)) →
    d ≡ e → ((line : List (IntPoint I)) → (o : Ordering) → post line o → not (is_gt o) ≡ is_lower
    (plain_line whole line) d) →
    Tells whole post (λ f. is_lower f.edge e) fs
told_by whole post e d fs same tells k f lt a b at_a at_b o answered = tells (a ∷ b ∷ []) o answered
    ∙ (λ j. is_lower (record { a = at_a j; b = at_b j }) (same j))

-- each live entry's line is in range, and so is the edge
lines_in_range : {I V : Type 0} (whole : I → ℤ) (limit : ℕ) (x : ℤ) (fs : List (Entry V)) (e : Edge) → AreLive
    limit x fs →
    IsInRange limit e → IsCallableOn whole (λ line. IsInRange limit (plain_line whole line) × IsInRange limit e) fs
lines_in_range whole limit x fs e live in_range k d lt a b at_a at_b = (
  subst (IsInRange limit) (sym (λ j. record { a = at_a j; b = at_b j })) (live_in_range limit x fs live k d lt),
  in_range,
)

-- the lines of the edges that are held and live may be compared with an edge that starts at or before x
pub may_compare : {I V : Type 0} (whole : I → ℤ) (limit : ℕ) (x : I) (old : List (LiveEdge I V))
    (from : Option I) (d e : Edge) → d ≡ e → IsSweep limit (sweep_of whole old from) →
    MayMoveTo (whole x) (sweep_of whole old from) → IsInRange limit e → e.a.x ≤ℤ whole x →
    IsCallableOn whole (λ line. IsComparable limit (plain_line whole line) d) (live_of whole (whole x) old)
may_compare whole limit x old from d e same state moves in_range starts =
    subst (λ c. IsCallableOn whole (λ line. IsComparable limit (plain_line whole line) c) (live_of whole (whole x) old))
    (sym same)
    (subst (IsCallableOn whole (λ line. IsComparable limit (plain_line whole line) e)) (live_is whole x old from moves)
    comparable)
  where
    live : AreLive limit (whole x) (live_at (whole x) (sweep_of whole old from).entries)
    live = sweep_after_move limit (whole x) (sweep_of whole old from) state moves

    comparable : IsCallableOn whole (λ line. IsComparable limit (plain_line whole line) e)
        (live_at (whole x) (sweep_of whole old from).entries)
    comparable k f lt a b at_a at_b =
        let both = lines_in_range whole limit (whole x) (live_at (whole x) (sweep_of whole old from).entries) e live
        in_range k f lt a b at_a at_b in
        let to = covers_to (get_or (live_at (whole x) (sweep_of whole old from).entries) k f).edge (whole x) (pos 1)
        (live.over k f lt).over in
        let end = ap (λ (p : Point). p.x) at_b in
        record { one = both.0; other = both.1; ends = test_from_lt e.a.x (whole b.x) (omega (arith, ints)) }

module _ {I V : Type 0} (whole : I → ℤ) (limit : ℕ) (x : I) (old new : List (LiveEdge I V)) (from reached : Option I)
    (state : IsSweep limit (sweep_of whole old from)) (moves : MayMoveTo (whole x) (sweep_of whole old from))
    (e : Edge) (meets : MeetsOthers e (live_at (whole x) (sweep_of whole old from).entries)) where
  abbrev live : List (Entry V)
  live = live_at (whole x) (sweep_of whole old from).entries

  are_live : AreLive limit (whole x) live
  are_live = sweep_after_move limit (whole x) (sweep_of whole old from) state moves

  module _ (post : List (IntPoint I) → Ordering → Type 0) (v : Option V) (d : Edge) (same : d ≡ e)
      (tells : (line : List (IntPoint I)) → (o : Ordering) → post line o → not (is_gt o) ≡ is_lower
      (plain_line whole line) d) where
    told : Tells whole post (λ f. is_lower f.edge e) live
    told = told_by whole post e d live same tells

    -- a look-up below the start of an edge
    pub value_is_below : IsAsked limit (whole x) e → IsLookedUp whole post (whole x) old new [] v → (default : V) →
        value_from default v ≡ value_below default e live
    value_is_below asked found default =
        let front = asked_before limit (whole x) e live are_live asked meets in
        value_passes whole x old from moves post new [] v found (λ f. is_lower f.edge e) told front default
        ∙ ap (λ fs. value_or default (last_or None fs)) (filter_is_prefix (λ f. is_lower f.edge e) live front
        ∙ found_below limit (whole x) e live are_live asked meets)

    -- an insert
    pub is_put_in : reached ≡ Some x → IsOver limit (whole x) e → IsNewAmong e live → (value : V) → (n : Entry V) →
        n ≡ record { edge = e; value = value } → IsLookedUp whole post (whole x) old new (n ∷ []) v →
        IsPutIn (whole x) (record { edge = e; value = value }) live (sweep_of whole new reached).entries
    is_put_in at over fresh value n n_is found =
        let front = lower_before limit (whole x) e live are_live over meets in
        put_in limit (whole x) e live are_live over meets fresh value (sweep_of whole new reached).entries
        (put_where_counted whole x old from moves new reached at post v (record { edge = e; value = value })
        (subst (λ m. IsLookedUp whole post (whole x) old new (m ∷ []) v) n_is found) (λ f. is_lower f.edge e)
        told front)

  -- after which it is still a sweep
  pub sweep_with : reached ≡ Some x → IsOver limit (whole x) e → IsNewAmong e live → (value : V) →
      IsPutIn (whole x) (record { edge = e; value = value }) live (sweep_of whole new reached).entries →
      IsSweep limit (sweep_of whole new reached)
  sweep_with at over fresh value put = sweep_from_live limit (whole x) (sweep_of whole new reached)
      (ap (option_map whole) at)
      (live_with limit (whole x) (record { edge = e; value = value }) live (sweep_of whole new reached).entries are_live
      over
      (λ k d lt. meets k d lt (fresh k d lt)) put)

-- an edge over x ends after it
pub ends_after : (limit : ℕ) (x : ℤ) (e d : Edge) → d ≡ e → IsOver limit x e → int_lt x d.b.x ≡ true
ends_after limit x e d same over = let to = covers_to e x (pos 1) over.over in let end = ap (λ f. f.b.x) same in
    test_from_lt x d.b.x (omega (arith, ints))

-- a fact that holds also holds after an error
pub on_err : {A E P : Type 0} (r : Result A E) → P → OnErr r P
on_err (Ok a) p = tt
on_err (Err e) p = p
