-- Live edges stay in order as the sweep moves on.
use Rattle.std.proofs.Common.{◌≡◌, Bool, true, ℕ, List, [], get_or, Option, None, Some, ℤ, pos, ◌*ℤ◌, ◌≤ℤ◌, int_lt}
use Rattle.std.proofs.Common.{int_le, sym, ◌∙◌, subst, arith}
use Rattle.std.proofs.lemmas.Int.{ints}
use Rattle.std.proofs.lemmas.Bool.{and_from}
use Rattle.std.specs.List.{All, AllPairs}
use Rattle.std.specs.Option.{IfSome, MatchOption}
use Rattle.std.proofs.lemmas.List.Elements.{All-filter, filter_passes}
use Rattle.std.proofs.lemmas.List.Kept.{AllPairs-filter}
use Rattle.overlay_geom.specs.Settled.{MeetInEnds}
use Rattle.overlay_plane.specs.Heights.{covers, is_under}
use Rattle.overlay_plane.proofs.Tests.{lt_from_test, test_from_lt, test_from_le}
use Rattle.overlay_plane.proofs.Under.{covers_from, same_under}
use Rattle.overlay_scan.specs.Scan.{Entry, Sweep, live_at, moved_to, MayMoveTo, IsOver, AreLive, IsFromBottomToTop}
use Rattle.overlay_scan.specs.Scan.{IsSweep}
use Rattle.overlay_scan.specs.Lists.{IsInRange}
use Rattle.overlay_geom.proofs.OneLine.{meet_in_ends_exchanged}

module _ {V : Type 0} (limit : ℕ) (x y : ℤ) (later : x ≤ℤ y) (fs : List (Entry V)) (live : AreLive limit x fs) where
  ends_later : Entry V → Bool
  ends_later f = int_lt y f.edge.b.x

  was_over : All (λ f. IsOver limit x f.edge) (live_at y fs)
  was_over = All-filter (λ f. int_lt y f.edge.b.x) (λ f. IsOver limit x f.edge) fs live.over

  still : All (λ f. int_lt y f.edge.b.x ≡ true) (live_at y fs)
  still = filter_passes (λ f. int_lt y f.edge.b.x) fs

  covers_later : (f : Entry V) → IsOver limit x f.edge → int_lt y f.edge.b.x ≡ true → covers f.edge y (pos 1) ≡ true
  covers_later f was ends = and_from (int_le (f.edge.a.x *ℤ pos 1) y) (int_lt y (f.edge.b.x *ℤ pos 1))
      (test_from_le (f.edge.a.x *ℤ pos 1) y (let from = covers_from f.edge x (pos 1) was.over in omega (arith, ints)))
      (test_from_lt y (f.edge.b.x *ℤ pos 1) (let to = lt_from_test y f.edge.b.x ends in omega (arith, ints)))

  over_later : All (λ f. IsOver limit y f.edge) (live_at y fs)
  over_later k d lt = let was = was_over k d lt in
      record {
        a_in_range = was.a_in_range;
        b_in_range = was.b_in_range;
        over = covers_later (get_or (live_at y fs) k d)
            was (still k d lt);
      }

  meet_later : AllPairs (λ f g. MeetInEnds f.edge g.edge) (live_at y fs)
  meet_later = AllPairs-filter (λ f g. MeetInEnds f.edge g.edge) (λ f. int_lt y f.edge.b.x) fs live.apart

  order_later : IsFromBottomToTop y (live_at y fs)
  order_later i j d lt end =
      let f = get_or (live_at y fs) i d in
      let g = get_or (live_at y fs) j d in
      let at_f = was_over i d (omega arith) in
      let at_g = was_over j d end in
      sym (same_under f.edge g.edge x (pos 1) y (pos 1) (omega (arith, ints)) (omega (arith, ints))
      (meet_in_ends_exchanged g.edge f.edge (meet_later i j d lt end)) at_f.over at_g.over
      (covers_later f at_f (still i d (omega arith))) (covers_later g at_g (still j d end)))
      ∙ AllPairs-filter (λ f g. is_under f.edge g.edge x (pos 1) ≡ true) (λ f. int_lt y f.edge.b.x) fs live.order
      i j d lt end

  -- the edges live at x, and later at y, are those live at y
  pub live_later : AreLive limit y (live_at y fs)
  live_later = record { over = over_later; apart = meet_later; order = order_later }

-- nothing is live and in order at any x
pub none_live : {V : Type 0} (limit : ℕ) (x : ℤ) → AreLive {V = V} limit x []
none_live limit x = record {
  over = λ k d lt. absurd (omega arith);
  apart = λ i j d lt end. absurd (omega arith);
  order = λ i j d lt end. absurd (omega arith);
}

-- the entries that are live after a move
pub live_after_move : {V : Type 0} (limit : ℕ) (x : ℤ) (fs : List (Entry V)) (o : Option ℤ) →
    MatchOption o (fs ≡ []) (λ y. AreLive limit y fs) →
    IfSome o (λ y. y ≤ℤ x) → AreLive limit x (live_at x fs)
live_after_move limit x fs None none later = subst (λ (gs : List (Entry _)). AreLive limit x (live_at x gs)) (sym none)
    (none_live limit x)
live_after_move limit x fs (Some y) live later = live_later limit y x later fs live

-- a sweep that moves on is a sweep
pub sweep_after_move : {V : Type 0} (limit : ℕ) (x : ℤ) (s : Sweep V) → IsSweep limit s → MayMoveTo x s →
    AreLive limit x (live_at x s.entries)
sweep_after_move limit x s held later = live_after_move limit x s.entries s.reached held later

-- entries that are live where the sweep is are a sweep's
pub sweep_from_live : {V : Type 0} (limit : ℕ) (x : ℤ) (s : Sweep V) → s.reached ≡ Some x → AreLive limit x s.entries →
    IsSweep limit s
sweep_from_live limit x s at live = subst (λ o. MatchOption o (s.entries ≡ []) (λ y. AreLive limit y s.entries))
    (sym at) live

-- a sweep that has moved is one
pub sweep_moved : {V : Type 0} (limit : ℕ) (x : ℤ) (s new : Sweep V) → IsSweep limit s → MayMoveTo x s →
    new ≡ moved_to x s → IsSweep limit new
sweep_moved limit x s new held later is = subst (IsSweep limit) (sym is) (sweep_after_move limit x s held later)

-- live edges are in range
pub live_in_range : {V : Type 0} (limit : ℕ) (x : ℤ) (fs : List (Entry V)) → AreLive limit x fs →
    All (λ f. IsInRange limit f.edge) fs
live_in_range limit x fs live k d lt = let at = live.over k d lt in record { a = at.a_in_range; b = at.b_in_range }
