-- Edges that meet only in whole points or overlap: at most one round is taken, it moves no point, and no winding
-- changes.
use Rattle.std.proofs.Common.{◌≡◌, ℕ, ◌≤◌, true, pos, List, [], ◌∷◌, length, get_or, Contains, refl, ◌∙◌, arith}
use Rattle.std.specs.List.{All, Any}
use Rattle.std.proofs.lemmas.List.Elements.{All-contains, Contains-get_or}
use Rattle.overlay_geom.specs.Edges.{CountedEdge, ends_of}
use Rattle.overlay_geom.specs.Merged.{HaveSameWindings}
use Rattle.overlay_geom.specs.Plane.{Point, PlanePoint, IsAt, in_plane, cross_at, point_lt}
use Rattle.overlay_geom.specs.declared.solver.Solver.{Solver}
use Rattle.overlay_geom.proofs.MergedWindings.{windings_from_merged}
use Rattle.overlay_geom.proofs.Signs.{mul-zero}
use Rattle.overlay_plane.specs.Arrangements.{IsReachedBy, IsExact, WholeMeetingsAreExact}
use Rattle.overlay_plane.specs.Cutting.{AreOnLine}
use Rattle.overlay_plane.specs.EdgeLists.{IsForwardBy}
use Rattle.overlay_plane.specs.Meetings.{MeetInWholePoints}
use Rattle.overlay_plane.specs.RoundLists.{AreRounds}
use Rattle.overlay_plane.specs.Rounds.{Round, IsRound, MovesNone, MovesSome, MovingRounds, whole_cuts}
use Rattle.overlay_plane.specs.Rounds.{pieces_of}
use Rattle.overlay_plane.specs.Rounds.MovingRounds.{none, exact, moving}
use Rattle.overlay_plane.proofs.AnyRounds.{IsAnyRound, any_round, whole_round}
use Rattle.overlay_plane.proofs.Entries.{Contains-from_any}
use Rattle.overlay_plane.proofs.CutOnLines.{WindsAsBefore, winding-chain_on_line, cutting_on_lines_keeps_windings}
use Rattle.overlay_plane.proofs.SettledPieces.{pieces_settled}
use Rattle.overlay_plane.proofs.WholeCuts.{CutsWhole, cuts_whole, moves_none, cut_held}
use Rattle.overlay_plane.proofs.WholeOnEdges.{at_itself, side_at}

-- windings that are the same once and once more are the same
pub windings_through : (old middle new : List CountedEdge) → HaveSameWindings old middle → HaveSameWindings middle new →
    HaveSameWindings old new
windings_through old middle new first second = record {
  subj = λ p. second.subj p
      ∙ first.subj p;
  clip = λ p. second.clip p ∙ first.clip p;
}

-- a round that moves no point does not move some
none_not_some : (r : Round) → MovesNone r → ¬ (MovesSome r)
none_not_some r still some =
    let e = Contains-from_any (λ e. Any (λ p. ¬ (IsAt (r.whole_at p) p)) (r.cuts e)) r.edges some in
    let p = Contains-from_any (λ p. ¬ (IsAt (r.whole_at p) p)) (r.cuts e.0) e.2 in
    p.2 (All-contains (λ p. IsAt (r.whole_at p) p) (r.cuts e.0) p.0
    (All-contains (λ e. All (λ p. IsAt (r.whole_at p) p) (r.cuts e)) r.edges e.0 still e.1) p.1)

-- no such round, taken alone, moves a point
none_moving : (r : Round) (k : ℕ) → MovesNone r → MovingRounds (r ∷ []) k → k ≡ 0
none_moving r k still (exact kept none) = refl
none_moving r k still (moving some rest) = absurd (none_not_some r still some)

-- the cuts of a round that cuts in whole meeting points lie on the lines of their edges
cuts_on_line : (r : Round) → CutsWhole r → (e : CountedEdge) → Contains r.edges e → AreOnLine (whole_cuts r) e
cuts_on_line r h e has = λ k d l.
    let v : Point = get_or (whole_cuts r e) k d in
    let held = cut_held r h e v has (Contains-get_or (whole_cuts r e) k d l) in
    side_at (ends_of e) v (in_plane v) (at_itself v) ∙ mul-zero (pos 1) (cross_at e.a e.b v) held.on_line

-- the chain of each edge winds as the edge
pub winds_whole : (r : Round) → CutsWhole r → (p : PlanePoint) (e : CountedEdge) → Contains r.edges e →
    WindsAsBefore (whole_cuts r) p e
winds_whole r h p e has = winding-chain_on_line (ends_of e)
    (All-contains (λ e. point_lt e.a e.b ≡ true) r.edges e h.forward has) (whole_cuts r e) (cuts_on_line r h e has) p

-- such a round keeps the windings
round_keeps_windings : (old : List CountedEdge) (r : Round) → IsRound old r → CutsWhole r →
    HaveSameWindings old (pieces_of r)
round_keeps_windings old r round h =
    windings_through old r.edges (pieces_of r) (windings_from_merged old r.edges round.merged)
    (cutting_on_lines_keeps_windings r.edges (whole_cuts r) h.forward
    (λ k d l. cuts_on_line r h (get_or r.edges k d) (Contains-get_or r.edges k d l)))

-- no round comes after it
pub no_second_round : (solver : Solver) (old : List CountedEdge) (r next : Round) (rounds : List Round) →
    IsForwardBy ends_of old → MeetInWholePoints old → ¬ (AreRounds solver old (r ∷ next ∷ rounds))
no_second_round solver old r next rounds forward whole cut = second.unsettled
    (pieces_settled r (cuts_whole old r forward whole (whole_round solver old r whole cut.0)) next.edges second.merged)
  where
    second : IsAnyRound (pieces_of r) next
    second = any_round solver (pieces_of r) next cut.1.0

-- there is at most one round
one_round : (solver : Solver) (rounds : List Round) (old : List CountedEdge) → IsForwardBy ends_of old →
    MeetInWholePoints old → AreRounds solver old rounds → length rounds ≤ 1
one_round solver [] old forward whole cut = omega arith
one_round solver (r ∷ []) old forward whole cut = omega arith
one_round solver (r ∷ next ∷ rounds) old forward whole cut =
    absurd (no_second_round solver old r next rounds forward whole cut)

-- the list reached is exact
exactly_reached : (solver : Solver) (rounds : List Round) (k : ℕ) (old new : List CountedEdge) →
    IsForwardBy ends_of old → MeetInWholePoints old → IsReachedBy solver rounds old new → MovingRounds rounds k →
    IsExact rounds k old new
exactly_reached solver [] k old new forward whole reached none = record {
  one_round = omega arith;
  none_moved = refl;
  windings = windings_from_merged old new reached.merged;
}
exactly_reached solver (r ∷ []) k old new forward whole reached moved = record {
  one_round = omega arith;
  none_moved = none_moving r k (moves_none r h) moved;
  windings = windings_through old (pieces_of r) new (round_keeps_windings old r taken h)
      (windings_from_merged (pieces_of r) new reached.merged);
}
  where
    taken : IsRound old r
    taken = whole_round solver old r whole reached.cut.0

    h : CutsWhole r
    h = cuts_whole old r forward whole taken
exactly_reached solver (r ∷ next ∷ rounds) k old new forward whole reached moved = absurd
    (no_second_round solver old r next rounds forward whole reached.cut)

-- the law of whole meeting points
pub whole_meetings_are_exact : WholeMeetingsAreExact
whole_meetings_are_exact = record { exact = exactly_reached; few = one_round }
