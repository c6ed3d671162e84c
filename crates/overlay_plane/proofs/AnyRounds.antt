-- Common facts of the rounds of both solvers. They merge edges that are not settled, and lead each edge through whole
-- points at most 1/2 away from its own points.
use Rattle.std.proofs.Common.{◌≡◌, inl, inr, List, [], ◌∷◌, Contains, sym, subst, ◌∙◌}
use Rattle.std.proofs.lemmas.List.Elements.{All-contains}
use Rattle.overlay_geom.specs.Edges.{CountedEdge, ends_of}
use Rattle.overlay_geom.specs.Merged.{IsMerged}
use Rattle.overlay_geom.specs.Plane.{Point, PlanePoint, IsOn}
use Rattle.overlay_geom.specs.Rounding.{nearest_point, IsRounding, IsWithinHalf}
use Rattle.overlay_geom.specs.Settled.{IsSettled}
use Rattle.overlay_geom.specs.declared.solver.Solver.{Solver}
use Rattle.overlay_geom.specs.declared.solver.Solver.TheVariants.{Rounds, Snapping}
use Rattle.overlay_geom.proofs.Rounded.{nearest_point-rounding}
use Rattle.overlay_plane.specs.Meetings.{MeetsAnother, MeetInWholePoints}
use Rattle.overlay_plane.specs.RoundLists.{AreEachRounds, AreRounds, IsRoundBy}
use Rattle.overlay_plane.specs.Rounds.{Round, IsRound, IsCutAt, pieces_of}
use Rattle.overlay_plane.specs.Snaps.{IsSnap, IsSnappedAt}
use Rattle.overlay_plane.proofs.WholeCuts.{whole_meetings_merged}

-- the round merges the edges, which are not settled, and takes points of each edge to whole points at most 1/2 away
pub record IsAnyRound (old : List CountedEdge) (r : Round) : Type 0 where
  pub merged : IsMerged old r.edges
  pub unsettled : ¬ (IsSettled r.edges)
  pub on : (e : CountedEdge) → Contains r.edges e → (p : PlanePoint) → Contains (r.cuts e) p → IsOn (ends_of e) p
  pub rounding : IsRounding r.whole_at

-- a cutting round is such a round
pub any_of_cut : (old : List CountedEdge) (r : Round) → IsRound old r → IsAnyRound old r
any_of_cut old r round = record {
  merged = round.merged;
  unsettled = round.unsettled;
  on = λ e c p at.
      let cut = All-contains (λ g. IsCutAt r.edges g (r.cuts g)) r.edges e round.cut c in
      (All-contains (MeetsAnother r.edges e) (r.cuts e) p cut.only at).3.common.0;
  rounding = round.rounding;
}

-- taking the nearest whole point is a rounding
rounding_of_nearest : (whole_at : PlanePoint → Point) → ((p : PlanePoint) → whole_at p ≡ nearest_point p) →
    IsRounding whole_at
rounding_of_nearest whole_at is = record {
  near_x = λ p. subst (λ (v : Point). IsWithinHalf v.x p.x p.d) (sym (is p)) (nearest_point-rounding.near_x p);
  near_y = λ p. subst (λ (v : Point). IsWithinHalf v.y p.y p.d) (sym (is p)) (nearest_point-rounding.near_y p);
  one = λ p q same. is p ∙ nearest_point-rounding.one p q same ∙ sym (is q);
}

-- a snap is such a round
pub any_of_snap : (old : List CountedEdge) (r : Round) → IsSnap old r → IsAnyRound old r
any_of_snap old r snap = record {
  merged = snap.merged;
  unsettled = snap.unsettled;
  on = λ e c p at.
      let cut = All-contains (λ g. IsSnappedAt r.edges g (r.cuts g)) r.edges e snap.cut c in
      All-contains (IsOn (ends_of e)) (r.cuts e) p cut.on at;
  rounding = rounding_of_nearest r.whole_at snap.rounding;
}

-- each round of each solver is such a round
pub any_round : (solver : Solver) (old : List CountedEdge) (r : Round) → IsRoundBy solver old r → IsAnyRound old r
any_round Rounds old r round = any_of_cut old r round
any_round Snapping old r (inl (whole, round)) = any_of_cut old r round
any_round Snapping old r (inr (not_whole, snap)) = any_of_snap old r snap

-- all rounds of a solver are such rounds
pub any_rounds : (solver : Solver) (es : List CountedEdge) (rs : List Round) → AreRounds solver es rs →
    AreEachRounds IsAnyRound es rs
any_rounds solver es [] are = tt
any_rounds solver es (r ∷ rs) are = (any_round solver es r are.0, any_rounds solver (pieces_of r) rs are.1)

-- where edges meet in whole points alone each solver takes a cutting round
pub whole_round : (solver : Solver) (old : List CountedEdge) (r : Round) → MeetInWholePoints old →
    IsRoundBy solver old r → IsRound old r
whole_round Rounds old r whole round = round
whole_round Snapping old r whole (inl (met, round)) = round
whole_round Snapping old r whole (inr (not_whole, snap)) =
    absurd (not_whole (whole_meetings_merged old r.edges snap.merged whole))
