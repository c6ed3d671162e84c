-- The edges are cut where they meet in whole points alone, and else at the hot points.
use Rattle.std.proofs.Common.{sym, subst, ◌∙◌}
use Rattle.std.proofs.lemmas.Bool.{false≢true}
use Rattle.std.proofs.lemmas.Result.{err_from_is_err_and}
use Rattle.overlay_plane.specs.Carried.{edges_in}
use Rattle.overlay_plane.specs.CutPoints.{cut_points}
use Rattle.overlay_plane.specs.Meetings.{MeetInWholePoints}
use Rattle.overlay_plane.specs.SnapPoints.{snap_points}
use Rattle.overlay_arrange.specs.Snapping.AreLedBySnapping.{cut, snapped}
use Rattle.overlay_arrange.proofs.content.Content.lead_once.Goals as goal

pub returns-in_err-cut_through-clause-too_many : goal.returns-in_err-cut_through-clause-too_many
returns-in_err-cut_through-clause-too_many g c = λ same.
    let passed = err_from_is_err_and c.from_residual.result c.from_residual.ensures.1 in
    record {
      points = cut_points (edges_in c.args.self.now);
      led = cut (subst MeetInWholePoints c.edges.ensures.plain (c.are_whole.ensures.0 c.if-are_whole.true));
      heavy = c.in_err-cut_through.ensures.too_many (cc);
    }

pub returns-then-are_whole-clause-ok : goal.returns-then-are_whole-clause-ok
returns-then-are_whole-clause-ok g c = record {
  points = cut_points (edges_in c.args.self.now);
  led = cut (subst MeetInWholePoints c.edges.ensures.plain (c.are_whole.ensures.0 c.if-are_whole.true));
  joined = c.in_ok-cut_through.ensures.ok;
}

pub returns-clause-ok : goal.returns-clause-ok
returns-clause-ok g c =
    let not_whole : ¬ (MeetInWholePoints (edges_in c.args.self.now)) = λ whole. false≢true
    (sym c.if-are_whole.false ∙ c.are_whole.ensures.1 (subst MeetInWholePoints (sym c.edges.ensures.plain) whole)) in
    record {
      points = snap_points (edges_in c.args.self.now);
      led = snapped not_whole;
      joined = rw (c.edges-2.ensures.plain, c.edges-2.ensures.edges) at c.in_ok-self.ensures.ok;
    }

pub returns-in_err-self-clause-too_many : goal.returns-in_err-self-clause-too_many
returns-in_err-self-clause-too_many g c = λ same.
    let passed = err_from_is_err_and c.from_residual-in_err-self.result c.from_residual-in_err-self.ensures.1 in
    let not_whole : ¬ (MeetInWholePoints (edges_in c.args.self.now)) = λ whole. false≢true
    (sym c.if-are_whole.false ∙ c.are_whole.ensures.1 (subst MeetInWholePoints (sym c.edges.ensures.plain) whole)) in
    record {
      points = snap_points (edges_in c.args.self.now);
      led = snapped not_whole;
      heavy = rw (c.edges-2.ensures.plain, c.edges-2.ensures.edges) at (c.in_err-self.ensures.too_many (cc));
    }
