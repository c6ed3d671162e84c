-- The sort moves the meetings, and those that repeat are dropped.
use Rattle.std.proofs.Common.{◌≡◌, sym, subst, rules}
use Rattle.std.specs.List.{dedup}
use Rattle.std.proofs.lemmas.Fn.{dedup_same}
use Rattle.overlay_arrange.specs.HotPoints.{HaveSameMembers}
use Rattle.overlay_arrange.specs.Meetings.{plain_meetings}
use Rattle.overlay_arrange.proofs.RepeatedMeetings.{is_repeated, members-without_repeats}
use Rattle.overlay_arrange.proofs.repeats.drop_repeats.Goals as goal

pub returns : goal.returns
returns g c = record {
  ok = let whole = g.I.IntNumber.whole in
      let sorted = c.sort_by.new.self.items in
      let left : c.dedup_by.new.self.items ≡ dedup (is_repeated whole) sorted =
      dedup_same _ (is_repeated whole) _ (λ v w r f v' w' k.
      let answer : r ≡ is_repeated whole v w = search rules in
      (answer, search rules, search rules, search rules)) sorted _ c.dedup_by.ensures.filtered in
      subst (λ ms. HaveSameMembers (plain_meetings whole c.args.meetings.now.items) (plain_meetings whole ms))
      (sym left)
      (members-without_repeats whole g.met.I.IntNumber.same c.args.meetings.now.items sorted
      c.sort_by.ensures.permutation);
}
