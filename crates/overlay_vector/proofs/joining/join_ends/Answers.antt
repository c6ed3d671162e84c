-- The two ends are taken off and joined, or can not be joined.
use Rattle.std.proofs.Common.{◌≡◌, [], ◌∷◌, ◌++◌, ◌+◌, ◌-◌, map, take, length, All, refl, sym, ap, subst, ◌∙◌, arith}
use Rattle.std.specs.List.{remove}
use Rattle.std.proofs.lemmas.Bool.{false≢true}
use Rattle.std.proofs.lemmas.List.{length-map}
use Rattle.overlay_geom.proofs.Mapped.{All-mapped_at}
use Rattle.overlay_vector.specs.DataVectors.{plain_data_vector}
use Rattle.overlay_vector.specs.Joining.{joined, stays, IsInRange, IsAppended, NoneJoinable, NoneLeft}
use Rattle.overlay_vector.proofs.EndsOff.{last_off, first_off}
use Rattle.overlay_vector.proofs.JoinedContours.{AreNarrowed, narrowed_round, none_in_middle, range_in_middle}
use Rattle.overlay_vector.proofs.JoinedContours.{none_left_round, none_left_of_few, joined_in_range}
use Rattle.overlay_vector.proofs.joining.join_ends.Goals as goal

pub loop-path-init : goal.loop-path-init
loop-path-init g c = record { becomes = stays; inside = c.requires.inside; in_range = c.requires.in_range }

pub are_joinable-requires-clause-first : goal.are_joinable-requires-clause-first
are_joinable-requires-clause-first g c =
    All-mapped_at (IsInRange g.I.IntNumber.limit) (plain_data_vector g.I.IntNumber.whole) _ _ _
    (omega (arith, c.loop-path.path.ok.0)) c.index-last.ensures c.loop-path.invariant.in_range

pub are_joinable-requires-clause-second : goal.are_joinable-requires-clause-second
are_joinable-requires-clause-second g c =
    All-mapped_at (IsInRange g.I.IntNumber.limit) (plain_data_vector g.I.IntNumber.whole) _ _ _
    (omega (arith, c.loop-path.path.ok.0)) c.index-first.ensures c.loop-path.invariant.in_range

pub returns-then-not-are_joinable : goal.returns-then-not-are_joinable
returns-then-not-are_joinable g c = record {
  joined = let plain = plain_data_vector g.I.IntNumber.whole in
      let eq = g.D.PartialEq.eq in
      let xs = c.loop-path.path.items in
      let k = c.len-in-loop-path.result - 1 in
      let long : length xs ≡ k + 1 = omega (arith, c.loop-path.path.ok.0) in
      let f = plain c.index-first.result.now in
      let l = plain c.index-last.result.now in
      let mid = map plain (remove (take k xs) 0) in
      let same = last_off plain xs k c.index-last.result.now long c.index-last.ensures
      ∙ ap (λ fs. fs ++ l ∷ []) (first_off plain xs k c.index-first.result.now long
      (omega (arith, c.loop-path.path.ok.0))
      c.index-first.ensures) in
      record {
        becomes = c.loop-path.invariant.becomes;
        none_left = subst (NoneLeft eq) (sym same)
            (none_left_round eq f mid l (subst (NoneJoinable eq) same c.loop-path.invariant.inside)
            (λ can. false≢true (c.if-not-are_joinable.ensures.1 can)));
      };
}

pub append-requires-clause-inside : goal.append-requires-clause-inside
append-requires-clause-inside g c =
    let plain = plain_data_vector g.I.IntNumber.whole in
    let eq = g.D.PartialEq.eq in
    let limit = g.I.IntNumber.limit in
    let given = map plain c.args.path.now.items in
    let xs = c.loop-path.path.items in
    let k = c.len-in-loop-path.result - 1 in
    let long : length xs ≡ k + 1 = omega (arith, c.loop-path.path.ok.0) in
    let shorter : c.loop-path.path.len - 1 ≡ k = omega (arith, c.loop-path.path.ok.0) in
    let f = plain c.index-first.result.now in
    let l = plain c.index-last.result.now in
    let mid = map plain (remove (take k xs) 0) in
    let same = last_off plain xs k c.index-last.result.now long c.index-last.ensures
    ∙ ap (λ fs. fs ++ l ∷ []) (first_off plain xs k c.index-first.result.now long (omega (arith, c.loop-path.path.ok.0))
    c.index-first.ensures) in
    let left = c.remove.ensures.items ∙ ap (λ ys. remove ys 0) (c.pop.ensures.rest ∙ ap (λ n. take n xs) shorter) in
    subst (λ ys. NoneJoinable eq (map plain ys)) (sym left)
    (none_in_middle eq limit given f mid l (subst (AreNarrowed eq limit given) same c.loop-path.invariant))

pub append-requires-clause-in_range : goal.append-requires-clause-in_range
append-requires-clause-in_range g c =
    let plain = plain_data_vector g.I.IntNumber.whole in
    let eq = g.D.PartialEq.eq in
    let limit = g.I.IntNumber.limit in
    let given = map plain c.args.path.now.items in
    let xs = c.loop-path.path.items in
    let k = c.len-in-loop-path.result - 1 in
    let long : length xs ≡ k + 1 = omega (arith, c.loop-path.path.ok.0) in
    let shorter : c.loop-path.path.len - 1 ≡ k = omega (arith, c.loop-path.path.ok.0) in
    let f = plain c.index-first.result.now in
    let l = plain c.index-last.result.now in
    let mid = map plain (remove (take k xs) 0) in
    let same = last_off plain xs k c.index-last.result.now long c.index-last.ensures
    ∙ ap (λ fs. fs ++ l ∷ []) (first_off plain xs k c.index-first.result.now long (omega (arith, c.loop-path.path.ok.0))
    c.index-first.ensures) in
    let left = c.remove.ensures.items ∙ ap (λ ys. remove ys 0) (c.pop.ensures.rest ∙ ap (λ n. take n xs) shorter) in
    subst (λ ys. All (IsInRange limit) (map plain ys)) (sym left)
    (range_in_middle eq limit given f mid l (subst (AreNarrowed eq limit given) same c.loop-path.invariant))

pub append-requires-clause-vector : goal.append-requires-clause-vector
append-requires-clause-vector g c =
    let plain = plain_data_vector g.I.IntNumber.whole in
    let limit = g.I.IntNumber.limit in
    let xs = c.loop-path.path.items in
    subst (IsInRange limit) (sym c.join.ensures)
    (joined_in_range g.D.PartialEq.eq limit (plain c.index-last.result.now) (plain c.index-first.result.now)
    (All-mapped_at (IsInRange limit) plain _ _ _ (omega (arith, c.loop-path.path.ok.0)) c.index-last.ensures
    c.loop-path.invariant.in_range)
    (All-mapped_at (IsInRange limit) plain _ _ _ (omega (arith, c.loop-path.path.ok.0)) c.index-first.ensures
    c.loop-path.invariant.in_range))

pub loop-path-preserved : goal.loop-path-preserved
loop-path-preserved g c =
    let plain = plain_data_vector g.I.IntNumber.whole in
    let eq = g.D.PartialEq.eq in
    let limit = g.I.IntNumber.limit in
    let given = map plain c.args.path.now.items in
    let xs = c.loop-path.path.items in
    let k = c.len-in-loop-path.result - 1 in
    let long : length xs ≡ k + 1 = omega (arith, c.loop-path.path.ok.0) in
    let shorter : c.loop-path.path.len - 1 ≡ k = omega (arith, c.loop-path.path.ok.0) in
    let f = plain c.index-first.result.now in
    let l = plain c.index-last.result.now in
    let mid = map plain (remove (take k xs) 0) in
    let more = map plain c.append.new.path.items in
    let same = last_off plain xs k c.index-last.result.now long c.index-last.ensures
    ∙ ap (λ fs. fs ++ l ∷ []) (first_off plain xs k c.index-first.result.now long (omega (arith, c.loop-path.path.ok.0))
    c.index-first.ensures) in
    let left = c.remove.ensures.items ∙ ap (λ ys. remove ys 0) (c.pop.ensures.rest ∙ ap (λ n. take n xs) shorter) in
    narrowed_round eq limit given f mid l more (subst (AreNarrowed eq limit given) same c.loop-path.invariant)
    (c.if-not-are_joinable.ensures.0 refl)
    (subst (λ ys. IsAppended eq limit (map plain ys) (joined l f) more) left
    (subst (λ w. IsAppended eq limit (map plain c.remove.new.self.items) w more) c.join.ensures
    c.in_ok-append.ensures.ok))

pub returns : goal.returns
returns g c = record {
  joined = let plain = plain_data_vector g.I.IntNumber.whole in
      let long = length-map c.loop-path.path.items plain in
      record {
        becomes = c.loop-path.invariant.becomes;
        none_left = none_left_of_few g.D.PartialEq.eq (map plain c.loop-path.path.items)
            (omega (arith, long, c.loop-path.path.ok.0));
      };
}
