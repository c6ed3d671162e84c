-- The walk begins at the edge's start, goes on from group to group, and ends where no piece is left.
use Rattle.std.proofs.Common.{◌≡◌, ◌⊎◌, inl, inr, ◌+◌, ◌-◌, ◌*◌, ◌<◌, ◌≤◌, true, false, [], ◌∷◌, ◌++◌, length, take}
use Rattle.std.proofs.Common.{slice_range, map, sym, ap}
use Rattle.std.proofs.Common.{subst, ◌∙◌, arith}
use Rattle.std.proofs.lemmas.Bool.{false≢true}
use Rattle.std.proofs.lemmas.List.{length-map, length-take-le}
use Rattle.std.proofs.lemmas.List.Elements.{All-contains}
use Rattle.overlay_geom.specs.Edges.{ends_of}
use Rattle.overlay_geom.specs.Rules.{is_filled}
use Rattle.overlay_geom.proofs.Mapped.{All-mapped_at, All-mapped_first, All-mapped_range, mapped_range}
use Rattle.overlay_order.specs.Content.{plain_edge, plain_edges, IsHeld}
use Rattle.overlay_pairs.specs.Places.{IsAt}
use Rattle.overlay_pairs.proofs.Entries.{one_entry, placed_in_mapped}
use Rattle.overlay_exact.specs.Along.{Met, plain_met, plain_mets}
use Rattle.overlay_exact.specs.Parts.{end_part, AreEqual}
use Rattle.overlay_exact.specs.PlacesAlong.{AreMetIn}
use Rattle.overlay_exact.proofs.MetByStarts.{entry_at}
use Rattle.overlay_given.specs.Beside.{IsNear, filled_beside}
use Rattle.overlay_given.specs.Laws.{IsSum}
use Rattle.overlay_given.specs.Places.{AddsTimes}
use Rattle.overlay_given.specs.Steps.{Rises}
use Rattle.overlay_given.specs.Walk.{WindsFromStart}
use Rattle.overlay_given.specs.declared.steps.Stop.TheVariants.{Later}
use Rattle.overlay_given.proofs.PlacesWalked.{places_first, places_more, places_added, sides_at_group, sides_at_rest}
use Rattle.overlay_given.proofs.Sums.{near_sum, near_wider}
use Rattle.overlay_given.proofs.ToldRelations.{forward_of_held}
use Rattle.overlay_given.proofs.Walked.{walk_on, sides_added}
use Rattle.overlay_given.proofs.WalkSteps.{first_within, others_of, range_count, walk_starts, pushed_more}
use Rattle.overlay_given.proofs.walk.push_sides.Goals as goal
use Rattle.overlay_given.proofs.walk.push_sides.Goals.{then-loop-from-test+else-not-is_end, else-loop-from-test}

pub first_end-from-requires : goal.first_end-from-requires
first_end-from-requires g c =
    let plain = plain_edge g.I.IntNumber.whole g.C.EdgeCount.counts in
    let es = plain_edges g.I.IntNumber.whole g.C.EdgeCount.counts c.args.edges.now in
    let l = length-map c.args.edges.now plain in
    let within = c.requires.within in
    let at = entry_at es c.args.i (omega (arith, l, within)) in
    let held : IsHeld g.I.IntNumber.limit at.0 = All-contains (IsHeld g.I.IntNumber.limit) es at.0 c.requires.held
    (c.args.i, at.1.0, at.1.1) in
    (ends_of at.0, held.forward, (c.requires.met at.0 at.1).order)

pub group_end-end-requires-clause-order : goal.group_end-end-requires-clause-order
group_end-end-requires-clause-order g c =
    let plain = plain_edge g.I.IntNumber.whole g.C.EdgeCount.counts in
    let es = plain_edges g.I.IntNumber.whole g.C.EdgeCount.counts c.args.edges.now in
    let l = length-map c.args.edges.now plain in
    let within = c.requires.within in
    let at = entry_at es c.args.i (omega (arith, l, within)) in
    let held : IsHeld g.I.IntNumber.limit at.0 = All-contains (IsHeld g.I.IntNumber.limit) es at.0 c.requires.held
    (c.args.i, at.1.0, at.1.1) in
    (ends_of at.0, held.forward, (c.requires.met at.0 at.1).order)

pub beside_first_piece-beside-requires-clause-edge : goal.beside_first_piece-beside-requires-clause-edge
beside_first_piece-beside-requires-clause-edge g c =
    All-mapped_at (IsHeld g.I.IntNumber.limit) (plain_edge g.I.IntNumber.whole g.C.EdgeCount.counts) c.args.edges.now
    c.args.i c.index-edges-i.result c.requires.within c.index-edges-i.is c.requires.held

pub sum_met-requires-clause-edge : goal.sum_met-requires-clause-edge
sum_met-requires-clause-edge g c =
    All-mapped_at (IsHeld g.I.IntNumber.limit) (plain_edge g.I.IntNumber.whole g.C.EdgeCount.counts) c.args.edges.now
    c.args.i c.index-edges-i-in-loop-from.result c.requires.within c.index-edges-i-in-loop-from.is c.requires.held

pub plus-beside-requires-clause-this : goal.plus-beside-requires-clause-this
plus-beside-requires-clause-this g c = near_wider (158456325028528675187087900672 + c.loop-from.from * 4294967296)
    1267650600228229401496703205376 c.loop-from.beside (let fits = c.loop-from.auto.from-fits in omega (arith, fits))
    c.loop-from.invariant.near

pub plus-beside-requires-clause-other : goal.plus-beside-requires-clause-other
plus-beside-requires-clause-other g c = near_wider 158456325028528675187087900672 1267650600228229401496703205376
    c.sum_met.result (omega arith) c.sum_met.ensures.small

pub beside_first_piece-beside-requires-clause-start : goal.beside_first_piece-beside-requires-clause-start
beside_first_piece-beside-requires-clause-start g c =
    let plain = plain_edge g.I.IntNumber.whole g.C.EdgeCount.counts in
    c.requires.start (plain c.index-edges-i.result)
    (placed_in_mapped plain c.args.edges.now c.args.i c.index-edges-i.result c.requires.within c.index-edges-i.is)

pub beside_first_piece-beside-requires-clause-others : goal.beside_first_piece-beside-requires-clause-others
beside_first_piece-beside-requires-clause-others g c =
    let plain = plain_edge g.I.IntNumber.whole g.C.EdgeCount.counts in
    let met = plain_met g.I.Wide.WideIntNumber.whole in
    let es = plain_edges g.I.IntNumber.whole g.C.EdgeCount.counts c.args.edges.now in
    let at = placed_in_mapped plain c.args.edges.now c.args.i c.index-edges-i.result c.requires.within
    c.index-edges-i.is in
    All-mapped_first (λ m. m.other < length c.args.edges.now) met c.args.met.now c.first_end-from.result
    (others_of es c.args.i (length c.args.edges.now) (plain c.index-edges-i.result) (map met c.args.met.now)
    (length-map c.args.edges.now plain) (c.requires.met (plain c.index-edges-i.result) at))

pub sum_met-requires-clause-others : goal.sum_met-requires-clause-others
sum_met-requires-clause-others g c =
    let plain = plain_edge g.I.IntNumber.whole g.C.EdgeCount.counts in
    let met = plain_met g.I.Wide.WideIntNumber.whole in
    let es = plain_edges g.I.IntNumber.whole g.C.EdgeCount.counts c.args.edges.now in
    let at = placed_in_mapped plain c.args.edges.now c.args.i c.index-edges-i-in-loop-from.result c.requires.within
    c.index-edges-i-in-loop-from.is in
    All-mapped_range (λ m. m.other < length c.args.edges.now) met c.args.met.now c.loop-from.from
    c.group_end-end.result
    (others_of es c.args.i (length c.args.edges.now) (plain c.index-edges-i-in-loop-from.result)
    (map met c.args.met.now) (length-map c.args.edges.now plain)
    (c.requires.met (plain c.index-edges-i-in-loop-from.result) at))

pub loop-from-init : goal.loop-from-init
loop-from-init g c =
    let limit = g.I.IntNumber.limit in
    let plain = plain_edge g.I.IntNumber.whole g.C.EdgeCount.counts in
    let met = plain_met g.I.Wide.WideIntNumber.whole in
    let es = plain_edges g.I.IntNumber.whole g.C.EdgeCount.counts c.args.edges.now in
    let ms = plain_mets g.I.Wide.WideIntNumber.whole c.args.met.now in
    let first = c.first_end-from.result in
    let b = c.beside_first_piece-beside.result in
    let filled = is_filled c.args.rule in
    let l = length-map c.args.met.now met in
    let up = first_within ms first c.first_end-from.ensures in
    let within : first ≤ length c.args.met.now = omega (arith, l, up) in
    let part : length (take first c.args.met.now) ≡ first = length-take-le first c.args.met.now within in
    let whole : first ≡ first - 0 = omega arith in
    let here = placed_in_mapped plain c.args.edges.now c.args.i c.index-edges-i.result c.requires.within
    c.index-edges-i.is in
    record {
      within = within;
      near = subst (λ n. IsNear (158456325028528675187087900672 + n * 4294967296) b) part
          c.beside_first_piece-beside.ensures.near;
      walked = λ e at.
          let given : AreMetIn es c.args.i e ms = record {
            ascending = c.requires.ascending;
            forward = forward_of_held limit es c.requires.held;
            entry = at;
            met = c.requires.met e at;
          } in
          let is : plain c.index-edges-i.result ≡ e =
          one_entry es c.args.i (plain c.index-edges-i.result) e here at in (
            filled_beside filled b ∷ [],
            c.in_ok-push.ensures.items ∙ ap (λ x. c.args.pieces.now.items ++ x ∷ []) c.filled-first.ensures,
            walk_starts filled es c.args.i e ms given c.requires.balanced first c.first_end-from.ensures b
                (subst (λ fs. WindsFromStart es e fs b) (mapped_range met c.args.met.now 0 first)
                (subst (λ n. WindsFromStart es e (map met (take n c.args.met.now)) b) whole
                (subst (λ f. WindsFromStart es f (map met (take first c.args.met.now)) b) is
                c.beside_first_piece-beside.ensures.sums))),
          );
      places = λ e at.
          let given : AreMetIn es c.args.i e ms = record {
            ascending = c.requires.ascending;
            forward = forward_of_held limit es c.requires.held;
            entry = at;
            met = c.requires.met e at;
          } in
          let is : plain c.index-edges-i.result ≡ e =
          one_entry es c.args.i (plain c.index-edges-i.result) e here at in
          places_first filled es c.args.i e ms given c.requires.balanced first c.first_end-from.ensures b
          (subst (λ fs. WindsFromStart es e fs b) (mapped_range met c.args.met.now 0 first)
          (subst (λ n. WindsFromStart es e (map met (take n c.args.met.now)) b) whole
          (subst (λ f. WindsFromStart es f (map met (take first c.args.met.now)) b) is
          c.beside_first_piece-beside.ensures.sums))) c.args.places.now.items c.push_places.new.places.items
          (subst (λ s. AddsTimes first (record { before = s; after = s }) c.args.places.now.items
          c.push_places.new.places.items) c.filled-first.ensures c.in_ok-push_places.ensures);
    }

pub loop-from-preserved : goal.loop-from-preserved
loop-from-preserved g c =
    let limit = g.I.IntNumber.limit in
    let plain = plain_edge g.I.IntNumber.whole g.C.EdgeCount.counts in
    let met = plain_met g.I.Wide.WideIntNumber.whole in
    let es = plain_edges g.I.IntNumber.whole g.C.EdgeCount.counts c.args.edges.now in
    let ms = plain_mets g.I.Wide.WideIntNumber.whole c.args.met.now in
    let from = c.loop-from.from in
    let end = c.group_end-end.result in
    let old = c.loop-from.beside in
    let new = c.plus-beside.result in
    let filled = is_filled c.args.rule in
    let l = length-map c.args.met.now met in
    let some = c.group_end-end.ensures.some in
    let up = c.group_end-end.ensures.within in
    let within : end ≤ length c.args.met.now = omega (arith, l, up) in
    let count : length (slice_range c.args.met.now from end) + from ≡ end =
    range_count c.args.met.now from end (omega (arith, some)) within in
    let sums : IsSum old c.sum_met.result new = record {
      subj_below = c.plus-beside.ensures.subj_below;
      subj_above = c.plus-beside.ensures.subj_above;
      clip_below = c.plus-beside.ensures.clip_below;
      clip_above = c.plus-beside.ensures.clip_above;
    } in
    let here = placed_in_mapped plain c.args.edges.now c.args.i c.index-edges-i-in-loop-from.result c.requires.within
    c.index-edges-i-in-loop-from.is in
    let test = c.if-not-is_end.true in
    let no_end : c.is_end.result ≡ false = grind (arith, test) in
    record {
      within = within;
      near = near_sum (158456325028528675187087900672 + from * 4294967296)
          (length (slice_range c.args.met.now from end) * 4294967296)
          (158456325028528675187087900672 + end * 4294967296) old c.sum_met.result new (omega (arith, count)) sums
          c.loop-from.invariant.near c.sum_met.ensures.near;
      walked = λ e at.
          let walked = c.loop-from.invariant.walked e at in
          let given : AreMetIn es c.args.i e ms = record {
            ascending = c.requires.ascending;
            forward = forward_of_held limit es c.requires.held;
            entry = at;
            met = c.requires.met e at;
          } in
          let is : plain c.index-edges-i-in-loop-from.result ≡ e =
          one_entry es c.args.i (plain c.index-edges-i-in-loop-from.result) e here at in (
            walked.0 ++ filled_beside filled new ∷ [],
            pushed_more c.args.pieces.now.items c.loop-from.pieces.items c.push-in-loop-from.new.self.items walked.0
                c.filled-after.result (filled_beside filled new) walked.1 c.in_ok-push-2.ensures.items
                c.filled-after.ensures,
            walk_on filled es c.args.i e ms given from old walked.0 walked.2 end c.group_end-end.ensures
                (met c.index-met-from.result)
                (placed_in_mapped met c.args.met.now from c.index-met-from.result c.loop-from-test.true
                c.index-met-from.is)
                (λ equal. false≢true (sym no_end ∙ c.is_end.ensures.1
                (subst (λ x. AreEqual (met x).part end_part) c.index-met-from.is equal)))
                c.sum_met.result new
                (subst (λ fs. Rises Later es e fs c.sum_met.result) (mapped_range met c.args.met.now from end)
                (subst (λ f. Rises Later es f (map met (slice_range c.args.met.now from end)) c.sum_met.result) is
                c.sum_met.ensures.sums)) c.requires.balanced sums,
          );
      places = λ e at.
          let walked = c.loop-from.invariant.walked e at in
          let so_far = c.loop-from.invariant.places e at in
          let given : AreMetIn es c.args.i e ms = record {
            ascending = c.requires.ascending;
            forward = forward_of_held limit es c.requires.held;
            entry = at;
            met = c.requires.met e at;
          } in
          let is : plain c.index-edges-i-in-loop-from.result ≡ e =
          one_entry es c.args.i (plain c.index-edges-i-in-loop-from.result) e here at in
          places_more filled es e ms from end
          (record { before = filled_beside filled old; after = filled_beside filled new })
          c.args.places.now.items c.loop-from.places.items c.push_places-in-loop-from.new.places.items so_far.0
          (omega (arith, some)) so_far.1 so_far.2
          (sides_at_group filled es c.args.i e ms given from old walked.0 walked.2 end c.group_end-end.ensures
          (met c.index-met-from.result)
          (placed_in_mapped met c.args.met.now from c.index-met-from.result c.loop-from-test.true c.index-met-from.is)
          (λ equal. false≢true (sym no_end ∙ c.is_end.ensures.1
          (subst (λ x. AreEqual (met x).part end_part) c.index-met-from.is equal)))
          c.sum_met.result new
          (subst (λ fs. Rises Later es e fs c.sum_met.result) (mapped_range met c.args.met.now from end)
          (subst (λ f. Rises Later es f (map met (slice_range c.args.met.now from end)) c.sum_met.result) is
          c.sum_met.ensures.sums)) c.requires.balanced sums)
          (subst (λ s. AddsTimes (end - from) (record { before = filled_beside filled old; after = s })
          c.loop-from.places.items c.push_places-in-loop-from.new.places.items) c.filled-after.ensures
          (subst (λ s. AddsTimes (end - from) (record { before = s; after = c.filled-after.result })
          c.loop-from.places.items c.push_places-in-loop-from.new.places.items) c.filled-before.ensures
          c.in_ok-push_places-2.ensures));
    }

pub returns : goal.returns
returns g c =
    let limit = g.I.IntNumber.limit in
    let met = plain_met g.I.Wide.WideIntNumber.whole in
    let es = plain_edges g.I.IntNumber.whole g.C.EdgeCount.counts c.args.edges.now in
    let ms = plain_mets g.I.Wide.WideIntNumber.whole c.args.met.now in
    let from = c.loop-from.from in
    let b = c.loop-from.beside in
    let filled = is_filled c.args.rule in
    let l = length-map c.args.met.now met in
    let ended : (length ms ≤ from) ⊎ ((m : Met) × IsAt ms from m × AreEqual m.part end_part) =
    elim c.loop-from-test.branch [
      | then-loop-from-test+else-not-is_end w ↦
          let test = w.if-not-is_end.false in
          inr (
            met w.index-met-from.result,
            placed_in_mapped met c.args.met.now from w.index-met-from.result w.loop-from-test.true w.index-met-from.is,
            subst (λ x. AreEqual (met x).part end_part) (sym w.index-met-from.is)
                (w.is_end.ensures.0 (let at_end : w.is_end.result ≡ true = grind (arith, test) in at_end)),
          )
      | else-loop-from-test w ↦ inl (let all = w.loop-from-test.false in omega (arith, l, all))
    ] in
    record {
      pieces = λ e at.
          let walked = c.loop-from.invariant.walked e at in
          let given : AreMetIn es c.args.i e ms = record {
            ascending = c.requires.ascending;
            forward = forward_of_held limit es c.requires.held;
            entry = at;
            met = c.requires.met e at;
          } in
          sides_added filled es c.args.i e ms given from b walked.0 walked.2 c.args.pieces.now.items
          c.loop-from.pieces.items walked.1 ended;
      places = λ e at.
          let walked = c.loop-from.invariant.walked e at in
          let so_far = c.loop-from.invariant.places e at in
          let given : AreMetIn es c.args.i e ms = record {
            ascending = c.requires.ascending;
            forward = forward_of_held limit es c.requires.held;
            entry = at;
            met = c.requires.met e at;
          } in
          let within = c.loop-from.invariant.within in
          places_added filled es e ms c.args.places.now.items c.push_places-2.new.places.items
          (places_more filled es e ms from (length ms)
          (record { before = filled_beside filled b; after = filled_beside filled b })
          c.args.places.now.items c.loop-from.places.items c.push_places-2.new.places.items so_far.0
          (omega (arith, l, within)) so_far.1 so_far.2
          (sides_at_rest filled es c.args.i e ms given from b walked.0 walked.2 ended)
          (subst (λ n. AddsTimes (n - from) (record { before = filled_beside filled b; after = filled_beside filled b })
          c.loop-from.places.items c.push_places-2.new.places.items) (sym l)
          (subst (λ s. AddsTimes (length c.args.met.now - from) (record { before = s; after = s })
          c.loop-from.places.items c.push_places-2.new.places.items) c.filled-last.ensures
          c.in_ok-push_places-3.ensures)));
    }
