-- A further anchor: the conditions of the calls, and the number found.
use Rattle.std.proofs.Common.{◌≡◌, ◌+◌, ◌<◌, ◌≤◌, ◌<ℤ◌, ℕ, false, List, slice_set, length, map, take, drop, refl, sym}
use Rattle.std.proofs.Common.{ap}
use Rattle.std.proofs.Common.{◌∙◌, subst, arith, rules}
use Rattle.std.specs.List.{All, AllPairs}
use Rattle.std.proofs.lemmas.List.{length-map, length-set}
use Rattle.std.proofs.lemmas.List.Elements.{All-contains, All-nil}
use Rattle.std.proofs.lemmas.Option.{slice_get_within}
use Rattle.overlay_geom.specs.Plane.{edge_eq}
use Rattle.overlay_geom.specs.Settled.{IsSettledBy}
use Rattle.overlay_geom.proofs.Mapped.{read_mapped}
use Rattle.overlay_scan.specs.Scan.{Entry}
use Rattle.overlay_scan.specs.Sweeps.{IsByStart}
use Rattle.overlay_walk.specs.GroupedContours.{walk_of}
use Rattle.overlay_extract.specs.Parents.{IsSwept, HasShapeNumber}
use Rattle.overlay_walk.specs.Steps.{filled_hand}
use Rattle.overlay_walk.specs.WalkEdges.{numbered_entry, numbered_entries}
use Rattle.overlay_extract.specs.WalkEntries.{IsHoleEntry, AreHoleEntries}
use Rattle.overlay_extract.proofs.HoleNumbers.{shape_of}
use Rattle.overlay_extract.proofs.Sweeping.{nothing_swept, at_front, entries_settled, anchor_meets, swept_on}
use Rattle.overlay_extract.proofs.Sweeping.{numbers_on}
use Rattle.overlay_extract.proofs.Sweeping.{all_walks_numbered}
use Rattle.overlay_extract.proofs.binding.sweep.parents_by_sweep.Goals as goal

pub loop-hole-init : goal.loop-hole-init
loop-hole-init g c = (
  search rules,
  omega arith,
  λ k d lt. nothing_swept g.I.IntNumber.limit _ (g.S.Scan.content c.args.scan.now) c.requires.empty,
  λ k d lt. absurd (omega (arith, lt)),
)

pub insert_up_to-requires-clause-order : goal.insert_up_to-requires-clause-order
insert_up_to-requires-clause-order g c =
    subst (λ es. IsByStart (numbered_entries g.I.IntNumber.whole es)) (sym c.deref.ensures.value)
    c.in_ok-edges.ensures.ok.order

pub insert_up_to-requires-clause-distinct : goal.insert_up_to-requires-clause-distinct
insert_up_to-requires-clause-distinct g c =
    subst (λ es. AllPairs (λ e f. edge_eq e.edge f.edge ≡ false) (numbered_entries g.I.IntNumber.whole es))
    (sym c.deref.ensures.value)
    c.in_ok-edges.ensures.ok.distinct

pub insert_up_to-requires-clause-settled : goal.insert_up_to-requires-clause-settled
insert_up_to-requires-clause-settled g c =
    let whole = g.I.IntNumber.whole in
    subst (λ es. IsSettledBy (λ f. f.edge) (numbered_entries whole es)) (sym c.deref.ensures.value)
    (entries_settled (filled_hand c.args.direction) (map (walk_of whole) c.args.contours.now) c.requires.contours
    c.requires.settled
    (numbered_entries whole c.in_ok-edges.edges.items) c.in_ok-edges.ensures.ok)

pub insert_up_to-requires-clause-swept : goal.insert_up_to-requires-clause-swept
insert_up_to-requires-clause-swept g c =
    let whole = g.I.IntNumber.whole in
    let limit = g.I.IntNumber.limit in
    let hs = numbered_entries whole c.deref-hole-items.result.now in
    let h = numbered_entry whole c.hole-item.result in
    let i = c.loop-hole.hole-index in
    let inside : i < length hs = rw length-map c.loop-hole-test.true in
    let here = sym (read_mapped (numbered_entry whole) c.deref-hole-items.result.now i c.hole-item.result h
    c.loop-hole-test.true c.hole-item.is) in
    subst (λ es. IsSwept limit h.edge.a.x (take c.loop-hole.from (numbered_entries whole es))
    (g.S.Scan.content c.loop-hole.scan)) (sym c.deref.ensures.value)
    (at_front (λ (k : Entry ℕ). IsSwept limit k.edge.a.x
    (take c.loop-hole.from (numbered_entries whole c.in_ok-edges.edges.items)) (g.S.Scan.content c.loop-hole.scan))
    hs i h inside here c.loop-hole.invariant.2)

pub walk_below-below-requires-clause-state : goal.walk_below-below-requires-clause-state
walk_below-below-requires-clause-state g c = c.in_ok-from.ensures.swept.state

pub walk_below-below-requires-clause-moves : goal.walk_below-below-requires-clause-moves
walk_below-below-requires-clause-moves g c = c.in_ok-from.ensures.swept.moves

pub walk_below-below-requires-clause-asked : goal.walk_below-below-requires-clause-asked
walk_below-below-requires-clause-asked g c =
    let anchor = c.hole-item.result in
    record { a_in_range = anchor.a_in_range; b_in_range = anchor.b_in_range; forward = anchor.forward; starts = refl }

pub walk_below-below-requires-clause-meets : goal.walk_below-below-requires-clause-meets
walk_below-below-requires-clause-meets g c =
    let whole = g.I.IntNumber.whole in
    let limit = g.I.IntNumber.limit in
    let filled = filled_hand c.args.direction in
    let walks = map (walk_of g.I.IntNumber.whole) c.args.contours.now in
    let fs = numbered_entries whole c.in_ok-edges.edges.items in
    let hs = numbered_entries whole c.deref-hole-items.result.now in
    let h = numbered_entry whole c.hole-item.result in
    let i = c.loop-hole.hole-index in
    let inside : i < length hs = rw length-map c.loop-hole-test.true in
    let here = sym (read_mapped (numbered_entry whole) c.deref-hole-items.result.now i c.hole-item.result h
    c.loop-hole-test.true c.hole-item.is) in
    let holes : AreHoleEntries walks c.args.known.now hs =
    subst (λ es. AreHoleEntries walks c.args.known.now (numbered_entries whole es))
    (sym c.deref-hole-items.ensures.value) c.in_ok-anchors.ensures.ok in
    let own = All-contains (IsHoleEntry walks c.args.known.now) hs h holes.from (i, inside, sym here) in
    let s = g.S.Scan.content c.insert_up_to.new.scan in
    let n = c.in_ok-from.from in
    let swept = subst (λ es. IsSwept limit h.edge.a.x (take n (numbered_entries whole es)) s) c.deref.ensures.value
    c.in_ok-from.ensures.swept in
    let rest = subst (λ es. All (λ (f : Entry ℕ). h.edge.a.x <ℤ f.edge.a.x) (drop n (numbered_entries whole es)))
    c.deref.ensures.value c.in_ok-from.ensures.rest in
    anchor_meets filled walks c.requires.contours c.requires.settled c.requires.single c.args.known.now h own fs
    c.in_ok-edges.ensures.ok limit n s swept rest

pub shape_at-requires : goal.shape_at-requires
shape_at-requires g c = ap length c.deref-in-loop-hole.ensures.value ∙ c.loop-hole.invariant.0 ∙ sym c.requires.known

pub index_mut-requires : goal.index_mut-requires
index_mut-requires g c =
    let whole = g.I.IntNumber.whole in
    let limit = g.I.IntNumber.limit in
    let filled = filled_hand c.args.direction in
    let walks = map (walk_of g.I.IntNumber.whole) c.args.contours.now in
    let fs = numbered_entries whole c.in_ok-edges.edges.items in
    let hs = numbered_entries whole c.deref-hole-items.result.now in
    let h = numbered_entry whole c.hole-item.result in
    let i = c.loop-hole.hole-index in
    let inside : i < length hs = rw length-map c.loop-hole-test.true in
    let here = sym (read_mapped (numbered_entry whole) c.deref-hole-items.result.now i c.hole-item.result h
    c.loop-hole-test.true c.hole-item.is) in
    let holes : AreHoleEntries walks c.args.known.now hs =
    subst (λ es. AreHoleEntries walks c.args.known.now (numbered_entries whole es))
    (sym c.deref-hole-items.ensures.value) c.in_ok-anchors.ensures.ok in
    let own = All-contains (IsHoleEntry walks c.args.known.now) hs h holes.from (i, inside, sym here) in
    let within = slice_get_within walks h.value own.walk own.at in
    let counted = c.loop-hole.invariant.0 in
    let mapped = length-map c.args.contours.now (walk_of g.I.IntNumber.whole) in
    let held = c.loop-hole.parents.ok.0 in
    omega arith

pub loop-hole-preserved : goal.loop-hole-preserved
loop-hole-preserved g c =
    let whole = g.I.IntNumber.whole in
    let limit = g.I.IntNumber.limit in
    let filled = filled_hand c.args.direction in
    let walks = map (walk_of g.I.IntNumber.whole) c.args.contours.now in
    let fs = numbered_entries whole c.in_ok-edges.edges.items in
    let hs = numbered_entries whole c.deref-hole-items.result.now in
    let h = numbered_entry whole c.hole-item.result in
    let i = c.loop-hole.hole-index in
    let inside : i < length hs = rw length-map c.loop-hole-test.true in
    let here = sym (read_mapped (numbered_entry whole) c.deref-hole-items.result.now i c.hole-item.result h
    c.loop-hole-test.true c.hole-item.is) in
    let holes : AreHoleEntries walks c.args.known.now hs =
    subst (λ es. AreHoleEntries walks c.args.known.now (numbered_entries whole es))
    (sym c.deref-hole-items.ensures.value) c.in_ok-anchors.ensures.ok in
    let own = All-contains (IsHoleEntry walks c.args.known.now) hs h holes.from (i, inside, sym here) in
    let s = g.S.Scan.content c.insert_up_to.new.scan in
    let n = c.in_ok-from.from in
    let swept = subst (λ es. IsSwept limit h.edge.a.x (take n (numbered_entries whole es)) s) c.deref.ensures.value
    c.in_ok-from.ensures.swept in
    let rest = subst (λ es. All (λ (f : Entry ℕ). h.edge.a.x <ℤ f.edge.a.x) (drop n (numbered_entries whole es)))
    c.deref.ensures.value c.in_ok-from.ensures.rest in
    let t = g.S.Scan.content c.walk_below-below.new.scan in
    let known = c.args.known.now in
    let parents = c.loop-hole.parents.items in
    let mapped = length-map c.args.contours.now (walk_of g.I.IntNumber.whole) in
    let counted : length parents ≡ length walks = c.loop-hole.invariant.0 ∙ sym mapped in
    let known_counted : length known ≡ length walks = c.requires.known ∙ sym mapped in
    let shape : c.shape_at.result ≡ shape_of known parents c.walk_below-below.result = c.shape_at.ensures
    ∙ ap (λ ps. shape_of known ps c.walk_below-below.result) c.deref-in-loop-hole.ensures.value in (
      length-set parents c.hole-item.result.number c.shape_at.result ∙ c.loop-hole.invariant.0,
      subst (λ (es : List _). n ≤ length es) c.deref.ensures.value c.in_ok-from.ensures.within,
      swept_on filled walks c.requires.contours c.requires.settled c.requires.single c.args.known.now h own fs
          c.in_ok-edges.ensures.ok limit n s swept rest known_counted hs holes parents counted i inside here t
          c.walk_below-below.ensures.content c.walk_below-below.ensures.state,
      subst (λ o. All (λ (k : Entry ℕ). HasShapeNumber filled walks known (slice_set parents h.value o) k.value)
          (take (i + 1) hs)) (sym shape)
          (numbers_on filled walks c.requires.contours c.requires.settled c.requires.single c.args.known.now h own fs
          c.in_ok-edges.ensures.ok limit n s swept rest known_counted hs holes parents counted i inside here t
          c.walk_below-below.ensures.content c.walk_below-below.ensures.state (length c.args.contours.now)
          (sym mapped) c.walk_below-below.result
          c.walk_below-below.ensures.value c.loop-hole.invariant.3),
    )

pub returns-clause-numbers : goal.returns-clause-numbers
returns-clause-numbers g c =
    let whole = g.I.IntNumber.whole in
    let filled = filled_hand c.args.direction in
    let walks = map (walk_of g.I.IntNumber.whole) c.args.contours.now in
    let hs = numbered_entries whole c.deref-hole-items.result.now in
    let holes : AreHoleEntries walks c.args.known.now hs =
    subst (λ es. AreHoleEntries walks c.args.known.now (numbered_entries whole es))
    (sym c.deref-hole-items.ensures.value) c.in_ok-anchors.ensures.ok in
    let past : length hs ≤ c.loop-hole.hole-index = rw length-map c.loop-hole-test.false in
    all_walks_numbered filled walks c.args.known.now hs holes c.loop-hole.parents.items c.loop-hole.hole-index past
    c.loop-hole.invariant.3

-- no walk's shape is to be found
pub returns-then-is_empty-clause-numbers : goal.returns-then-is_empty-clause-numbers
returns-then-is_empty-clause-numbers g c =
    let whole = g.I.IntNumber.whole in
    let filled = filled_hand c.args.direction in
    let walks = map (walk_of whole) c.args.contours.now in
    let hs = numbered_entries whole c.in_ok-anchors.anchors.items in
    let parents = c.resize.new.self.items in
    let empty : length c.in_ok-anchors.anchors.items ≡ 0 = grind (
      arith,
      c.is_empty.ensures,
      c.if-is_empty.true,
      c.in_ok-anchors.anchors.ok.0,
    ) in
    let none : length c.in_ok-anchors.anchors.items ≤ 0 = omega (arith, empty) in
    all_walks_numbered filled walks c.args.known.now hs c.in_ok-anchors.ensures.ok parents 0 (rw length-map none)
    (All-nil (λ (k : Entry ℕ). HasShapeNumber filled walks c.args.known.now parents k.value))
