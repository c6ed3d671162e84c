-- A changed edge is compared with all later edges, another edge with the changed edges behind it.
use Rattle.std.proofs.Common.{◌+◌, ◌<◌, ◌≤◌, IfSome, length, All, sym, subst, ◌∙◌, arith}
use Rattle.std.proofs.lemmas.List.{get_or_default}
use Rattle.std.proofs.lemmas.Result.{on_ok_weaker}
use Rattle.overlay_geom.proofs.Mapped.{All-mapped_at}
use Rattle.overlay_order.specs.Content.{plain_edge, plain_edges, IsAscending, IsHeld}
use Rattle.overlay_pairs.specs.Changed.{AreHeldChangesOf, ArePlacesAt, IsFirstFrom}
use Rattle.overlay_pairs.specs.Near.{AreNearBehind}
use Rattle.overlay_pairs.proofs.Entries.{placed_in_mapped}
use Rattle.overlay_pairs.proofs.NearChanged.{changed_near, changes_ascend, changes_held, near_of_edge, none_left}
use Rattle.overlay_pairs.proofs.NearChanged.{numbers_within}
use Rattle.overlay_pairs.proofs.changed.find_open.Goals as goal

pub find_near_behind-requires-clause-one : goal.find_near_behind-requires-clause-one
find_near_behind-requires-clause-one g c =
    All-mapped_at (IsHeld g.I.IntNumber.limit) (plain_edge g.I.IntNumber.whole g.C.EdgeCount.counts) c.args.edges.now
    c.args.i c.index-edges-i.result c.requires.within c.index-edges-i.is c.requires.held

pub find_near_behind-requires-then-index-i-clause-one : goal.find_near_behind-requires-then-index-i-clause-one
find_near_behind-requires-then-index-i-clause-one g c =
    All-mapped_at (IsHeld g.I.IntNumber.limit) (plain_edge g.I.IntNumber.whole g.C.EdgeCount.counts) c.args.edges.now
    c.args.i c.index-edges-i.result c.requires.within c.index-edges-i.is c.requires.held

pub find_near_behind-requires-else-index-i-clause-one : goal.find_near_behind-requires-else-index-i-clause-one
find_near_behind-requires-else-index-i-clause-one g c =
    All-mapped_at (IsHeld g.I.IntNumber.limit) (plain_edge g.I.IntNumber.whole g.C.EdgeCount.counts) c.args.edges.now
    c.args.i c.index-edges-i.result c.requires.within c.index-edges-i.is c.requires.held

pub find_near_behind-requires-else-index-i-clause-held : goal.find_near_behind-requires-else-index-i-clause-held
find_near_behind-requires-else-index-i-clause-held g c =
    let whole = g.I.IntNumber.whole in
    let counts = g.C.EdgeCount.counts in
    let es = plain_edges whole counts c.args.edges.now in
    let changed = c.in-Some.changed in
    let known = subst (λ o. IfSome o (AreHeldChangesOf whole counts g.I.IntNumber.limit es)) c.in-Some.is
    c.requires.changed in
    subst (λ fs. All (IsHeld g.I.IntNumber.limit) (plain_edges whole counts fs))
    (sym c.deref-else-index-i.ensures.value)
    (changes_held es changed.places.items (plain_edges whole counts changed.edges.items) known.changes
    g.I.IntNumber.limit c.requires.held)

pub find_near_behind-requires-else-index-i-clause-ascending :
    goal.find_near_behind-requires-else-index-i-clause-ascending
find_near_behind-requires-else-index-i-clause-ascending g c =
    let whole = g.I.IntNumber.whole in
    let counts = g.C.EdgeCount.counts in
    let es = plain_edges whole counts c.args.edges.now in
    let changed = c.in-Some.changed in
    let known = subst (λ o. IfSome o (AreHeldChangesOf whole counts g.I.IntNumber.limit es)) c.in-Some.is
    c.requires.changed in
    subst (λ fs. IsAscending (plain_edges whole counts fs)) (sym c.deref-else-index-i.ensures.value)
    (changes_ascend es changed.places.items (plain_edges whole counts changed.edges.items) known.changes
    c.requires.ascending)

pub put_places-requires : goal.put_places-requires
put_places-requires g c =
    let whole = g.I.IntNumber.whole in
    let counts = g.C.EdgeCount.counts in
    let es = plain_edges whole counts c.args.edges.now in
    let changed = c.in-Some.changed in
    let cs = plain_edges whole counts changed.edges.items in
    let known = subst (λ o. IfSome o (AreHeldChangesOf whole counts g.I.IntNumber.limit es)) c.in-Some.is
    c.requires.changed in
    let near = subst (λ fs. AreNearBehind (plain_edges whole counts fs) (plain_edge whole counts c.index-edges-i.result)
    c.first_from-k.result c.find_near_behind-else-index-i.new.near.items) c.deref-else-index-i.ensures.value
    c.in_ok-find_near_behind.ensures.ok in
    subst (λ ps. All (λ k. k < length ps) c.find_near_behind-else-index-i.new.near.items)
    (sym c.deref-else-index-i-2.ensures.value)
    (numbers_within es changed.places.items cs known.changes (plain_edge whole counts c.index-edges-i.result)
    c.first_from-k.result c.find_near_behind-else-index-i.new.near.items near)

pub returns-then-k-len : goal.returns-then-k-len
returns-then-k-len g c = record {
  ok = let whole = g.I.IntNumber.whole in
      let counts = g.C.EdgeCount.counts in
      let es = plain_edges whole counts c.args.edges.now in
      let changed = c.in-Some.changed in
      let cs = plain_edges whole counts changed.edges.items in
      let known = subst (λ o. IfSome o (AreHeldChangesOf whole counts g.I.IntNumber.limit es)) c.in-Some.is
      c.requires.changed in
      let e = c.index-edges-i.result in
      let at_e = placed_in_mapped (plain_edge whole counts) c.args.edges.now c.args.i e c.requires.within
      c.index-edges-i.is in
      let first = subst (λ ps. IsFirstFrom ps c.args.i c.first_from-k.result) c.deref.ensures.value
      c.first_from-k.ensures in
      let past = c.len.ensures in
      let all : length changed.places.items ≤ c.first_from-k.result = omega (arith, past, c.if-k-len.true) in
      near_of_edge es c.args.i (plain_edge whole counts e) c.clear.new.self.items at_e
      (subst (AreNearBehind es (plain_edge whole counts e) (c.args.i + 1)) (sym c.clear.ensures.items)
      (none_left es changed.places.items cs known.changes c.args.i c.first_from-k.result first
      (plain_edge whole counts e) at_e (λ at. omega (arith, all, at.0)) all));
}

pub returns-then-index-i : goal.returns-then-index-i
returns-then-index-i g c = record {
  ok = let plain = plain_edge g.I.IntNumber.whole g.C.EdgeCount.counts in
      let es = plain_edges g.I.IntNumber.whole g.C.EdgeCount.counts c.args.edges.now in
      let e = c.index-edges-i.result in
      on_ok_weaker c.find_near_behind-then-index-i.result
      (near_of_edge es c.args.i (plain e) c.find_near_behind-then-index-i.new.near.items
      (placed_in_mapped plain c.args.edges.now c.args.i e c.requires.within c.index-edges-i.is))
      c.find_near_behind-then-index-i.ensures.ok;
}

pub returns-in_ok-find_near_behind : goal.returns-in_ok-find_near_behind
returns-in_ok-find_near_behind g c = record {
  ok = let whole = g.I.IntNumber.whole in
      let counts = g.C.EdgeCount.counts in
      let es = plain_edges whole counts c.args.edges.now in
      let changed = c.in-Some.changed in
      let cs = plain_edges whole counts changed.edges.items in
      let known = subst (λ o. IfSome o (AreHeldChangesOf whole counts g.I.IntNumber.limit es)) c.in-Some.is
      c.requires.changed in
      let e = c.index-edges-i.result in
      let at_e = placed_in_mapped (plain_edge whole counts) c.args.edges.now c.args.i e c.requires.within
      c.index-edges-i.is in
      let first = subst (λ ps. IsFirstFrom ps c.args.i c.first_from-k.result) c.deref.ensures.value
      c.first_from-k.ensures in
      let near = subst (λ fs. AreNearBehind (plain_edges whole counts fs) (plain_edge whole counts
      c.index-edges-i.result)
      c.first_from-k.result c.find_near_behind-else-index-i.new.near.items) c.deref-else-index-i.ensures.value
      c.in_ok-find_near_behind.ensures.ok in
      near_of_edge es c.args.i (plain_edge whole counts e) c.put_places.new.near.items at_e
      (changed_near es changed.places.items cs known.changes c.args.i c.first_from-k.result first
      (plain_edge whole counts e) at_e (λ at. c.if-index-i.false
      (c.index.ensures ∙ get_or_default changed.places.items c.first_from-k.result c.index.result.now c.args.i at.0
      ∙ at.1))
      c.find_near_behind-else-index-i.new.near.items c.put_places.new.near.items near
      (subst (λ ps. ArePlacesAt ps c.find_near_behind-else-index-i.new.near.items c.put_places.new.near.items)
      c.deref-else-index-i-2.ensures.value c.put_places.ensures));
}
