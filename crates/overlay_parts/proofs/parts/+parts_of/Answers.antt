-- The halves are parted, and their parts joined.
use Rattle.std.proofs.Common.{◌++◌, map, sym, subst, arith}
use Rattle.std.proofs.lemmas.List.Sorted.{IsPermutation-refl}
use Rattle.std.proofs.lemmas.Result.{IfOk-weaker}
use Rattle.overlay_geom.specs.Edges.{weight}
use Rattle.overlay_order.specs.Content.{carried_edges, plain_edges, IsHeld}
use Rattle.overlay_parts.specs.LineParts.{ArePartsOn, AreToJoin}
use Rattle.overlay_parts.specs.Parts.{lone_part, plain_parts, AreParted, moved}
use Rattle.overlay_parts.specs.Stores.IsStoreReached.{unwritten}
use Rattle.overlay_parts.proofs.HandedOn.{handed_on}
use Rattle.overlay_parts.proofs.PartsOfEdges.{all_back, all_front, joined_on_line, lone_held_on, on_back, on_front}
use Rattle.overlay_parts.proofs.PartsOfEdges.{parted_all, some_parts, to_join, weight_both}
use Rattle.overlay_parts.proofs.ReachedStores.{reached_on}
use Rattle.overlay_parts.proofs.parts.+parts_of.Goals as goal

-- the parts of all
pub returns-clause-parted : goal.returns-clause-parted
returns-clause-parted g t c =
    let merges = g.C.EdgeCount.merges in
    let whole = g.I.IntNumber.whole in
    let counts = g.C.EdgeCount.counts in
    let plain = plain_parts whole counts in
    let halves = c.split_at-halves in
    IfOk-weaker c.joined_parts.result _ _
    (λ parts all. parted_all whole counts c.args.edges.now _ halves.result.0.now halves.result.1.now
    halves.ensures.front halves.ensures.back merges (plain c.in_ok-low.low.items) (plain c.in_ok-high.high.items)
    (plain parts.items) c.in_ok-low.ensures.parted c.in_ok-high.ensures.parted
    (subst (λ xs. AreParted merges (plain xs ++ plain c.in_ok-high.high.items) (plain parts.items))
    c.deref.ensures.value
    (subst (λ ys. AreParted merges (plain c.deref.result.now ++ plain ys) (plain parts.items)) c.deref-2.ensures.value
    all)))
    c.joined_parts.ensures.parted

pub returns-clause-on : goal.returns-clause-on
returns-clause-on g t c =
    let limit = g.I.IntNumber.limit in
    let whole = g.I.IntNumber.whole in
    let counts = g.C.EdgeCount.counts in
    let plain = plain_parts whole counts in
    let halves = c.split_at-halves in
    let es = c.args.edges.now in
    let front = halves.result.0.now in
    let back = halves.result.1.now in
    IfOk-weaker c.joined_parts.result _ _
    (λ parts become line on. joined_on_line whole counts es _ front back halves.ensures.front halves.ensures.back limit
    line (plain c.in_ok-low.low.items) (plain c.in_ok-high.high.items) (plain parts.items) c.requires.light
    (c.in_ok-low.ensures.on line
    (on_front whole counts es _ front back halves.ensures.front halves.ensures.back line on))
    (c.in_ok-high.ensures.on line
    (on_back whole counts es _ front back halves.ensures.front halves.ensures.back line on))
    (λ m k both. become line m k
    (subst (λ xs. AreToJoin limit m k line (plain xs) (plain c.deref-2.result.now)) (sym c.deref.ensures.value)
    (subst (λ ys. AreToJoin limit m k line (plain c.in_ok-low.low.items) (plain ys)) (sym c.deref-2.ensures.value)
    both))) on)
    c.joined_parts.ensures.on

pub returns-clause-store : goal.returns-clause-store
returns-clause-store g t c =
    reached_on g.C.EdgeCount.writes _ _ _
    (reached_on g.C.EdgeCount.writes _ _ _ c.in_ok-low.ensures.store c.in_ok-high.ensures.store)
    c.joined_parts.ensures.store

pub joined_parts-requires-clause-line : goal.joined_parts-requires-clause-line
joined_parts-requires-clause-line g t c =
    let limit = g.I.IntNumber.limit in
    let whole = g.I.IntNumber.whole in
    let counts = g.C.EdgeCount.counts in
    let plain = plain_parts whole counts in
    let halves = c.split_at-halves in
    let es = c.args.edges.now in
    let front = halves.result.0.now in
    let back = halves.result.1.now in
    let line = c.requires.line.0 in
    let on = c.requires.line.1 in
    let m = weight (plain_edges whole counts front) in
    let k = weight (plain_edges whole counts back) in (
      line,
      m,
      k,
      subst (λ xs. AreToJoin limit m k line (plain xs) (plain c.deref-2.result.now)) (sym c.deref.ensures.value)
          (subst (λ ys. AreToJoin limit m k line (plain c.in_ok-low.low.items) (plain ys))
          (sym c.deref-2.ensures.value)
          (to_join whole counts es _ front back halves.ensures.front halves.ensures.back limit line
          (plain c.in_ok-low.low.items) (plain c.in_ok-high.high.items) c.requires.light on
          (c.in_ok-low.ensures.on line
          (on_front whole counts es _ front back halves.ensures.front halves.ensures.back line on))
          (c.in_ok-high.ensures.on line
          (on_back whole counts es _ front back halves.ensures.front halves.ensures.back line on)))),
    )

pub joined_parts-requires-clause-low : goal.joined_parts-requires-clause-low
joined_parts-requires-clause-low g t c =
    some_parts g.I.IntNumber.whole g.C.EdgeCount.counts g.C.EdgeCount.merges c.split_at-halves.result.0.now
    c.in_ok-low.low.items c.deref.result.now c.deref.ensures.value c.in_ok-low.ensures.parted
    (let long = c.split_at-halves.ensures.front_len in let two = c.if-edges-lt2.false in omega (arith, long, two))

pub joined_parts-requires-clause-high : goal.joined_parts-requires-clause-high
joined_parts-requires-clause-high g t c =
    some_parts g.I.IntNumber.whole g.C.EdgeCount.counts g.C.EdgeCount.merges c.split_at-halves.result.1.now
    c.in_ok-high.high.items c.deref-2.result.now c.deref-2.ensures.value c.in_ok-high.ensures.parted
    (let long = c.split_at-halves.ensures.back_len in let two = c.if-edges-lt2.false in omega (arith, long, two))

-- few edges are parts of themselves
pub returns-then-edges-lt2-clause-parted : goal.returns-then-edges-lt2-clause-parted
returns-then-edges-lt2-clause-parted g t c =
    let lone = map lone_part (carried_edges g.I.IntNumber.whole g.C.EdgeCount.counts c.args.edges.now) in
    IfOk-weaker c.lone_parts.result _ _
    (λ parts same. subst (λ ps. AreParted g.C.EdgeCount.merges lone ps) (sym same) (moved (IsPermutation-refl lone)))
    c.lone_parts.ensures.ok

pub returns-then-edges-lt2-clause-on : goal.returns-then-edges-lt2-clause-on
returns-then-edges-lt2-clause-on g t c =
    let whole = g.I.IntNumber.whole in
    let counts = g.C.EdgeCount.counts in
    let limit = g.I.IntNumber.limit in
    let es = c.args.edges.now in
    IfOk-weaker c.lone_parts.result _ _
    (λ parts same line on. subst (λ ps. ArePartsOn limit (weight (plain_edges whole counts es)) line ps) (sym same)
    (lone_held_on whole counts limit line es c.if-edges-lt2.true c.requires.held on))
    c.lone_parts.ensures.ok

pub returns-then-edges-lt2-clause-store : goal.returns-then-edges-lt2-clause-store
returns-then-edges-lt2-clause-store g t c = unwritten _

pub returns-in_err-clone-clause-store : goal.returns-in_err-clone-clause-store
returns-in_err-clone-clause-store g t c = unwritten _

pub returns-in_err-high-clause-store : goal.returns-in_err-high-clause-store
returns-in_err-high-clause-store g t c =
    reached_on g.C.EdgeCount.writes _ _ _ c.in_ok-low.ensures.store c.in_err-high.ensures.store

-- each half is shorter, and its edges are held on the line
pub parts_of-requires : goal.parts_of-requires
parts_of-requires g t c κs within =
    let limit = g.I.IntNumber.limit in
    let whole = g.I.IntNumber.whole in
    let counts = g.C.EdgeCount.counts in
    let halves = c.split_at-halves in
    let es = c.args.edges.now in
    let front = halves.result.0.now in
    let back = halves.result.1.now in
    let weights = weight_both whole counts es _ front back halves.ensures.front halves.ensures.back in
    let light = c.requires.light in
    let line = c.requires.line in (
      omega arith,
      handed_on within (
        all_front whole counts es _ front back halves.ensures.front halves.ensures.back (IsHeld limit) c.requires.held,
        (
          omega (arith, weights, light),
          (
            line.0,
            on_front whole counts es _ front back halves.ensures.front halves.ensures.back line.0 line.1,
          ),
        ),
      ),
    )

pub parts_of-requires-2 : goal.parts_of-requires-2
parts_of-requires-2 g t c κs within =
    let limit = g.I.IntNumber.limit in
    let whole = g.I.IntNumber.whole in
    let counts = g.C.EdgeCount.counts in
    let halves = c.split_at-halves in
    let es = c.args.edges.now in
    let front = halves.result.0.now in
    let back = halves.result.1.now in
    let weights = weight_both whole counts es _ front back halves.ensures.front halves.ensures.back in
    let light = c.requires.light in
    let line = c.requires.line in (
      omega arith,
      handed_on within (
        all_back whole counts es _ front back halves.ensures.front halves.ensures.back (IsHeld limit) c.requires.held,
        (
          omega (arith, weights, light),
          (
            line.0,
            on_back whole counts es _ front back halves.ensures.front halves.ensures.back line.0 line.1,
          ),
        ),
      ),
    )
