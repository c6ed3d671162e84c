-- Each step makes the next part. Where nothing is left of a list, the rest of the other follows.
use Rattle.std.proofs.Common.{◌≡◌, ◌⊎◌, inl, inr, ◌+◌, ◌<◌, cond, List, [], ◌∷◌, ◌++◌, length, append_assoc}
use Rattle.std.proofs.Common.{ap, ap₂, sym, ◌∙◌, subst, arith}
use Rattle.std.proofs.lemmas.List.{map-append}
use Rattle.overlay_geom.specs.Plane.{point_lt}
use Rattle.overlay_geom.specs.Points.{plain_point}
use Rattle.overlay_geom.proofs.PointOrder.{Decides-point_lt}
use Rattle.overlay_plane.proofs.LinesWithin.{along_through}
use Rattle.overlay_parts.specs.LineParts.{ArePartsOn}
use Rattle.overlay_parts.specs.Parts.{ends_of_part, first_of, part_behind, plain_part, plain_parts, AreParted}
use Rattle.overlay_parts.specs.Stores.IsStoreReached.{unwritten}
use Rattle.overlay_parts.specs.declared.parts.Part.{Part as HeldPart}
use Rattle.overlay_parts.proofs.JoinedParts.{first_on, joined_all, left_behind, loop_fewer, loop_init, loop_next}
use Rattle.overlay_parts.proofs.JoinedParts.{none_left, other_on, IsJoinedUpTo}
use Rattle.overlay_parts.proofs.LineParts.{ends_left}
use Rattle.overlay_parts.proofs.ReachedStores.{reached_on}
use Rattle.overlay_parts.proofs.parts.joined_parts.Goals as goal
use Rattle.overlay_parts.proofs.parts.joined_parts.Goals.{then-loop-i-test+else-j-high, else-loop-i-test}

pub first_behind-first-requires-clause-one : goal.first_behind-first-requires-clause-one
first_behind-first-requires-clause-one g c =
    let whole = g.I.IntNumber.whole in
    let counts = g.C.EdgeCount.counts in
    let both = c.requires.line in
    let i_within : c.loop-i.i < length c.args.low.now = omega arith in
    let j_within : c.loop-i.j < length c.args.high.now = omega arith in
    (first_on whole counts g.C.EdgeCount.merges g.I.IntNumber.limit both.1 both.2 both.0 _
    (plain_point whole c.loop-i.done) (plain_parts whole counts c.loop-i.parts.items) c.args.low.now c.args.high.now
    c.loop-i.i c.loop-i.j c.index-low-i.result c.index-high-j.result i_within c.index-low-i.is j_within
    c.index-high-j.is (c.loop-i.invariant.0 both.0 both.1 both.2 both.3)).held

pub first_behind-first-requires-clause-other : goal.first_behind-first-requires-clause-other
first_behind-first-requires-clause-other g c =
    let whole = g.I.IntNumber.whole in
    let counts = g.C.EdgeCount.counts in
    let both = c.requires.line in
    let i_within : c.loop-i.i < length c.args.low.now = omega arith in
    let j_within : c.loop-i.j < length c.args.high.now = omega arith in
    (other_on whole counts g.C.EdgeCount.merges g.I.IntNumber.limit both.1 both.2 both.0 _
    (plain_point whole c.loop-i.done) (plain_parts whole counts c.loop-i.parts.items) c.args.low.now c.args.high.now
    c.loop-i.i c.loop-i.j c.index-low-i.result c.index-high-j.result i_within c.index-low-i.is j_within
    c.index-high-j.is (c.loop-i.invariant.0 both.0 both.1 both.2 both.3)).held

pub first_behind-first-requires-clause-light : goal.first_behind-first-requires-clause-light
first_behind-first-requires-clause-light g c =
    let whole = g.I.IntNumber.whole in
    let counts = g.C.EdgeCount.counts in
    let both = c.requires.line in
    let i_within : c.loop-i.i < length c.args.low.now = omega arith in
    let j_within : c.loop-i.j < length c.args.high.now = omega arith in
    let of_s = (first_on whole counts g.C.EdgeCount.merges g.I.IntNumber.limit both.1 both.2 both.0 _
    (plain_point whole c.loop-i.done) (plain_parts whole counts c.loop-i.parts.items) c.args.low.now c.args.high.now
    c.loop-i.i c.loop-i.j c.index-low-i.result c.index-high-j.result i_within c.index-low-i.is j_within
    c.index-high-j.is (c.loop-i.invariant.0 both.0 both.1 both.2 both.3)).cover in
    let of_t = (other_on whole counts g.C.EdgeCount.merges g.I.IntNumber.limit both.1 both.2 both.0 _
    (plain_point whole c.loop-i.done) (plain_parts whole counts c.loop-i.parts.items) c.args.low.now c.args.high.now
    c.loop-i.i c.loop-i.j c.index-low-i.result c.index-high-j.result i_within c.index-low-i.is j_within
    c.index-high-j.is (c.loop-i.invariant.0 both.0 both.1 both.2 both.3)).cover in
    let light = both.3.light in
    omega (arith, of_s, of_t, light)

pub first_behind-first-requires-clause-along : goal.first_behind-first-requires-clause-along
first_behind-first-requires-clause-along g c =
    let whole = g.I.IntNumber.whole in
    let counts = g.C.EdgeCount.counts in
    let both = c.requires.line in
    let v = plain_point whole c.loop-i.done in
    let i_within : c.loop-i.i < length c.args.low.now = omega arith in
    let j_within : c.loop-i.j < length c.args.high.now = omega arith in
    let of_s = (first_on whole counts g.C.EdgeCount.merges g.I.IntNumber.limit both.1 both.2 both.0 _
    v (plain_parts whole counts c.loop-i.parts.items) c.args.low.now c.args.high.now
    c.loop-i.i c.loop-i.j c.index-low-i.result c.index-high-j.result i_within c.index-low-i.is j_within
    c.index-high-j.is (c.loop-i.invariant.0 both.0 both.1 both.2 both.3)).along in
    let of_t = (other_on whole counts g.C.EdgeCount.merges g.I.IntNumber.limit both.1 both.2 both.0 _
    v (plain_parts whole counts c.loop-i.parts.items) c.args.low.now c.args.high.now
    c.loop-i.i c.loop-i.j c.index-low-i.result c.index-high-j.result i_within c.index-low-i.is j_within
    c.index-high-j.is (c.loop-i.invariant.0 both.0 both.1 both.2 both.3)).along in
    along_through both.0 (ends_of_part (part_behind (plain_part whole counts c.index-high-j.result) v))
    (ends_of_part (part_behind (plain_part whole counts c.index-low-i.result) v))
    ((Decides-point_lt both.0.a both.0.b).0 both.3.forward) of_t of_s

pub loop-i-preserved : goal.loop-i-preserved
loop-i-preserved g c =
    let merges = g.C.EdgeCount.merges in
    let limit = g.I.IntNumber.limit in
    let whole = g.I.IntNumber.whole in
    let counts = g.C.EdgeCount.counts in
    let low = c.args.low.now in
    let high = c.args.high.now in
    let old = plain_parts whole counts low ++ plain_parts whole counts high in
    let made = plain_parts whole counts c.loop-i.parts.items in
    let first = plain_part whole counts c.first_behind-first.result in
    let more : plain_parts whole counts c.push.new.self.items ≡ made ++ first ∷ [] =
    ap (plain_parts whole counts) c.in_ok-push.ensures.items
    ∙ map-append (plain_part whole counts) c.loop-i.parts.items (c.first_behind-first.result ∷ []) in
    let i_within : c.loop-i.i < length low = omega arith in
    let j_within : c.loop-i.j < length high = omega arith in
    let i_place = subst (λ s. c.place_behind-i.result ≡ cond (point_lt (ends_of_part first).b
    (ends_of_part (plain_part whole counts s)).b) c.loop-i.i (c.loop-i.i + 1)) (sym c.index-low-i.is)
    (c.place_behind-i.ensures c.index-low-i.result) in
    let j_place = subst (λ t. c.place_behind-j.result ≡ cond (point_lt (ends_of_part first).b
    (ends_of_part (plain_part whole counts t)).b) c.loop-i.j (c.loop-i.j + 1)) (sym c.index-high-j.is)
    (c.place_behind-j.ensures c.index-high-j.result) in (
      λ line m k both.
          subst (λ w. IsJoinedUpTo merges limit m k line old w (plain_parts whole counts c.push.new.self.items)
          (left_behind whole counts w c.place_behind-i.result low)
          (left_behind whole counts w c.place_behind-j.result high))
          (sym c.end_of-done.ensures)
          (subst (λ ps. IsJoinedUpTo merges limit m k line old (ends_of_part first).b ps
          (left_behind whole counts (ends_of_part first).b c.place_behind-i.result low)
          (left_behind whole counts (ends_of_part first).b c.place_behind-j.result high)) (sym more)
          (loop_next whole counts merges limit m k line old (plain_point whole c.loop-i.done) made low high c.loop-i.i
          c.loop-i.j c.index-low-i.result c.index-high-j.result i_within c.index-low-i.is j_within c.index-high-j.is
          (c.loop-i.invariant.0 line m k both) first c.first_behind-first.ensures.front c.place_behind-i.result
          c.place_behind-j.result i_place j_place c.first_behind-first.ensures.parted)),
      reached_on g.C.EdgeCount.writes _ _ _ c.loop-i.invariant.1 c.first_behind-first.ensures.store,
    )

pub loop-i-init : goal.loop-i-init
loop-i-init g c =
    let merges = g.C.EdgeCount.merges in
    let limit = g.I.IntNumber.limit in
    let whole = g.I.IntNumber.whole in
    let counts = g.C.EdgeCount.counts in
    let low = c.args.low.now in
    let high = c.args.high.now in
    let v = plain_point whole c.first_of-done.result in
    let v_is : v
    ≡ first_of (plain_point whole c.index-low-0.result.edge.a) (plain_point whole c.index-high-0.result.edge.a) =
    c.first_of-done.ensures
    ∙ ap₂ (λ (s t : HeldPart _ _). first_of (plain_point whole s.edge.a) (plain_point whole t.edge.a))
    (sym c.index-low-0.is) (sym c.index-high-0.is) in (
      λ line m k both.
          subst (λ (ps : List (HeldPart _ _)). IsJoinedUpTo merges limit m k line
          (plain_parts whole counts low ++ plain_parts whole counts high) v (plain_parts whole counts ps)
          (left_behind whole counts v 0 low) (left_behind whole counts v 0 high)) (sym c.in_ok-parts.ensures.items)
          (loop_init whole counts merges limit m k line low high c.index-low-0.result c.index-high-0.result
          c.requires.low c.index-low-0.is c.requires.high c.index-high-0.is v v_is both),
      unwritten _,
    )

pub loop-i-smaller : goal.loop-i-smaller
loop-i-smaller g c =
    let whole = g.I.IntNumber.whole in
    let counts = g.C.EdgeCount.counts in
    let low = c.args.low.now in
    let high = c.args.high.now in
    let v = plain_point whole c.loop-i.done in
    let made = plain_parts whole counts c.loop-i.parts.items in
    let first = plain_part whole counts c.first_behind-first.result in
    let both = c.requires.line in
    let i_within : c.loop-i.i < length low = omega arith in
    let j_within : c.loop-i.j < length high = omega arith in
    let i_place = subst (λ s. c.place_behind-i.result ≡ cond (point_lt (ends_of_part first).b
    (ends_of_part (plain_part whole counts s)).b) c.loop-i.i (c.loop-i.i + 1)) (sym c.index-low-i.is)
    (c.place_behind-i.ensures c.index-low-i.result) in
    let j_place = subst (λ t. c.place_behind-j.result ≡ cond (point_lt (ends_of_part first).b
    (ends_of_part (plain_part whole counts t)).b) c.loop-i.j (c.loop-i.j + 1)) (sym c.index-high-j.is)
    (c.place_behind-j.ensures c.index-high-j.result) in
    subst (λ w. ends_left w (left_behind whole counts w c.place_behind-i.result low)
    + ends_left w (left_behind whole counts w c.place_behind-j.result high)
    < ends_left v (left_behind whole counts v c.loop-i.i low)
    + ends_left v (left_behind whole counts v c.loop-i.j high))
    (sym c.end_of-done.ensures)
    (loop_fewer whole counts g.C.EdgeCount.merges g.I.IntNumber.limit both.1 both.2 both.0
    (plain_parts whole counts low ++ plain_parts whole counts high) v made low high c.loop-i.i
    c.loop-i.j c.index-low-i.result c.index-high-j.result i_within c.index-low-i.is j_within c.index-high-j.is
    (c.loop-i.invariant.0 both.0 both.1 both.2 both.3) first c.first_behind-first.ensures.front c.place_behind-i.result
    c.place_behind-j.result i_place j_place)

pub returns-in_err-parts-clause-store : goal.returns-in_err-parts-clause-store
returns-in_err-parts-clause-store g c = unwritten _

pub returns-in_err-push-clause-store : goal.returns-in_err-push-clause-store
returns-in_err-push-clause-store g c =
    reached_on g.C.EdgeCount.writes _ _ _ c.loop-i.invariant.1 c.first_behind-first.ensures.store

pub returns-clause-parted : goal.returns-clause-parted
returns-clause-parted g c =
    let whole = g.I.IntNumber.whole in
    let counts = g.C.EdgeCount.counts in
    let both = c.requires.line in
    let v = plain_point whole c.loop-i.done in
    let made = plain_parts whole counts c.loop-i.parts.items in
    let of_low = left_behind whole counts v c.loop-i.i c.args.low.now in
    let of_high = left_behind whole counts v c.loop-i.j c.args.high.now in
    let all : plain_parts whole counts c.push_rest-2.new.parts.items ≡ made ++ (of_low ++ of_high) =
    c.in_ok-push_rest-2.ensures ∙ ap (λ ps. ps ++ of_high) c.in_ok-push_rest.ensures
    ∙ append_assoc made of_low of_high in
    subst (λ ps. AreParted g.C.EdgeCount.merges
    (plain_parts whole counts c.args.low.now ++ plain_parts whole counts c.args.high.now) ps) (sym all)
    (c.loop-i.invariant.0 both.0 both.1 both.2 both.3).parted

pub returns-clause-on : goal.returns-clause-on
returns-clause-on g c = λ line m k both.
    let limit = g.I.IntNumber.limit in
    let whole = g.I.IntNumber.whole in
    let counts = g.C.EdgeCount.counts in
    let v = plain_point whole c.loop-i.done in
    let made = plain_parts whole counts c.loop-i.parts.items in
    let of_low = left_behind whole counts v c.loop-i.i c.args.low.now in
    let of_high = left_behind whole counts v c.loop-i.j c.args.high.now in
    let all : plain_parts whole counts c.push_rest-2.new.parts.items ≡ made ++ (of_low ++ of_high) =
    c.in_ok-push_rest-2.ensures ∙ ap (λ ps. ps ++ of_high) c.in_ok-push_rest.ensures
    ∙ append_assoc made of_low of_high in
    let none : (of_low ≡ []) ⊎ (of_high ≡ []) = elim c.loop-i-test.branch [
      | then-loop-i-test+else-j-high w ↦ inr (none_left whole counts v c.loop-i.j c.args.high.now w.if-j-high.false)
      | else-loop-i-test w ↦ inl (none_left whole counts v c.loop-i.i c.args.low.now w.loop-i-test.false)
    ] in
    subst (λ ps. ArePartsOn limit (m + k) line ps) (sym all)
    (joined_all g.C.EdgeCount.merges limit m k line
    (plain_parts whole counts c.args.low.now ++ plain_parts whole counts c.args.high.now) v made of_low of_high none
    (c.loop-i.invariant.0 line m k both))
