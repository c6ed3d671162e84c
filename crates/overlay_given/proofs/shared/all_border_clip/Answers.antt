-- Each meeting point of the two edges is tested.
use Rattle.std.proofs.Common.{◌≡◌, ⊎_elim, ◌<◌, ◌≤◌, true, get_or, refl, sym, subst, ◌∙◌, arith}
use Rattle.std.proofs.lemmas.Bool.{cases_lt, false≢true}
use Rattle.std.proofs.lemmas.List.{length-map}
use Rattle.overlay_pairs.proofs.Entries.{placed_in_mapped}
use Rattle.overlay_exact.specs.Along.{plain_met, plain_mets}
use Rattle.overlay_given.specs.Places.{place_passes}
use Rattle.overlay_given.specs.declared.sides.SideTest.TheVariants.{ClipBorder}
use Rattle.overlay_given.proofs.SharedLoops.{none_before, none_behind, on_at, in_met, sides_here, each_more, no_sides}
use Rattle.overlay_given.proofs.shared.all_border_clip.Goals as goal
use Rattle.overlay_given.proofs.shared.all_border_clip.Goals.{else-met-k-via-then-met-k+else-not-pass}
use Rattle.overlay_given.proofs.shared.all_border_clip.Goals.{else-met-k-via-else-met-k}

pub loop-k-init : goal.loop-k-init
loop-k-init g c = record {
  after = omega arith;
  all = λ k m a on less other. absurd (none_before c.args.starts.now
      (plain_mets g.W.WideIntNumber.whole c.args.met.now) c.args.places.now c.args.j k m a on less);
}

pub loop-k-preserved : goal.loop-k-preserved
loop-k-preserved g c =
    let met = plain_met g.W.WideIntNumber.whole in
    let ms = plain_mets g.W.WideIntNumber.whole c.args.met.now in
    let starts = c.args.starts.now in
    let places = c.args.places.now in
    let k = c.loop-k.k in
    let late = c.loop-k.invariant.after in
    let l = length-map c.args.met.now met in
    let inside = in_met starts ms places c.requires.ranges c.args.j k c.requires.within c.loop-k-test.true in
    let m = c.index-met-k.result in
    record {
      after = omega (arith, late);
      all = each_more starts ms places c.requires.ranges c.args.j k c.requires.within c.loop-k-test.true
          (λ x a. x.other ≡ c.args.i → place_passes ClipBorder a ≡ true) (met m) (get_or places k no_sides)
          (placed_in_mapped met c.args.met.now k m (omega (arith, l, inside)) c.index-met-k.is)
          (sides_here starts ms places c.requires.ranges c.args.j k c.requires.within c.loop-k-test.true no_sides)
          (elim c.else-met-k.branch [
            | else-met-k-via-then-met-k+else-not-pass w ↦ λ other. sym w.pass.ensures ∙ w.if-not-pass.false
            | else-met-k-via-else-met-k w ↦ λ other. absurd (w.if-met-k.false
                (subst (λ x. (met x).other ≡ c.args.i) c.index-met-k.is other))
          ])
          (λ n x a on less other. c.loop-k.invariant.all n x a on less other);
    }

pub loop-k-smaller : goal.loop-k-smaller
loop-k-smaller g c =
    let ms = plain_mets g.W.WideIntNumber.whole c.args.met.now in
    let l = length-map c.args.met.now (plain_met g.W.WideIntNumber.whole) in
    let inside = in_met c.args.starts.now ms c.args.places.now c.requires.ranges c.args.j c.loop-k.k c.requires.within
    c.loop-k-test.true in
    omega (arith, l, inside)

pub returns-then-not-pass : goal.returns-then-not-pass
returns-then-not-pass g c =
    let met = plain_met g.W.WideIntNumber.whole in
    let ms = plain_mets g.W.WideIntNumber.whole c.args.met.now in
    let starts = c.args.starts.now in
    let places = c.args.places.now in
    let k = c.loop-k.k in
    let l = length-map c.args.met.now met in
    let inside = in_met starts ms places c.requires.ranges c.args.j k c.requires.within c.loop-k-test.true in
    let m = c.index-met-k.result in
    let a = get_or places k no_sides in
    let on = on_at starts ms places c.args.j k (met m) a c.requires.within c.loop-k.invariant.after c.loop-k-test.true
    (placed_in_mapped met c.args.met.now k m (omega (arith, l, inside)) c.index-met-k.is)
    (sides_here starts ms places c.requires.ranges c.args.j k c.requires.within c.loop-k-test.true no_sides) in
    let other = subst (λ x. (met x).other ≡ c.args.i) (sym c.index-met-k.is) c.if-met-k.true in
    (λ t. absurd (false≢true t), λ all. sym c.if-not-pass.true ∙ c.pass.ensures ∙ all k (met m) a on other)

pub returns : goal.returns
returns g c = (
  λ t k m a on other. ⊎_elim
      (λ (less : k < c.loop-k.k). c.loop-k.invariant.all k m a on less other)
      (λ (le : c.loop-k.k ≤ k).
      let all = c.loop-k-test.false in
      absurd (none_behind c.args.starts.now (plain_mets g.W.WideIntNumber.whole c.args.met.now) c.args.places.now
      c.args.j k m a on (omega (arith, all, le))))
      (cases_lt k c.loop-k.k),
  λ all. refl,
)
