-- Each meeting point of the edge is tested.
use Rattle.std.proofs.Common.{◌≡◌, ◌⊎◌, ⊎_elim, inl, inr, ◌+◌, ◌<◌, ◌≤◌, true, length, get_or, refl, sym, subst}
use Rattle.std.proofs.Common.{◌∙◌, arith}
use Rattle.std.proofs.lemmas.Bool.{cases_lt, false≢true}
use Rattle.std.proofs.lemmas.List.{length-map}
use Rattle.overlay_pairs.proofs.Entries.{one_entry, placed_in_mapped}
use Rattle.overlay_exact.specs.Along.{Met, plain_met, plain_mets}
use Rattle.overlay_exact.proofs.MetByStarts.{entry_at}
use Rattle.overlay_given.specs.Places.{AllBorderClip, place_passes}
use Rattle.overlay_given.specs.declared.sides.SideTest.TheVariants.{SubjectBorder, ClipBorder}
use Rattle.overlay_given.proofs.SharedLoops.{none_before, none_behind, on_at, in_met, sides_here, each_more, no_sides}
use Rattle.overlay_given.proofs.shared.shares_on.Goals as goal
use Rattle.overlay_given.proofs.shared.shares_on.Goals.{else-pass-via-then-pass+else-all_border_clip}
use Rattle.overlay_given.proofs.shared.shares_on.Goals.{else-pass-via-else-pass, then-pass-2, else-pass-2}

pub loop-k-init : goal.loop-k-init
loop-k-init g c = record {
  after = omega arith;
  none = λ k m a on less subj clip. none_before c.args.starts.now
      (plain_mets g.W.WideIntNumber.whole c.args.met.now) c.args.places.now c.args.i k m a on less;
}

pub loop-k-preserved : goal.loop-k-preserved
loop-k-preserved g c =
    let met = plain_met g.W.WideIntNumber.whole in
    let ms = plain_mets g.W.WideIntNumber.whole c.args.met.now in
    let starts = c.args.starts.now in
    let places = c.args.places.now in
    let i = c.args.i in
    let k = c.loop-k.k in
    let late = c.loop-k.invariant.after in
    let l = length-map c.args.met.now met in
    let inside = in_met starts ms places c.requires.ranges i k c.requires.within c.loop-k-test.true in
    let m = entry_at ms k inside in
    let a = get_or places k no_sides in
    record {
      after = omega (arith, late);
      none = each_more starts ms places c.requires.ranges i k c.requires.within c.loop-k-test.true
          (λ x b. place_passes SubjectBorder b ≡ true →
          (place_passes ClipBorder b ≡ true) ⊎ AllBorderClip starts ms places x.other i → ⊥) m.0 a m.1
          (sides_here starts ms places c.requires.ranges i k c.requires.within c.loop-k-test.true no_sides)
          (elim c.else-pass.branch [
            | else-pass-via-then-pass+else-all_border_clip w ↦ λ subj clip. elim w.if-pass-2.branch [
              | then-pass-2 v ↦ false≢true (sym w.if-all_border_clip.false ∙ v.value-is ∙ v.if-pass-2.true)
              | else-pass-2 v ↦ ⊎_elim
                  (λ (here : place_passes ClipBorder a ≡ true).
                  false≢true (sym v.if-pass-2.false ∙ w.pass-then-pass.ensures ∙ here))
                  (λ (all : AllBorderClip starts ms places m.0.other i).
                  let is = one_entry ms k m.0 (met v.index-met-k.result) m.1
                  (placed_in_mapped met c.args.met.now k v.index-met-k.result (omega (arith, l, inside))
                  v.index-met-k.is) in
                  let read = subst (λ x. AllBorderClip starts ms places (met x).other i) v.index-met-k.is
                  (subst (λ (y : Met). AllBorderClip starts ms places y.other i) is all) in
                  false≢true (sym w.if-all_border_clip.false ∙ v.value-is ∙ v.all_border_clip.ensures.1 read))
                  clip
            ]
            | else-pass-via-else-pass w ↦ λ subj clip. false≢true (sym w.if-pass.false ∙ c.pass.ensures ∙ subj)
          ])
          (λ n x b on less subj clip. c.loop-k.invariant.none n x b on less subj clip);
    }

pub loop-k-smaller : goal.loop-k-smaller
loop-k-smaller g c =
    let ms = plain_mets g.W.WideIntNumber.whole c.args.met.now in
    let l = length-map c.args.met.now (plain_met g.W.WideIntNumber.whole) in
    let inside = in_met c.args.starts.now ms c.args.places.now c.requires.ranges c.args.i c.loop-k.k c.requires.within
    c.loop-k-test.true in
    omega (arith, l, inside)

pub all_border_clip-requires-clause-within : goal.all_border_clip-requires-clause-within
all_border_clip-requires-clause-within g c =
    let met = plain_met g.W.WideIntNumber.whole in
    let ms = plain_mets g.W.WideIntNumber.whole c.args.met.now in
    let starts = c.args.starts.now in
    let places = c.args.places.now in
    let k = c.loop-k.k in
    let l = length-map c.args.met.now met in
    let inside = in_met starts ms places c.requires.ranges c.args.i k c.requires.within c.loop-k-test.true in
    let m = c.index-met-k.result in
    let a = get_or places k no_sides in
    let on = on_at starts ms places c.args.i k (met m) a c.requires.within c.loop-k.invariant.after c.loop-k-test.true
    (placed_in_mapped met c.args.met.now k m (omega (arith, l, inside)) c.index-met-k.is)
    (sides_here starts ms places c.requires.ranges c.args.i k c.requires.within c.loop-k-test.true no_sides) in
    subst (λ x. ((met x).other + 1) < length starts) c.index-met-k.is
    (c.requires.ranges.others c.args.i k (met m) a on)

pub returns-then-all_border_clip : goal.returns-then-all_border_clip
returns-then-all_border_clip g c =
    let met = plain_met g.W.WideIntNumber.whole in
    let ms = plain_mets g.W.WideIntNumber.whole c.args.met.now in
    let starts = c.args.starts.now in
    let places = c.args.places.now in
    let i = c.args.i in
    let k = c.loop-k.k in
    let l = length-map c.args.met.now met in
    let inside = in_met starts ms places c.requires.ranges i k c.requires.within c.loop-k-test.true in
    let m = entry_at ms k inside in
    let a = get_or places k no_sides in (
      λ t. record {
        k = k;
        met = m.0;
        sides = a;
        on = on_at starts ms places i k m.0 a c.requires.within c.loop-k.invariant.after c.loop-k-test.true m.1
            (sides_here starts ms places c.requires.ranges i k c.requires.within c.loop-k-test.true no_sides);
        subject = sym c.pass.ensures ∙ c.if-pass.true;
        clip = elim c.if-pass-2.branch [
          | then-pass-2 v ↦ inl (sym c.pass-then-pass.ensures ∙ v.if-pass-2.true)
          | else-pass-2 v ↦
              let is = one_entry ms k m.0 (met v.index-met-k.result) m.1
              (placed_in_mapped met c.args.met.now k v.index-met-k.result (omega (arith, l, inside))
              v.index-met-k.is) in
              let all = v.all_border_clip.ensures.0 (sym v.value-is ∙ c.if-all_border_clip.true) in
              inr (subst (λ (y : Met). AllBorderClip starts ms places y.other i) (sym is)
              (subst (λ x. AllBorderClip starts ms places (met x).other i) (sym v.index-met-k.is) all))
        ];
      },
      λ share. refl,
    )

pub returns : goal.returns
returns g c = (
  λ t. absurd (false≢true t),
  λ share. ⊎_elim
      (λ (less : share.k < c.loop-k.k). absurd (c.loop-k.invariant.none share.k share.met share.sides share.on less
      share.subject share.clip))
      (λ (le : c.loop-k.k ≤ share.k).
      let all = c.loop-k-test.false in
      absurd (none_behind c.args.starts.now (plain_mets g.W.WideIntNumber.whole c.args.met.now) c.args.places.now
      c.args.i share.k share.met share.sides share.on (omega (arith, all, le))))
      (cases_lt share.k c.loop-k.k),
)
