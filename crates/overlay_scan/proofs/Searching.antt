-- The bounds of a search, as one entry after another is tested.
use Rattle.std.proofs.Common.{◌≡◌, Bool, true, false, not, ℕ, ◌+◌, ◌-◌, ◌<◌, ◌≤◌, ℤ, int_lt, List, [], ◌∷◌, ◌++◌}
use Rattle.std.proofs.Common.{Option, None, zero, suc, length, take, drop, get_or, refl, sym, ap, ◌∙◌, subst, arith}
use Rattle.std.specs.List.{All, last_or}
use Rattle.std.specs.Option.{option_map}
use Rattle.std.specs.Ordering.{is_gt}
use Rattle.std.specs.declared.cmp.Ordering.{Ordering}
use Rattle.std.proofs.lemmas.List.{drop_all, get_or_default}
use Rattle.std.proofs.lemmas.List.Elements.{All-nil, All-cons, All-append}
use Rattle.overlay_geom.specs.declared.point.IntPoint.{IntPoint}
use Rattle.overlay_scan.specs.HeldEntries.{live_of, Tells, IsLookedUp}
use Rattle.overlay_scan.specs.Lists.{plain_entry, PassBefore}
use Rattle.overlay_scan.specs.Scan.{Entry, HoldsOfLine, IsCallableOn}
use Rattle.overlay_scan.specs.Searches.{IsBetween}
use Rattle.overlay_scan.specs.declared.list.LiveEdge.{LiveEdge}
use Rattle.overlay_scan.proofs.LiveParts.{live_parts, live_from, live_up_to, live_round, holds_of_live}
use Rattle.overlay_scan.proofs.LastEntries.{last_pushed, before_one, last_of_first}
use Rattle.overlay_scan.proofs.Passing.{all_before_pass, all_after_fail}

module _ {I V : Type 0} (whole : I → ℤ) (x : ℤ) (es : List (LiveEdge I V)) where
  -- a live entry may be asked
  pub may_ask : (pre : List (IntPoint I) → Type 0) → IsCallableOn whole pre (live_of whole x es) → (k : ℕ)
      (f : LiveEdge I V) → k < length es → f ≡ get_or es k f → int_lt x (whole f.b.x) ≡ true → pre (f.a ∷ f.b ∷ [])
  may_ask pre may k f within is live =
      holds_of_live whole x es k f within is live (λ g. HoldsOfLine whole g.edge pre) may f.a f.b refl refl

  module _ (post : List (IntPoint I) → Ordering → Type 0) where
    -- the test that the order's answers tell fails for the live ones of these edges
    abbrev pub AllFail : List (LiveEdge I V) → Type 0
    AllFail fs = (passes : Entry V → Bool) → Tells whole post passes (live_of whole x es) →
        PassBefore passes (live_of whole x es) → All (λ g. passes g ≡ false) (live_of whole x fs)

    -- at first nothing is known
    pub between_all : IsBetween whole post x es 0 (length es)
    between_all = record {
      ordered = omega arith;
      within = omega arith;
      pass = λ passes tells front. All-nil (λ g. passes g ≡ true);
      fail = λ passes tells front. subst (λ fs. All (λ g. passes g ≡ false) (live_of whole x fs))
          (sym (drop_all (length es) es (omega arith))) (All-nil (λ g. passes g ≡ false));
      live = λ f some is. absurd (omega arith);
    }

    module _ (k : ℕ) (f : LiveEdge I V) (within : k < length es) (is : f ≡ get_or es k f)
        (live : int_lt x (whole f.b.x) ≡ true) (b : Bool)
        (asked : (o : Ordering) × post (f.a ∷ f.b ∷ []) o × (b ≡ not (is_gt o))) where
      told : (passes : Entry V → Bool) → Tells whole post passes (live_of whole x es) → b ≡ passes (plain_entry whole f)
      told passes tells = asked.2 ∙ holds_of_live whole x es k f within is live
          (λ g. HoldsOfLine whole g.edge (λ line. (o : Ordering) → post line o → not (is_gt o) ≡ passes g)) tells
          f.a f.b refl refl asked.0 asked.1

      -- a live entry that fails
      pub fails_from : b ≡ false → AllFail (drop k es)
      fails_from failed passes tells front =
          let fails : passes (plain_entry whole f) ≡ false = sym (told passes tells) ∙ failed in
          subst (All (λ g. passes g ≡ false)) (sym (live_from whole x es k f within is live))
          (All-cons (λ g. passes g ≡ false) (plain_entry whole f) (live_of whole x (drop (k + 1) es)) fails
          (all_after_fail passes (live_of whole x (take k es)) (plain_entry whole f)
          (live_of whole x (drop (k + 1) es))
          (subst (PassBefore passes) (live_round whole x es k f within is live) front) fails))

      live_below : (g : LiveEdge I V) → g ≡ get_or es (k + 1 - 1) g → int_lt x (whole g.b.x) ≡ true
      live_below g at =
          let one : k + 1 - 1 ≡ k = omega arith in
          let same : g ≡ f = at ∙ ap (λ j. get_or es j g) one ∙ get_or_default es k g f within ∙ sym is in
          subst (λ (h : LiveEdge I V). int_lt x (whole h.b.x) ≡ true) (sym same) live

      -- one that passes
      pub raised : (low high : ℕ) → IsBetween whole post x es low high → k < high → b ≡ true →
          IsBetween whole post x es (k + 1) high
      raised low high between below passed = record {
        ordered = omega arith;
        within = between.within;
        pass = λ passes tells front.
            let pass : passes (plain_entry whole f) ≡ true = sym (told passes tells) ∙ passed in
            subst (All (λ g. passes g ≡ true)) (sym (live_up_to whole x es k f within is live))
            (All-append (λ g. passes g ≡ true) (live_of whole x (take k es)) (plain_entry whole f ∷ [])
            (all_before_pass passes (live_of whole x (take k es)) (plain_entry whole f)
            (live_of whole x (drop (k + 1) es))
            (subst (PassBefore passes) (live_round whole x es k f within is live) front) pass)
            (All-cons (λ g. passes g ≡ true) (plain_entry whole f) [] pass (All-nil (λ g. passes g ≡ true))));
        fail = between.fail;
        live = λ g some at. live_below g at;
      }

    -- where none fails or is live up to a place from which all fail
    pub lowered : (low high middle k : ℕ) → IsBetween whole post x es low high → low ≤ middle → middle ≤ high →
        live_of whole x (drop middle es) ≡ live_of whole x (drop k es) → AllFail (drop k es) →
        IsBetween whole post x es low middle
    lowered low high middle k between above below ended fail = record {
      ordered = above;
      within = let end = between.within in omega arith;
      pass = between.pass;
      fail = λ passes tells front. subst (All (λ g. passes g ≡ false)) (sym ended) (fail passes tells front);
      live = between.live;
    }

    -- a place that is found divides the live entries
    pub looked_up : (old new : List (LiveEdge I V)) (n : ℕ) (put : List (Entry V)) (v : Option V) →
        live_of whole x es ≡ live_of whole x old → IsBetween whole post x es n n →
        live_of whole x new ≡ live_of whole x (take n es) ++ (put ++ live_of whole x (drop n es)) →
        v ≡ option_map (λ (f : Entry V). f.value) (last_or None (live_of whole x (take n es))) →
        IsLookedUp whole post x old new put v
    looked_up old new n put v kept between now value = record {
      before = live_of whole x (take n es);
      after = live_of whole x (drop n es);
      was = sym kept ∙ live_parts whole x es n;
      now = now;
      parted = λ passes tells front.
          let still_tells = subst (Tells whole post passes) (sym kept) tells in
          let still_front = subst (PassBefore passes) (sym kept) front in
          record {
            pass = between.pass passes still_tells still_front;
            fail = between.fail passes still_tells still_front;
            value = value;
          };
    }

-- where the last of some is live, its value is that of their last live one
pub value_of_last_live : {I V : Type 0} (whole : I → ℤ) (x : ℤ) (es : List (LiveEdge I V)) (n : ℕ) → n ≤ length es →
    ((f : LiveEdge I V) → 0 < n → f ≡ get_or es (n - 1) f → int_lt x (whole f.b.x) ≡ true) →
    option_map (λ (f : LiveEdge I V). f.value) (last_or None (take n es))
    ≡ option_map (λ (f : Entry V). f.value) (last_or None (live_of whole x (take n es)))
value_of_last_live whole x es zero le live = refl
value_of_last_live whole x [] (suc m) le live = absurd (omega arith)
value_of_last_live whole x (e ∷ es) (suc m) le live =
    let fs = e ∷ es in
    let k = suc m - 1 in
    let f = get_or fs k e in
    let within : k < length fs = omega arith in
    let is : f ≡ get_or fs k f = get_or_default fs k e f within in
    ap (option_map (λ g. g.value)) (last_of_first fs (suc m) f (omega arith) le is)
    ∙ sym (ap (λ n. option_map (λ g. g.value) (last_or None (live_of whole x (take n fs))))
    (sym (before_one (suc m) (omega arith)))
    ∙ ap (λ gs. option_map (λ g. g.value) (last_or None gs))
    (live_up_to whole x fs k f within is (live f (omega arith) is))
    ∙ ap (option_map (λ g. g.value)) (last_pushed None (live_of whole x (take k fs)) (plain_entry whole f)))
