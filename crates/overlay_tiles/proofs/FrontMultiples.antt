-- The first multiples at which a grid's lines lie, and the next one, until there is none.
use Rattle.std.proofs.Common.{◌≡◌, ◌⊎◌, inl, inr, ⊎_elim, ℕ, subst, arith}
use Rattle.std.proofs.Common.{ℤ, pos, nat_abs, ◌-ℤ◌, ◌+ℤ◌, ◌<ℤ◌, ◌≤ℤ◌, List, [], ◌∷◌, ◌++◌, length, All, ap, ◌∙◌}
use Rattle.std.proofs.lemmas.Int.{by_lt_z}
use Rattle.std.proofs.lemmas.List.{length_push}
use Rattle.std.proofs.lemmas.List.Elements.{All-nil, All-push, All-weaker, Contains-push, Contains-append_left}
use Rattle.std.specs.List.{Contains}
use Rattle.std.specs.Prelude.{Option, Some, None}
use Rattle.overlay_geom.proofs.Identities.{solve, number, ◌⊕◌, ◌⊗◌, ◌≗◌}
use Rattle.overlay_geom.proofs.Signs.{linear}
use Rattle.overlay_tiles.specs.Grids.{IsGridMultiple, AreGridMultiples, AreFewMultiples}
use Rattle.overlay_tiles.specs.Multiples.{IsMultipleAfter, IsFirstMultiple}
use Rattle.overlay_tiles.specs.Spans.{Span}
use Rattle.overlay_tiles.proofs.AscendingLists.{IsAscending, none_ascending, push_ascending, no_longer}
use Rattle.overlay_tiles.proofs.AllMultiples.{a_step_apart}

-- the numbers are the multiples before this one
pub record AreBefore (w : ℤ) (s : Span) (zs : List ℤ) (z : ℤ) : Type 0 where
  pub ascending : IsAscending zs
  pub each : All (IsGridMultiple w s) zs
  pub below : All (λ y. y <ℤ z) zs
  pub is_multiple : IsGridMultiple w s z
  pub others : (y : ℤ) → IsGridMultiple w s y → Contains zs y ⊎ (z ≤ℤ y)

-- those before the next one, or all of them
abbrev pub AreFirst : {I : Type 0} → (I → ℤ) → ℤ → Span → List ℤ → Option I → Type 0
AreFirst whole w s zs (Some z) = AreBefore w s zs (whole z)
AreFirst whole w s zs None = AreGridMultiples w s zs

-- how far the end lies above the next one
abbrev pub way_left : {I : Type 0} → (I → ℤ) → ℤ → Option I → ℕ
way_left whole end (Some z) = nat_abs (end -ℤ whole z)
way_left whole end None = 0

-- before the first multiple there is none
pub none_first : {I : Type 0} (whole : I → ℤ) (w : ℤ) (s : Span) (next : Option I) → IsFirstMultiple whole w s next →
    AreFirst whole w s [] next
none_first whole w s (Some z) first = record {
  ascending = none_ascending;
  each = All-nil (IsGridMultiple w s);
  below = All-nil (λ y. y <ℤ whole z);
  is_multiple = first.is;
  others = λ y at. inr (first.least y at);
}
none_first whole w s None none = record {
  ascending = none_ascending;
  each = All-nil (IsGridMultiple w s);
  all = λ z at. absurd (none z at);
}

module _ (w : ℤ) (s : Span) (some : pos 0 <ℤ w) (zs : List ℤ) (z : ℤ) (before : AreBefore w s zs z) where
  -- a multiple is one of these, this one, or a step above it or more
  pub next_is_a_step_on : (y : ℤ) → IsGridMultiple w s y → Contains (zs ++ z ∷ []) y ⊎ ((z +ℤ w) ≤ℤ y)
  next_is_a_step_on y at = ⊎_elim (λ one. inl (Contains-append_left zs (z ∷ []) y one))
      (λ above. by_lt_z z y (λ less. inr (far less)) (λ le. inl (here above le))) (before.others y at)
    where
      far : z <ℤ y → (z +ℤ w) ≤ℤ y
      far less =
          let one = before.is_multiple.is in
          let other = at.is in
          let apart = a_step_apart w before.is_multiple.multiple at.multiple some (omega linear) in
          omega linear

      here : z ≤ℤ y → y ≤ℤ z → Contains (zs ++ z ∷ []) y
      here low high = let same : z ≡ y = omega linear in subst (Contains (zs ++ z ∷ [])) same (Contains-push zs z)

  each_of_both : All (IsGridMultiple w s) (zs ++ z ∷ [])
  each_of_both = All-push (IsGridMultiple w s) zs z before.each before.is_multiple

  -- with it they are ascending too
  pub both_ascending : IsAscending (zs ++ z ∷ [])
  both_ascending = push_ascending zs z before.ascending before.below

  -- and are those before the next one
  pub one_more_first : {I : Type 0} (whole : I → ℤ) (next : Option I) →
      IsMultipleAfter whole (z +ℤ w) s.greatest next → AreFirst whole w s (zs ++ z ∷ []) next
  one_more_first whole (Some p) after =
      let is = after.0 in
      let within = after.1 in
      let above = before.is_multiple.above in
      record {
        ascending = both_ascending;
        each = each_of_both;
        below = All-push (λ y. y <ℤ whole p) zs z
            (All-weaker (λ y. y <ℤ z) (λ y. y <ℤ whole p) (λ y less. omega linear) zs before.below) (omega linear);
        is_multiple = record {
          multiple = before.is_multiple.multiple +ℤ pos 1;
          is = is ∙ ap (λ y. y +ℤ w) before.is_multiple.is
              ∙ solve 2 (λ m w. m ⊗ w ⊕ w ≗ (m ⊕ number (pos 1)) ⊗ w) tt before.is_multiple.multiple w;
          above = omega linear;
          below = omega linear;
        };
        others = λ y at. ⊎_elim (λ one. inl one) (λ far. inr (omega linear)) (next_is_a_step_on y at);
      }
  one_more_first whole None after = record {
    ascending = both_ascending;
    each = each_of_both;
    all = λ y at. ⊎_elim (λ one. one)
        (λ far. let below = at.below in
        absurd (omega linear)) (next_is_a_step_on y at);
  }

  -- after 1,000 of them, there are too many
  pub too_many : length zs ≡ 1000 → ¬ (AreFewMultiples w s)
  too_many long few =
      let all = no_longer (zs ++ z ∷ []) few.multiples both_ascending few.are.ascending
      (All-weaker (IsGridMultiple w s) (Contains few.multiples) (λ y at. few.are.all y at) (zs ++ z ∷ [])
      each_of_both) in
      let one_more = length_push zs z in
      let at_most = few.few in
      omega (arith, all, one_more, at_most, long)
