-- The last entry of a list, and of those that pass a test.
use Rattle.std.proofs.Common.{◌≡◌, ◌⊎◌, inl, inr, Bool, true, ℕ, ◌+◌, ◌-◌, ◌≤◌, List, [], ◌∷◌, ◌++◌, length, take}
use Rattle.std.proofs.Common.{get_or, Option, None, Some, refl, sym, ap, ◌∙◌, subst, arith, pos}
use Rattle.std.specs.List.{AllPairs, Contains, filter, last_or}
use Rattle.std.specs.Option.{IfSome, MatchOption}
use Rattle.std.proofs.lemmas.List.{take_more}
use Rattle.std.proofs.lemmas.List.Elements.{All-contains}
use Rattle.std.proofs.lemmas.List.Kept.{AllPairs-filter}
use Rattle.overlay_geom.proofs.Entries.{Contains-head, Contains-later, Contains-cases}
use Rattle.overlay_geom.proofs.Merging.{AllPairs-head, AllPairs-tail}
use Rattle.overlay_plane.proofs.Entries.{Contains-filter, Contains-from_filter}
use Rattle.overlay_plane.specs.Anchors.{is_below_anchor}
use Rattle.overlay_plane.specs.Heights.{is_under}
use Rattle.overlay_scan.specs.Scan.{Entry}
use Rattle.overlay_scan.specs.Laws.{LookUpGivesTheGreatest}
use Rattle.std.proofs.lemmas.Option.{same_Some}

pub last_pushed : {X : Type 0} (o : Option X) (xs : List X) (x : X) → last_or o (xs ++ x ∷ []) ≡ Some x
last_pushed o [] x = refl
last_pushed o (y ∷ xs) x = last_pushed (Some y) xs x

pub before_one : (n : ℕ) → ¬ (n ≡ 0) → n - 1 + 1 ≡ n
before_one n some = omega arith

-- the last of the first n items, n not 0, is the item at n - 1
pub last_of_first : {X : Type 0} (xs : List X) (n : ℕ) (x : X) → ¬ (n ≡ 0) → n ≤ length xs → x ≡ get_or xs (n - 1) x →
    last_or None (take n xs) ≡ Some x
last_of_first xs n x some le is = ap (last_or None)
    (ap (λ m. take m xs) (sym (before_one n some)) ∙ take_more xs (n - 1) x (omega arith)
    ∙ ap (λ y. take (n - 1) xs ++ y ∷ []) (sym is))
    ∙ last_pushed None (take (n - 1) xs) x

-- the last of several items is one of them, and R leads to it from each other one
pub last_is : {X : Type 0} (R : X → X → Type 0) (xs : List X) → AllPairs R xs → (f : X) → last_or None xs ≡ Some f →
    Contains xs f × ((g : X) → Contains xs g → (g ≡ f) ⊎ R g f)
last_is R [] pairs f e = absurd (subst (λ o. IfSome o (λ _. ⊥)) e tt)
last_is R (x ∷ []) pairs f e =
    let one : x ≡ f = same_Some x f e in (
      subst (Contains (x ∷ [])) one (Contains-head x []),
      λ g at. elim (Contains-cases x [] g at)
          [ inl same ↦ inl (sym same ∙ one) | inr later ↦ absurd (omega (arith, later)) ],
    )
last_is R (x ∷ y ∷ ys) pairs f e =
    let rest = last_is R (y ∷ ys) (AllPairs-tail R x (y ∷ ys) pairs) f e in (
      Contains-later x (y ∷ ys) f rest.0,
      λ g at. elim (Contains-cases x (y ∷ ys) g at) [
        | inl same ↦ inr (subst (λ z. R z f) same
            (All-contains (R x) (y ∷ ys) f (AllPairs-head R x (y ∷ ys) pairs) rest.0))
        | inr later ↦ rest.1 g later
      ],
    )

some_last : {X : Type 0} (x : X) (xs : List X) → last_or (Some x) xs ≡ None → ⊥
some_last x [] none = subst (λ o. MatchOption o ⊥ (λ _. Unit {0})) none tt
some_last x (y ∷ ys) none = some_last y ys none

-- a list with an item has a last one
pub no_last : {X : Type 0} (xs : List X) (x : X) → Contains xs x → last_or None xs ≡ None → ⊥
no_last [] x c none = elim c.1 [ ]
no_last (y ∷ ys) x c none = some_last y ys none

-- the law of specs/Laws
pub look_up_gives_the_greatest : (V : Type 0) → LookUpGivesTheGreatest V
look_up_gives_the_greatest V fs e x order f found =
    let below : Entry V → Bool = λ g. is_below_anchor e g.edge in
    let last = last_is (λ g h. is_under g.edge h.edge x (pos 1) ≡ true) (filter below fs)
    (AllPairs-filter (λ g h. is_under g.edge h.edge x (pos 1) ≡ true) below fs order) f found in
    let at = Contains-from_filter below fs f last.0 in
    record { entry = at.0; below = at.1; greatest = λ g in_list is. last.1 g (Contains-filter below fs g in_list is) }
