-- Lists with equal members: one after another, with more behind both, and with a member once more.
use Rattle.std.proofs.Common.{List, [], ◌∷◌, ◌++◌, ⊎_elim, Contains, subst, arith}
use Rattle.std.proofs.lemmas.List.Elements.{Contains-append_cases, Contains-append_left, Contains-append_right}
use Rattle.overlay_geom.proofs.Entries.{Contains-cases}
use Rattle.overlay_arrange.specs.HotPoints.{HaveSameMembers}

module _ {X : Type 0} where
  -- a list is like itself
  pub same_members : (xs : List X) → HaveSameMembers xs xs
  same_members xs = record { forth = λ x at. at; back = λ x at. at }

  -- a list like another that is like a third
  pub same_members-on : (xs ys zs : List X) → HaveSameMembers xs ys → HaveSameMembers ys zs → HaveSameMembers xs zs
  same_members-on xs ys zs one other = record {
    forth = λ x at. other.forth x (one.forth x at);
    back = λ x at. one.back x (other.back x at);
  }

  -- a list with more behind it, like another with that behind it, which is like a third
  pub same_members-behind : (xs ys more zs : List X) → HaveSameMembers xs ys → HaveSameMembers (ys ++ more) zs →
      HaveSameMembers (xs ++ more) zs
  same_members-behind xs ys more zs one other = record {
    forth = λ x at. other.forth x (⊎_elim (λ l. Contains-append_left ys more x (one.forth x l))
        (λ r. Contains-append_right ys more x r) (Contains-append_cases xs more x at));
    back = λ x at. ⊎_elim (λ l. Contains-append_left xs more x (one.back x l))
        (λ r. Contains-append_right xs more x r) (Contains-append_cases ys more x (other.back x at));
  }

  -- a list with a member once more behind it
  pub same_members-repeated : (xs : List X) (v : X) → Contains xs v → HaveSameMembers (xs ++ v ∷ []) xs
  same_members-repeated xs v at_v = record {
    forth = λ x at. ⊎_elim (λ l. l) (λ r. ⊎_elim (λ is. subst (Contains xs) is at_v) (λ h. absurd (omega (arith, h.1)))
        (Contains-cases v [] x r)) (Contains-append_cases xs (v ∷ []) x at);
    back = λ x at. Contains-append_left xs (v ∷ []) x at;
  }
