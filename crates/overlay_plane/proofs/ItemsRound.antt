-- The items of a closed list by their places: within the list, and once round it.
use Rattle.std.proofs.Common.{◌≡◌, ℕ, ◌+◌, ◌%◌, ◌<◌, List, length, get_or, Contains, sym, ap, ◌∙◌}
use Rattle.std.proofs.Math.Nat.{mod-eq_of_lt, mod_self, zero-mod, mod-mod, mod-add-mod, add-mod_left}
use Rattle.std.proofs.lemmas.Nat.{mod_below}
use Rattle.std.proofs.lemmas.List.{get_or_default}
use Rattle.std.proofs.lemmas.List.Elements.{Contains-get_or}
use Rattle.overlay_geom.specs.Thinned.{item_round}

module _ {X : Type 0} (xs : List X) (d : X) where
  -- at a place of the list stands its item there
  pub item_round-here : (k : ℕ) → k < length xs → item_round xs d k ≡ get_or xs k d
  item_round-here k h = ap (λ j. get_or xs j d) (mod-eq_of_lt h)

  -- once round the list is at its first item again
  pub item_round-whole : item_round xs d (length xs) ≡ item_round xs d 0
  item_round-whole = ap (λ j. get_or xs j d) (mod_self (length xs) ∙ sym (zero-mod (length xs)))

  -- once round the list, the items are the same
  pub item_round-round : (k : ℕ) → item_round xs d (length xs + k) ≡ item_round xs d k
  item_round-round k = ap (λ j. get_or xs j d) (add-mod_left (length xs) k)

  -- the item at a place is that at the place within the list
  pub item_round-within : (k : ℕ) → item_round xs d (k % length xs) ≡ item_round xs d k
  item_round-within k = ap (λ j. get_or xs j d) (mod-mod k (length xs))

  -- the item after it is that after the place within the list
  pub item_round-next : (k : ℕ) → item_round xs d (k % length xs + 1) ≡ item_round xs d (k + 1)
  item_round-next k = ap (λ j. get_or xs j d) (mod-add-mod k (length xs) 1)

  -- each item round a list is one of it, and each entry of it is the item at a place
  pub Contains-item_round : (k : ℕ) → 0 < length xs → Contains xs (item_round xs d k)
  Contains-item_round k some = Contains-get_or xs (k % length xs) d (mod_below k (length xs) some)

  -- each entry is the item at a place
  pub place_of : (x : X) → Contains xs x → (k : ℕ) × (k < length xs) × (item_round xs d k ≡ x)
  place_of x c = (c.0, c.1, item_round-here c.0 c.1 ∙ get_or_default xs c.0 d x c.1 ∙ c.2)

-- the item at a place of a list is unique
pub one_place : {X : Type 0} (xs : List X) (x y : X) (c : Contains xs x) (d : Contains xs y) → c.0 ≡ d.0 → x ≡ y
one_place xs x y c d e = sym c.2 ∙ ap (λ k. get_or xs k x) e ∙ get_or_default xs d.0 x y d.1 ∙ d.2
