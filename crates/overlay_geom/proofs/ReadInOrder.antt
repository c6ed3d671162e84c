-- Items read by their numbers: the list up to an item, the list from it on, and facts of all items.
use Rattle.std.proofs.Common.{◌≡◌, ℕ, ◌+◌, List, [], ◌∷◌, ◌++◌, All, take, drop, flat_map, Some, sym, ◌∙◌, ap, subst}
use Rattle.std.specs.List.{slice_get}
use Rattle.std.proofs.lemmas.List.{take_more, drop_more}
use Rattle.std.proofs.lemmas.List.Elements.{All-push}
use Rattle.std.proofs.lemmas.Option.{slice_get_within, get_or_from_slice_get}
use Rattle.overlay_geom.proofs.JoinedLists.{joined_push}

module _ {X : Type 0} (xs : List X) (i : ℕ) (x : X) (read : slice_get xs i ≡ Some x) where
  -- the items up to it are those before it, and it
  pub take_read : take (i + 1) xs ≡ take i xs ++ x ∷ []
  take_read = take_more xs i x (slice_get_within xs i x read)
      ∙ ap (λ y. take i xs ++ y ∷ []) (get_or_from_slice_get xs i x x read)

  -- the items from it on are it, and those behind it
  pub drop_read : drop i xs ≡ x ∷ drop (i + 1) xs
  drop_read = drop_more xs i x (slice_get_within xs i x read)
      ∙ ap (λ y. y ∷ drop (i + 1) xs) (get_or_from_slice_get xs i x x read)

  -- a fact of all items holds of it
  pub All-read : (P : X → Type 0) → All P xs → P x
  All-read P all = subst P (get_or_from_slice_get xs i x x read) (all i x (slice_get_within xs i x read))

  -- a fact of the items before it, and of it, holds of the items up to it
  pub All-take_read : (P : X → Type 0) → All P (take i xs) → P x → All P (take (i + 1) xs)
  All-take_read P before here = subst (All P) (sym take_read) (All-push P (take i xs) x before here)

  -- the lists of the items up to it, joined, are those of the items before it and its own
  pub flat_map-take_read : {Y : Type 0} (f : X → List Y) → flat_map f (take (i + 1) xs) ≡ flat_map f (take i xs) ++ f x
  flat_map-take_read f = ap (flat_map f) take_read ∙ joined_push f (take i xs) x
