-- Entries found among the live entries, as a sweep is asked for them.
use Rattle.std.proofs.Common.{◌≡◌, Bool, true, false, cond, ◌+◌, ℤ, ◌≤ℤ◌, int_lt, List, [], ◌∷◌, ◌++◌, length, take}
use Rattle.std.proofs.Common.{drop}
use Rattle.std.proofs.Common.{Option, None, Some, refl, sym, ap, ◌∙◌, arith}
use Rattle.std.proofs.lemmas.Int.{ints}
use Rattle.std.proofs.lemmas.Bool.{false≢true}
use Rattle.std.specs.List.{All, filter, prefix_len}
use Rattle.std.specs.Option.{IfSome, option_map, unwrap_or}
use Rattle.std.proofs.lemmas.List.Elements.{All-head, All-tail}
use Rattle.overlay_plane.proofs.Tests.{lt_from_test, test_from_lt}
use Rattle.overlay_scan.specs.Scan.{Entry, live_at, value_or}
use Rattle.overlay_scan.specs.HeldEntries.{live_where}

module _ {V : Type 0} where
  -- edges live at x were live before
  pub live_twice : (x y : ℤ) → y ≤ℤ x → (fs : List (Entry V)) → live_at x (live_at y fs) ≡ live_at x fs
  live_twice x y le [] = refl
  live_twice x y le (f ∷ fs) = by (live_twice x y le fs) (int_lt y f.edge.b.x) refl (int_lt x f.edge.b.x) refl
    where
      by : live_at x (live_at y fs) ≡ live_at x fs → (p : Bool) → int_lt y f.edge.b.x ≡ p → (q : Bool) →
          int_lt x f.edge.b.x ≡ q → live_at x (live_at y (f ∷ fs)) ≡ live_at x (f ∷ fs)
      by rest true was q now = ap (λ t. live_at x (cond t (f ∷ live_at y fs) (live_at y fs))) was
          ∙ ap (λ gs. cond (int_lt x f.edge.b.x) (f ∷ gs) gs) rest
      by rest false was true now = absurd (let far = lt_from_test x f.edge.b.x now in
          false≢true (sym was ∙ test_from_lt y f.edge.b.x (omega (arith, ints))))
      by rest false was false now = ap (λ t. live_at x (cond t (f ∷ live_at y fs) (live_at y fs))) was
          ∙ rest ∙ sym (ap (λ t. cond t (f ∷ live_at x fs) (live_at x fs)) now)

  -- the live entries of a sweep are those of all held entries
  pub live_held : (x : ℤ) (o : Option ℤ) (fs : List (Entry V)) → IfSome o (λ y. y ≤ℤ x) →
      live_at x (live_where o fs) ≡ live_at x fs
  live_held x None fs moves = refl
  live_held x (Some y) fs moves = live_twice x y moves fs

  -- ---- a list of entries that pass, and of entries that fail

  module _ (test : Entry V → Bool) where
    pub filter_parted : (before after : List (Entry V)) → All (λ f. test f ≡ true) before → All (λ f. test f ≡ false)
        after →
        filter test (before ++ after) ≡ before
    filter_parted [] [] pass fail = refl
    filter_parted [] (f ∷ after) pass fail = ap (λ t. cond t (f ∷ filter test after) (filter test after))
        (All-head (λ g. test g ≡ false) f after fail)
        ∙ filter_parted [] after pass (All-tail (λ g. test g ≡ false) f after fail)
    filter_parted (f ∷ before) after pass fail =
        ap (λ t. cond t (f ∷ filter test (before ++ after)) (filter test (before ++ after)))
        (All-head (λ g. test g ≡ true) f before pass)
        ∙ ap (λ gs. f ∷ gs) (filter_parted before after (All-tail (λ g. test g ≡ true) f before pass) fail)

    count_parted : (before after : List (Entry V)) → All (λ f. test f ≡ true) before → All (λ f. test f ≡ false) after →
        prefix_len test (before ++ after) ≡ length before
    count_parted [] [] pass fail = refl
    count_parted [] (f ∷ after) pass fail = ap (λ t. cond t (1 + prefix_len test after) 0)
        (All-head (λ g. test g ≡ false) f after fail)
    count_parted (f ∷ before) after pass fail =
        ap (λ t. cond t (1 + prefix_len test (before ++ after)) 0) (All-head (λ g. test g ≡ true) f before pass)
        ∙ ap (λ n. 1 + n) (count_parted before after (All-tail (λ g. test g ≡ true) f before pass) fail) ∙ omega arith

    take_all : (before after : List (Entry V)) → take (length before) (before ++ after) ≡ before
    take_all [] [] = refl
    take_all [] (f ∷ after) = refl
    take_all (f ∷ before) after = ap (λ gs. f ∷ gs) (take_all before after)

    drop_all : (before after : List (Entry V)) → drop (length before) (before ++ after) ≡ after
    drop_all [] [] = refl
    drop_all [] (f ∷ after) = refl
    drop_all (f ∷ before) after = drop_all before after

    -- a new entry between them goes where the count ends
    pub placed_between : (live before after new : List (Entry V)) (n : Entry V) → All (λ f. test f ≡ true) before →
        All (λ f. test f ≡ false) after → live ≡ before ++ after → new ≡ before ++ (n ∷ after) →
        new ≡ take (prefix_len test live) live ++ n ∷ drop (prefix_len test live) live
    placed_between live before after new n pass fail live_is new_is =
        let count : prefix_len test live ≡ length before = ap (prefix_len test) live_is ∙ count_parted before after
        pass fail in
        new_is ∙ sym (λ i. (ap (λ k. take k live) count ∙ ap (take (length before)) live_is ∙ take_all before after) i
        ++ n ∷ (ap (λ k. drop k live) count ∙ ap (drop (length before)) live_is ∙ drop_all before after) i)

  -- the value that is found, or the default
  abbrev pub value_from : V → Option V → V
  value_from default v = unwrap_or v default

  pub value_of_last : (default : V) (o : Option (Entry V)) → value_from default
      (option_map (λ (f : Entry V). f.value) o) ≡ value_or default o
  value_of_last default None = refl
  value_of_last default (Some f) = refl
