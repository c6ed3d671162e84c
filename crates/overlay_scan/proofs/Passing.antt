-- A list whose front alone passes a test: all items up to an item that passes do, and all from an item that fails on
-- fail.
use Rattle.std.proofs.Common.{◌≡◌, Bool, true, false, List, [], ◌∷◌, ◌++◌, sym, ◌∙◌, arith}
use Rattle.std.specs.List.{All}
use Rattle.std.proofs.lemmas.Bool.{false_from_ne_true, false≢true}
use Rattle.std.proofs.lemmas.List.Elements.{All-nil, All-cons, All-head, All-weaker}
use Rattle.std.proofs.lemmas.List.Kept.{AllPairs-cons}
use Rattle.overlay_geom.proofs.Merging.{AllPairs-head, AllPairs-tail}
use Rattle.overlay_plane.proofs.Entries.{All-first, All-rest}
use Rattle.overlay_scan.specs.Lists.{PassBefore}

module _ {X : Type 0} (test : X → Bool) where
  abbrev Before : X → X → Type 0
  Before y z = test z ≡ true → test y ≡ true

  pub before_part : (ys zs : List X) → PassBefore test (ys ++ zs) → PassBefore test ys
  before_part [] zs h = λ i j d lt end. absurd (omega arith)
  before_part (y ∷ ys) zs h = AllPairs-cons Before y ys (All-first (Before y) ys zs
      (AllPairs-head Before y (ys ++ zs) h))
      (before_part ys zs (AllPairs-tail Before y (ys ++ zs) h))

  pub after_part : (ys zs : List X) → PassBefore test (ys ++ zs) → PassBefore test zs
  after_part [] zs h = h
  after_part (y ∷ ys) zs h = after_part ys zs (AllPairs-tail Before y (ys ++ zs) h)

  pub all_before_pass : (ys : List X) (z : X) (zs : List X) → PassBefore test (ys ++ z ∷ zs) → test z ≡ true →
      All (λ y. test y ≡ true) ys
  all_before_pass [] z zs h pass = All-nil (λ y. test y ≡ true)
  all_before_pass (y ∷ ys) z zs h pass = All-cons (λ y. test y ≡ true) y ys
      (All-head (Before y) z zs (All-rest (Before y) ys (z ∷ zs) (AllPairs-head Before y (ys ++ z ∷ zs) h)) pass)
      (all_before_pass ys z zs (AllPairs-tail Before y (ys ++ z ∷ zs) h) pass)

  pub all_after_fail : (ys : List X) (z : X) (zs : List X) → PassBefore test (ys ++ z ∷ zs) → test z ≡ false →
      All (λ y. test y ≡ false) zs
  all_after_fail ys z zs h fail = All-weaker (λ y. test y ≡ true → test z ≡ true) (λ y. test y ≡ false)
      (λ y pass. false_from_ne_true (test y) (λ t. false≢true (sym fail ∙ pass t))) zs
      (AllPairs-head Before z zs (after_part ys (z ∷ zs) h))
