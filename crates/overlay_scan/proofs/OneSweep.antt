-- An entry goes between those under it, which a test picks out, and the others; so its place is one.
use Rattle.std.proofs.Common.{◌≡◌, Bool, true, false, not, List, [], ◌∷◌, ◌++◌, cond, ℤ, pos, refl, sym, ap, ap₂, ◌∙◌}
use Rattle.std.specs.List.{All, filter}
use Rattle.std.proofs.lemmas.List.{append-nil}
use Rattle.std.proofs.lemmas.List.Elements.{All-head, All-tail, All-weaker, filter-append}
use Rattle.overlay_plane.specs.Heights.{is_under}
use Rattle.overlay_plane.proofs.Under.{under_asymmetric}
use Rattle.overlay_scan.specs.Determined.{OneSweep}
use Rattle.overlay_scan.specs.Scan.{Entry, Sweep, live_at, IsPutIn}

module _ {X : Type 0} (test : X → Bool) where
  -- where all pass, all are kept
  pub all_kept : (xs : List X) → All (λ x. test x ≡ true) xs → filter test xs ≡ xs
  all_kept [] h = refl
  all_kept (x ∷ xs) h = ap (λ t. cond t (x ∷ filter test xs) (filter test xs))
      (All-head (λ x. test x ≡ true) x xs h)
      ∙ ap (λ ys. x ∷ ys) (all_kept xs (All-tail (λ x. test x ≡ true) x xs h))

  -- where none passes, none is kept
  pub none_kept : (xs : List X) → All (λ x. test x ≡ false) xs → filter test xs ≡ []
  none_kept [] h = refl
  none_kept (x ∷ xs) h = ap (λ t. cond t (x ∷ filter test xs) (filter test xs))
      (All-head (λ x. test x ≡ false) x xs h)
      ∙ none_kept xs (All-tail (λ x. test x ≡ false) x xs h)

module _ {V : Type 0} (x : ℤ) (n : Entry V) where
  -- an entry is under the new one
  abbrev pub under : Entry V → Bool
  under f = is_under f.edge n.edge x (pos 1)

  -- an entry is not
  abbrev pub beyond : Entry V → Bool
  beyond f = not (under f)

  module _ (live new : List (Entry V)) (put : IsPutIn x n live new) where
    -- none of those above it is under it
    none_under : All (λ f. under f ≡ false) put.after
    none_under = All-weaker (λ f. is_under n.edge f.edge x (pos 1) ≡ true) (λ f. under f ≡ false)
        (λ f over. under_asymmetric n.edge f.edge x (pos 1) over) put.after put.over

    -- so those below it are those that are under it
    below_are : put.before ≡ filter under live
    below_are = sym (ap (filter under) put.live_is ∙ filter-append under put.before put.after
        ∙ ap₂ (λ a b. a ++ b) (all_kept under put.before put.under) (none_kept under put.after none_under)
        ∙ append-nil put.before)

    -- and those above it the others
    above_are : put.after ≡ filter beyond live
    above_are = sym (ap (filter beyond) put.live_is ∙ filter-append beyond put.before put.after
        ∙ ap₂ (λ a b. a ++ b)
        (none_kept beyond put.before (All-weaker (λ f. under f ≡ true) (λ f. beyond f ≡ false) (λ f is. ap not is)
        put.before put.under))
        (all_kept beyond put.after (All-weaker (λ f. under f ≡ false) (λ f. beyond f ≡ true) (λ f is. ap not is)
        put.after none_under)))

    -- so the list is one
    pub put_in_is : new ≡ filter under live ++ n ∷ filter beyond live
    put_in_is = put.new_is ∙ ap₂ (λ a b. a ++ n ∷ b) below_are above_are

pub one_sweep : (V : Type 0) → OneSweep V
one_sweep V x n old new newer a b = ap₂ {C = Sweep V} (λ fs r. record { entries = fs; reached = r })
    (put_in_is x n (live_at x old.entries) new.entries a.put
    ∙ sym (put_in_is x n (live_at x old.entries) newer.entries b.put))
    (a.reached ∙ sym b.reached)
