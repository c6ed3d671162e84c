-- Sums over meeting points, one more at a time, and bounds of them.
use Rattle.std.proofs.Common.{◌≡◌, ℕ, ◌+◌, ◌<◌, ℤ, pos, ◌+ℤ◌, ◌*ℤ◌, List, [], map, take, get_or, length, refl, sym}
use Rattle.std.proofs.Common.{subst, ap, ap₂, ◌∙◌, arith}
use Rattle.std.proofs.lemmas.Int.{ints}
use Rattle.overlay_geom.specs.Edges.{CountedEdge, ends_of, subj_of, clip_of}
use Rattle.overlay_geom.specs.Numbers.{Within}
use Rattle.overlay_geom.specs.Plane.{Edge}
use Rattle.overlay_geom.proofs.Totals.{total-more}
use Rattle.overlay_exact.specs.Along.{Met}
use Rattle.overlay_exact.specs.MetTotals.{total_met}
use Rattle.overlay_given.specs.Beside.{IsNear}
use Rattle.overlay_given.specs.Laws.{IsSum}
use Rattle.overlay_given.specs.Steps.{below_by, above_by, Rises}
use Rattle.overlay_given.specs.declared.beside.Beside.{Beside}
use Rattle.overlay_given.specs.declared.steps.Stop.{Stop}

-- ---- bounds

within_sum : (n m k : ℕ) (y z w : ℤ) → k ≡ n + m → w ≡ y +ℤ z → Within n y → Within m z → Within k w
within_sum n m k y z w all is first second = record { low = omega (arith, ints); high = omega (arith, ints) }

pub within_more : (n m : ℕ) (y z : ℤ) → n < m → Within n z → y ≡ z → Within m y
within_more n m y z up within is = record { low = omega (arith, ints); high = omega (arith, ints) }

pub near_sum : (n m k : ℕ) (a b c : Beside) → k ≡ n + m → IsSum a b c → IsNear n a → IsNear m b → IsNear k c
near_sum n m k a b c all sum first second = record {
  subj_below = within_sum n m k a.subj_below b.subj_below c.subj_below all sum.subj_below first.subj_below
      second.subj_below;
  subj_above = within_sum n m k a.subj_above b.subj_above c.subj_above all sum.subj_above first.subj_above
      second.subj_above;
  clip_below = within_sum n m k a.clip_below b.clip_below c.clip_below all sum.clip_below first.clip_below
      second.clip_below;
  clip_above = within_sum n m k a.clip_above b.clip_above c.clip_above all sum.clip_above first.clip_above
      second.clip_above;
}

pub near_wider : (n m : ℕ) (b : Beside) → n < m → IsNear n b → IsNear m b
near_wider n m b up near = record {
  subj_below = within_more n m b.subj_below b.subj_below up near.subj_below refl;
  subj_above = within_more n m b.subj_above b.subj_above up near.subj_above refl;
  clip_below = within_more n m b.clip_below b.clip_below up near.clip_below refl;
  clip_above = within_more n m b.clip_above b.clip_above up near.clip_above refl;
}

-- ---- sums

-- what an edge adds
pub record Adds (at : Stop) (e f : CountedEdge) (b : Beside) : Type 0 where
  pub subj_below : b.subj_below ≡ subj_of f *ℤ below_by at (ends_of e) (ends_of f)
  pub subj_above : b.subj_above ≡ subj_of f *ℤ above_by at (ends_of e) (ends_of f)
  pub clip_below : b.clip_below ≡ clip_of f *ℤ below_by at (ends_of e) (ends_of f)
  pub clip_above : b.clip_above ≡ clip_of f *ℤ above_by at (ends_of e) (ends_of f)

module _ {X : Type 0} (es : List CountedEdge) (e : CountedEdge) (met : X → Met) (xs : List X) (k : ℕ) (x : X)
    (within : k < length xs) (is : x ≡ get_or xs k x) (f : CountedEdge)
    (read : get_or es (met x).other e ≡ f) where
  one_more : (count : CountedEdge → ℤ) (steps : Edge → Edge → ℤ) (old part new : ℤ) →
      old ≡ total_met (λ g. count g *ℤ steps (ends_of e) (ends_of g)) es e (map met (take k xs)) →
      part ≡ count f *ℤ steps (ends_of e) (ends_of f) → new ≡ old +ℤ part →
      new ≡ total_met (λ g. count g *ℤ steps (ends_of e) (ends_of g)) es e (map met (take (k + 1) xs))
  one_more count steps old part new so_far here sum =
      sum ∙ ap₂ (λ y z. y +ℤ z) so_far
      (here ∙ ap (λ g. count g *ℤ steps (ends_of e) (ends_of g)) (sym read))
      ∙ sym (total-more (λ m. count (get_or es m.other e) *ℤ steps (ends_of e) (ends_of (get_or es m.other e)))
      met xs k x within is)

  pub rises_more : (at : Stop) (old part new : Beside) → Rises at es e (map met (take k xs)) old →
      Adds at e f part → IsSum old part new → Rises at es e (map met (take (k + 1) xs)) new
  rises_more at old part new so_far here sum = record {
    subj_below = one_more subj_of (below_by at) old.subj_below part.subj_below new.subj_below so_far.subj_below
        here.subj_below sum.subj_below;
    subj_above = one_more subj_of (above_by at) old.subj_above part.subj_above new.subj_above so_far.subj_above
        here.subj_above sum.subj_above;
    clip_below = one_more clip_of (below_by at) old.clip_below part.clip_below new.clip_below so_far.clip_below
        here.clip_below sum.clip_below;
    clip_above = one_more clip_of (above_by at) old.clip_above part.clip_above new.clip_above so_far.clip_above
        here.clip_above sum.clip_above;
  }

-- ---- nothing

abbrev pub nothing : Beside
nothing = record { subj_below = pos 0; subj_above = pos 0; clip_below = pos 0; clip_above = pos 0 }

pub near_nothing : (b : Beside) → b ≡ nothing → IsNear 0 b
near_nothing b is = subst (IsNear 0) (sym is)
    (record { subj_below = zero; subj_above = zero; clip_below = zero; clip_above = zero })
  where
    zero : Within 0 (pos 0)
    zero = record { low = omega (arith, ints); high = omega (arith, ints) }

pub rises_nothing : (at : Stop) (es : List CountedEdge) (e : CountedEdge) (b : Beside) → b ≡ nothing →
    Rises at es e [] b
rises_nothing at es e b is = subst (Rises at es e []) (sym is)
    (record { subj_below = refl; subj_above = refl; clip_below = refl; clip_above = refl })
