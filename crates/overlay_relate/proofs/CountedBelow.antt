-- How many edges of the front of a list are strictly below a point: one edge more, and a block that is passed over.
use Rattle.std.proofs.Common.{◌≡◌, ⊎_elim, ℕ, suc, zero, ◌+◌, ◌-◌, ◌<◌, ◌≤◌, Bool, true, false, not, List, [], ◌∷◌}
use Rattle.std.proofs.Common.{◌++◌, length, take, get_or, refl, sym, ap, ◌∙◌, subst, arith}
use Rattle.std.specs.List.{Contains}
use Rattle.std.proofs.lemmas.Bool.{cases_lt}
use Rattle.std.proofs.lemmas.List.{take_more, take_all, get_or_default}
use Rattle.std.proofs.lemmas.List.Elements.{All-append}
use Rattle.overlay_geom.specs.Plane.{Point, PlanePoint, Edge, in_plane, is_strictly_below, IsOn, IsOff}
use Rattle.overlay_geom.proofs.Entries.{some_entry}
use Rattle.overlay_plane.proofs.Entries.{any_of_entry, Contains-from_any}
use Rattle.overlay_relate.specs.Blocks.{AreClear}
use Rattle.overlay_relate.specs.Locations.{differ, odd_below, IsLocatedBy}
use Rattle.overlay_relate.specs.declared.location.PointLocation.TheVariants.{Inside, Boundary, Outside}
use Rattle.overlay_relate.proofs.Parities.{differ-assoc, differ-false}

-- p is on none of the first edges, and whether an odd number of them are strictly below it is told
pub record IsCounted (es : List Edge) (p : PlanePoint) (n : ℕ) (is_odd : Bool) : Type 0 where
  pub off : IsOff (take n es) p
  pub counted : odd_below (take n es) p ≡ is_odd

odd_joined : (es fs : List Edge) (p : PlanePoint) → odd_below (es ++ fs) p ≡ differ (odd_below es p) (odd_below fs p)
odd_joined [] fs p = refl
odd_joined (e ∷ es) fs p = ap (differ (is_strictly_below e p)) (odd_joined es fs p)
    ∙ differ-assoc (is_strictly_below e p) (odd_below es p) (odd_below fs p)

differ-true : (t : Bool) → differ t true ≡ not t
differ-true true = refl
differ-true false = refl

module _ (es : List Edge) (p : PlanePoint) (n : ℕ) (t : Bool) (so_far : IsCounted es p n t) where
  module _ (e : Edge) (lt : n < length es) (is : get_or es n e ≡ e) where
    more : take (n + 1) es ≡ take n es ++ e ∷ []
    more = take_more es n e lt ∙ ap (λ f. take n es ++ f ∷ []) is

    off_more : IsOff (e ∷ []) p → IsOff (take (n + 1) es) p
    off_more off = subst (λ fs. IsOff fs p) (sym more)
        (All-append (λ f. ¬ (IsOn f p)) (take n es) (e ∷ []) so_far.off off)

    odd_more : odd_below (take (n + 1) es) p ≡ differ t (odd_below (e ∷ []) p)
    odd_more = ap (λ fs. odd_below fs p) more ∙ odd_joined (take n es) (e ∷ []) p
        ∙ ap (λ s. differ s (odd_below (e ∷ []) p)) so_far.counted

    pub counted_outside : IsLocatedBy (e ∷ []) p Outside → IsCounted es p (n + 1) t
    counted_outside at = record {
      off = off_more at.0;
      counted = odd_more ∙ ap (differ t) at.1 ∙ differ-false t;
    }

    pub counted_inside : IsLocatedBy (e ∷ []) p Inside → IsCounted es p (n + 1) (not t)
    counted_inside at = record {
      off = off_more at.0;
      counted = odd_more ∙ ap (differ t) at.1 ∙ differ-true t;
    }

  -- past the end nothing is counted
  past_end : length es ≤ n → IsCounted es p (n + 1) t
  past_end le = record {
    off = subst (λ fs. IsOff fs p) (take_all n es le ∙ sym (take_all (n + 1) es (omega arith))) so_far.off;
    counted = ap (λ fs. odd_below fs p) (take_all (n + 1) es (omega arith) ∙ sym (take_all n es le)) ∙ so_far.counted;
  }

-- edges that are passed over, so many from a place on
passed_to : (es : List Edge) (q : Point) (t : Bool) (k n to : ℕ) → n + k ≡ to → IsCounted es (in_plane q) n t →
    AreClear es q n to → IsCounted es (in_plane q) to t
passed_to es q t zero n to is so_far clear = subst (λ m. IsCounted es (in_plane q) m t) (omega (arith, is)) so_far
passed_to es q t (suc k) n to is so_far clear = passed_to es q t k (n + 1) to (omega (arith, is)) one
    (λ m d le lt within. clear m d (omega (arith, le)) lt within)
  where
    at_hand : n < length es → IsCounted es (in_plane q) (n + 1) t
    at_hand within =
        let d = some_entry es n within in
        let e = get_or es n d in
        counted_outside es (in_plane q) n t so_far e within (get_or_default es n e d within)
        (clear n d (omega arith) (omega (arith, is)) within)

    one : IsCounted es (in_plane q) (n + 1) t
    one = ⊎_elim at_hand (past_end es (in_plane q) n t so_far) (cases_lt n (length es))

pub passed_over : (es : List Edge) (q : Point) (t : Bool) (n to : ℕ) → n ≤ to → IsCounted es (in_plane q) n t →
    AreClear es q n to → IsCounted es (in_plane q) to t
passed_over es q t n to le so_far clear = passed_to es q t (to - n) n to (omega (arith, le)) so_far clear

-- ---- the whole list

module _ (es : List Edge) (p : PlanePoint) (n : ℕ) (t : Bool) (so_far : IsCounted es p n t) (all : length es ≤ n) where
  pub inside_of_all : t ≡ true → IsLocatedBy es p Inside
  inside_of_all odd = (
    subst (λ fs. IsOff fs p) (take_all n es all) so_far.off,
    sym (ap (λ fs. odd_below fs p) (take_all n es all)) ∙ so_far.counted ∙ odd,
  )

  pub outside_of_all : t ≡ false → IsLocatedBy es p Outside
  outside_of_all even = (
    subst (λ fs. IsOff fs p) (take_all n es all) so_far.off,
    sym (ap (λ fs. odd_below fs p) (take_all n es all)) ∙ so_far.counted ∙ even,
  )

-- a point on one of the edges is on the boundary
pub on_some : (es : List Edge) (p : PlanePoint) (n : ℕ) (e : Edge) → n < length es → get_or es n e ≡ e →
    IsLocatedBy (e ∷ []) p Boundary → IsLocatedBy es p Boundary
on_some es p n e lt is at = let found = Contains-from_any (λ f. IsOn f p) (e ∷ []) at in
    any_of_entry (λ f. IsOn f p) es e (n, lt, is) (one_entry found.0 found.1 found.2)
  where
    only : (f : Edge) → Contains (e ∷ []) f → f ≡ e
    only f (zero, lt, is) = sym is
    only f (suc k, lt, is) = absurd (omega (arith, lt))

    one_entry : (f : Edge) → Contains (e ∷ []) f → IsOn f p → IsOn e p
    one_entry f at on = subst (λ g. IsOn g p) (only f at) on
