-- What is left of several paths, of which one alone may be simple.
use Rattle.std.proofs.Common.{◌≡◌, ℕ, Bool, List, [], ◌∷◌, length, map, get_or, arith, refl, sym, ap, subst}
use Rattle.std.proofs.lemmas.Option.{get_or_from_slice_get}
use Rattle.std.specs.List.{slice_get}
use Rattle.std.specs.Prelude.{Some}
use Rattle.std.specs.declared.ops.Range.{Range}
use Rattle.overlay_geom.specs.Edges.{CountedEdge}
use Rattle.overlay_geom.specs.Flat.{first_range}
use Rattle.overlay_geom.specs.Plane.{Point}
use Rattle.overlay_geom.specs.declared.overlay_rule.OverlayRule.TheVariants.{Subject as OfSubject}
use Rattle.overlay_extract.specs.Results.{Asked, IsResult}
use Rattle.i_overlay.specs.declared.simplifying.outcome.Outcome.{Outcome}
use Rattle.i_overlay.specs.declared.simplifying.outcome.Outcome.TheVariants.{NotSimple, AsGiven}
use Rattle.i_overlay.specs.Simplified.{IsSimplified, StayAsGiven, AreLeft, AreSimplified, IsOutcomeOfAll}
use Rattle.i_overlay.proofs.SimplifiedContours.{contours_of_one, outcome_is}

-- a list of one item is known by that item
pub the_one : {X : Type 0} (xs : List X) (x : X) → length xs ≡ 1 → slice_get xs 0 ≡ Some x → xs ≡ x ∷ []
the_one [] x one read = absurd (omega (arith, one))
the_one (y ∷ []) x one read = ap (λ z. z ∷ []) (get_or_from_slice_get (y ∷ []) 0 x x read)
the_one (y ∷ z ∷ xs) x one read = absurd (omega (arith, one))

-- where they are mapped, by what it is mapped to
pub the_shown : {X Y : Type 0} (f : X → Y) (xs : List X) (x : X) → length xs ≡ 1 → x ≡ get_or xs 0 x →
    map f xs ≡ f x ∷ []
the_shown f [] x one read = absurd (omega (arith, one))
the_shown f (y ∷ []) x one read = ap (λ z. f z ∷ []) (sym read)
the_shown f (y ∷ z ∷ xs) x one read = absurd (omega (arith, one))

-- and of ranges, by what the first one is mapped to
pub the_mapped : {X : Type 0} (f : Range ℕ → X) (rs : List (Range ℕ)) → length rs ≡ 1 →
    map f rs ≡ f (first_range rs) ∷ []
the_mapped f [] one = absurd (omega (arith, one))
the_mapped f (r ∷ []) one = refl
the_mapped f (r ∷ s ∷ rs) one = absurd (omega (arith, one))

module _ (q : Asked) (keep : Bool) (es : List CountedEdge) where
  -- several paths are simplified as an overlay says, and never stay as they are
  pub many_simplified : (paths : List (List Point)) → ¬ (length paths ≡ 1) → (shapes : List (List (List Point))) →
      IsResult q es shapes → IsSimplified q keep paths es shapes
  many_simplified [] many shapes is = is
  many_simplified (ps ∷ []) many shapes is = absurd (many refl)
  many_simplified (ps ∷ qs ∷ paths) many shapes is = is

  pub none_stay : (paths : List (List Point)) → ¬ (length paths ≡ 1) → ¬ (StayAsGiven q keep paths es)
  none_stay [] many stay = stay
  none_stay (ps ∷ []) many stay = many refl
  none_stay (ps ∷ qs ∷ paths) many stay = stay

-- ---- in one list

module _ (q : Asked) (keep : Bool) (es : List CountedEdge) (path_of : Range ℕ → List Point) where
  -- what becomes of them all leaves what they are simplified to
  pub all_simplified : q.rule ≡ OfSubject → (rs : List (Range ℕ)) (outcome : Outcome) →
      IsOutcomeOfAll keep q.fill q.output_direction (map path_of rs) es outcome → (contours : List (List Point)) →
      AreLeft outcome q (path_of (first_range rs)) es contours → AreSimplified q keep (map path_of rs) es contours
  all_simplified of_subject [] outcome becomes contours left =
      subst (λ o. AreLeft o q (path_of (first_range [])) es contours) becomes left
  all_simplified of_subject (r ∷ []) outcome becomes contours left =
      contours_of_one keep (path_of r) es q of_subject outcome becomes contours left
  all_simplified of_subject (r ∷ s ∷ rs) outcome becomes contours left =
      subst (λ o. AreLeft o q (path_of r) es contours) becomes left

  -- several are cut
  pub many_cut : (rs : List (Range ℕ)) → ¬ (length rs ≡ 1) →
      IsOutcomeOfAll keep q.fill q.output_direction (map path_of rs) es NotSimple
  many_cut [] many = refl
  many_cut (r ∷ []) many = absurd (many refl)
  many_cut (r ∷ s ∷ rs) many = refl

  -- that they stay as they are given tells what becomes of them
  pub stay_told : (rs : List (Range ℕ)) (outcome : Outcome) →
      IsOutcomeOfAll keep q.fill q.output_direction (map path_of rs) es outcome →
      StayAsGiven q keep (map path_of rs) es → outcome ≡ AsGiven
  stay_told [] outcome becomes stay = absurd stay
  stay_told (r ∷ []) outcome becomes stay =
      outcome_is keep (path_of r) es q.fill q.output_direction outcome AsGiven becomes stay
  stay_told (r ∷ s ∷ rs) outcome becomes stay = absurd stay
