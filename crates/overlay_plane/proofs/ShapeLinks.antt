-- Outlines are numbered in their order, so a link is told by its child.
use Rattle.std.proofs.Common.{◌≡◌, ℕ, zero, suc, ◌+◌, Bool, true, false, cond, List, [], ◌∷◌, length, take, filter}
use Rattle.std.proofs.Common.{refl, sym, ◌∙◌, ap, subst, arith}
use Rattle.std.specs.Prelude.{Some}
use Rattle.std.specs.List.{slice_get}
use Rattle.std.proofs.lemmas.Bool.{both_ways}
use Rattle.std.proofs.lemmas.Option.{none-some}
use Rattle.overlay_plane.specs.Binding.IsFoundBelow.{direct, through}
use Rattle.overlay_plane.specs.BoundContours.{walks_in}
use Rattle.overlay_plane.specs.Islands.{IsHoleRound, outlines_from, ChildLink, AreInShapes, IsLink}
use Rattle.overlay_plane.specs.KeptContours.{CanBeBound}
use Rattle.overlay_plane.specs.RoledContours.{Role, outline, own_hole, free_hole, Contour, is_outline, stands_in}
use Rattle.overlay_plane.specs.Turn.{Hand}
use Rattle.overlay_plane.proofs.HolePlaces.{place_at, hole_from}
use Rattle.overlay_plane.proofs.OneHoleRound.{same_at, one_hole_round}
use Rattle.overlay_plane.proofs.PlacesOfContours.{contour_at}
use Rattle.std.proofs.lemmas.Option.{same_Some}

-- how many outlines come before a place
abbrev pub outlines_before : List Contour → ℕ → ℕ
outlines_before cs i = length (filter (λ d. is_outline d.role) (take i cs))

-- an outline's place is that of its number
pub place_of_number : (m : ℕ) (cs : List Contour) (i : ℕ) (c : Contour) → slice_get cs i ≡ Some c →
    is_outline c.role ≡ true → slice_get (outlines_from m cs) (outlines_before cs i) ≡ Some (m + i)
place_of_number m [] i c at is = absurd (none-some c at)
place_of_number m (d ∷ ds) zero c at is =
    by (is_outline d.role) (ap (λ (k : Contour). is_outline k.role) (same_Some d c at) ∙ is)
  where
    by : (t : Bool) → t ≡ true →
        slice_get (cond t (m ∷ outlines_from (suc m) ds) (outlines_from (suc m) ds)) 0 ≡ Some (m + 0)
    by true e = ap Some (omega arith)
    by false e = absurd (both_ways false refl e)
place_of_number m (d ∷ ds) (suc i) c at is = by (is_outline d.role)
    (let after : suc m + i ≡ m + suc i = omega arith in place_of_number (suc m) ds i c at is ∙ ap Some after)
  where
    by : (t : Bool) → slice_get (outlines_from (suc m) ds) (outlines_before ds i) ≡ Some (m + suc i) →
        slice_get (cond t (m ∷ outlines_from (suc m) ds) (outlines_from (suc m) ds))
        (length (cond t (d ∷ filter (λ e. is_outline e.role) (take i ds)) (filter (λ e. is_outline e.role)
        (take i ds)))) ≡ Some (m + suc i)
    by true later = later
    by false later = later

-- an outline at a place
pub record IsOutlineAt (cs : List Contour) (n i : ℕ) : Type 0 where
  pub contour : Contour
  pub at : slice_get cs i ≡ Some contour
  pub is : is_outline contour.role ≡ true
  pub before : outlines_before cs i ≡ n

-- one contour more before it
module _ (d : Contour) (ds : List Contour) where
  before_more : (t : Bool) (es : List Contour) (k : ℕ) → length es ≡ k →
      length (cond t (d ∷ es) es) ≡ cond t (suc k) k
  before_more true es k e = ap suc e
  before_more false es k e = e

  outline_later : (k i : ℕ) → IsOutlineAt ds k i → IsOutlineAt (d ∷ ds) (cond (is_outline d.role) (suc k) k) (suc i)
  outline_later k i own = record {
    contour = own.contour;
    at = own.at;
    is = own.is;
    before = before_more (is_outline d.role) (filter (λ e. is_outline e.role) (take i ds)) k own.before;
  }

-- the outline of a number, whose place is counted from m
abbrev IsOutlineOf : ℕ → List Contour → ℕ → ℕ → Type 0
IsOutlineOf m cs n p = (i : ℕ) × (p ≡ m + i) × IsOutlineAt cs n i

-- the outline is at the place of its number
pub outline_of_number : (m : ℕ) (cs : List Contour) (n p : ℕ) → slice_get (outlines_from m cs) n ≡ Some p →
    IsOutlineOf m cs n p
outline_of_number m [] n p at = absurd (none-some p at)
outline_of_number m (d ∷ ds) n p at = by (is_outline d.role) refl n at (λ k. outline_of_number (suc m) ds k p)
  where
    by : (t : Bool) → is_outline d.role ≡ t → (k : ℕ) →
        slice_get (cond t (m ∷ outlines_from (suc m) ds) (outlines_from (suc m) ds)) k ≡ Some p →
        ((j : ℕ) → slice_get (outlines_from (suc m) ds) j ≡ Some p → IsOutlineOf (suc m) ds j p) →
        IsOutlineOf m (d ∷ ds) k p
    by true is zero h later = let here = same_Some m p h in
        (0, omega (arith, here), record { contour = d; at = refl; is = is; before = refl })
    by true is (suc k) h later = let rest = later k h in
        let place = rest.1 in (
          suc rest.0,
          omega (arith, place),
          subst (λ t. IsOutlineAt (d ∷ ds) (cond t (suc k) k) (suc rest.0)) is
              (outline_later d ds k rest.0 rest.2),
        )
    by false is k h later = let rest = later k h in
        let place = rest.1 in (
          suc rest.0,
          omega (arith, place),
          subst (λ t. IsOutlineAt (d ∷ ds) (cond t (suc k) k) (suc rest.0)) is
              (outline_later d ds k rest.0 rest.2),
        )

-- the hole round an island stands as one
pub record IsHoleAt (cs : List Contour) (k : ℕ) : Type 0 where
  pub contour : Contour
  pub at : slice_get cs k ≡ Some contour
  pub is : is_outline contour.role ≡ false

pub hole_stands : (filled : Hand) (cs : List Contour) (i k : ℕ) → IsHoleRound filled cs i (Some k) → IsHoleAt cs k
hole_stands filled cs i k (direct {j = j} next known) =
    let own = contour_at cs j next.next next.next_at in
    let hole = hole_from (is_outline own.0.role) (0 + j) k (sym (place_at 0 cs j own.0 own.1) ∙ known) in
    let same : j ≡ k = (let e = hole.1 in omega (arith, e)) in
    subst (IsHoleAt cs) same (record { contour = own.0; at = own.1; is = hole.0 })
hole_stands filled cs i k (through {j = j} next unknown rest) = hole_stands filled cs j k rest

-- the number of an outline
pub number_of : (role : Role) → is_outline role ≡ true → (n : ℕ) × (role ≡ outline n)
number_of (outline n) is = (n, refl)
number_of (own_hole n) is = absurd (both_ways false refl is)
number_of free_hole is = absurd (both_ways false refl is)

pub outline_is : (role : Role) (n : ℕ) → role ≡ outline n → is_outline role ≡ true
outline_is role n e = ap is_outline e

-- a link's island stands at the place of its number
pub place_of_child : (filled : Hand) (cs : List Contour) → AreInShapes cs →
    (l : ChildLink) (link : IsLink filled cs l) →
    slice_get (outlines_from 0 cs) l.child_shape ≡ Some link.place
place_of_child filled cs stand l link =
    ap (slice_get (outlines_from 0 cs)) (stand.numbered link.place l.child_shape link.island link.at link.child)
    ∙ place_of_number 0 cs link.place link.island link.at (outline_is link.island.role l.child_shape link.child)
    ∙ (let same : 0 + link.place ≡ link.place = omega arith in ap Some same)

own_same : (m n : ℕ) → own_hole m ≡ own_hole n → m ≡ n
own_same m n e = same_Some m n (ap stands_in e)

-- a link is told by its child
pub child_once : (filled : Hand) (cs : List Contour) → CanBeBound filled (walks_in cs) → AreInShapes cs →
    (k l : ChildLink) → IsLink filled cs k → IsLink filled cs l → k.child_shape ≡ l.child_shape → k ≡ l
child_once filled cs can stand k l of_k of_l same =
    λ i. record { parent_shape = shapes i; parent_contour = contours i; child_shape = same i }
  where
    places : of_k.place ≡ of_l.place
    places = same_Some of_k.place of_l.place (sym (place_of_child filled cs stand k of_k)
        ∙ ap (slice_get (outlines_from 0 cs)) same ∙ place_of_child filled cs stand l of_l)

    contours : k.parent_contour ≡ l.parent_contour
    contours = one_hole_round filled cs can of_l.place k.parent_contour l.parent_contour
        (subst (λ p. IsHoleRound filled cs p (Some k.parent_contour)) places of_k.round) of_l.round

    holes : of_k.hole ≡ of_l.hole
    holes = same_at cs l.parent_contour of_k.hole of_l.hole
        (subst (λ n. slice_get cs n ≡ Some of_k.hole) contours of_k.hole_at) of_l.hole_at

    shapes : k.parent_shape ≡ l.parent_shape
    shapes = own_same k.parent_shape l.parent_shape (sym of_k.parent ∙ ap (λ (c : Contour). c.role) holes ∙ of_l.parent)
