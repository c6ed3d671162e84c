-- A point has one location: it lies on an edge or off all, and is inside or not; and what is asked of each point of a
-- list has one list of answers.
use Rattle.std.proofs.Common.{◌≡◌, ℕ, suc, ◌<◌, Bool, true, false, List, [], ◌∷◌, length, get_or, refl, sym, ap}
use Rattle.std.proofs.Common.{ap₂, ◌∙◌, subst, arith}
use Rattle.std.specs.List.{All, Any}
use Rattle.std.proofs.lemmas.Bool.{both_ways}
use Rattle.overlay_geom.specs.Plane.{Point, PlanePoint, Edge, in_plane, IsOn}
use Rattle.overlay_geom.specs.Edges.{subj_of}
use Rattle.overlay_plane.specs.Predicates.{fills_at}
use Rattle.overlay_relate.specs.Answers.{AnswersEach}
use Rattle.overlay_relate.specs.Bounded.{boundary_of}
use Rattle.overlay_relate.specs.Determined.{OneLocationIn, OneLocationAmong, OneLocationUnder, OneLocationBy}
use Rattle.overlay_relate.specs.Locations.{IsLocated, IsLocatedIn, IsLocatedAmong}
use Rattle.overlay_relate.specs.Locations.{shape_edges, is_in_shape, odd_below}
use Rattle.overlay_relate.specs.declared.location.PointLocation.{PointLocation}
use Rattle.overlay_relate.specs.declared.location.PointLocation.TheVariants.{Inside, Boundary, Outside}

-- what holds of some item fails of not each
some_and_none : {X : Type 0} (P : X → Type 0) (xs : List X) → Any P xs → ¬ (All (λ x. ¬ (P x)) xs)
some_and_none P xs (k, x, within, at, holds) none = subst (λ y. ¬ (P y)) at (none k x within) holds

-- what each item has and some item does not have
some_otherwise : {X : Type 0} (P Q : X → Type 0) → ((x : X) → P x → Q x → ⊥) → (xs : List X) → Any P xs →
    ¬ (All Q xs)
some_otherwise P Q apart xs (k, x, within, at, holds) all = apart x holds (subst Q at (all k x within))

-- ---- one point

one_located : (es : List Edge) (inside : Bool) (p : PlanePoint) (l m : PointLocation) → IsLocated es inside p l →
    IsLocated es inside p m → l ≡ m
one_located es inside p Inside Inside a b = refl
one_located es inside p Inside Boundary a b = absurd (some_and_none (λ e. IsOn e p) es b a.0)
one_located es inside p Inside Outside a b = absurd (both_ways inside b.1 a.1)
one_located es inside p Boundary Inside a b = absurd (some_and_none (λ e. IsOn e p) es a b.0)
one_located es inside p Boundary Boundary a b = refl
one_located es inside p Boundary Outside a b = absurd (some_and_none (λ e. IsOn e p) es a b.0)
one_located es inside p Outside Inside a b = absurd (both_ways inside a.1 b.1)
one_located es inside p Outside Boundary a b = absurd (some_and_none (λ e. IsOn e p) es b a.0)
one_located es inside p Outside Outside a b = refl

one_in : (shape : List (List Point)) (p : PlanePoint) (l m : PointLocation) → IsLocatedIn shape p l →
    IsLocatedIn shape p m → l ≡ m
one_in shape p = one_located (shape_edges shape) (is_in_shape shape p) p

-- the three locations are different
not_outside : (l : PointLocation) → ¬ (l ≡ Outside) → (shape : List (List Point)) (p : PlanePoint) →
    IsLocatedIn shape p l → IsLocatedIn shape p Outside → ⊥
not_outside l apart shape p a b = apart (one_in shape p l Outside a b)

abbrev is_outside : PointLocation → Bool
is_outside Inside = false
is_outside Boundary = false
is_outside Outside = true

inside_apart : ¬ (Inside ≡ Outside)
inside_apart same = both_ways (is_outside Outside) (sym (ap is_outside same)) refl

boundary_apart : ¬ (Boundary ≡ Outside)
boundary_apart same = both_ways (is_outside Outside) (sym (ap is_outside same)) refl

one_among : (shapes : List (List (List Point))) (p : PlanePoint) (l m : PointLocation) → IsLocatedAmong shapes p l →
    IsLocatedAmong shapes p m → l ≡ m
one_among shapes p Inside Inside a b = refl
one_among shapes p Inside Boundary a b = absurd (some_and_none (λ s. IsLocatedIn s p Inside) shapes a b.1)
one_among shapes p Inside Outside a b = absurd (some_otherwise (λ s. IsLocatedIn s p Inside)
    (λ s. IsLocatedIn s p Outside) (λ s. not_outside Inside inside_apart s p) shapes a b)
one_among shapes p Boundary Inside a b = absurd (some_and_none (λ s. IsLocatedIn s p Inside) shapes b a.1)
one_among shapes p Boundary Boundary a b = refl
one_among shapes p Boundary Outside a b = absurd (some_otherwise (λ s. IsLocatedIn s p Boundary)
    (λ s. IsLocatedIn s p Outside) (λ s. not_outside Boundary boundary_apart s p) shapes a.0 b)
one_among shapes p Outside Inside a b = absurd (some_otherwise (λ s. IsLocatedIn s p Inside)
    (λ s. IsLocatedIn s p Outside) (λ s. not_outside Inside inside_apart s p) shapes b a)
one_among shapes p Outside Boundary a b = absurd (some_otherwise (λ s. IsLocatedIn s p Boundary)
    (λ s. IsLocatedIn s p Outside) (λ s. not_outside Boundary boundary_apart s p) shapes b.0 a)
one_among shapes p Outside Outside a b = refl

-- ---- lists

-- lists of one length with the same items at each place are one
same_items : {X : Type 0} (xs ys : List X) → length xs ≡ length ys →
    ((n : ℕ) (d : X) → n < length xs → get_or xs n d ≡ get_or ys n d) → xs ≡ ys
same_items [] [] long at = refl
same_items [] (y ∷ ys) long at = absurd (omega (arith, long))
same_items (x ∷ xs) [] long at = absurd (omega (arith, long))
same_items (x ∷ xs) (y ∷ ys) long at = ap₂ (λ z zs. z ∷ zs) (at 0 x (omega arith))
    (same_items xs ys (omega (arith, long)) (λ n d h. at (suc n) d (omega arith)))

-- where each item has one answer, lists of answers are one
pub one_list_of_answers : {X Y : Type 0} (R : X → Y → Type 0) → ((x : X) (y z : Y) → R x y → R x z → y ≡ z) →
    (queries : List X) (first second : List Y) → AnswersEach R queries first → AnswersEach R queries second →
    first ≡ second
one_list_of_answers R one [] first second a b = same_items first second (a.counted ∙ sym b.counted)
    (λ n d h. absurd (let l = a.counted in omega (arith, l, h)))
one_list_of_answers R one (q ∷ qs) first second a b = same_items first second (a.counted ∙ sym b.counted)
    (λ n d h. one (get_or (q ∷ qs) n q) (get_or first n d) (get_or second n d)
    (a.each n q d (subst (λ k. n < k) a.counted h)) (b.each n q d (subst (λ k. n < k) a.counted h)))

pub one_location_in : OneLocationIn
one_location_in shape queries first second = one_list_of_answers (λ q l. IsLocatedIn shape (in_plane q) l)
    (λ q. one_in shape (in_plane q)) queries first second

pub one_location_among : OneLocationAmong
one_location_among shapes queries first second = one_list_of_answers (λ q l. IsLocatedAmong shapes (in_plane q) l)
    (λ q. one_among shapes (in_plane q)) queries first second

-- ---- in the shape of an arrangement

pub one_location_under : OneLocationUnder
one_location_under filled es p l m = one_located (boundary_of filled es) (fills_at filled es subj_of p) p l m

-- ---- by edges

pub one_location_by : OneLocationBy
one_location_by es p l m = one_located es (odd_below es p) p l m
