-- Queries with what more and more edges tell of their points.
use Rattle.std.proofs.Common.{◌≡◌, true, false, ℤ, pos, ◌+ℤ◌, List, [], ◌∷◌, ◌++◌, append_assoc, append-nil, refl}
use Rattle.std.proofs.Common.{sym, ◌∙◌, subst}
use Rattle.std.proofs.lemmas.Bool.{both_ways}
use Rattle.std.proofs.lemmas.List.Sorted.{IsPermutation-to_front}
use lib.IntN.{+ℤ_idr}
use Rattle.overlay_geom.specs.Edges.{CountedEdge}
use Rattle.overlay_geom.specs.Plane.{Point}
use Rattle.overlay_geom.proofs.Signs.{linear}
use Rattle.overlay_located.specs.Tells.{Tells, TellsWhere, nothing}
use Rattle.overlay_located.specs.Queries.{Asked, sum_on, IsOpen, IsTold, Adds, AddsSums}
use Rattle.overlay_sectors.specs.declared.flank.Flank.{Flank}
use Rattle.overlay_sectors.specs.declared.flank.Flank.TheVariants.{Left, Right}
use Rattle.overlay_located.proofs.TellsMore.{tells_same, tells_on, tells_as, tells_before, tells_behind}
use Rattle.overlay_located.proofs.TellsMore.{tells_permuted}

-- a query that has to be asked for alone tells nothing
pub open_alone : (es ls : List CountedEdge) (q : Asked) → q.alone ≡ true → IsOpen es ls q
open_alone es ls q alone a = absurd (both_ways q.alone a alone)

pub adds_alone : (es : List CountedEdge) (q r : Asked) → r.point ≡ q.point → r.alone ≡ true → Adds es q r
adds_alone es q r same alone = record {
  point = same;
  alone = λ a. absurd (both_ways r.alone a alone);
  told = λ a. absurd (both_ways r.alone a alone);
}

pub sums_alone : (left right : ℤ) (q r : Asked) → r.point ≡ q.point → r.alone ≡ true → AddsSums left right q r
sums_alone left right q r same alone = record {
  point = same;
  alone = λ a. absurd (both_ways r.alone a alone);
  through = λ a. absurd (both_ways r.alone a alone);
  left = λ a. absurd (both_ways r.alone a alone);
  right = λ a. absurd (both_ways r.alone a alone);
}

pub told_alone : (es : List CountedEdge) (q : Asked) → q.alone ≡ true → IsTold es q
told_alone es q alone a = absurd (both_ways q.alone a alone)

-- no sums yet, and no edges
pub open_first : (es : List CountedEdge) (q : Asked) → q.through ≡ [] → q.left ≡ pos 0 → q.right ≡ pos 0 →
    IsOpen es es q
open_first es q none left right a =
    subst (λ (ts : List CountedEdge). Tells q.point es (ts ++ es) (sum_on q)) (sym none)
    (tells_as q.point es es nothing (sum_on q) by (tells_same q.point es))
  where
    by : (h : Flank) → pos 0 ≡ sum_on q h
    by Left = sym left
    by Right = sym right

-- the edges that are left are others
pub open_after : (Is : Point → Type 0) (es ls fs gs : List CountedEdge) (q r : Asked) → IsOpen es ls q →
    TellsWhere Is ls (fs ++ gs) → Adds fs q r → (r.alone ≡ false → Is q.point) → IsOpen es gs r
open_after Is es ls fs gs q r was split adds is a =
    let v = q.point in
    let told = adds.told a in
    let one = tells_on v es (q.through ++ ls) (q.through ++ (fs ++ gs)) (sum_on q) nothing (was (adds.alone a))
    (tells_before v q.through ls (fs ++ gs) nothing (split v (is a))) in
    let two = tells_behind v (q.through ++ fs) r.through gs told.0 told.2 in
    let both = tells_on v es (q.through ++ (fs ++ gs)) (r.through ++ gs) (λ h. sum_on q h +ℤ pos 0) told.0 one
    (subst (λ (hs : List CountedEdge). Tells v hs (r.through ++ gs) told.0) (append_assoc q.through fs gs) two) in
    subst (λ (w : Point). Tells w es (r.through ++ gs) (sum_on r)) (sym adds.point)
    (tells_as v es (r.through ++ gs) (λ h. (sum_on q h +ℤ pos 0) +ℤ told.0 h) (sum_on r)
    (λ h. let b = told.1 h in omega linear) both)

-- none is left
pub told_after : (es ls : List CountedEdge) (q r : Asked) → IsOpen es ls q → Adds ls q r → IsTold es r
told_after es ls q r was adds a =
    let told = adds.told a in
    subst (λ (w : Point). Tells w es r.through (sum_on r)) (sym adds.point)
    (tells_as q.point es r.through (λ h. sum_on q h +ℤ told.0 h) (sum_on r) (λ h. sym (told.1 h))
    (tells_on q.point es (q.through ++ ls) r.through (sum_on q) told.0 (was (adds.alone a)) told.2))

-- no edges add nothing
pub adds_none : (q : Asked) → Adds [] q q
adds_none q = record {
  point = refl;
  alone = λ a. a;
  told = λ a. (
    nothing,
    λ h. sym (+ℤ_idr (sum_on q h)),
    subst (λ (es : List CountedEdge). Tells q.point es q.through nothing) (sym (append-nil q.through))
        (tells_same q.point q.through),
  );
}

-- edges one after the other
pub adds_more : (es fs : List CountedEdge) (q r t : Asked) → Adds es q r → Adds fs r t → Adds (es ++ fs) q t
adds_more es fs q r t one two = record {
  point = two.point ∙ one.point;
  alone = λ a. one.alone (two.alone a);
  told = λ a.
      let first = one.told (two.alone a) in
      let second = two.told a in
      let v = q.point in
      let moved = subst (λ (w : Point). Tells w (r.through ++ fs) t.through second.0) one.point second.2 in (
        λ h. first.0 h +ℤ second.0 h,
        λ h. let b = first.1 h in let d = second.1 h in omega linear,
        subst (λ (hs : List CountedEdge). Tells v hs t.through (λ h. first.0 h +ℤ second.0 h))
            (append_assoc q.through es fs)
            (tells_on v ((q.through ++ es) ++ fs) (r.through ++ fs) t.through first.0 second.0
            (tells_behind v (q.through ++ es) r.through fs first.0 first.2) moved),
      );
}

-- one edge that leads from the point, or may
pub adds_through : (e : CountedEdge) (q r : Asked) → r.point ≡ q.point → r.left ≡ q.left → r.right ≡ q.right →
    r.through ≡ e ∷ q.through → r.alone ≡ q.alone → Adds (e ∷ []) q r
adds_through e q r point left right through alone = record {
  point = point;
  alone = λ a. sym alone ∙ a;
  told = λ a. (
    nothing,
    by,
    subst (λ (es : List CountedEdge). Tells q.point (q.through ++ e ∷ []) es nothing) (sym through)
        (tells_permuted q.point (q.through ++ e ∷ []) (e ∷ q.through) (IsPermutation-to_front q.through e)),
  );
}
  where
    by : (h : Flank) → sum_on r h ≡ sum_on q h +ℤ pos 0
    by Left = left ∙ sym (+ℤ_idr q.left)
    by Right = right ∙ sym (+ℤ_idr q.right)

-- numbers that edges tell, from which none leads
pub adds_of_sums : (es : List CountedEdge) (left right : ℤ) (more : Flank → ℤ) (q r : Asked) →
    more Left ≡ left → more Right ≡ right → Tells q.point es [] more → AddsSums left right q r → Adds es q r
adds_of_sums es left right more q r is_left is_right tells adds = record {
  point = adds.point;
  alone = adds.alone;
  told = λ a. (
    more,
    by a,
    subst (λ (ts : List CountedEdge). Tells q.point (q.through ++ es) ts more)
        (append-nil q.through ∙ sym (adds.through a)) (tells_before q.point q.through es [] more tells),
  );
}
  where
    by : r.alone ≡ false → (h : Flank) → sum_on r h ≡ sum_on q h +ℤ more h
    by a Left = let one = adds.left a in omega linear
    by a Right = let one = adds.right a in omega linear

-- numbers that edges tell, together with edges that are left
pub adds_after_sums : (es fs : List CountedEdge) (left right : ℤ) (more : Flank → ℤ) (q r t : Asked) →
    more Left ≡ left → more Right ≡ right → Tells q.point es fs more → AddsSums left right q r → Adds fs r t →
    Adds es q t
adds_after_sums es fs left right more q r t is_left is_right tells sums adds = record {
  point = adds.point ∙ sums.point;
  alone = λ a. sums.alone (adds.alone a);
  told = λ a.
      let rest = adds.told a in
      let v = q.point in
      let moved = subst (λ (w : Point). Tells w (r.through ++ fs) t.through rest.0) sums.point rest.2 in
      let same = subst (λ (ts : List CountedEdge). Tells v (ts ++ fs) t.through rest.0) (sums.through (adds.alone a))
      moved in (
        λ h. more h +ℤ rest.0 h,
        by a,
        tells_on v (q.through ++ es) (q.through ++ fs) t.through more rest.0 (tells_before v q.through es fs more tells)
            same,
      );
}
  where
    by : (a : t.alone ≡ false) → (h : Flank) → sum_on t h ≡ sum_on q h +ℤ (more h +ℤ (adds.told a).0 h)
    by a Left = let one = sums.left (adds.alone a) in let two = (adds.told a).1 Left in omega linear
    by a Right = let one = sums.right (adds.alone a) in let two = (adds.told a).1 Right in omega linear
