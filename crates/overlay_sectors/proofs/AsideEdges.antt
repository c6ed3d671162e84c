-- Edges of a block that a point lies left of, right of or below: none is below a sector round the point, or leads from
-- it.
use Rattle.std.proofs.Common.{◌≡◌, ⊎_elim, Bool, true, false, ◌&&◌, ◌||◌, pos, ◌≤ℤ◌, ◌<ℤ◌, int_lt}
use Rattle.std.proofs.Common.{List, get_or, refl, sym, arith}
use Rattle.std.specs.Ordering.{int_eq}
use Rattle.std.proofs.lemmas.Bool.{or_cases}
use Rattle.std.proofs.lemmas.Int.{ints}
use Rattle.overlay_geom.specs.Edges.{CountedEdge, ends_of}
use Rattle.overlay_geom.specs.Plane.{Point, Edge, side, in_plane}
use Rattle.overlay_geom.proofs.Signs.{linear}
use Rattle.overlay_plane.proofs.Tests.{lt_from_test}
use Rattle.overlay_relate.specs.Blocks.{Block, LiesBetween, is_clear}
use Rattle.overlay_sectors.specs.Blocks.{IsBlockOf, IsAside, AreAside}
use Rattle.overlay_sectors.specs.Sectors.{spans_beside}
use Rattle.overlay_sectors.proofs.NearTests.{IsSpanned, spanned, under_both, not_high, not_level, under_is_not}

and_false : (s t : Bool) → t ≡ false → (s && t) ≡ false
and_false true t is = is
and_false false t is = refl

if_so : (s t : Bool) → (s ≡ true → t ≡ false) → (s && t) ≡ false
if_so true t is = is refl
if_so false t is = refl

module _ (b : Block) (e : Edge) (v : Point) (lies : LiesBetween b e) (clear : is_clear v b ≡ true) where
  -- where the edge has points beside v, it runs above v
  low : IsSpanned e v → side e (in_plane v) <ℤ pos 0
  low span = ⊎_elim
      (λ beside. ⊎_elim
      (λ left. absurd (
      let l = lt_from_test v.x b.left left in
      let f = lies.from in
      let s = span.from in
      omega linear))
      (λ past. absurd (
      let l = lt_from_test b.right v.x past in
      let t = lies.to in
      let s = span.to in
      omega linear))
      (or_cases (int_lt v.x b.left) (int_lt b.right v.x) beside))
      (λ under.
      let l = lt_from_test v.y b.bottom under in
      let one = lies.a_above in
      let two = lies.b_above in
      under_both e v span.from span.to span.wide (omega linear) (omega linear))
      (or_cases (int_lt v.x b.left || int_lt b.right v.x) (int_lt v.y b.bottom) clear)

  aside_edge : IsAside v e
  aside_edge = record {
    not_below = λ h t. if_so (spans_beside h e (in_plane v))
        (int_lt (pos 0) (side e (in_plane v)) || (int_eq (side e (in_plane v)) (pos 0) && t))
        (λ is.
        let less = low (spanned h e v is) in
        sym (under_is_not (int_lt (pos 0) (side e (in_plane v))) (int_eq (side e (in_plane v)) (pos 0)) t
        (not_high (side e (in_plane v)) (omega linear))
        (not_level (side e (in_plane v)) (λ zero. omega linear))));
    not_from = λ h. if_so (spans_beside h e (in_plane v)) (int_eq (side e (in_plane v)) (pos 0))
        (λ is. let less = low (spanned h e v is) in not_level (side e (in_plane v)) (λ zero. omega linear));
  }

-- an edge that lies between the numbers of a block lies between wider ones
pub still_between : (b wide : Block) (e : Edge) → wide.left ≤ℤ b.left → b.right ≤ℤ wide.right →
    wide.bottom ≤ℤ b.bottom → LiesBetween b e → LiesBetween wide e
still_between b wide e left right bottom lies = record {
  from = let f = lies.from in omega (arith, ints);
  to = let t = lies.to in omega (arith, ints);
  a_above = let a = lies.a_above in omega (arith, ints);
  b_above = let h = lies.b_above in omega (arith, ints);
}

pub aside_edges : (es : List CountedEdge) (b : Block) (v : Point) → IsBlockOf es b → is_clear v b ≡ true →
    AreAside es v b.start b.end
aside_edges es b v of clear = λ n d le lt within.
    aside_edge b (ends_of (get_or es n d)) v (of n d le lt within) clear
