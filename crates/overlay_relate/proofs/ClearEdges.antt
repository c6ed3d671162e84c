-- Edges of a block that a point lies left of, right of or below.
use Rattle.std.proofs.Common.{◌≡◌, ⊎_elim, ℕ, true, ◌||◌, ℤ, ◌≤ℤ◌, int_lt, List, [], ◌∷◌, get_or}
use Rattle.std.proofs.Common.{arith}
use Rattle.std.specs.List.{All}
use Rattle.std.proofs.lemmas.Bool.{or_cases}
use Rattle.std.proofs.lemmas.Int.{ints}
use Rattle.overlay_geom.specs.Plane.{Point, Edge, in_plane, point_lt}
use Rattle.overlay_geom.specs.Resolved.{IsLongEdge}
use Rattle.overlay_plane.proofs.Tests.{lt_from_test}
use Rattle.overlay_relate.specs.Blocks.{Block, LiesBetween, IsBlockOf, is_clear, AreClear}
use Rattle.overlay_relate.specs.Locations.{IsLocatedBy}
use Rattle.overlay_relate.specs.declared.location.PointLocation.TheVariants.{Outside}
use Rattle.overlay_relate.proofs.ByEdge.{leads_right, left_of, right_of, under}

-- an edge of the block lies so
clear_edge : (b : Block) (e : Edge) (q : Point) → point_lt e.a e.b ≡ true → LiesBetween b e → is_clear q b ≡ true →
    IsLocatedBy (e ∷ []) (in_plane q) Outside
clear_edge b e q forward lies clear = ⊎_elim
    (λ beside. ⊎_elim
    (λ left. left_of e q right (let l = lt_from_test q.x b.left left in let f = lies.from in omega (arith, ints)))
    (λ past. right_of e q right (let l = lt_from_test b.right q.x past in let t = lies.to in omega (arith, ints)))
    (or_cases (int_lt q.x b.left) (int_lt b.right q.x) beside))
    (λ low. let l = lt_from_test q.y b.bottom low in under e q right
    (let a = lies.a_above in omega (arith, ints)) (let c = lies.b_above in omega (arith, ints)))
    (or_cases (int_lt q.x b.left || int_lt b.right q.x) (int_lt q.y b.bottom) clear)
  where
    right : e.a.x ≤ℤ e.b.x
    right = leads_right e forward

-- an edge that lies between the numbers of a block lies between wider ones
pub still_between : (b wide : Block) (e : Edge) → wide.left ≤ℤ b.left → b.right ≤ℤ wide.right →
    wide.bottom ≤ℤ b.bottom → LiesBetween b e → LiesBetween wide e
still_between b wide e left right bottom lies = record {
  from = let f = lies.from in omega (arith, ints);
  to = let t = lies.to in omega (arith, ints);
  a_above = let a = lies.a_above in omega (arith, ints);
  b_above = let h = lies.b_above in omega (arith, ints);
}

-- so do all of them
pub clear_edges : (limit : ℕ) (es : List Edge) (b : Block) (q : Point) → All (IsLongEdge limit) es → IsBlockOf es b →
    is_clear q b ≡ true → AreClear es q b.start b.end
clear_edges limit es b q long of clear = λ n d le lt within.
    clear_edge b (get_or es n d) q (long n d within).forward (of n d le lt within) clear
