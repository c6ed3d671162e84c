-- Blocks of boxes: all boxes of a block that lies apart lie apart. Blocks of blocks, and blocks made place by place.
use Rattle.std.proofs.Common.{◌≡◌, ◌≢◌, ◌⊎◌, ⊎_elim, inl, inr, ℕ, ◌+◌, ◌*◌, ◌/◌, ◌%◌, ◌<◌, ◌≤◌}
use Rattle.std.proofs.Common.{List, [], ◌∷◌, ◌++◌, length, map, get_or, set, sym, ap, ◌∙◌}
use Rattle.std.proofs.Common.{subst, arith}
use Rattle.std.proofs.lemmas.Bool.{cases_eq}
use Rattle.std.proofs.lemmas.List.{get_or_default, get_or_push, get_or-set_same, get_or-set_other}
use Rattle.std.proofs.lemmas.List.{length-append, length-map, length-set}
use Rattle.std.proofs.Math.ListN.{get_or-append}
use Rattle.std.proofs.Math.Nat.{div-add-mod, div-div-eq-div-mul, div-eq_of_lt-le, mod-lt}
use Rattle.std.proofs.Math.Nat.{eq-or-lt_of_le}
use Rattle.overlay_geom.proofs.Entries.{some_entry}
use Rattle.overlay_geom.proofs.Signs.{linear}
use Rattle.overlay_pairs.specs.Extents.{Extent, AreBlocks, Encloses, IsApart}
use Rattle.overlay_pairs.specs.Near.{AreApartFrom, BeginsApart}
use Rattle.overlay_pairs.specs.Places.{IsAt}
use Rattle.overlay_pairs.proofs.Entries.{one_entry}

-- ---- enclosing

-- a box encloses itself
pub covers_itself : (s : Extent) → Encloses s s
covers_itself s = record { low = omega linear; high = omega linear; first = omega arith; last = omega arith }

-- enclosing is transitive
pub covers_through : (s t u : Extent) → Encloses s t → Encloses t u → Encloses s u
covers_through s t u one two =
    let a = one.low in let b = two.low in let c = one.high in let d = two.high in
    let e = one.first in let f = two.first in let g = one.last in let h = two.last in
    record { low = omega linear; high = omega linear; first = omega (arith, e, f); last = omega (arith, g, h) }

-- a box apart from another is apart from each box enclosed by it
pub apart_under : (s t u : Extent) → Encloses t u → IsApart s t → IsApart s u
apart_under s t u covers = by
  where
    by : IsApart s t → IsApart s u
    by (inl below) = let more = covers.low in inl (omega linear)
    by (inr (inl above)) = let more = covers.high in inr (inl (omega linear))
    by (inr (inr (inl before))) = inr (inr (inl (omega (arith, covers.first, before))))
    by (inr (inr (inr behind))) = inr (inr (inr (omega (arith, covers.last, behind))))

-- ---- passing over

-- a place has a block
pub block_at : (n : ℕ) (ss blocks : List Extent) (k : ℕ) → AreBlocks n ss blocks → k < length ss → k / n < length blocks
block_at n ss blocks k cover inside = let s = some_entry ss k inside in
    (cover k (get_or ss k s) s (inside, get_or_default ss k (get_or ss k s) s inside)).0

-- lists of the program's boxes have such blocks too
pub block_held : {X : Type 0} (plain : X → Extent) (n at : ℕ) (xs blocks : List X) →
    AreBlocks n (map plain xs) (map plain blocks) → at < length xs → at / n < length blocks
block_held plain n at xs blocks cover inside =
    let there : at < length (map plain xs) = (let l = length-map xs plain in omega (arith, l, inside)) in
    subst (λ (m : ℕ). at / n < m) (length-map blocks plain)
    (block_at n (map plain xs) (map plain blocks) at cover there)

-- places of one stretch from a multiple of n on lie in one block
pub same_block : (n at k : ℕ) → 0 < n → at % n ≡ 0 → at ≤ k → k < at + n → k / n ≡ at / n
same_block n at k some begins past less =
    let whole = div-add-mod at n in
    let start : n * (at / n) ≡ at = omega (arith, whole, begins) in
    div-eq_of_lt-le {k = at / n} n {m = k} (omega (arith, start, past)) (omega (arith, start, less))

-- those of a block that lies apart lie apart
pub block_passed : (n : ℕ) (ss blocks : List Extent) (s : Extent) (at : ℕ) → 0 < n → AreBlocks n ss blocks →
    BeginsApart blocks n s at → AreApartFrom ss s at (at + n)
block_passed n ss blocks s at some cover begun = λ k t past less at_t.
    let same = same_block n at k some begun.begins past less in
    apart_under s (get_or blocks (at / n) t) t
    (subst (λ m. Encloses (get_or blocks m t) t) same (cover k t t at_t).1) (begun.apart t)

-- ---- blocks of blocks

-- blocks of m blocks of n are blocks of n times m
pub blocks_of_blocks : (n m : ℕ) (ss blocks over : List Extent) → AreBlocks n ss blocks → AreBlocks m blocks over →
    AreBlocks (n * m) ss over
blocks_of_blocks n m ss blocks over cover cover_over = λ k s d at_s.
    let one = cover k s d at_s in
    let block = get_or blocks (k / n) d in
    let two = cover_over (k / n) block d (one.0, get_or_default blocks (k / n) block d one.0) in
    let same : k / n / m ≡ k / (n * m) = div-div-eq-div-mul k n m in
    subst (λ p. (p < length over) × Encloses (get_or over p d) s) same
    (two.0, covers_through (get_or over (k / n / m) d) block s two.1 one.1)

-- ---- making blocks

-- the box of its block encloses each of the first boxes, and the blocks are just those that they need
pub record AreBlocksUpTo (ss blocks : List Extent) (i : ℕ) : Type 0 where
  pub enough : i ≤ length blocks * 8
  pub few : length blocks * 8 < i + 8
  pub cover : (k : ℕ) (s d : Extent) → k < i → IsAt ss k s →
      (k / 8 < length blocks) × Encloses (get_or blocks (k / 8) d) s

-- where all places have been taken they are the blocks
pub all_blocks : (ss blocks : List Extent) (i : ℕ) → length ss ≤ i → AreBlocksUpTo ss blocks i →
    AreBlocks 8 ss blocks
all_blocks ss blocks i past some = λ k s d at_s. some.cover k s d (let less = at_s.0 in omega arith) at_s

module _ (ss blocks : List Extent) (i : ℕ) (some : AreBlocksUpTo ss blocks i) (s : Extent)
    (at_s : IsAt ss i s) where
  -- a place before i + 1 is i, or comes before i
  or_before : (k : ℕ) → k < i + 1 → (k ≡ i) ⊎ (k < i)
  or_before k lt = eq-or-lt_of_le (let le : k ≤ i = omega (arith, lt) in le)

  -- the box at place i is s
  is_s : (k : ℕ) (t : Extent) → k ≡ i → IsAt ss k t → t ≡ s
  is_s k t same at_t = one_entry ss i t s (subst (λ n. IsAt ss n t) same at_t) at_s

  -- a block begins at the place
  pub block_begun : i % 8 ≡ 0 → AreBlocksUpTo ss (blocks ++ s ∷ []) (i + 1)
  block_begun begins = record { enough = omega (arith, count, e, f); few = omega (arith, count, e, f); cover = cover }
    where
      count : length (blocks ++ s ∷ []) ≡ length blocks + 1
      count = length-append blocks (s ∷ [])

      e : i ≤ length blocks * 8
      e = some.enough

      f : length blocks * 8 < i + 8
      f = some.few

      next : length blocks ≡ i / 8
      next = let whole = div-add-mod i 8 in omega (arith, whole, begins, e, f)

      cover : (k : ℕ) (t d : Extent) → k < i + 1 → IsAt ss k t →
          (k / 8 < length (blocks ++ s ∷ [])) × Encloses (get_or (blocks ++ s ∷ []) (k / 8) d) t
      cover k t d lt at_t = ⊎_elim here before (or_before k lt)
        where
          here : k ≡ i → (k / 8 < length (blocks ++ s ∷ [])) × Encloses (get_or (blocks ++ s ∷ []) (k / 8) d) t
          here same =
              let place : length blocks ≡ k / 8 = next ∙ ap (λ n. n / 8) (sym same) in (
                omega (arith, place, count),
                subst (λ (u : Extent). Encloses u t) (sym (get_or_push blocks s d (k / 8) place))
                    (subst (Encloses s) (sym (is_s k t same at_t)) (covers_itself s)),
              )

          before : k < i → (k / 8 < length (blocks ++ s ∷ [])) × Encloses (get_or (blocks ++ s ∷ []) (k / 8) d) t
          before less = let found = some.cover k t d less at_t in (
            (let inside = found.0 in omega (arith, inside, count)),
            subst (λ (u : Extent). Encloses u t) (sym (get_or-append blocks (s ∷ []) d (k / 8) found.0)) found.1,
          )

  -- where none begins, the place's block is the last
  pub last_block : ¬ (i % 8 ≡ 0) → i / 8 < length blocks
  last_block goes_on =
      let whole = div-add-mod i 8 in
      let e = some.enough in
      omega (arith, whole, goes_on, e)

  -- the block grows
  pub block_grown : (old block : Extent) (news : List Extent) → ¬ (i % 8 ≡ 0) → news ≡ set blocks (i / 8) block →
      old ≡ get_or blocks (i / 8) old →
      Encloses block old → Encloses block s → AreBlocksUpTo ss news (i + 1)
  block_grown old block news goes_on news_are old_is of_old of_s =
      record { enough = omega (arith, count, e, whole, rest, goes_on, f); few = omega (arith, count, f); cover = cover }
    where
      count : length news ≡ length blocks
      count = ap length news_are ∙ length-set blocks (i / 8) block

      e : i ≤ length blocks * 8
      e = some.enough

      f : length blocks * 8 < i + 8
      f = some.few

      whole : 8 * (i / 8) + i % 8 ≡ i
      whole = div-add-mod i 8

      rest : i % 8 < 8
      rest = mod-lt i {m = 8} (omega arith)

      cover : (k : ℕ) (t d : Extent) → k < i + 1 → IsAt ss k t →
          (k / 8 < length news) × Encloses (get_or news (k / 8) d) t
      cover k t d lt at_t = ⊎_elim here before (or_before k lt)
        where
          read : get_or news (i / 8) d ≡ block
          read = ap (λ xs. get_or xs (i / 8) d) news_are ∙ get_or-set_same blocks (i / 8) block d (last_block goes_on)

          here : k ≡ i → (k / 8 < length news) × Encloses (get_or news (k / 8) d) t
          here same =
              let place : k / 8 ≡ i / 8 = ap (λ n. n / 8) same in
              let inside = last_block goes_on in (
                omega (arith, place, count, inside),
                subst (λ (u : Extent). Encloses u t) (sym (ap (λ n. get_or news n d) place ∙ read))
                    (subst (Encloses block) (sym (is_s k t same at_t)) of_s),
              )

          before : k < i → (k / 8 < length news) × Encloses (get_or news (k / 8) d) t
          before less = let found = some.cover k t d less at_t in (
            (let inside = found.0 in omega (arith, inside, count)),
            ⊎_elim (λ (same : k / 8 ≡ i / 8).
                subst (λ (u : Extent). Encloses u t) (sym (ap (λ n. get_or news n d) same ∙ read))
                (covers_through block old t of_old (subst (λ (u : Extent). Encloses u t)
                (ap (λ n. get_or blocks n d) same ∙ get_or_default blocks (i / 8) d old (last_block goes_on)
                ∙ sym old_is) found.1)))
                (λ (other : k / 8 ≢ i / 8).
                subst (λ (u : Extent). Encloses u t)
                (sym (ap (λ xs. get_or xs (k / 8) d) news_are
                ∙ get_or-set_other blocks (i / 8) (k / 8) block d other)) found.1)
                (cases_eq (k / 8) (i / 8)),
          )
