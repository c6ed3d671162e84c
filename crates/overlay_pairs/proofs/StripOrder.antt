-- Boxes strip by strip: with a further box, with those of the last strip in another order, and the boxes that a search
-- by strips skips.
use Rattle.std.proofs.Common.{◌≡◌, ⊎_elim, inl, inr, ◌⊎◌, ℕ, ◌+◌, ◌*◌, ◌-◌, ◌/◌, ◌%◌, ◌<◌, ◌≤◌, List, [], ◌∷◌, ◌++◌}
use Rattle.std.proofs.Common.{length, get_or, AllPairs, Contains, ◌<ℤ◌, ◌≤ℤ◌, sym, ap, ◌∙◌, subst, arith}
use Rattle.std.specs.List.Sorted.{IsPermutation}
use Rattle.std.proofs.lemmas.Bool.{cases_lt}
use Rattle.std.proofs.lemmas.Nat.{div-add-mod'}
use Rattle.std.proofs.lemmas.List.{append_assoc, get_or_default, get_or_push, get_or-append-add, length-append}
use Rattle.std.proofs.lemmas.List.{append-nil}
use Rattle.std.proofs.lemmas.List.Sorted.{Contains-permutation, IsPermutation-sym}
use Rattle.std.proofs.lemmas.List.Sorted.{IsPermutation-trans}
use Rattle.std.proofs.lemmas.List.Sorted.{IsPermutation-append_left, IsPermutation-append_right, length_permutation}
use Rattle.std.proofs.Math.ListN.{get_or-append}
use Rattle.std.proofs.Math.Nat.{add-mod_right, add-mul, div-eq_of_lt-le, div-lt_iff_lt-mul, div-mul-le_self}
use Rattle.std.proofs.Math.Nat.{eq-or-lt_of_le, le-div_iff_mul-le}
use Rattle.std.proofs.Math.Nat.{mod-lt, mul-le-mul_right}
use Rattle.overlay_geom.proofs.Signs.{linear}
use Rattle.overlay_pairs.specs.Extents.{Extent, AreByHeights, AreInStrips}
use Rattle.overlay_pairs.specs.Places.{IsAt}
use Rattle.overlay_pairs.specs.Near.{AreApartFrom}
use Rattle.overlay_pairs.proofs.ExtentBlocks.{same_block}
use Rattle.overlay_pairs.proofs.Entries.{one_entry}

-- with a box at its place behind them they are in strips
strips_pushed : (width : ℕ) (ss : List Extent) (t : Extent) → t.first ≡ length ss → t.last ≡ length ss →
    AreInStrips width ss → AreInStrips width (ss ++ t ∷ [])
strips_pushed width ss t first last are k s at_s = ⊎_elim here before
    (eq-or-lt_of_le (let l = length-append ss (t ∷ []) in let lt = at_s.0 in
    let le : k ≤ length ss = omega (arith, l, lt) in le))
  where
    here : k ≡ length ss → (s.first / width ≡ k / width) × (s.last ≡ s.first)
    here same =
        let is : t ≡ s = sym (get_or_push ss t s k (sym same)) ∙ at_s.1 in
        subst (λ (u : Extent). (u.first / width ≡ k / width) × (u.last ≡ u.first)) is
        (ap (λ n. n / width) (first ∙ sym same), last ∙ sym first)

    before : k < length ss → (s.first / width ≡ k / width) × (s.last ≡ s.first)
    before less = are k s (less, sym (get_or-append ss (t ∷ []) s k less) ∙ at_s.1)

-- an item in the second part of a list is there further on
in_second : (xs ys : List Extent) (k : ℕ) (s : Extent) → length xs ≤ k → IsAt (xs ++ ys) k s → Contains ys s
in_second xs ys k s past at_s =
    let from : length xs + (k - length xs) ≡ k = omega (arith, past) in (
      k - length xs,
      (let l = length-append xs ys in let lt = at_s.0 in omega (arith, l, lt, past)),
      sym (get_or-append-add xs ys (k - length xs) s) ∙ ap (λ n. get_or (xs ++ ys) n s) from ∙ at_s.1,
    )

-- with the second part, of one strip, in another order
strips_moved : (width : ℕ) (xs ys zs : List Extent) → 0 < width → length xs % width ≡ 0 → length ys ≤ width →
    IsPermutation ys zs → AreInStrips width (xs ++ ys) → AreInStrips width (xs ++ zs)
strips_moved width xs ys zs some begun few moved are k s at_s = ⊎_elim before here (cases_lt k (length xs))
  where
    before : k < length xs → (s.first / width ≡ k / width) × (s.last ≡ s.first)
    before less = are k s (
      (let l = length-append xs ys in omega (arith, l, less)),
      get_or-append xs ys s k less ∙ sym (get_or-append xs zs s k less) ∙ at_s.1,
    )

    here : length xs ≤ k → (s.first / width ≡ k / width) × (s.last ≡ s.first)
    here past =
        let has = Contains-permutation zs ys s (IsPermutation-sym ys zs moved) (in_second xs zs k s past at_s) in
        let there : IsAt (xs ++ ys) (length xs + has.0) s = (
          (let l = length-append xs ys in let lt = has.1 in omega (arith, l, lt)),
          get_or-append-add xs ys has.0 s ∙ has.2,
        ) in
        let found = are (length xs + has.0) s there in
        let l = length-append xs zs in let m = length_permutation ys zs moved in let lt = at_s.0 in
        let one = same_block width (length xs) (length xs + has.0) some begun (omega arith)
        (let inside = has.1 in omega (arith, inside, few)) in
        let two = same_block width (length xs) k some begun past (omega (arith, l, m, lt, few)) in
        (found.0 ∙ one ∙ sym two, found.1)

-- one more of a number
suc_times : (n width : ℕ) → (n + 1) * width ≡ n * width + width
suc_times n width = let product = add-mul n 1 width in omega (arith, product)

-- ---- in the order of their heights

module _ (width : ℕ) (some : 0 < width) where
  -- a place before a multiple of the width is in an earlier strip than one from there on
  earlier_strip : (j start k : ℕ) → start % width ≡ 0 → j < start → start ≤ k → j / width < k / width
  earlier_strip j start k begun less past =
      let whole : start / width * width ≡ start = (let all = div-add-mod' start width in omega (arith, all, begun)) in
      let before : j / width < start / width = (div-lt_iff_lt-mul some).1 (omega (arith, whole, less)) in
      let behind : start / width ≤ k / width = (le-div_iff_mul-le some).1 (omega (arith, whole, past)) in
      omega (arith, before, behind)

  -- behind finished strips one in the order of its heights
  heights_closed : (xs zs : List Extent) → length xs % width ≡ 0 →
      AllPairs (λ (s t : Extent). s.low ≤ℤ t.low) zs → AreByHeights width xs → AreByHeights width (xs ++ zs)
  heights_closed xs zs begun up are j k s t le same at_s at_t =
      ⊎_elim second (λ (past : length xs ≤ j). third past) (cases_lt j (length xs))
    where
      l : length (xs ++ zs) ≡ length xs + length zs
      l = length-append xs zs

      second : j < length xs → s.low ≤ℤ t.low
      second less = ⊎_elim
          (λ (inside : k < length xs). are j k s t le same
          (less, sym (get_or-append xs zs s j less) ∙ at_s.1)
          (inside, sym (get_or-append xs zs t k inside) ∙ at_t.1))
          (λ (past : length xs ≤ k). let strict = earlier_strip j (length xs) k begun less past in
          absurd (omega (arith, strict, same))) (cases_lt k (length xs))

      behind : (n : ℕ) (u : Extent) → length xs ≤ n → IsAt (xs ++ zs) n u → IsAt zs (n - length xs) u
      behind n u past at_u =
          let from : length xs + (n - length xs) ≡ n = omega (arith, past) in (
            (let lt = at_u.0 in omega (arith, l, lt, past)),
            sym (get_or-append-add xs zs (n - length xs) u) ∙ ap (λ m. get_or (xs ++ zs) m u) from ∙ at_u.1,
          )

      third : length xs ≤ j → s.low ≤ℤ t.low
      third past = ⊎_elim
          (λ (is : j ≡ k). subst (λ (u : Extent). s.low ≤ℤ u.low)
          (one_entry (xs ++ zs) k s t (subst (λ n. IsAt (xs ++ zs) n s) is at_s) at_t) (omega linear))
          (λ (less : j < k).
          let one = behind j s past at_s in let two = behind k t (omega (arith, past, less)) at_t in
          subst (λ (u : Extent). u.low ≤ℤ t.low) one.1
          (subst (λ (u : Extent). (get_or zs (j - length xs) s).low ≤ℤ u.low)
          (get_or_default zs (k - length xs) s t two.0 ∙ two.1)
          (up (j - length xs) (k - length xs) s (omega (arith, past, less)) two.0)))
          (eq-or-lt_of_le le)

-- ---- strip by strip

-- the given boxes: those in finished strips, and those in the strip so far
pub record StripsSoFar (width : ℕ) (given xs ys : List Extent) : Type 0 where
  pub permutation : IsPermutation given (xs ++ ys)
  pub strips : AreInStrips width (xs ++ ys)
  pub heights : AreByHeights width xs
  pub count : length xs + length ys ≡ length given
  pub begun : length xs % width ≡ 0
  pub few : length ys ≤ width

module _ (width : ℕ) (given xs ys : List Extent) (so_far : StripsSoFar width given xs ys) where
  -- one more, at its place
  pub so_far_pushed : (s : Extent) → s.first ≡ length given → s.last ≡ length given → length ys < width →
      StripsSoFar width (given ++ s ∷ []) xs (ys ++ s ∷ [])
  so_far_pushed s first last less =
      let joined = append_assoc xs ys (s ∷ []) in
      let count = so_far.count in
      let all : length given ≡ length (xs ++ ys) = sym (length-append xs ys ∙ count) in record {
        permutation = subst (IsPermutation (given ++ s ∷ [])) joined
            (IsPermutation-append_left (s ∷ []) given (xs ++ ys) so_far.permutation);
        strips = subst (AreInStrips width) joined
            (strips_pushed width (xs ++ ys) s (first ∙ all) (last ∙ all) so_far.strips);
        heights = so_far.heights;
        count = (let l = length-append ys (s ∷ []) in let m = length-append given (s ∷ []) in
            omega (arith, l, m, count));
        begun = so_far.begun;
        few = (let l = length-append ys (s ∷ []) in omega (arith, l, less));
      }

  module _ (some : 0 < width) (zs : List Extent) (moved : IsPermutation ys zs)
      (up : AllPairs (λ (s t : Extent). s.low ≤ℤ t.low) zs) where
    -- the strip so far in the order of its heights
    pub all_in_strips : AreInStrips width (xs ++ zs)
    all_in_strips = strips_moved width xs ys zs some so_far.begun so_far.few moved so_far.strips

    pub all_by_heights : AreByHeights width (xs ++ zs)
    all_by_heights = heights_closed width some xs zs so_far.begun up so_far.heights

    pub all_there : IsPermutation given (xs ++ zs)
    all_there = IsPermutation-trans given (xs ++ ys) (xs ++ zs) so_far.permutation
        (IsPermutation-append_right xs ys zs moved)

    -- it is finished where it is full
    pub so_far_closed : length ys ≡ width → StripsSoFar width given (xs ++ zs) []
    so_far_closed full =
        let l = length-append xs zs in let m = length_permutation ys zs moved in
        let count = so_far.count in
        let longer : length (xs ++ zs) ≡ length xs + width = omega (arith, l, m, full) in record {
          permutation = subst (IsPermutation given) (sym (append-nil (xs ++ zs))) all_there;
          strips = subst (AreInStrips width) (sym (append-nil (xs ++ zs))) all_in_strips;
          heights = all_by_heights;
          count = omega (arith, l, m, count);
          begun = ap (λ n. n % width) longer ∙ add-mod_right (length xs) width ∙ so_far.begun;
          few = omega arith;
        }

-- ---- searching

module _ (width : ℕ) (some : 0 < width) where
  -- the strip of an earlier place begins no later
  pub strips_in_order : (at to : ℕ) → at ≤ to → at / width * width ≤ to / width * width
  strips_in_order at to le =
      let begins = div-mul-le_self at width in
      mul-le-mul_right width ((le-div_iff_mul-le some).1 (let fits : at / width * width ≤ to = omega (arith, begins, le)
      in fits))

module _ (width : ℕ) (some : 0 < width) (ss : List Extent) (of : Extent) where
  module _ (are : AreInStrips width ss) where
    -- the boxes before the first strip lie apart
    pub strips_before_apart : AreApartFrom ss of 0 (of.first / width * width)
    strips_before_apart k s past less at_s =
        let strip = (are k s at_s).0 in
        let one = (are k s at_s).1 in
        let before : k / width < of.first / width = (div-lt_iff_lt-mul some).1 less in
        let first : s.first < of.first / width * width =
        (div-lt_iff_lt-mul some).0 (let lt : s.first / width < of.first / width = omega (arith, strip, before) in lt) in
        let whole = div-add-mod' of.first width in
        inr (inr (inr (omega (arith, one, first, whole))))

    -- the boxes behind the last strip lie apart
    pub strips_behind_apart : (stop : ℕ) → (stop ≡ length ss) ⊎ (stop ≡ of.last / width * width + width) →
        AreApartFrom ss of stop (length ss)
    strips_behind_apart stop ends k s past less at_s = ⊎_elim
        (λ (all : stop ≡ length ss). absurd (omega (arith, all, past, less)))
        (λ (next : stop ≡ of.last / width * width + width).
        let strip = (are k s at_s).0 in
        let whole_of = div-add-mod' of.last width in
        let rest_of = mod-lt of.last some in
        ⊎_elim (λ (behind : of.last < s.first). inr (inr (inl behind)))
        (λ (before : s.first ≤ of.last).
        let less_first : s.first < (of.last / width + 1) * width =
        (let product = suc_times (of.last / width) width in omega (arith, before, whole_of, rest_of, product)) in
        let low : s.first / width < of.last / width + 1 = (div-lt_iff_lt-mul some).1 less_first in
        let k_low : k < (of.last / width + 1) * width = (div-lt_iff_lt-mul some).0
        (let lt : k / width < of.last / width + 1 = omega (arith, strip, low) in lt) in
        let product = suc_times (of.last / width) width in
        absurd (omega (arith, k_low, product, next, past))) (cases_lt of.last s.first)) ends

  module _ (are : AreByHeights width ss) where
    -- where the box at a place lies above, so do those after it in its strip
    pub rest_above_apart : (at : ℕ) (s : Extent) → IsAt ss at s → of.high <ℤ s.low →
        AreApartFrom ss of at (at + (width - at % width))
    rest_above_apart at s at_s above k t past less at_t =
        let whole = div-add-mod' at width in
        let rest = mod-lt at some in
        let product = suc_times (at / width) width in
        let same : k / width ≡ at / width = div-eq_of_lt-le {k = at / width} width {m = k}
        (omega (arith, whole, past)) (omega (arith, whole, rest, less, product)) in
        let low = are at k s t past (sym same) at_s at_t in
        inl (omega (linear, above, low))
