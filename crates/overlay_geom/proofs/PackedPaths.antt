-- Ranges that follow each other are inside the list, and a further list goes on behind them.
use Rattle.std.proofs.Common.{◌≡◌, ℕ, ◌≤◌, List, [], ◌∷◌, ◌++◌, length, ap, sym, subst, arith}
use Rattle.std.specs.declared.ops.Range.{Range}
use Rattle.std.proofs.lemmas.List.{length-append}
use Rattle.std.proofs.lemmas.List.Elements.{All-nil, All-cons}
use Rattle.overlay_geom.specs.Flat.{range_behind, IsInside, AreInside}
use Rattle.overlay_geom.specs.Packed.{AreBehind, IsPacked}
use Rattle.overlay_geom.specs.Packed.AreBehind.{no_range, next}

-- they end no earlier than they begin
behind_rises : (n : ℕ) (rs : List (Range ℕ)) (end : ℕ) → AreBehind n rs end → n ≤ end
behind_rises n rs end no_range = omega arith
behind_rises n rs end (next {r} {rs = rest} rises h) = let more = behind_rises r.end rest end h in
    omega (arith, rises, more)

-- the ranges are inside
pub behind_inside : (n : ℕ) (rs : List (Range ℕ)) (end : ℕ) → AreBehind n rs end → AreInside end rs
behind_inside n rs end no_range = All-nil (IsInside end)
behind_inside n rs end (next {r} {rs = rest} rises h) =
    All-cons (IsInside end) r rest (record { rises = rises; ends = behind_rises r.end rest end h })
    (behind_inside r.end rest end h)

-- one range more
pub behind_more : (n : ℕ) (rs : List (Range ℕ)) (end : ℕ) (r : Range ℕ) → r.start ≡ end → r.start ≤ r.end →
    AreBehind n rs end →
    AreBehind n (rs ++ r ∷ []) r.end
behind_more n rs end r from rises no_range = subst (λ k. AreBehind k (r ∷ []) r.end) from (next rises no_range)
behind_more n rs end r from rises (next {r = s} {rs = rest} first h) = next first
    (behind_more s.end rest end r from rises h)

-- more ranges follow
pub behind_joined : (n : ℕ) (rs : List (Range ℕ)) (m : ℕ) (ss : List (Range ℕ)) (end : ℕ) → AreBehind n rs m →
    AreBehind m ss end →
    AreBehind n (rs ++ ss) end
behind_joined n rs m ss end no_range more = more
behind_joined n rs m ss end (next {r} {rs = rest} first h) more = next first (behind_joined r.end rest m ss end h more)

-- nothing is packed
pub packed_none : {X : Type 0} (xs : List X) (rs : List (Range ℕ)) → xs ≡ [] → rs ≡ [] → IsPacked xs rs
packed_none xs rs no_items no_ranges = subst (λ r. AreBehind 0 r (length xs)) (sym no_ranges)
    (subst (λ n. AreBehind 0 [] n) (sym (ap length no_items)) no_range)

module _ {X : Type 0} where
  pub packed_inside : (xs : List X) (rs : List (Range ℕ)) → IsPacked xs rs → AreInside (length xs) rs
  packed_inside xs rs h = behind_inside 0 rs (length xs) h

  -- with a further list it is packed
  pub packed_more : (xs ys : List X) (rs : List (Range ℕ)) → IsPacked xs rs →
      IsPacked (xs ++ ys) (rs ++ range_behind xs ys ∷ [])
  packed_more xs ys rs h =
      subst (λ n. AreBehind 0 (rs ++ range_behind xs ys ∷ []) n) (sym (length-append xs ys))
      (behind_more 0 rs (length xs) (range_behind xs ys) (λ i. length xs) (omega arith) h)
