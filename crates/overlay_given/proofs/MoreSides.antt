-- The filled sides of one more edge are added to those of the edges before it.
use Rattle.std.proofs.Common.{◌≡◌, ⊎_elim, ℕ, ◌+◌, ◌<◌, ◌≤◌, Bool, ℤ, List, [], Contains, sym, subst, arith}
use Rattle.std.specs.List.{All}
use Rattle.std.proofs.lemmas.List.Elements.{All-append, All-weaker, All-nil, Contains-append_left}
use Rattle.std.proofs.lemmas.List.Elements.{Contains-append_right}
use Rattle.std.proofs.Math.Nat.{eq-or-lt_of_le}
use Rattle.overlay_geom.specs.Edges.{CountedEdge}
use Rattle.overlay_pairs.specs.Places.{IsAt}
use Rattle.overlay_pairs.proofs.Entries.{one_entry}
use Rattle.overlay_scaled.specs.PlainPoints.{IsPlain}
use Rattle.overlay_given.specs.Sides.{sides_at}
use Rattle.overlay_given.specs.Walk.{IsSidesOn, AddsSides, AreSidesOf}
use Rattle.overlay_given.specs.declared.sides.FilledSides.{FilledSides}

-- they are those of some edge
abbrev IsSidesOnSome : (ℤ → Bool) → List CountedEdge → FilledSides → Type 0
IsSidesOnSome filled es s = (e : CountedEdge) × IsSidesOn filled es e s

-- before the first edge there are none
pub sides_none : (filled : ℤ → Bool) (es : List CountedEdge) → AreSidesOf filled es 0 []
sides_none filled es = record {
  each = All-nil (IsSidesOnSome filled es);
  every = λ i e p less at plain. absurd (omega (arith, less));
}

pub sides_more : (filled : ℤ → Bool) (es : List CountedEdge) (n : ℕ) (old new : List FilledSides) →
    AreSidesOf filled es n old → (e : CountedEdge) → IsAt es n e → AddsSides filled es e old new →
    AreSidesOf filled es (n + 1) new
sides_more filled es n old new so_far e at adds = record {
  each = subst (All (IsSidesOnSome filled es)) (sym adds.after)
      (All-append (IsSidesOnSome filled es) old adds.added so_far.each
      (All-weaker (IsSidesOn filled es e) (IsSidesOnSome filled es) (λ s on. (e, on)) adds.added adds.each));
  every = λ i f p less at_f plain. subst (λ xs. Contains xs (sides_at filled es p)) (sym adds.after)
      (⊎_elim (λ (same : i ≡ n).
      let is : f ≡ e = one_entry es n f e (subst (λ k. IsAt es k f) same at_f) at in
      Contains-append_right old adds.added (sides_at filled es p)
      (adds.every p (subst (λ g. IsPlain es g p) is plain)))
      (λ (before : i < n). Contains-append_left old adds.added (sides_at filled es p)
      (so_far.every i f p before at_f plain))
      (eq-or-lt_of_le (let le : i ≤ n = omega (arith, less) in le)));
}
