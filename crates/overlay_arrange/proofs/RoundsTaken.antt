-- A further round: a list that is merged, cut, and then split, was split with that round more.
use Rattle.std.proofs.Common.{◌≡◌, ◌↔◌, ℕ, ◌+◌, ◌≤◌, ◌<◌, ◌^◌, true, false, List, [], ◌∷◌, refl, sym, subst, arith}
use Rattle.std.proofs.lemmas.Bool.{false≢true}
use Rattle.std.proofs.lemmas.List.Elements.{All-nil, All-cons}
use Rattle.overlay_geom.specs.Edges.{CountedEdge, weight}
use Rattle.overlay_geom.specs.Merged.{IsMerged}
use Rattle.overlay_geom.specs.Settled.{IsSettled}
use Rattle.overlay_geom.specs.declared.solver.Solver.{Solver}
use Rattle.overlay_geom.specs.declared.solver.Solver.TheVariants.{Rounds}
use Rattle.overlay_geom.proofs.MergedOnce.{IsMerged-unique}
use Rattle.overlay_plane.specs.Arrangements.{IsReachedBy, IsSplit, StaysUnsettled, WeighsTooMuch}
use Rattle.overlay_plane.specs.RoundLists.{IsRoundBy}
use Rattle.overlay_plane.specs.Rounds.{Round, pieces_of}

-- a merged list that is settled was split without a round
pub split_at_once : {solver : Solver} (most : ℕ) (old new : List CountedEdge) → IsMerged old new → IsSettled new →
    IsSplit solver most old new
split_at_once most old new merged settled = record {
  rounds = [];
  few = omega arith;
  reached = record { cut = tt; merged = merged; settled = settled };
  light = All-nil (λ r. weight (pieces_of r) < 2 ^ 31);
}

-- the answer that it was not cut is right
pub uncut_where_settled : {solver : Solver} {old new : List CountedEdge} → IsMerged old new → IsSettled new →
    (false ≡ false) ↔ IsReachedBy solver [] old new
uncut_where_settled merged settled = (λ same. record { cut = tt; merged = merged; settled = settled }, λ reached. refl)

-- where the merged list is not settled, no list is reached without a round
pub cut_where_unsettled : {solver : Solver} {old left new : List CountedEdge} → IsMerged old left →
    ¬ (IsSettled left) → (true ≡ false) ↔ IsReachedBy solver [] old new
cut_where_unsettled {solver} {old} {left} {new} merged unsettled = (
  λ same. absurd (false≢true (sym same)),
  λ reached. absurd (unsettled (subst IsSettled (IsMerged-unique old new left reached.merged merged) reached.settled)),
)

-- one that is not settled stays so without a round
pub unsettled_at_once : (most : ℕ) (old left : List CountedEdge) → most ≡ 0 → IsMerged old left → ¬ (IsSettled left) →
    StaysUnsettled most old
unsettled_at_once most old left none merged unsettled = record {
  rounds = [];
  all_taken = sym none;
  cut = tt;
  left = left;
  merged = merged;
  unsettled = unsettled;
}

-- a round of the solver cuts the first list and leaves the second
abbrev pub Leaves : Solver → List CountedEdge → List CountedEdge → Type 0
Leaves solver old left = (r : Round) × IsRoundBy solver old r × (pieces_of r ≡ left)

-- a list is split if the result of its first round is, which is light
pub split_on : (solver : Solver) (fewer most : ℕ) (old left new : List CountedEdge) → fewer + 1 ≤ most →
    Leaves solver old left → weight left < 2 ^ 31 → IsSplit solver fewer left new → IsSplit solver most old new
split_on solver fewer most old left new le (r, is, left_is) light h =
    let reached : IsReachedBy solver h.rounds (pieces_of r) new = subst
    (λ (es : List CountedEdge). IsReachedBy solver h.rounds es new) (sym left_is) h.reached in
    record {
      rounds = r ∷ h.rounds;
      few = omega (arith, h.few);
      reached = record { cut = (is, reached.cut); merged = reached.merged; settled = reached.settled };
      light = All-cons (λ r. weight (pieces_of r) < 2 ^ 31) r h.rounds
          (subst (λ (es : List CountedEdge). weight es < 2 ^ 31) (sym left_is) light) h.light;
    }

-- it stays unsettled, so the list does
pub unsettled_on : (fewer most : ℕ) (old left : List CountedEdge) → fewer + 1 ≡ most → Leaves Rounds old left →
    StaysUnsettled fewer left → StaysUnsettled most old
unsettled_on fewer most old left e (r, is, left_is) given =
    let h : StaysUnsettled fewer (pieces_of r) = subst (λ (es : List CountedEdge). StaysUnsettled fewer es)
    (sym left_is) given in
    record {
      rounds = r ∷ h.rounds;
      all_taken = omega (arith, h.all_taken);
      cut = (is, h.cut);
      left = h.left;
      merged = h.merged;
      unsettled = h.unsettled;
    }

-- it weighs too much in a later round, so the list does
pub heavy_on : (solver : Solver) (limit fewer most : ℕ) (old left : List CountedEdge) → fewer + 1 ≤ most →
    Leaves solver old left → WeighsTooMuch solver fewer limit left → WeighsTooMuch solver most limit old
heavy_on solver limit fewer most old left le (r, is, left_is) given =
    let h : WeighsTooMuch solver fewer limit (pieces_of r) = subst
    (λ (es : List CountedEdge). WeighsTooMuch solver fewer limit es) (sym left_is) given in
    record { rounds = r ∷ h.rounds; some = omega arith; few = omega (arith, h.few); cut = (is, h.cut); heavy = h.heavy }

-- it weighs too much at once, so the list does after one round
pub heavy_at_once : (solver : Solver) (limit most : ℕ) (old left : List CountedEdge) → 1 ≤ most →
    Leaves solver old left → limit ≤ weight left → WeighsTooMuch solver most limit old
heavy_at_once solver limit most old left le (r, is, left_is) heavy = record {
  rounds = r ∷ [];
  some = omega arith;
  few = le;
  cut = (is, tt);
  heavy = subst (λ (es : List CountedEdge). limit ≤ weight es) (sym left_is) heavy;
}
