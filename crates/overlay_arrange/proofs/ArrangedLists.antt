-- Facts that follow from the rounds of a split list: the laws of arrangements put together.
use Rattle.std.proofs.Common.{◌≡◌, ℕ, ◌+◌, ◌≤◌, ◌<◌, ◌^◌, List, [], ◌∷◌, length, refl, sym, ap, subst, arith}
use Rattle.std.specs.Prelude.{Result, Ok, Err, OnOk, IfErr, IsErrOf}
use Rattle.std.proofs.lemmas.List.Elements.{All-nil, All-cons}
use Rattle.overlay_geom.specs.declared.error.OverlayError.{OverlayError}
use Rattle.overlay_geom.specs.declared.error.OverlayError.TheVariants.{Memory, NotSettled, TooManyEdges, Failed}
use Rattle.overlay_geom.specs.Plane.{Step}
use Rattle.overlay_geom.specs.Edges.{CountedEdge, ends_of, weight}
use Rattle.overlay_geom.specs.Merged.{IsMerged}
use Rattle.overlay_geom.specs.Settled.{IsSettled}
use Rattle.overlay_geom.specs.declared.solver.Solver.{Solver}
use Rattle.overlay_geom.specs.declared.solver.Solver.TheVariants.{Rounds, Snapping}
use Rattle.overlay_order.specs.Content.{IsContent}
use Rattle.overlay_graph.specs.Arranged.{most_rounds, IsArranged, IsArrangedCarrying, IsSplitCarrying}
use Rattle.overlay_graph.specs.Arranged.{MayRefuseSplitting}
use Rattle.overlay_arrange.proofs.SolverRounds.{TakesRound}
use Rattle.overlay_plane.proofs.AfterRounds.{arrangements_keep_balance, arranged_stays_arranged, no_rounds_again}
use Rattle.overlay_plane.proofs.DerivedLists.{given_weaker}
use Rattle.overlay_plane.proofs.Entries.{Contains-map}
use Rattle.overlay_plane.proofs.ExactRounds.{whole_meetings_are_exact}
use Rattle.overlay_plane.proofs.FarPoints.{arrangements_keep_far_points, moving_few}
use Rattle.overlay_plane.proofs.FarSides.{arrangements_keep_far_sides, snaps_keep_sides_beside}
use Rattle.overlay_plane.proofs.HeldChains.{arrangements_hold_chains}
use Rattle.overlay_plane.proofs.MovedPoints.{moving_rounds}
use Rattle.overlay_plane.specs.Arrangements.{IsReachedBy, IsSplit, StaysUnsettled, WeighsTooMuch}
use Rattle.overlay_plane.specs.Carried.{Carried, edges_in}
use Rattle.overlay_plane.specs.DerivedData.{AreGiven, ArePieces, AreCutAlong, CarriesMerged, GivesPiece}
use Rattle.overlay_plane.specs.DerivedData.{done, round}
use Rattle.overlay_plane.specs.EdgeLists.{IsForwardBy}
use Rattle.overlay_plane.specs.FarSides.{KeepsSidesBeside}
use Rattle.overlay_plane.specs.Meetings.{MeetInWholePoints}
use Rattle.overlay_plane.specs.Rounds.{chain_of, pieces_of}

-- the edges of a content lead forward
pub forward_content : (limit : ℕ) (es : List CountedEdge) → IsContent limit es → IsForwardBy ends_of es
forward_content limit es content = λ k d l. (content.held k d l).forward

-- forward edges that were split by snap rounding keep each side beside its edges
pub snapped_beside : (old new : List CountedEdge) → IsForwardBy ends_of old → IsSplit Snapping 1 old new →
    KeepsSidesBeside old new
snapped_beside old new forward split = snaps_keep_sides_beside split.rounds old new split.few forward split.reached

-- forward edges that were split are arranged
abbrev pub arranged_forward : (solver : Solver) (old new : List CountedEdge) → IsForwardBy ends_of old →
    IsSplit solver (most_rounds solver) old new → IsArranged solver old new
arranged_forward solver old new forward split =
    let moving = moving_rounds split.rounds in
    record {
      rounds = split.rounds;
      few = split.few;
      reached = split.reached;
      light = split.light;
      moving = moving.0;
      moved = moving.1;
      few_moving = omega (arith, split.few, moving_few split.rounds moving.0 moving.1);
      chains = arrangements_hold_chains solver split.rounds moving.0 old new forward split.reached moving.1;
      exact = λ whole. whole_meetings_are_exact.exact solver split.rounds moving.0 old new forward whole
          split.reached moving.1;
      far = arrangements_keep_far_points solver split.rounds moving.0 old new forward split.reached moving.1;
      far_sides = arrangements_keep_far_sides solver split.rounds moving.0 old new forward split.reached moving.1;
      beside = λ snapping. snapped_beside old new forward
          (subst (λ s. IsSplit s (most_rounds s) old new) snapping split);
      balanced = arrangements_keep_balance solver split.rounds old new split.reached;
      stays = λ was. arranged_stays_arranged was.0 solver was.2 split.rounds was.1 old new was.3 split.reached;
    }

-- so is a content
abbrev pub arranged_of_split : (limit : ℕ) (solver : Solver) (old new : List CountedEdge) → IsContent limit old →
    IsSplit solver (most_rounds solver) old new → IsArranged solver old new
arranged_of_split limit solver old new content split = arranged_forward solver old new
    (forward_content limit old content) split

-- the content is arranged if an answer tells that it was split
pub arranged_answer : {T E : Type 0} (limit : ℕ) (solver : Solver) (answer : Result T E) (old new : List CountedEdge) →
    IsContent limit old →
    OnOk answer (IsSplit solver (most_rounds solver) old new) → OnOk answer (IsArranged solver old new)
arranged_answer limit solver (Ok v) old new content h = arranged_of_split limit solver old new content h
arranged_answer limit solver (Err e) old new content h = h

-- where edges meet only in whole points or overlap, more than one round cannot be taken, so they do not stay unsettled
settles_whole : (limit most : ℕ) (old : List CountedEdge) → 2 ≤ most → IsContent limit old → MeetInWholePoints old →
    ¬ (StaysUnsettled most old)
settles_whole limit most old several content whole stays =
    let few = whole_meetings_are_exact.few Rounds stays.rounds old (forward_content limit old content) whole stays.cut
    in
    omega (arith, few, stays.all_taken)

-- a refusal of rounds is one of bringing the edges into an arrangement
refused_so : (limit : ℕ) (solver : Solver) (old : List CountedEdge) (e : OverlayError) → IsContent limit old →
    (e ≡ NotSettled → (solver ≡ Rounds) × StaysUnsettled (most_rounds Rounds) old) →
    (e ≡ TooManyEdges → WeighsTooMuch solver (most_rounds solver) (2 ^ 31) old) → ¬ (e ≡ Failed) →
    MayRefuseSplitting solver old e
refused_so limit solver old Memory content unsettled heavy usable = tt
refused_so limit solver old NotSettled content unsettled heavy usable =
    let by_rounds = (unsettled refl).0 in
    let stays = (unsettled refl).1 in (
      by_rounds,
      record {
        unsettled = stays;
        not_whole = λ whole. settles_whole limit (most_rounds Rounds) old (omega arith) content whole stays;
        not_arranged = λ was. no_rounds_again was.0 Rounds was.2 stays.rounds was.1 old was.3 stays.cut
            (omega (arith, stays.all_taken));
      },
    )
refused_so limit solver old TooManyEdges content unsettled heavy usable = let weighs = heavy refl in record {
  heavy = weighs;
  not_arranged = λ was. no_rounds_again was.0 solver was.2 weighs.rounds was.1 old was.3 weighs.cut weighs.some;
}
refused_so limit solver old Failed content unsettled heavy usable = usable refl

-- an answer that is such a refusal is a refusal to arrange
pub refused_answer : {T : Type 0} (limit : ℕ) (solver : Solver) (answer : Result T OverlayError)
    (old : List CountedEdge) → IsContent limit old →
    (IsErrOf answer NotSettled → (solver ≡ Rounds) × StaysUnsettled (most_rounds Rounds) old) →
    (IsErrOf answer TooManyEdges → WeighsTooMuch solver (most_rounds solver) (2 ^ 31) old) → ¬ (answer ≡ Err Failed) →
    IfErr answer (MayRefuseSplitting solver old)
refused_answer limit solver (Ok v) old content unsettled heavy usable = tt
refused_answer limit solver (Err e) old content unsettled heavy usable =
    refused_so limit solver old e content (λ same. unsettled (ap Err same)) (λ same. heavy (ap Err same))
    (λ same. usable (ap Err same))

-- ---- with the values of edges

module _ {C : Type 0} (merges : C → C → C → Type 0) (splits reverses : C → C → Type 0) where
  -- a merged content that is settled was split without a round
  pub carried_at_once : {solver : Solver} (most : ℕ) (old new : List (Carried C)) →
      IsMerged (edges_in old) (edges_in new) → IsSettled (edges_in new) →
      CarriesMerged merges old new → IsSplitCarrying merges splits reverses solver most old new
  carried_at_once most old new merged settled carries = record {
    split = record {
      rounds = [];
      few = omega arith;
      reached = record { cut = tt; merged = merged; settled = settled };
      light = All-nil (λ r. weight (pieces_of r) < 2 ^ 31);
    };
    derived = done carries;
  }

  -- a content that is merged, led along chains in a round to light pieces, and then split was split with one round more
  pub carried_on : (solver : Solver) (fewer most : ℕ) (old kept left new : List (Carried C))
      (chain : CountedEdge → List Step) → fewer + 1 ≤ most →
      TakesRound solver (edges_in old) (edges_in kept) (edges_in left) chain → CarriesMerged merges old kept →
      AreCutAlong splits reverses chain kept left → weight (edges_in left) < 2 ^ 31 →
      IsSplitCarrying merges splits reverses solver fewer left new →
      IsSplitCarrying merges splits reverses solver most old new
  carried_on solver fewer most old kept left new chain le takes carries cut light h =
      let later : IsReachedBy solver h.split.rounds (pieces_of takes.taken) (edges_in new) =
      subst (λ (es : List CountedEdge). IsReachedBy solver h.split.rounds es (edges_in new)) (sym takes.leaves)
      h.split.reached in
      record {
        split = record {
          rounds = takes.taken ∷ h.split.rounds;
          few = omega (arith, h.split.few);
          reached = record { cut = (takes.is, later.cut); merged = later.merged; settled = later.settled };
          light = All-cons (λ r. weight (pieces_of r) < 2 ^ 31) takes.taken h.split.rounds
              (subst (λ (es : List CountedEdge). weight es < 2 ^ 31) (sym takes.leaves) light) h.split.light;
        };
        derived = round (sym takes.edges) carries
            (given_weaker (ArePieces splits reverses chain) (ArePieces splits reverses (chain_of takes.taken))
            (λ x part at_x pieces. subst (λ (ss : List Step). AreGiven (GivesPiece splits reverses (length ss ≡ 1) x) ss
            part)
            (sym (takes.chains x.edge (Contains-map (λ (y : Carried C). y.edge) kept x at_x))) pieces) cut) h.derived;
      }

  -- where an answer says that a content was split, it is arranged
  pub arranged_carrying : {T E : Type 0} (limit : ℕ) (solver : Solver) (answer : Result T E)
      (old new : List (Carried C)) → IsContent limit (edges_in old) →
      OnOk answer (IsSplitCarrying merges splits reverses solver (most_rounds solver) old new) →
      OnOk answer (IsArrangedCarrying merges splits reverses solver old new)
  arranged_carrying limit solver (Ok v) old new content h =
      record {
        arranged = arranged_of_split limit solver (edges_in old) (edges_in new) content h.split;
        derived = h.derived;
      }
  arranged_carrying limit solver (Err e) old new content h = h
