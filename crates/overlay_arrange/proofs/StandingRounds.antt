-- A list that stands for another: both have the same rounds.
use Rattle.std.proofs.Common.{ℕ, ◌≤◌, List, [], ◌∷◌, length, arith}
use Rattle.overlay_geom.specs.Edges.{CountedEdge, weight}
use Rattle.overlay_geom.specs.Merged.{IsMerged}
use Rattle.overlay_geom.specs.declared.solver.Solver.TheVariants.{Rounds}
use Rattle.overlay_graph.specs.Arranged.{IsSplitCarrying}
use Rattle.overlay_plane.specs.Arrangements.{IsSplit, StaysUnsettled, WeighsTooMuch}
use Rattle.overlay_plane.specs.Carried.{Carried, edges_in}
use Rattle.overlay_plane.specs.DerivedData.{AreDerived, done, round}
use Rattle.overlay_plane.specs.RoundLists.{AreRounds}
use Rattle.overlay_plane.specs.Rounds.{Round, after_rounds}
use Rattle.overlay_arrange.specs.Batches.{StandFor}
use Rattle.overlay_arrange.proofs.StandingLists.{carries_of_standing, merged_of_standing}

module _ {C : Type 0} (merges : C → C → C → Type 0) {all some : List (Carried C)} (stands : StandFor merges all some)
  where
    rounds_for : (rs : List Round) → AreRounds Rounds (edges_in some) rs → AreRounds Rounds (edges_in all) rs
    rounds_for [] are = tt
    rounds_for (r ∷ rs) are = (
      record {
        merged = merged_of_standing merges r.edges stands are.0.merged;
        unsettled = are.0.unsettled;
        cut = are.0.cut;
        rounding = are.0.rounding;
      },
      are.1,
    )

    merged_after : (rs : List Round) (new : List CountedEdge) → IsMerged (after_rounds (edges_in some) rs) new →
        IsMerged (after_rounds (edges_in all) rs) new
    merged_after [] new merged = merged_of_standing merges new stands merged
    merged_after (r ∷ rs) new merged = merged

    heavy_after : (limit : ℕ) (rs : List Round) → 1 ≤ length rs → limit ≤ weight (after_rounds (edges_in some) rs) →
        limit ≤ weight (after_rounds (edges_in all) rs)
    heavy_after limit [] count heavy = absurd (omega (arith, count))
    heavy_after limit (r ∷ rs) count heavy = heavy

    -- both are split into the same edges
    pub split_for : (most : ℕ) (new : List CountedEdge) → IsSplit Rounds most (edges_in some) new →
        IsSplit Rounds most (edges_in all) new
    split_for most new h = record {
      rounds = h.rounds;
      few = h.few;
      reached = record {
        cut = rounds_for h.rounds h.reached.cut;
        merged = merged_after h.rounds new h.reached.merged;
        settled = h.reached.settled;
      };
      light = h.light;
    }

    -- if the first stays unsettled, so does the second
    pub unsettled_for : (most : ℕ) → StaysUnsettled most (edges_in some) → StaysUnsettled most (edges_in all)
    unsettled_for most h = record {
      rounds = h.rounds;
      all_taken = h.all_taken;
      cut = rounds_for h.rounds h.cut;
      left = h.left;
      merged = merged_after h.rounds h.left h.merged;
      unsettled = h.unsettled;
    }

    -- if the first weighs too much, so does the second
    pub heavy_for : (most limit : ℕ) → WeighsTooMuch Rounds most limit (edges_in some) →
        WeighsTooMuch Rounds most limit (edges_in all)
    heavy_for most limit h = record {
      rounds = h.rounds;
      some = h.some;
      few = h.few;
      cut = rounds_for h.rounds h.cut;
      heavy = heavy_after limit h.rounds h.some h.heavy;
    }

    module _ (splits reverses : C → C → Type 0) where
      derived_for : {rs : List Round} {new : List (Carried C)} → AreDerived merges splits reverses rs some new →
          AreDerived merges splits reverses rs all new
      derived_for {new = new} (done carries) = done (carries_of_standing merges new stands carries)
      derived_for (round {kept = kept} edges carries cut more) =
          round edges (carries_of_standing merges kept stands carries) cut more

      -- the values derive too
      pub carrying_for : (most : ℕ) (new : List (Carried C)) →
          IsSplitCarrying merges splits reverses Rounds most some new →
          IsSplitCarrying merges splits reverses Rounds most all new
      unfolding split_for
      carrying_for most new h = record {
        split = split_for most (edges_in new) h.split;
        derived = derived_for h.derived;
      }
