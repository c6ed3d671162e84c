-- Counts of how often paths pass an edge, and their values where edges are merged or reversed.
use Rattle.std.specs.Prelude.{ℕ, ◌+◌, Bool, cond, not, ◌&&◌, ◌||◌, ℤ, pos, neg_ℤ, nat_abs, ◌+ℤ◌}
use Rattle.std.specs.Ordering.{int_eq}

-- how often the subject, and the clip, pass an edge from its smaller to its larger end, minus how often they pass it
-- back. `along` and `against` mark added strings that pass it from the smaller to the larger end, and back
pub record Counts : Type 0 where
  pub subj : ℤ
  pub clip : ℤ
  pub along : Bool
  pub against : Bool

-- the sum of the counts of two equal edges, with the marks of both
abbrev pub joined_counts : Counts → Counts → Counts
joined_counts c k = record {
  subj = c.subj +ℤ k.subj;
  clip = c.clip +ℤ k.clip;
  along = c.along || k.along;
  against = c.against || k.against;
}

-- the counts of the reversed edge: opposite signs, and the two marks exchanged
abbrev pub reversed_counts : Counts → Counts
reversed_counts c = record { subj = neg_ℤ c.subj; clip = neg_ℤ c.clip; along = c.against; against = c.along }

-- no path passes: both counts are zero, and no string is marked
abbrev pub are_zero : Counts → Bool
are_zero c = int_eq c.subj (pos 0) && int_eq c.clip (pos 0) && not c.along && not c.against

-- the weight of counts: their absolute values, and 1 for each mark
abbrev pub weight_of_counts : Counts → ℕ
weight_of_counts c = nat_abs c.subj + nat_abs c.clip + cond c.along 1 0 + cond c.against 1 0
