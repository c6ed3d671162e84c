-- The counts of a piece of an edge follow the sign of its step, and its marks are the edge's marks in the direction of
-- the step. Their weight is that of the edge.
use Rattle.std.proofs.Common.{◌≡◌, ℕ, Bool, true, false, cond, ℤ, pos, negsuc, neg_ℤ, ◌*ℤ◌, refl, arith}
use Rattle.std.specs.Prelude.{nat_abs}
use Rattle.std.proofs.lemmas.Int.{ints}
use Rattle.overlay_geom.specs.Counts.{Counts, reversed_counts, weight_of_counts}
use Rattle.overlay_geom.specs.Plane.{Step, is_forward, sign_of}
use Rattle.overlay_geom.specs.Edges.{CountedEdge, subj_of, clip_of}
use Rattle.overlay_geom.proofs.Weights.{edge_weight}
use Rattle.overlay_plane.specs.Cutting.{piece_along}

-- a number times 1, and times 1 back
times_on : (z : ℤ) → z ≡ pos 1 *ℤ z
times_on z = omega (arith, ints)

times_back : (z : ℤ) → neg_ℤ z ≡ negsuc 0 *ℤ z
times_back z = omega (arith, ints)

-- the counts of a piece are the edge's times the sign of the step
pub subj_of_piece : (e : CountedEdge) (s : Step) → subj_of (piece_along e s) ≡ sign_of s *ℤ subj_of e
subj_of_piece e s = by (is_forward s) e.counts
  where
    by : (t : Bool) (c : Counts) → (cond t c (reversed_counts c)).subj ≡ cond t (pos 1) (negsuc 0) *ℤ c.subj
    by true c = times_on c.subj
    by false c = times_back c.subj

pub clip_of_piece : (e : CountedEdge) (s : Step) → clip_of (piece_along e s) ≡ sign_of s *ℤ clip_of e
clip_of_piece e s = by (is_forward s) e.counts
  where
    by : (t : Bool) (c : Counts) → (cond t c (reversed_counts c)).clip ≡ cond t (pos 1) (negsuc 0) *ℤ c.clip
    by true c = times_on c.clip
    by false c = times_back c.clip

-- the weight of a count does not ask for its sign
pub weight_reversed : (z : ℤ) → nat_abs (neg_ℤ z) ≡ nat_abs z
weight_reversed (pos ℕ.zero) = refl
weight_reversed (pos (ℕ.suc n)) = refl
weight_reversed (negsuc n) = refl

-- a piece has the weight of the edge
pub edge_weight-piece : (e : CountedEdge) (s : Step) → edge_weight (piece_along e s) ≡ edge_weight e
edge_weight-piece e s = by (is_forward s) e.counts
  where
    by : (t : Bool) (c : Counts) → weight_of_counts (cond t c (reversed_counts c)) ≡ weight_of_counts c
    by true c = refl
    by false c =
        let subj = weight_reversed c.subj in
        let clip = weight_reversed c.clip in
        omega arith
