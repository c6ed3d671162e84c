-- The definitions computed on small contents: a square, two squares that share an edge, and short closed lists.
use Rattle.std.specs.Prelude.{◌≡◌, refl, ℕ, zero, suc, ◌<◌, ℤ, pos, negsuc, List, [], ◌∷◌, ◌++◌, map}
use Rattle.std.specs.Ordering.{int_eq}
use Rattle.std.proofs.Common.{arith, sym, ◌∙◌, ap, false}
use Rattle.std.proofs.lemmas.Bool.{false≢true}
use Rattle.overlay_geom.specs.Plane.{Point, steps_of}
use Rattle.overlay_geom.specs.Thinned.{IsThinned, thin, drop_one, IsStraightAt}
use Rattle.overlay_geom.specs.Edges.{CountedEdge, subject_edge, clip_edge, weight}
use Rattle.overlay_geom.specs.Merged.{joined_edge}
use Rattle.overlay_geom.specs.declared.fill_rule.FillRule.TheVariants.{EvenOdd, NonZero, Positive, Negative}
use Rattle.overlay_geom.specs.Rules.{fill_bits}

abbrev at : ℕ → ℕ → Point
at x y = record { x = pos x; y = pos y }

abbrev passed : Point → Point → ℤ → ℤ → CountedEdge
passed a b subj clip = record {
  a = a;
  b = b;
  counts = record { subj = subj; clip = clip; along = false; against = false };
}

abbrev corners : List Point
corners = at 0 0 ∷ at 2 0 ∷ at 2 2 ∷ at 0 2 ∷ []

abbrev beside : List Point
beside = at 2 0 ∷ at 4 0 ∷ at 4 2 ∷ at 2 2 ∷ []

abbrev square : List CountedEdge
square = passed (at 0 0) (at 0 2) (negsuc 0) (pos 0) ∷ passed (at 0 0) (at 2 0) (pos 1) (pos 0) ∷ passed (at 0 2)
    (at 2 2) (negsuc 0) (pos 0) ∷ passed (at 2 0) (at 2 2) (pos 1) (pos 0) ∷ []

-- a counterclockwise square as a subject: its lower and right edges are passed forward, its upper and left ones back
square_added : map subject_edge (steps_of corners)
    ≡ passed (at 0 0) (at 2 0) (pos 1) (pos 0) ∷ passed (at 2 0) (at 2 2) (pos 1) (pos 0) ∷ passed (at 0 2) (at 2 2)
    (negsuc 0) (pos 0) ∷ passed (at 0 0) (at 0 2) (negsuc 0) (pos 0) ∷ []
square_added = refl

square_weight : weight square ≡ 4
square_weight = refl

square_bits : map (fill_bits NonZero square) square ≡ 2 ∷ 1 ∷ 2 ∷ 1 ∷ []
square_bits = refl

square_bits_positive : map (fill_bits Positive square) square ≡ 2 ∷ 1 ∷ 2 ∷ 1 ∷ []
square_bits_positive = refl

square_bits_negative : map (fill_bits Negative square) square ≡ 0 ∷ 0 ∷ 0 ∷ 0 ∷ []
square_bits_negative = refl

-- a square as a subject, and one beside it as a clip
abbrev pair : List CountedEdge
pair =
    passed (at 0 0) (at 0 2) (negsuc 0) (pos 0)
    ∷ passed (at 0 0) (at 2 0) (pos 1) (pos 0)
    ∷ passed (at 0 2) (at 2 2) (negsuc 0) (pos 0)
    ∷ passed (at 2 0) (at 2 2) (pos 1) (negsuc 0)
    ∷ passed (at 2 0) (at 4 0) (pos 0) (pos 1)
    ∷ passed (at 2 2) (at 4 2) (pos 0) (negsuc 0)
    ∷ passed (at 4 0) (at 4 2) (pos 0) (pos 1)
    ∷ []

pair_bits : map (fill_bits NonZero pair) pair ≡ 2 ∷ 1 ∷ 2 ∷ 9 ∷ 4 ∷ 8 ∷ 4 ∷ []
pair_bits = refl

-- the edge that the two share, joined of the two that were added
pair_joined : joined_edge (map subject_edge (steps_of corners) ++ map clip_edge (steps_of beside))
    (record { a = at 2 0; b = at 2 2 })
    ≡ passed (at 2 0) (at 2 2) (pos 1) (negsuc 0)
pair_joined = refl

-- a square added twice is filled twice, which is not odd
abbrev twice : List CountedEdge
twice = passed (at 0 0) (at 0 2) (negsuc 1) (pos 0) ∷ passed (at 0 0) (at 2 0) (pos 2) (pos 0) ∷ passed (at 0 2)
    (at 2 2) (negsuc 1) (pos 0) ∷ passed (at 2 0) (at 2 2) (pos 2) (pos 0) ∷ []

twice_bits : map (fill_bits EvenOdd twice) twice ≡ 0 ∷ 0 ∷ 0 ∷ 0 ∷ []
twice_bits = refl

-- ---- closed lists

not_zero : (z : ℤ) → int_eq z (pos 0) ≡ false → ¬ (z ≡ pos 0)
not_zero z f e = false≢true (sym f ∙ ap (λ w. int_eq w (pos 0)) e)

corners_bent : (k : ℕ) → k < 4 → ¬ (IsStraightAt corners k)
corners_bent zero lt = not_zero _ refl
corners_bent (suc zero) lt = not_zero _ refl
corners_bent (suc (suc zero)) lt = not_zero _ refl
corners_bent (suc (suc (suc zero))) lt = not_zero _ refl
corners_bent (suc (suc (suc (suc k)))) lt = absurd (omega arith)

-- a point on an edge of a square is dropped
one_dropped : IsThinned (at 0 0 ∷ at 1 0 ∷ at 2 0 ∷ at 2 2 ∷ at 0 2 ∷ []) corners
one_dropped = drop_one 1 (omega arith) refl (thin corners_bent)

-- a list of two points is thinned to nothing
two_dropped : IsThinned (at 0 0 ∷ at 2 0 ∷ []) []
two_dropped = drop_one 0 (omega arith) refl (drop_one 0 (omega arith) refl (thin (λ k lt. absurd (omega arith))))
