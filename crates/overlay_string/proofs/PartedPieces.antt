-- The pieces along edges, parted by tests of which each edge passes one alone.
use Rattle.std.proofs.Common.{◌≡◌, Bool, true, false, cond, List, [], ◌++◌, ◌∷◌, refl, sym, subst, append_assoc}
use Rattle.std.specs.List.{flat_map}
use Rattle.std.specs.List.Sorted.{IsPermutation}
use Rattle.std.specs.Prelude.{◌==◌}
use Rattle.std.proofs.lemmas.Bool.{false≢true}
use Rattle.std.proofs.lemmas.List.Sorted.{IsPermutation-refl, IsPermutation-trans, IsPermutation-append_right}
use Rattle.overlay_geom.specs.Edges.{CountedEdge}
use Rattle.overlay_geom.specs.Rules.{fills_of}
use Rattle.overlay_geom.specs.declared.fill_rule.FillRule.{FillRule}
use Rattle.overlay_plane.proofs.SplitLists.{IsPermutation-past}
use Rattle.overlay_string.specs.ClipPieces.{filled_side_count, keeps_sides, is_kept, string_steps, clip_pieces}
use Rattle.overlay_string.specs.Laws.{inside_alone, outside_alone, is_on_boundary, boundary_pieces, string_pieces}

-- one of the three tests is passed, and the other two are not
abbrev is_one_of : Bool → Bool → Bool → Bool
is_one_of true b c = cond b false (cond c false true)
is_one_of false true c = cond c false true
is_one_of false false c = c

module _ {X Y : Type 0} (f : X → List Y) where
  -- the parts of the entries that pass a test
  abbrev parts_by : (X → Bool) → List X → List Y
  parts_by test xs = flat_map (λ x. cond (test x) (f x) []) xs

  -- the parts of all entries are those by each of the tests
  parted : (p q r : X → Bool) → ((x : X) → is_one_of (p x) (q x) (r x) ≡ true) → (xs : List X) →
      IsPermutation (flat_map f xs) (parts_by p xs ++ (parts_by q xs ++ parts_by r xs))
  parted p q r one [] = IsPermutation-refl []
  parted p q r one (x ∷ xs) = by (p x) (q x) (r x) (one x) (parted p q r one xs)
    where
      all : List Y
      all = flat_map f xs

      first : List Y
      first = parts_by p xs

      second : List Y
      second = parts_by q xs

      third : List Y
      third = parts_by r xs

      by : (a b c : Bool) → is_one_of a b c ≡ true → IsPermutation all (first ++ (second ++ third)) →
          IsPermutation (f x ++ all)
          ((cond a (f x) [] ++ first) ++ ((cond b (f x) [] ++ second) ++ (cond c (f x) [] ++ third)))
      by true false false e rest = subst (IsPermutation (f x ++ all)) (sym (append_assoc (f x) first (second ++ third)))
          (IsPermutation-append_right (f x) all (first ++ (second ++ third)) rest)
      by false true false e rest =
          subst (λ l. IsPermutation (f x ++ all) (first ++ l)) (sym (append_assoc (f x) second third))
          (IsPermutation-trans (f x ++ all) (f x ++ (first ++ (second ++ third))) (first ++ (f x ++ (second ++ third)))
          (IsPermutation-append_right (f x) all (first ++ (second ++ third)) rest)
          (IsPermutation-past (f x) first (second ++ third)))
      by false false true e rest =
          IsPermutation-trans (f x ++ all) (f x ++ (first ++ (second ++ third))) (first ++ (second ++ (f x ++ third)))
          (IsPermutation-append_right (f x) all (first ++ (second ++ third)) rest)
          (IsPermutation-trans (f x ++ (first ++ (second ++ third))) (first ++ (f x ++ (second ++ third)))
          (first ++ (second ++ (f x ++ third))) (IsPermutation-past (f x) first (second ++ third))
          (IsPermutation-append_right first (f x ++ (second ++ third)) (second ++ (f x ++ third))
          (IsPermutation-past (f x) second third)))
      by true true c e rest = absurd (false≢true e)
      by true false true e rest = absurd (false≢true e)
      by false true true e rest = absurd (false≢true e)
      by false false false e rest = absurd (false≢true e)

-- an edge lies inside, outside, or on the boundary
one_place : (above below : Bool) →
    is_one_of (keeps_sides inside_alone above below) (keeps_sides outside_alone above below)
    (filled_side_count above below == 1) ≡ true
one_place true true = refl
one_place true false = refl
one_place false true = refl
one_place false false = refl

-- so the pieces inside, those outside, and those on the boundary are all pieces
pub pieces_parted : (fill : FillRule) (es : List CountedEdge) →
    IsPermutation (string_pieces es)
    (clip_pieces fill inside_alone es ++ (clip_pieces fill outside_alone es ++ boundary_pieces fill es))
pieces_parted fill es =
    parted string_steps (is_kept fill inside_alone es) (is_kept fill outside_alone es) (is_on_boundary fill es)
    (λ e. one_place (fills_of fill es e).subj_above (fills_of fill es e).subj_below) es
