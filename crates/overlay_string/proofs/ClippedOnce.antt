-- Clips of one arrangement take together each piece of its strings once.
use Rattle.std.proofs.Common.{◌≡◌, inl, inr, Bool, true, false, cond, List, [], ◌∷◌, ◌++◌, Contains, sym, ap}
use Rattle.std.proofs.Common.{◌∙◌, subst}
use Rattle.std.proofs.lemmas.Bool.{both_ways}
use Rattle.std.proofs.lemmas.List.Elements.{All-contains, Contains-append_cases}
use Rattle.std.proofs.lemmas.List.Sorted.{IsPermutation-trans, IsPermutation-append_left, IsPermutation-append_right}
use Rattle.overlay_geom.specs.Edges.{CountedEdge, ends_of, goes_along, goes_against}
use Rattle.overlay_geom.specs.Plane.{Step, point_lt}
use Rattle.overlay_geom.specs.declared.fill_rule.FillRule.{FillRule}
use Rattle.overlay_geom.proofs.Orders.{point_lt-itself}
use Rattle.overlay_plane.specs.EdgeLists.{IsForwardBy}
use Rattle.overlay_plane.proofs.Entries.{Contains-from_flat_map}
use Rattle.overlay_plane.proofs.MarkedLinks.{only_entry}
use Rattle.overlay_string.specs.ClipPieces.{is_kept, string_steps, clip_pieces}
use Rattle.overlay_string.specs.Laws.{PathsTakeEachPieceOnce, EachPieceIsClippedOnce, steps_of_paths, inside_alone}
use Rattle.overlay_string.specs.Laws.{outside_alone, boundary_pieces, string_pieces}
use Rattle.overlay_string.specs.declared.clip_rule.ClipRule.{ClipRule}
use Rattle.overlay_string.proofs.PartedPieces.{pieces_parted}
use Rattle.overlay_string.proofs.PiecesInPaths.{pieces_in_paths}

-- what is in a list, if there is one
kept_in : {X : Type 0} (b : Bool) (xs : List X) (x : X) → Contains (cond b xs []) x → Contains xs x
kept_in true xs x c = c
kept_in false xs x c = elim c.1 [ ]

-- a piece along an edge that leads forward is a step between two points
piece_is_long : (e : CountedEdge) → point_lt e.a e.b ≡ true → (s : Step) → Contains (string_steps e) s →
    ¬ (s.from ≡ s.to)
piece_is_long e forward s c =
    elim (Contains-append_cases (cond (goes_along e) (along ∷ []) []) (cond (goes_against e) (against ∷ []) []) s c) [
      | inl here ↦ λ same. apart (ap (λ (t : Step). t.from)
          (only_entry along s (kept_in (goes_along e) (along ∷ []) s here))
          ∙ same ∙ sym (ap (λ (t : Step). t.to) (only_entry along s (kept_in (goes_along e) (along ∷ []) s here))))
      | inr there ↦ λ same. apart (ap (λ (t : Step). t.to)
          (only_entry against s (kept_in (goes_against e) (against ∷ []) s there))
          ∙ sym same
          ∙ sym (ap (λ (t : Step). t.from) (only_entry against s (kept_in (goes_against e) (against ∷ []) s there))))
    ]
  where
    along : Step
    along = record { from = e.a; to = e.b }

    against : Step
    against = record { from = e.b; to = e.a }

    apart : ¬ (e.a ≡ e.b)
    apart same = both_ways (point_lt e.a e.b) (subst (λ p. point_lt e.a p ≡ false) same (point_lt-itself e.a)) forward

-- the pieces that a clip keeps are
pieces_are_long : (fill : FillRule) (rule : ClipRule) (es : List CountedEdge) → IsForwardBy ends_of es → (s : Step) →
    Contains (clip_pieces fill rule es) s → ¬ (s.from ≡ s.to)
pieces_are_long fill rule es forward s c =
    let found = Contains-from_flat_map (λ e. cond (is_kept fill rule es e) (string_steps e) []) es s c in
    let e = found.0 in
    piece_is_long e (All-contains (λ e. point_lt e.a e.b ≡ true) es e forward found.1) s
    (kept_in (is_kept fill rule es e) (string_steps e) s found.2)

-- the laws
pub paths_take_each_piece_once : PathsTakeEachPieceOnce
paths_take_each_piece_once fill rule es paths forward h =
    pieces_in_paths (clip_pieces fill rule es) paths (pieces_are_long fill rule es forward) h

pub each_piece_is_clipped_once : EachPieceIsClippedOnce
each_piece_is_clipped_once fill es inside outside forward in_paths out_paths =
    IsPermutation-trans (string_pieces es) (kept_inside ++ (kept_outside ++ boundary))
    (steps_of_paths inside ++ (steps_of_paths outside ++ boundary))
    (pieces_parted fill es)
    (IsPermutation-trans (kept_inside ++ (kept_outside ++ boundary))
    (steps_of_paths inside ++ (kept_outside ++ boundary))
    (steps_of_paths inside ++ (steps_of_paths outside ++ boundary))
    (IsPermutation-append_left (kept_outside ++ boundary) kept_inside (steps_of_paths inside)
    (paths_take_each_piece_once fill inside_alone es inside forward in_paths))
    (IsPermutation-append_right (steps_of_paths inside) (kept_outside ++ boundary) (steps_of_paths outside ++ boundary)
    (IsPermutation-append_left boundary kept_outside (steps_of_paths outside)
    (paths_take_each_piece_once fill outside_alone es outside forward out_paths))))
  where
    kept_inside : List Step
    kept_inside = clip_pieces fill inside_alone es

    kept_outside : List Step
    kept_outside = clip_pieces fill outside_alone es

    boundary : List Step
    boundary = boundary_pieces fill es
