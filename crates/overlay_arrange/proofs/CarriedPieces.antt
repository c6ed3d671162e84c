-- The pieces of an edge with their values: the program's piece of a step, and pieces added to others.
use Rattle.std.proofs.Common.{◌≡◌, Bool, true, false, cond, List, [], ◌∷◌, ◌++◌, map, length, get_or, refl, sym, ap}
use Rattle.std.proofs.Common.{subst, ◌∙◌, append_assoc, append-nil}
use Rattle.std.specs.Prelude.{IsTrue, MatchBool, ◌↔◌}
use Rattle.std.specs.declared.cmp.Ordering.TheVariants.{Less, Equal, Greater}
use Rattle.std.proofs.lemmas.Bool.{false≢true}
use Rattle.overlay_geom.specs.Counts.{Counts, reversed_counts}
use Rattle.overlay_geom.specs.Plane.{Point, Step, point_eq, point_lt, steps_between, steps_through}
use Rattle.overlay_geom.specs.Edges.{CountedEdge}
use Rattle.overlay_plane.specs.Carried.{Carried}
use Rattle.overlay_plane.specs.Cutting.{piece_along}
use Rattle.overlay_plane.specs.DerivedData.{AreGiven, none, ArePieces, GivesPiece}
use Rattle.overlay_plane.proofs.DerivedLists.{given_both, given_one, given_weaker}
use Rattle.overlay_order.specs.Content.{edge_with, point_cmp}
use Rattle.overlay_arrange.specs.Cut.{chain_by, AddsGiven, LeadingPoints, StaysWhole}
use Rattle.overlay_arrange.proofs.Pieces.{back_where_greater, on_where_less, same_where_equal, piece_back, piece_forth}

-- ---- added items

module _ {X Y : Type 0} (gives : X → List Y → Type 0) where
  -- nothing is added
  pub adds_none : (ys : List Y) → AddsGiven gives [] ys ys
  adds_none ys = record { more = []; given = none; added = sym (append-nil ys) }

  -- items added after other items are added with them
  pub adds_both : {xs zs : List X} {old mid new : List Y} → AddsGiven gives xs old mid → AddsGiven gives zs mid new →
      AddsGiven gives (xs ++ zs) old new
  adds_both {old} first later = record {
    more = first.more ++ later.more;
    given = given_both gives first.given later.given;
    added = later.added ∙ ap (λ ys. ys ++ later.more) first.added ∙ append_assoc old first.more later.more;
  }

  -- items added to nothing are all
  pub adds_all : {xs : List X} {new : List Y} → AddsGiven gives xs [] new → AreGiven gives xs new
  adds_all {xs} adds = subst (AreGiven gives xs) (sym adds.added) adds.given

-- ---- the piece of a step

module _ {C : Type 0} (splits reverses : C → C → Type 0) where
  -- an edge stays whole where another test says so
  pub gives_alike : (IsWhole Stays : Type 0) → IsWhole ↔ Stays → (x : Carried C) (s : Step) (ys : List (Carried C)) →
      GivesPiece splits reverses IsWhole x s ys → GivesPiece splits reverses Stays x s ys
  gives_alike IsWhole Stays same x s ys (y, is, piece) = (
    y,
    is,
    record {
      edge = piece.edge;
      part = piece.part;
      kept = λ stays. piece.kept (same.1 stays);
      split = λ not_so. piece.split (λ whole. not_so (same.0 whole));
      reversed = piece.reversed;
    },
  )

  -- pieces are added in that sense too
  pub adds_alike : (IsWhole Stays : Type 0) → IsWhole ↔ Stays →
      (x : Carried C) {ss : List Step} {old new : List (Carried C)} →
      AddsGiven (GivesPiece splits reverses IsWhole x) ss old new →
      AddsGiven (GivesPiece splits reverses Stays x) ss old new
  adds_alike IsWhole Stays same x {ss} adds = record {
    more = adds.more;
    given = given_weaker (GivesPiece splits reverses IsWhole x) (GivesPiece splits reverses Stays x)
        (λ s ys at. gives_alike IsWhole Stays same x s ys) adds.given;
    added = adds.added;
  }

  -- between equal points there is no piece
  pub none_given : (IsWhole : Type 0) (x : Carried C) (p q : Point) → point_cmp p q ≡ Equal →
      AreGiven (GivesPiece splits reverses IsWhole x) (steps_between p q) []
  none_given IsWhole x p q equal =
      subst (λ (ss : List Step). AreGiven (GivesPiece splits reverses IsWhole x) ss [])
      (sym (ap (λ t. cond t [] (record { from = p; to = q } ∷ [])) (same_where_equal p q equal))) none

  -- between two other points there is one
  given_piece : (is_whole : Bool) (x y : Carried C) (p q : Point) (part : C) → point_eq p q ≡ false →
      y.edge ∷ [] ≡ map (piece_along x.edge) (steps_between p q) → MatchBool is_whole (part ≡ x.carries)
      (splits x.carries part) →
      MatchBool (point_lt p q) (y.carries ≡ part) (reverses part y.carries) →
      AreGiven (GivesPiece splits reverses (IsTrue is_whole) x) (steps_between p q) (y ∷ [])
  given_piece is_whole x y p q part apart is cut reversed =
      subst (λ (ss : List Step). AreGiven (GivesPiece splits reverses (IsTrue is_whole) x) ss (y ∷ [])) (sym one_step)
      (given_one (GivesPiece splits reverses (IsTrue is_whole) x) step (y ∷ []) (
        y,
        refl,
        record {
          edge = head_is (is ∙ ap (map (piece_along x.edge)) one_step);
          part = part;
          kept = kept is_whole cut;
          split = split is_whole cut;
          reversed = reversed;
        },
      ))
    where
      step : Step
      step = record { from = p; to = q }

      one_step : steps_between p q ≡ step ∷ []
      one_step = ap (λ t. cond t [] (record { from = p; to = q } ∷ [])) apart

      head_is : y.edge ∷ [] ≡ piece_along x.edge step ∷ [] → y.edge ≡ piece_along x.edge step
      head_is same = ap (λ (es : List CountedEdge). get_or es 0 y.edge) same

      kept : (b : Bool) → MatchBool b (part ≡ x.carries) (splits x.carries part) → IsTrue b → part ≡ x.carries
      kept true h whole = h
      kept false h whole = absurd (false≢true whole)

      split : (b : Bool) → MatchBool b (part ≡ x.carries) (splits x.carries part) → ¬ (IsTrue b) → splits x.carries part
      split true h not_so = absurd (not_so refl)
      split false h not_so = h

module _ {C : Type 0} (splits reverses : C → C → Type 0) (is_whole : Bool) (a b p q : Point) (counts : C → Counts)
    (c part : C) where
  -- a piece that runs along its edge carries the part
  pub piece_given_along : point_cmp p q ≡ Less → counts part ≡ counts c →
      MatchBool is_whole (part ≡ c) (splits c part) →
      AreGiven (GivesPiece splits reverses (IsTrue is_whole) (record { edge = edge_with a b (counts c); carries = c }))
      (steps_between p q)
      (record { edge = edge_with p q (counts part); carries = part } ∷ [])
  piece_given_along less same cut =
      let leads = on_where_less p q less in
      given_piece splits reverses is_whole (record { edge = edge_with a b (counts c); carries = c })
      (record { edge = edge_with p q (counts part); carries = part }) p q part
      leads.apart (piece_forth a b p q (counts c) (counts part) less same) cut
      (subst (λ t. MatchBool t (part ≡ part) (reverses part part)) (sym leads.on) refl)

  -- a piece that runs against its edge carries the reversed value
  pub piece_given_back : (reversed : C) → point_cmp p q ≡ Greater → counts reversed ≡ reversed_counts (counts c) →
      MatchBool is_whole (part ≡ c) (splits c part) →
      reverses part reversed →
      AreGiven (GivesPiece splits reverses (IsTrue is_whole) (record { edge = edge_with a b (counts c); carries = c }))
      (steps_between p q)
      (record { edge = edge_with q p (counts reversed); carries = reversed } ∷ [])
  piece_given_back reversed greater same cut reverses_so =
      let leads = back_where_greater p q greater in
      given_piece splits reverses is_whole (record { edge = edge_with a b (counts c); carries = c })
      (record { edge = edge_with q p (counts reversed); carries = reversed }) p q part
      leads.apart (piece_back a b p q (counts c) (counts reversed) greater same) cut
      (subst (λ t. MatchBool t (reversed ≡ part) (reverses part reversed)) (sym leads.back) reverses_so)

-- ---- the pieces of an edge

-- pieces added along the chain of an edge are the edge's pieces, through whichever points that chain was found
pub pieces_added : {C : Type 0} (splits reverses : C → C → Type 0) (points : LeadingPoints) (x : Carried C)
    (vs : List Point) {old new : List (Carried C)} →
    steps_through x.edge.a (vs ++ x.edge.b ∷ []) ≡ chain_by points x.edge →
    StaysWhole x.edge vs ↔ (length (chain_by points x.edge) ≡ 1) →
    AddsGiven (GivesPiece splits reverses (StaysWhole x.edge vs) x) (steps_through x.edge.a (vs ++ x.edge.b ∷ [])) old
    new →
    AddsGiven (ArePieces splits reverses (chain_by points)) (x ∷ []) old new
pieces_added splits reverses points x vs {old} {new} chain whole adds =
    let gives = GivesPiece splits reverses (length (chain_by points x.edge) ≡ 1) x in
    let alike = subst (λ ss. AddsGiven gives ss old new) chain
    (adds_alike splits reverses (StaysWhole x.edge vs) (length (chain_by points x.edge) ≡ 1) whole x adds) in
    record {
      more = alike.more;
      given = given_one (ArePieces splits reverses (chain_by points)) x alike.more
          alike.given;
      added = alike.added;
    }
