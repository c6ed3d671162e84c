-- The pieces of edges that may be parted: those of a parted edge are those of its parts, and those of two joined edges
-- are those of both apart.
use Rattle.std.proofs.Common.{◌≡◌, ◌⊎◌, ⊎_elim, inl, inr, Bool, true, false, cond, List, [], ◌∷◌, ◌++◌, refl, sym, ap}
use Rattle.std.proofs.Common.{◌∙◌, subst, append_assoc, length, Contains, ℤ, neg_ℤ, ◌+ℤ◌, arith}
use Rattle.std.specs.Prelude.{MatchBool}
use Rattle.std.proofs.lemmas.List.Sorted.{IsPermutation-cons}
use Rattle.overlay_geom.specs.Counts.{Counts, joined_counts, reversed_counts}
use Rattle.overlay_geom.specs.Edges.{CountedEdge, ends_of}
use Rattle.overlay_geom.specs.Plane.{Step, edge_of, is_forward}
use Rattle.overlay_geom.proofs.Signs.{linear}
use Rattle.overlay_plane.specs.Carried.{Carried}
use Rattle.overlay_plane.specs.Cutting.{piece_along}
use Rattle.overlay_plane.specs.DerivedData.{AreCutAlong, AreGiven, none, next, ArePieces, GivesPiece, IsPieceOf}
use Rattle.overlay_plane.proofs.DerivedLists.{given_both, given_weaker}
use Rattle.overlay_arrange.specs.Batches.{StandFor}
use Rattle.overlay_arrange.specs.Parting.{MayPart}
use Rattle.overlay_arrange.specs.Runs.{loaded}
use Rattle.overlay_arrange.proofs.StandingLists.{stand_on, stand_same}
use Rattle.overlay_arrange.proofs.StandingParts.{moved_in, stand_joined, stand_shuffled}

-- whether a list has one item
pub one_or_not : {X : Type 0} (xs : List X) → (length xs ≡ 1) ⊎ ¬ (length xs ≡ 1)
one_or_not [] = inr (λ is. omega (arith, is))
one_or_not (x ∷ []) = inl refl
one_or_not (x ∷ y ∷ ys) = inr (λ is. omega (arith, is))

-- the reversed sum of counts is the sum of the reversed ones
joined_turned : (f : Bool) (c k : Counts) → cond f (joined_counts c k) (reversed_counts (joined_counts c k))
    ≡ joined_counts (cond f c (reversed_counts c)) (cond f k (reversed_counts k))
joined_turned true c k = refl
joined_turned false c k = λ i. record {
  subj = turned c.subj k.subj i;
  clip = turned c.clip k.clip i;
  along = (joined_counts c k).against;
  against = (joined_counts c k).along;
}
  where
    turned : (a b : ℤ) → neg_ℤ (a +ℤ b) ≡ neg_ℤ a +ℤ neg_ℤ b
    turned a b = omega linear

-- a piece of an edge with summed counts has the sum of the counts of the pieces
joined_piece : (x y both : CountedEdge) (s : Step) → both.counts ≡ joined_counts x.counts y.counts →
    piece_along both s ≡ loaded (piece_along x s) (piece_along y s)
joined_piece x y both s sum =
    ap (λ c. with_counts (cond (is_forward s) c (reversed_counts c))) sum
    ∙ ap with_counts (joined_turned (is_forward s) x.counts y.counts)
  where
    with_counts : Counts → CountedEdge
    with_counts c = record { a = (edge_of s).a; b = (edge_of s).b; counts = c }

module _ {C : Type 0} (merges : C → C → C → Type 0) (splits reverses : C → C → Type 0)
    (may : MayPart merges splits reverses) where
  -- y is the piece of x along the step, and carries a copy of its value, reversed where the step leads back
  abbrev pub IsCopied : Carried C → Step → Carried C → Type 0
  IsCopied x s y = (y.edge ≡ piece_along x.edge s)
      × MatchBool (is_forward s) (y.carries ≡ x.carries) (reverses x.carries y.carries)

  -- each piece is so
  pub copied_piece : (IsWhole : Type 0) → IsWhole ⊎ ¬ IsWhole → (x : Carried C) (s : Step) (y : Carried C) →
      IsPieceOf splits reverses IsWhole x s y → IsCopied x s y
  copied_piece IsWhole whole x s y piece =
      let is : piece.part ≡ x.carries = ⊎_elim piece.kept
      (λ not_so. may.copied x.carries piece.part (piece.split not_so)) whole in (
        piece.edge,
        subst (λ c. MatchBool (is_forward s) (y.carries ≡ c) (reverses c y.carries)) is piece.reversed,
      )

  -- and such a piece is one, whether or not the edge stays whole
  pub piece_copied : (IsWhole : Type 0) (x : Carried C) (s : Step) (y : Carried C) → IsCopied x s y →
      IsPieceOf splits reverses IsWhole x s y
  piece_copied IsWhole x s y (edge, value) = record {
    edge = edge;
    part = x.carries;
    kept = λ whole. refl;
    split = λ not_so. may.copies x.carries;
    reversed = value;
  }

  -- the pieces of an edge are those of another with its counts and its value
  pub pieces_copied : (IsWhole Stays : Type 0) → IsWhole ⊎ ¬ IsWhole → (x z : Carried C) →
      ((s : Step) (y : Carried C) → IsCopied x s y → IsCopied z s y) → {ss : List Step} {ys : List (Carried C)} →
      AreGiven (GivesPiece splits reverses IsWhole x) ss ys → AreGiven (GivesPiece splits reverses Stays z) ss ys
  pieces_copied IsWhole Stays whole x z copies {ss} {ys} pieces =
      given_weaker (GivesPiece splits reverses IsWhole x) (GivesPiece splits reverses Stays z)
      (λ s part at given. (
        given.0,
        given.1,
        piece_copied Stays z s given.0 (copies s given.0 (copied_piece IsWhole whole x s given.0 given.2)),
      )) pieces

  -- ---- a parted edge

  module _ (old new : CountedEdge → List Step) where
    -- edges with the same chains have the same pieces
    pub same_pieces : (xs : List (Carried C)) {ys : List (Carried C)} →
        ((x : Carried C) → Contains xs x → old x.edge ≡ new x.edge) →
        AreCutAlong splits reverses new xs ys → AreCutAlong splits reverses old xs ys
    same_pieces xs {ys} same cut = given_weaker (ArePieces splits reverses new) (ArePieces splits reverses old)
        (λ x part at given. subst (λ (ss : List Step). AreGiven (GivesPiece splits reverses (length ss ≡ 1) x) ss part)
        (sym (same x at)) given) cut

    -- the pieces of the parts, one behind the other, are those of the edge
    pub pieces_of_parts : (part low high : Carried C) (rest : List (Carried C)) {ys : List (Carried C)} →
        ((s : Step) (y : Carried C) → IsCopied low s y → IsCopied part s y) →
        ((s : Step) (y : Carried C) → IsCopied high s y → IsCopied part s y) →
        old part.edge ≡ new low.edge ++ new high.edge →
        ((x : Carried C) → Contains rest x → old x.edge ≡ new x.edge) →
        AreCutAlong splits reverses new (low ∷ high ∷ rest) ys → AreCutAlong splits reverses old (part ∷ rest) ys
    pieces_of_parts part low high rest low_copies high_copies chain same
        (next {part = ps} of_low (next {part = qs} {rest = zs} of_high more)) =
        subst (AreCutAlong splits reverses old (part ∷ rest)) (append_assoc ps qs zs)
        (next (subst (λ (ss : List Step). AreGiven (GivesPiece splits reverses (length ss ≡ 1) part) ss (ps ++ qs))
        (sym chain) (given_both (GivesPiece splits reverses (length (new low.edge ++ new high.edge) ≡ 1) part)
        (pieces_copied (length (new low.edge) ≡ 1) (length (new low.edge ++ new high.edge) ≡ 1)
        (one_or_not (new low.edge)) low part low_copies of_low)
        (pieces_copied (length (new high.edge) ≡ 1) (length (new low.edge ++ new high.edge) ≡ 1)
        (one_or_not (new high.edge)) high part high_copies of_high)))
        (same_pieces rest same more))

  -- ---- two joined edges

  module _ (x y both : Carried C) (sum : both.edge.counts ≡ joined_counts x.edge.counts y.edge.counts)
      (makes : merges x.carries y.carries both.carries) where
    -- values of pieces of the two, of which the value of a piece of both is a merge
    record ValuesApart (f : Bool) (c : C) : Type 0 where
      first : C
      second : C
      first_is : MatchBool f (first ≡ x.carries) (reverses x.carries first)
      second_is : MatchBool f (second ≡ y.carries) (reverses y.carries second)
      merged : merges first second c

    values_apart : (f : Bool) (c : C) → MatchBool f (c ≡ both.carries) (reverses both.carries c) → ValuesApart f c
    values_apart true c is = record {
      first = x.carries;
      second = y.carries;
      first_is = refl;
      second_is = refl;
      merged = subst (merges x.carries y.carries) (sym is) makes;
    }
    values_apart false c turned =
        let apart = may.turned x.carries y.carries both.carries c makes turned in
        record {
          first = apart.0;
          second = apart.1;
          first_is = apart.2;
          second_is = apart.3;
          merged = apart.4;
        }

    -- pieces of the two along some steps, for which the pieces of both stand
    pub record PiecesApart (XWhole YWhole : Type 0) (ss : List Step) (zs : List (Carried C)) : Type 0 where
      pub firsts : List (Carried C)
      pub seconds : List (Carried C)
      pub of_first : AreGiven (GivesPiece splits reverses XWhole x) ss firsts
      pub of_second : AreGiven (GivesPiece splits reverses YWhole y) ss seconds
      pub stands : StandFor merges (firsts ++ seconds) zs

    pub pieces_apart : (IsWhole XWhole YWhole : Type 0) → IsWhole ⊎ ¬ IsWhole → {ss : List Step}
        {zs : List (Carried C)} → AreGiven (GivesPiece splits reverses IsWhole both) ss zs →
        PiecesApart XWhole YWhole ss zs
    pieces_apart IsWhole XWhole YWhole whole none = record {
      firsts = [];
      seconds = [];
      of_first = none;
      of_second = none;
      stands = stand_same merges [];
    }
    pieces_apart IsWhole XWhole YWhole whole (next {x = s} {rest = rest} (z, is, piece) more) =
        let later = pieces_apart IsWhole XWhole YWhole whole more in
        let copied = copied_piece IsWhole whole both s z piece in
        let apart = values_apart (is_forward s) z.carries copied.1 in
        let u : Carried C = record { edge = piece_along x.edge s; carries = apart.first } in
        let w : Carried C = record { edge = piece_along y.edge s; carries = apart.second } in
        let edge : z.edge ≡ loaded u.edge w.edge = copied.0 ∙ joined_piece x.edge y.edge both.edge s sum in
        let ends = sym (ap ends_of copied.0) in
        record {
          firsts = u ∷ later.firsts;
          seconds = w ∷ later.seconds;
          of_first = next (u, refl, piece_copied XWhole x s u (refl, apart.first_is)) later.of_first;
          of_second = next (w, refl, piece_copied YWhole y s w (refl, apart.second_is)) later.of_second;
          stands = subst (λ zs. StandFor merges ((u ∷ later.firsts) ++ w ∷ later.seconds) (zs ++ rest)) (sym is)
              (stand_on merges (stand_shuffled merges ((u ∷ later.firsts) ++ w ∷ later.seconds)
              (u ∷ w ∷ later.firsts ++ later.seconds)
              (IsPermutation-cons u (later.firsts ++ w ∷ later.seconds) (w ∷ later.firsts ++ later.seconds)
              (moved_in w later.firsts later.seconds)))
              (stand_joined merges u w z ends ends edge apart.merged (later.firsts ++ later.seconds) rest
              later.stands));
        }
