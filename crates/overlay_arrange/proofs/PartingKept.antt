-- Parted lists of edges: the pieces of the parts stand for those of the edges. With all edges over them they weigh as
-- much.
use Rattle.std.proofs.Common.{◌≡◌, ⊎_elim, ℕ, zero, suc, ◌+◌, ◌*◌, true, List, [], ◌∷◌, ◌++◌, length}
use Rattle.std.proofs.Common.{refl, sym, ap, ◌∙◌, subst, append_assoc, arith, Contains}
use Rattle.std.specs.Prelude.{◌↔◌}
use Rattle.std.specs.List.Sorted.{IsPermutation}
use Rattle.std.proofs.lemmas.List.{length-append}
use Rattle.std.proofs.lemmas.List.Elements.{All-cons, All-contains, All-contains_itself, All-head, All-tail}
use Rattle.std.proofs.lemmas.List.Sorted.{All-permutation, IsPermutation-map, IsPermutation-sym, sum_by-IsPermutation}
use Rattle.std.proofs.lemmas.List.Sums.{sum_by-cons}
use Rattle.overlay_geom.specs.Edges.{CountedEdge, ends_of}
use Rattle.overlay_geom.specs.Plane.{Point, Step, Edge, point_lt}
use Rattle.overlay_plane.specs.Carried.{Carried}
use Rattle.overlay_plane.specs.DerivedData.{AreCutAlong, AreGiven, ArePieces, GivesPiece, next}
use Rattle.overlay_plane.specs.EdgeLists.{IsForwardBy}
use Rattle.overlay_plane.specs.Meetings.{MeetInWholePoints}
use Rattle.overlay_plane.proofs.Entries.{Contains-map}
use Rattle.overlay_plane.proofs.LaterEntries.{Contains-cases}
use Rattle.overlay_plane.proofs.Totals.{Contains-head, Contains-later}
use Rattle.overlay_parts.specs.PartedContents.{carried_parts, edges_in_parts}
use Rattle.overlay_parts.specs.Parts.{Part, ends_of_part, part_between, AreParted, moved, parted, joined}
use Rattle.overlay_parts.specs.Parts.{IsJoinedPart, IsPartedAt}
use Rattle.overlay_arrange.specs.Batches.{StandFor}
use Rattle.overlay_arrange.specs.Cut.{chain_by, LeadingPoints}
use Rattle.overlay_arrange.specs.Parting.{MayPart, cover_weight, cover_weight_of}
use Rattle.overlay_arrange.proofs.KeptChains.{HaveSameEnds, KeepChains, whole_alike}
use Rattle.overlay_arrange.proofs.MergedParts.{given_shuffled}
use Rattle.overlay_arrange.proofs.PartedPieces.{PiecesApart, one_or_not, pieces_apart, pieces_of_parts, same_pieces}
use Rattle.overlay_arrange.proofs.PartedPoints.{IsCutBy, new_forward, whole_back, whole_forth}
use Rattle.overlay_arrange.proofs.StandingLists.{stand_before, stand_on, stand_same}
use Rattle.overlay_arrange.proofs.StandingParts.{stand_shuffled}

-- ---- numbers

times_sum : (c m n : ℕ) → c * (m + n) ≡ c * m + c * n
times_sum zero m n = omega arith
times_sum (suc c) m n = let more = times_sum c m n in omega (arith, more)

pub sum_times : (c d n : ℕ) → (c + d) * n ≡ c * n + d * n
sum_times zero d n = omega arith
sum_times (suc c) d n = let more = sum_times c d n in omega (arith, more)

-- ---- orders

-- a list in another order has the same items
contains_moved : {X : Type 0} (xs ys : List X) → IsPermutation xs ys → (x : X) → Contains xs x → Contains ys x
contains_moved xs ys h x at = All-contains (Contains ys) xs x
    (All-permutation (Contains ys) ys xs (IsPermutation-sym xs ys h) (All-contains_itself ys)) at

module _ {C : Type 0} where
  carried_moved : (old new : List (Part C)) → IsPermutation old new →
      IsPermutation (carried_parts old) (carried_parts new)
  carried_moved old new = IsPermutation-map (λ (p : Part C). p.edge) old new

  edges_moved : (old new : List (Part C)) → IsPermutation old new →
      IsPermutation (edges_in_parts old) (edges_in_parts new)
  edges_moved old new h = IsPermutation-map (λ (x : Carried C). x.edge) (carried_parts old) (carried_parts new)
      (carried_moved old new h)

  -- the edge of a part is an edge of the list
  edge_in : (parts : List (Part C)) (x : Carried C) → Contains (carried_parts parts) x →
      Contains (edges_in_parts parts) x.edge
  edge_in parts x at = Contains-map (λ (y : Carried C). y.edge) (carried_parts parts) x at

  part_in : (parts : List (Part C)) (p : Part C) → Contains parts p → Contains (edges_in_parts parts) p.edge.edge
  part_in parts p at = edge_in parts p.edge (Contains-map (λ (q : Part C). q.edge) parts p at)

  ends_moved : (old new : List (Part C)) → IsPermutation old new →
      HaveSameEnds (edges_in_parts old) (edges_in_parts new)
  ends_moved old new h = record {
    forth = λ e at. (e, contains_moved (edges_in_parts old) (edges_in_parts new) (edges_moved old new h) e at, refl);
    back = λ e at. (
      e,
      contains_moved (edges_in_parts new) (edges_in_parts old)
          (IsPermutation-sym (edges_in_parts old) (edges_in_parts new) (edges_moved old new h)) e at,
      refl,
    );
  }

  leads_in : (parts : List (Part C)) → IsForwardBy ends_of (edges_in_parts parts) → (e : CountedEdge) →
      Contains (edges_in_parts parts) e → point_lt e.a e.b ≡ true
  leads_in parts forward e at =
      All-contains (λ (g : CountedEdge). point_lt g.a g.b ≡ true) (edges_in_parts parts) e forward at

  -- parts with the same chains weigh the same
  cover_alike : (us vs : LeadingPoints) (parts : List (Part C)) →
      ((p : Part C) → Contains parts p → chain_by us p.edge.edge ≡ chain_by vs p.edge.edge) →
      cover_weight us parts ≡ cover_weight vs parts
  cover_alike us vs [] same = refl
  cover_alike us vs (p ∷ parts) same =
      let here : cover_weight_of us p ≡ cover_weight_of vs p =
      ap (λ ss. p.cover * length ss) (same p (Contains-head p parts)) in
      let rest : cover_weight us parts ≡ cover_weight vs parts =
      cover_alike us vs parts (λ q at. same q (Contains-later p parts q at)) in
      sum_by-cons (cover_weight_of us) p parts ∙ ap (λ n. n + cover_weight us parts) here
      ∙ ap (λ n. cover_weight_of vs p + n) rest ∙ sym (sum_by-cons (cover_weight_of vs) p parts)

module _ {C : Type 0} (merges : C → C → C → Type 0) (splits reverses : C → C → Type 0)
    (may : MayPart merges splits reverses) (points : List CountedEdge → LeadingPoints) (keep : KeepChains points) where
  -- the points that lead the parts of a list
  abbrev pub points_of : List (Part C) → LeadingPoints
  points_of parts = points (edges_in_parts parts)

  -- the pieces of the second list stand for pieces of the first, and weigh as much with all edges over them. The edges
  -- lead forward, and meet in whole points alone where the others do
  pub record ArePartedSo (old new : List (Part C)) : Type 0 where
    pub forward : IsForwardBy ends_of (edges_in_parts new)
    pub weighed : cover_weight (points_of old) old ≡ cover_weight (points_of new) new
    pub pieces : (ys : List (Carried C)) →
        AreCutAlong splits reverses (chain_by (points_of new)) (carried_parts new) ys →
        (xs : List (Carried C)) × AreCutAlong splits reverses (chain_by (points_of old)) (carried_parts old) xs
        × StandFor merges xs ys
    pub whole : MeetInWholePoints (edges_in_parts old) ↔ MeetInWholePoints (edges_in_parts new)

  -- one after another
  parted_so_on : (old mid new : List (Part C)) → ArePartedSo old mid → ArePartedSo mid new → ArePartedSo old new
  parted_so_on old mid new first later = record {
    forward = later.forward;
    weighed = first.weighed ∙ later.weighed;
    pieces = λ ys cut.
        let between = later.pieces ys cut in
        let before = first.pieces between.0 between.1 in
        (before.0, before.1, stand_on merges before.2 between.2);
    whole = (λ h. later.whole.0 (first.whole.0 h), λ h. first.whole.1 (later.whole.1 h));
  }

  -- ---- another order

  module _ (old new : List (Part C)) (h : IsPermutation old new) (forward : IsForwardBy ends_of (edges_in_parts old))
    where
      forward_moved : IsForwardBy ends_of (edges_in_parts new)
      forward_moved = All-permutation (λ (g : CountedEdge). point_lt g.a g.b ≡ true) (edges_in_parts old)
          (edges_in_parts new) (edges_moved old new h) forward

      chain_moved : (e : CountedEdge) → Contains (edges_in_parts new) e →
          chain_by (points_of old) e ≡ chain_by (points_of new) e
      chain_moved e at = keep.alike (edges_in_parts old) (edges_in_parts new) forward forward_moved
          (ends_moved old new h) e e (leads_in new forward_moved e at) refl

      moved_so : ArePartedSo old new
      moved_so = record {
        forward = forward_moved;
        weighed = sym (sum_by-IsPermutation (cover_weight_of (points_of old)) old new h)
            ∙ cover_alike (points_of old) (points_of new) new (λ p at. chain_moved p.edge.edge (part_in new p at));
        pieces = λ ys cut.
            let before = given_shuffled (ArePieces splits reverses (chain_by (points_of old))) (carried_parts new)
            (carried_parts old) (IsPermutation-sym (carried_parts old) (carried_parts new) (carried_moved old new h)) ys
            (same_pieces merges splits reverses may (chain_by (points_of old)) (chain_by (points_of new))
            (carried_parts new) (λ x at. chain_moved x.edge (edge_in new x at)) cut) in
            (before.0, before.2, stand_shuffled merges before.0 ys (IsPermutation-sym ys before.0 before.1));
        whole = (
          whole_alike (edges_in_parts old) (edges_in_parts new) (ends_moved old new h).back,
          whole_alike (edges_in_parts new) (edges_in_parts old) (ends_moved old new h).forth,
        );
      }

  -- ---- a part parted

  module _ (part other : Part C) (v : Point) (rest : List (Part C)) (at : IsPartedAt part other v)
      (forward : IsForwardBy ends_of (edges_in_parts (part ∷ other ∷ rest))) where
    abbrev low : Part C
    low = part_between part (ends_of_part part).a v

    abbrev high : Part C
    high = part_between part v (ends_of_part part).b

    abbrev before_parting : List (Part C)
    before_parting = part ∷ other ∷ rest

    abbrev behind_parting : List (Part C)
    behind_parting = low ∷ high ∷ other ∷ rest

    cut : IsCutBy part.edge.edge other.edge.edge v
    cut = record { along = at.along; after = at.after; before = at.before; is_end = at.is_end }

    forward_parted : IsForwardBy ends_of (edges_in_parts behind_parting)
    forward_parted = new_forward part.edge.edge other.edge.edge v (edges_in_parts rest) forward cut

    others_leads : (e : CountedEdge) → Contains (edges_in_parts (other ∷ rest)) e → point_lt e.a e.b ≡ true
    others_leads = leads_in (other ∷ rest) (All-tail (λ (g : CountedEdge). point_lt g.a g.b ≡ true) part.edge.edge
        (edges_in_parts (other ∷ rest)) forward)

    chain_other : (e : CountedEdge) → Contains (edges_in_parts (other ∷ rest)) e →
        chain_by (points_of before_parting) e ≡ chain_by (points_of behind_parting) e
    chain_other e at_e = keep.others part.edge.edge other.edge.edge v (edges_in_parts rest) forward cut e
        (others_leads e at_e)

    chain_part : chain_by (points_of before_parting) part.edge.edge
        ≡ chain_by (points_of behind_parting) low.edge.edge ++ chain_by (points_of behind_parting) high.edge.edge
    chain_part = keep.parts part.edge.edge other.edge.edge v (edges_in_parts rest) forward cut

    weighed_parted : cover_weight (points_of before_parting) before_parting
        ≡ cover_weight (points_of behind_parting) behind_parting
    weighed_parted =
        let us = points_of before_parting in
        let vs = points_of behind_parting in
        let lows = length (chain_by vs low.edge.edge) in
        let highs = length (chain_by vs high.edge.edge) in
        let first = sum_by-cons (cover_weight_of us) part (other ∷ rest) in
        let others : cover_weight us (other ∷ rest) ≡ cover_weight vs (other ∷ rest) =
        cover_alike us vs (other ∷ rest) (λ p at_p. chain_other p.edge.edge (part_in (other ∷ rest) p at_p)) in
        let own : cover_weight_of us part ≡ part.cover * lows + part.cover * highs =
        ap (λ (ss : List Step). part.cover * length ss) chain_part
        ∙ ap (λ n. part.cover * n) (length-append (chain_by vs low.edge.edge) (chain_by vs high.edge.edge))
        ∙ times_sum part.cover lows highs in
        let second = sum_by-cons (cover_weight_of vs) low (high ∷ other ∷ rest) in
        let third = sum_by-cons (cover_weight_of vs) high (other ∷ rest) in
        omega (arith, first, others, own, second, third)

    parted_so : ArePartedSo before_parting behind_parting
    parted_so = record {
      forward = forward_parted;
      weighed = weighed_parted;
      pieces = λ ys cut_new. (
        ys,
        pieces_of_parts merges splits reverses may (chain_by (points_of before_parting))
            (chain_by (points_of behind_parting)) part.edge low.edge high.edge (carried_parts (other ∷ rest))
            (λ s y copied. copied) (λ s y copied. copied) chain_part
            (λ x at_x. chain_other x.edge (edge_in (other ∷ rest) x at_x)) cut_new,
        stand_same merges ys,
      );
      whole = (
        whole_forth part.edge.edge other.edge.edge v (edges_in_parts rest) forward cut,
        whole_back part.edge.edge other.edge.edge v (edges_in_parts rest) forward cut,
      );
    }

  -- ---- two parts joined

  module _ (s t both : Part C) (rest : List (Part C)) (join : IsJoinedPart merges s t both)
      (forward : IsForwardBy ends_of (edges_in_parts (s ∷ t ∷ rest))) where
    abbrev before_joining : List (Part C)
    before_joining = s ∷ t ∷ rest

    abbrev behind_joining : List (Part C)
    behind_joining = both ∷ rest

    s_leads : point_lt s.edge.edge.a s.edge.edge.b ≡ true
    s_leads = All-head (λ (g : CountedEdge). point_lt g.a g.b ≡ true) s.edge.edge (edges_in_parts (t ∷ rest)) forward

    both_leads : point_lt both.edge.edge.a both.edge.edge.b ≡ true
    both_leads = subst (λ (g : Edge). point_lt g.a g.b ≡ true) (sym join.ends) s_leads

    rest_leads : IsForwardBy ends_of (edges_in_parts rest)
    rest_leads = All-tail (λ (g : CountedEdge). point_lt g.a g.b ≡ true) t.edge.edge (edges_in_parts rest)
        (All-tail (λ (g : CountedEdge). point_lt g.a g.b ≡ true) s.edge.edge (edges_in_parts (t ∷ rest)) forward)

    forward_joined : IsForwardBy ends_of (edges_in_parts behind_joining)
    forward_joined = All-cons (λ (g : CountedEdge). point_lt g.a g.b ≡ true) both.edge.edge (edges_in_parts rest)
        both_leads rest_leads

    s_ends : ends_of s.edge.edge ≡ ends_of both.edge.edge
    s_ends = sym join.ends

    t_ends : ends_of t.edge.edge ≡ ends_of both.edge.edge
    t_ends = sym join.equal ∙ sym join.ends

    ends_joined : HaveSameEnds (edges_in_parts before_joining) (edges_in_parts behind_joining)
    ends_joined = record { forth = forth; back = back }
      where
        both_in : Contains (edges_in_parts behind_joining) both.edge.edge
        both_in = Contains-head both.edge.edge (edges_in_parts rest)

        forth : (e : CountedEdge) → Contains (edges_in_parts before_joining) e →
            (f : CountedEdge) × Contains (edges_in_parts behind_joining) f × (ends_of e ≡ ends_of f)
        forth e at = ⊎_elim
            (λ is. (both.edge.edge, both_in, subst (λ (g : CountedEdge). ends_of g ≡ ends_of both.edge.edge) is s_ends))
            (λ later. ⊎_elim
            (λ is. (both.edge.edge, both_in, subst (λ (g : CountedEdge). ends_of g ≡ ends_of both.edge.edge) is t_ends))
            (λ others. (e, Contains-later both.edge.edge (edges_in_parts rest) e others, refl))
            (Contains-cases t.edge.edge (edges_in_parts rest) e later))
            (Contains-cases s.edge.edge (edges_in_parts (t ∷ rest)) e at)

        back : (f : CountedEdge) → Contains (edges_in_parts behind_joining) f →
            (e : CountedEdge) × Contains (edges_in_parts before_joining) e × (ends_of f ≡ ends_of e)
        back f at = ⊎_elim
            (λ is. (
              s.edge.edge,
              Contains-head s.edge.edge (edges_in_parts (t ∷ rest)),
              subst (λ (g : CountedEdge). ends_of g ≡ ends_of s.edge.edge) is join.ends,
            ))
            (λ others. (
              f,
              Contains-later s.edge.edge (edges_in_parts (t ∷ rest)) f
                  (Contains-later t.edge.edge (edges_in_parts rest) f others),
              refl,
            ))
            (Contains-cases both.edge.edge (edges_in_parts rest) f at)

    chain_joined : (e f : CountedEdge) → point_lt e.a e.b ≡ true → ends_of e ≡ ends_of f →
        chain_by (points_of before_joining) e ≡ chain_by (points_of behind_joining) f
    chain_joined = keep.alike (edges_in_parts before_joining) (edges_in_parts behind_joining) forward forward_joined
        ends_joined

    t_leads : point_lt t.edge.edge.a t.edge.edge.b ≡ true
    t_leads = subst (λ (g : Edge). point_lt g.a g.b ≡ true) join.equal s_leads

    s_chain : chain_by (points_of before_joining) s.edge.edge ≡ chain_by (points_of behind_joining) both.edge.edge
    s_chain = chain_joined s.edge.edge both.edge.edge s_leads s_ends

    t_chain : chain_by (points_of before_joining) t.edge.edge ≡ chain_by (points_of behind_joining) both.edge.edge
    t_chain = chain_joined t.edge.edge both.edge.edge t_leads t_ends

    rest_chain : (e : CountedEdge) → Contains (edges_in_parts rest) e →
        chain_by (points_of before_joining) e ≡ chain_by (points_of behind_joining) e
    rest_chain e at = chain_joined e e (leads_in rest rest_leads e at) refl

    weighed_joined : cover_weight (points_of before_joining) before_joining
        ≡ cover_weight (points_of behind_joining) behind_joining
    weighed_joined =
        let us = points_of before_joining in
        let vs = points_of behind_joining in
        let steps = length (chain_by vs both.edge.edge) in
        let first = sum_by-cons (cover_weight_of us) s (t ∷ rest) in
        let second = sum_by-cons (cover_weight_of us) t rest in
        let others : cover_weight us rest ≡ cover_weight vs rest =
        cover_alike us vs rest (λ p at_p. rest_chain p.edge.edge (part_in rest p at_p)) in
        let of_s : cover_weight_of us s ≡ s.cover * steps = ap (λ (ss : List Step). s.cover * length ss) s_chain in
        let of_t : cover_weight_of us t ≡ t.cover * steps = ap (λ (ss : List Step). t.cover * length ss) t_chain in
        let of_both : cover_weight_of vs both ≡ s.cover * steps + t.cover * steps =
        ap (λ n. n * steps) join.cover ∙ sum_times s.cover t.cover steps in
        let third = sum_by-cons (cover_weight_of vs) both rest in
        omega (arith, first, second, others, of_s, of_t, of_both, third)

    pieces_joined : (ys : List (Carried C)) →
        AreCutAlong splits reverses (chain_by (points_of behind_joining)) (carried_parts behind_joining) ys →
        (xs : List (Carried C))
        × AreCutAlong splits reverses (chain_by (points_of before_joining)) (carried_parts before_joining) xs
        × StandFor merges xs ys
    pieces_joined _ (next {part = zs} {rest = more} here later) = (
      apart.firsts ++ (apart.seconds ++ more),
      next (subst (λ (ss : List Step). AreGiven (GivesPiece splits reverses (length ss ≡ 1) s.edge) ss apart.firsts)
          (sym s_chain) apart.of_first)
          (next (subst (λ (ss : List Step). AreGiven (GivesPiece splits reverses (length ss ≡ 1) t.edge) ss
          apart.seconds) (sym t_chain) apart.of_second)
          (same_pieces merges splits reverses may (chain_by (points_of before_joining))
          (chain_by (points_of behind_joining)) (carried_parts rest) (λ x at. rest_chain x.edge (edge_in rest x at))
          later)),
      subst (λ xs. StandFor merges xs (zs ++ more)) (append_assoc apart.firsts apart.seconds more)
          (stand_before merges more apart.stands),
    )
      where
        apart : PiecesApart merges splits reverses may s.edge t.edge both.edge join.counts join.values
            (length (chain_by (points_of behind_joining) both.edge.edge) ≡ 1)
            (length (chain_by (points_of behind_joining) both.edge.edge) ≡ 1)
            (chain_by (points_of behind_joining) both.edge.edge) zs
        apart = pieces_apart merges splits reverses may s.edge t.edge both.edge join.counts join.values
            (length (chain_by (points_of behind_joining) both.edge.edge) ≡ 1)
            (length (chain_by (points_of behind_joining) both.edge.edge) ≡ 1)
            (length (chain_by (points_of behind_joining) both.edge.edge) ≡ 1)
            (one_or_not (chain_by (points_of behind_joining) both.edge.edge)) here

    joined_so : ArePartedSo before_joining behind_joining
    joined_so = record {
      forward = forward_joined;
      weighed = weighed_joined;
      pieces = pieces_joined;
      whole = (
        whole_alike (edges_in_parts before_joining) (edges_in_parts behind_joining) ends_joined.back,
        whole_alike (edges_in_parts behind_joining) (edges_in_parts before_joining) ends_joined.forth,
      );
    }

  -- ---- all steps

  pub parting_keeps : {old new : List (Part C)} → AreParted merges old new →
      IsForwardBy ends_of (edges_in_parts old) → ArePartedSo old new
  parting_keeps {old} (moved {new = new} h) forward = moved_so old new h forward
  parting_keeps {old} {new} (parted {rest = rest} {part = part} {other = other} {v = v} h at later) forward =
      let first = moved_so old (part ∷ other ∷ rest) h forward in
      let step = parted_so part other v rest at first.forward in
      parted_so_on old (part ∷ other ∷ rest) new first
      (parted_so_on (part ∷ other ∷ rest) (part_between part (ends_of_part part).a v
      ∷ part_between part v (ends_of_part part).b ∷ other ∷ rest) new step (parting_keeps later step.forward))
  parting_keeps {old} {new} (joined {rest = rest} {s = s} {t = t} {both = both} h join later) forward =
      let first = moved_so old (s ∷ t ∷ rest) h forward in
      let step = joined_so s t both rest join first.forward in
      parted_so_on old (s ∷ t ∷ rest) new first
      (parted_so_on (s ∷ t ∷ rest) (both ∷ rest) new step (parting_keeps later step.forward))
