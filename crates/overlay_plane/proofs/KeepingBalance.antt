-- Closed contours are balanced, and adding, joining, merging and cutting keep balance.
use Rattle.std.proofs.Common.{◌≡◌, ◌+◌, true, ℤ, pos, ◌+ℤ◌, ◌-ℤ◌, ◌*ℤ◌, List, [], ◌∷◌, ◌++◌, map, length, refl, sym, ap}
use Rattle.std.proofs.Common.{ap₂, ◌∙◌, subst, arith}
use Rattle.std.specs.List.{flat_map}
use Rattle.std.proofs.lemmas.List.Elements.{All-contains, filter_passes}
use lib.IntN.{*ℤ_comm}
use Rattle.overlay_geom.specs.Plane.{Point, Step, Edge, edge_eq, edge_of, sign_of, steps_through, steps_of, total}
use Rattle.overlay_geom.specs.Edges.{CountedEdge, ends_of, subj_of, clip_of, subject_edge, clip_edge}
use Rattle.overlay_geom.specs.Merged.{edges_between}
use Rattle.overlay_geom.proofs.Identities.{solve, number, ◌⊗◌, ◌≗◌}
use Rattle.overlay_geom.proofs.Merging.{JoinAlike, IsMerged-alike}
use Rattle.overlay_geom.proofs.Orders.{edge_eq-same}
use Rattle.overlay_geom.proofs.Sums.{sum_where-agree}
use Rattle.overlay_plane.specs.EdgeLists.{IsBalanced}
use Rattle.overlay_plane.specs.Balance.{HasBalancedCounts, ChainsTelescope, ContoursAreBalanced}
use Rattle.overlay_plane.specs.Balance.{AddedContoursAreBalanced, JoiningKeepsBalance, AddingKeepsBalance}
use Rattle.overlay_plane.specs.Balance.{MergingKeepsBalance}
use Rattle.overlay_plane.specs.Cutting.{piece_along, pieces_through, CuttingKeepsBalance}
use Rattle.overlay_plane.proofs.JoinedLists.{total-append, total-map, total-flat_map, total-times}
use Rattle.overlay_plane.proofs.PieceCounts.{subj_of_piece, clip_of_piece}
use Rattle.overlay_plane.proofs.Telescopes.{signed_rise, signed_rise-chain, signed_rise-around}
use Rattle.overlay_plane.proofs.Totals.{total-same, total-zero}

-- ---- chains and contours

-- the law of chains
pub chains_telescope : ChainsTelescope
chains_telescope = signed_rise-chain

-- the law of contours
pub contours_are_balanced : ContoursAreBalanced
contours_are_balanced ps g = signed_rise-around g ps

-- a list without counts is balanced
balanced_without_counts : {X : Type 0} (ends : X → Edge) (count : X → ℤ) (xs : List X) → ((x : X) → count x ≡ pos 0) →
    IsBalanced ends count xs
balanced_without_counts ends count xs none g = total-zero (λ x. count x *ℤ (g (ends x).b -ℤ g (ends x).a)) xs
    (λ x at. ap (λ z. z *ℤ (g (ends x).b -ℤ g (ends x).a)) (none x) ∙ zero_times (g (ends x).b -ℤ g (ends x).a))
  where
    zero_times : (z : ℤ) → pos 0 *ℤ z ≡ pos 0
    zero_times = solve 1 (λ z. number (pos 0) ⊗ z ≗ number (pos 0)) tt

-- a mapped list is balanced if its mapped entries are
balanced_mapped : {X Y : Type 0} (ends : Y → Edge) (count : Y → ℤ) (h : X → Y) (xs : List X) →
    IsBalanced (λ x. ends (h x)) (λ x. count (h x)) xs → IsBalanced ends count (map h xs)
balanced_mapped ends count h xs balanced g = total-map (λ y. count y *ℤ (g (ends y).b -ℤ g (ends y).a)) h xs
    ∙ balanced g

-- the law of added contours
pub added_contours_are_balanced : AddedContoursAreBalanced
added_contours_are_balanced = record {
  subject = λ ps. record {
    subj = balanced_mapped ends_of subj_of subject_edge (steps_of ps) (contours_are_balanced ps);
    clip = balanced_mapped ends_of clip_of subject_edge (steps_of ps)
        (balanced_without_counts edge_of (λ s. pos 0) (steps_of ps) (λ s. refl));
  };
  clip = λ ps. record {
    subj = balanced_mapped ends_of subj_of clip_edge (steps_of ps)
        (balanced_without_counts edge_of (λ s. pos 0) (steps_of ps) (λ s. refl));
    clip = balanced_mapped ends_of clip_of clip_edge (steps_of ps) (contours_are_balanced ps);
  };
}

-- ---- joined lists

-- two balanced lists joined are balanced
balanced_joined : {X : Type 0} (ends : X → Edge) (count : X → ℤ) (xs ys : List X) → IsBalanced ends count xs →
    IsBalanced ends count ys →
    IsBalanced ends count (xs ++ ys)
balanced_joined ends count xs ys left right g = total-append (λ x. count x *ℤ (g (ends x).b -ℤ g (ends x).a)) xs ys
    ∙ ap₂ (λ a b. a +ℤ b) (left g) (right g)

-- the law of joined lists
pub joining_keeps_balance : JoiningKeepsBalance
joining_keeps_balance = record {
  none = record { subj = λ g. refl; clip = λ g. refl };
  both = λ es fs left right. record {
    subj = balanced_joined ends_of subj_of es fs left.subj right.subj;
    clip = balanced_joined ends_of clip_of es fs left.clip right.clip;
  };
}

-- a list with a balanced list added is balanced
balanced_with : (old new added : List CountedEdge) → new ≡ old ++ added → HasBalancedCounts old →
    HasBalancedCounts added → HasBalancedCounts new
balanced_with old new added is before more = subst HasBalancedCounts (sym is)
    (joining_keeps_balance.both old added before more)

-- the law of adding: the added list is balanced by itself
pub adding_keeps_balance : AddingKeepsBalance
adding_keeps_balance = record {
  subject = λ keep given old new adds before. balanced_with old new (map subject_edge (steps_of adds.taken))
      adds.content before (added_contours_are_balanced.subject adds.taken);
  clip = λ keep given old new adds before. balanced_with old new (map clip_edge (steps_of adds.taken)) adds.content
      before (added_contours_are_balanced.clip adds.taken);
}

-- ---- merged lists

-- between two ends the counts, each times one number of these ends, add up to the sum of the counts times that number
weighed_between : (count : CountedEdge → ℤ) (w : Edge → ℤ) (es : List CountedEdge) (e : Edge) →
    total (λ f. count f *ℤ w (ends_of f)) (edges_between es e) ≡ total count (edges_between es e) *ℤ w e
weighed_between count w es e =
    total-same (λ f. count f *ℤ w (ends_of f)) (λ f. w e *ℤ count f) (edges_between es e)
    (λ f at. ap (λ g. count f *ℤ w g)
    (edge_eq-same (ends_of f) e (All-contains (λ f. edge_eq (ends_of f) e ≡ true) (edges_between es e) f
    (filter_passes (λ f. edge_eq (ends_of f) e) es) at)) ∙ *ℤ_comm (count f) (w e))
    ∙ total-times (w e) count (edges_between es e)
    ∙ *ℤ_comm (w e) (total count (edges_between es e))

-- lists that join alike add up alike, if each count is taken times a number of the edge's ends
weighed_alike : (count : CountedEdge → ℤ) (w : Edge → ℤ) (old new : List CountedEdge) →
    ((e : Edge) → total count (edges_between new e) ≡ total count (edges_between old e)) →
    total (λ f. count f *ℤ w (ends_of f)) new ≡ total (λ f. count f *ℤ w (ends_of f)) old
weighed_alike count w old new alike = sum_where-agree (λ f. count f *ℤ w (ends_of f)) (λ e. true)
    (length new + length old) new old (omega arith)
    (λ e. weighed_between count w new e ∙ ap (λ z. z *ℤ w e) (alike e) ∙ sym (weighed_between count w old e))

-- lists that join alike are balanced together
pub balanced_alike : (old new : List CountedEdge) → JoinAlike old new → HasBalancedCounts old → HasBalancedCounts new
balanced_alike old new alike balanced = record {
  subj = λ g. weighed_alike subj_of (λ e. g e.b -ℤ g e.a) old new (λ e. ap subj_of (alike.at e)) ∙ balanced.subj g;
  clip = λ g. weighed_alike clip_of (λ e. g e.b -ℤ g e.a) old new (λ e. ap clip_of (alike.at e)) ∙ balanced.clip g;
}

-- the law of merged lists
pub merging_keeps_balance : MergingKeepsBalance
merging_keeps_balance old new merged = balanced_alike old new (IsMerged-alike old new merged)

-- ---- cut edges

-- the pieces of an edge rise together as the edge
pieces_rise : (count : CountedEdge → ℤ) (points : CountedEdge → List Point) →
    ((e : CountedEdge) (s : Step) → count (piece_along e s) ≡ sign_of s *ℤ count e) →
    (g : Point → ℤ) (e : CountedEdge) → total (λ f. count f *ℤ (g f.b -ℤ g f.a)) (pieces_through points e) ≡ count e *ℤ
    (g e.b -ℤ g e.a)
pieces_rise count points each g e =
    total-map (λ f. count f *ℤ (g f.b -ℤ g f.a)) (piece_along e) chain
    ∙ total-same (λ s. count (piece_along e s) *ℤ (g (edge_of s).b -ℤ g (edge_of s).a))
    (λ s. count e *ℤ signed_rise g s) chain
    (λ s at. ap (λ z. z *ℤ (g (edge_of s).b -ℤ g (edge_of s).a)) (each e s)
    ∙ exchanged (sign_of s) (count e) (g (edge_of s).b -ℤ g (edge_of s).a))
    ∙ total-times (count e) (signed_rise g) chain
    ∙ ap (λ z. count e *ℤ z) (signed_rise-chain g e.a (points e) e.b)
  where
    chain : List Step
    chain = steps_through e.a (points e ++ e.b ∷ [])

    exchanged : (s c r : ℤ) → (s *ℤ c) *ℤ r ≡ c *ℤ (s *ℤ r)
    exchanged = solve 3 (λ s c r. (s ⊗ c) ⊗ r ≗ c ⊗ (s ⊗ r)) tt

-- a list whose edges are cut is balanced
balanced_cut : (count : CountedEdge → ℤ) (points : CountedEdge → List Point) (es : List CountedEdge) →
    ((e : CountedEdge) (s : Step) → count (piece_along e s) ≡ sign_of s *ℤ count e) →
    IsBalanced ends_of count es → IsBalanced ends_of count (flat_map (pieces_through points) es)
balanced_cut count points es each balanced g =
    total-flat_map (λ f. count f *ℤ (g f.b -ℤ g f.a)) (pieces_through points) es
    ∙ total-same (λ e. total (λ f. count f *ℤ (g f.b -ℤ g f.a)) (pieces_through points e))
    (λ e. count e *ℤ (g e.b -ℤ g e.a)) es (λ e at. pieces_rise count points each g e)
    ∙ balanced g

-- the law of cut edges
pub cutting_keeps_balance : CuttingKeepsBalance
cutting_keeps_balance es points balanced = record {
  subj = balanced_cut subj_of points es subj_of_piece balanced.subj;
  clip = balanced_cut clip_of points es clip_of_piece balanced.clip;
}
