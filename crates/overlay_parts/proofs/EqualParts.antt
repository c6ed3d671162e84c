-- Equal parts side by side become one, and the parts ascend then.
use Rattle.std.proofs.Common.{◌≡◌, ⊎_elim, ℕ, ◌+◌, ◌-◌, ◌^◌, ◌<◌, ◌≤◌, Bool, true, false, cond, ℤ, List, []}
use Rattle.std.proofs.Common.{◌∷◌, ◌++◌, map, All, AllPairs, length, get_or, set, take, drop, refl, sym, ap, ◌∙◌, subst}
use Rattle.std.proofs.Common.{append_assoc, append-nil, arith}
use Rattle.std.specs.Cmp.{IsStrictWeakOrder}
use Rattle.std.specs.List.Sorted.{IsPermutation, IsSortedBy}
use Rattle.std.proofs.lemmas.Bool.{both_ways, cases_lt}
use Rattle.std.proofs.lemmas.List.{get_or-drop, get_or-map, get_or_default, length-drop, length-map, length-take-le}
use Rattle.std.proofs.lemmas.List.{map-append, map-set, set-append_right, take_all, take_more}
use Rattle.std.proofs.lemmas.List.Elements.{All-cons, All-head, All-map, All-nil, All-push, All-tail, All-take}
use Rattle.std.proofs.lemmas.List.Elements.{All-weaker}
use Rattle.std.proofs.lemmas.List.Quantifiers.{all_pairs_push}
use Rattle.std.proofs.lemmas.List.Sorted.{sorted_far, IsPermutation-append_comm, IsPermutation-refl}
use Rattle.std.proofs.Math.Seq.{map-set_same}
use Rattle.overlay_geom.specs.Counts.{Counts, joined_counts, weight_of_counts}
use Rattle.overlay_geom.specs.Edges.{CountedEdge, ends_of}
use Rattle.overlay_geom.specs.Plane.{Edge, edge_eq, edge_lt, point_lt}
use Rattle.overlay_geom.proofs.Mapped.{mapped_rest, read_mapped, AllPairs-map, AllPairs-unmap}
use Rattle.overlay_geom.proofs.Merging.{AllPairs-head}
use Rattle.overlay_geom.proofs.Orders.{edge_eq-same, edge_lt-order, edge_lt-trans, lt_or_eq, point_lt-itself}
use Rattle.overlay_plane.proofs.SplitLists.{IsPermutation-past}
use Rattle.overlay_geom.specs.Points.{InRange}
use Rattle.overlay_order.specs.Content.{plain_edge, IsAscending}
use Rattle.overlay_parts.specs.PartedContents.{AreLightParts}
use Rattle.overlay_parts.specs.PartedContents.{edges_in_parts}
use Rattle.overlay_parts.specs.Parts.{Part, ends_of_part, first_of, part_between, plain_part, plain_parts, AreParted}
use Rattle.overlay_parts.specs.Parts.{joined, moved, IsHeldPart, IsJoinedPart}
use Rattle.overlay_parts.specs.EdgeOrder.{IsInOrder}
use Rattle.overlay_parts.specs.declared.parts.Part.{Part as HeldPart}
use Rattle.overlay_parts.proofs.Parted.{parted_before, parted_on}
use Rattle.overlay_parts.proofs.PartFronts.{weight_of_two}
use Rattle.overlay_parts.proofs.PartsOfEdges.{light_pair}

-- ---- the ends of parts

-- the ends of the parts of a list
abbrev pub ends_in : {C : Type 0} → List (Part C) → List Edge
ends_in parts = map ends_of_part parts

-- they are the ends of their edges
ends_of_edges : {C : Type 0} (ps : List (Part C)) → map ends_of (edges_in_parts ps) ≡ ends_in ps
ends_of_edges [] = refl
ends_of_edges (p ∷ ps) = ap (λ es. ends_of_part p ∷ es) (ends_of_edges ps)

-- the first edge comes before the second
abbrev Precedes : Edge → Edge → Type 0
Precedes e f = edge_lt e f ≡ true

-- parts with the same ends ascend alike
pub ascend_alike : {C : Type 0} (ps qs : List (Part C)) → ends_in qs ≡ ends_in ps → IsAscending (edges_in_parts ps) →
    IsAscending (edges_in_parts qs)
ascend_alike ps qs same up =
    AllPairs-unmap Precedes ends_of (edges_in_parts qs)
    (subst (AllPairs Precedes) (sym (ends_of_edges qs ∙ same ∙ sym (ends_of_edges ps)))
    (AllPairs-map Precedes ends_of (edges_in_parts ps) up))

-- the edge does not come before any edge of the list
abbrev pub IsUpTo : Edge → List CountedEdge → Type 0
IsUpTo e es = All (λ f. edge_lt e (ends_of f) ≡ false) es

-- what holds of mapped items holds of the items
All-unmapped : {X Y : Type 0} (P : Y → Type 0) (f : X → Y) (xs : List X) → All P (map f xs) → All (λ x. P (f x)) xs
All-unmapped P f [] all = All-nil (λ x. P (f x))
All-unmapped P f (x ∷ xs) all =
    All-cons (λ y. P (f y)) x xs (All-head P (f x) (map f xs) all)
    (All-unmapped P f xs (All-tail P (f x) (map f xs) all))

-- an edge comes before all parts with the same ends alike
pub up_to_alike : {C : Type 0} (e : Edge) (ps qs : List (Part C)) → ends_in qs ≡ ends_in ps →
    IsUpTo e (edges_in_parts ps) → IsUpTo e (edges_in_parts qs)
up_to_alike e ps qs same up =
    All-unmapped (λ f. edge_lt e f ≡ false) ends_of (edges_in_parts qs)
    (subst (All (λ f. edge_lt e f ≡ false)) (sym (ends_of_edges qs ∙ same ∙ sym (ends_of_edges ps)))
    (All-map (λ f. edge_lt e f ≡ false) ends_of (edges_in_parts ps) up))

-- ---- two equal parts

-- a part up to the end of an equal part is the whole part
pub joined_whole : {C : Type 0} (merges : C → C → C → Type 0) (s t both : Part C) → ends_of_part s ≡ ends_of_part t →
    (let end = first_of (ends_of_part s).b (ends_of_part t).b in
    IsJoinedPart merges (part_between s (ends_of_part s).a end) (part_between t (ends_of_part t).a end) both) →
    IsJoinedPart merges s t both
joined_whole merges s t both equal join =
    let e = ends_of_part s in
    let end : first_of e.b (ends_of_part t).b ≡ e.b =
    ap (λ (f : Edge). first_of e.b f.b) (sym equal) ∙ ap (λ c. cond c e.b e.b) (point_lt-itself e.b) in
    record {
      equal = equal;
      ends = join.ends ∙ ap (λ v. record { a = e.a; b = v }) end;
      counts = join.counts;
      values = join.values;
      cover = join.cover;
    }

-- a joined part is held
pub held_joined : {C : Type 0} (merges : C → C → C → Type 0) (limit : ℕ) (s t both : Part C) → IsHeldPart limit s →
    IsHeldPart limit t → IsJoinedPart merges s t both → IsHeldPart limit both
held_joined merges limit s t both s_held t_held join =
    let two = weight_of_two s.edge.edge.counts t.edge.edge.counts in
    let of_s = s_held.light in
    let of_t = t_held.light in
    let sum = join.cover in
    let joined_light : weight_of_counts (joined_counts s.edge.edge.counts t.edge.edge.counts) ≤ both.cover =
    omega (arith, two, of_s, of_t, sum) in
    record {
      held = record {
        forward = subst (λ (e : Edge). point_lt e.a e.b ≡ true) (sym join.ends) s_held.held.forward;
        a_in_range = subst (λ (e : Edge). InRange limit e.a) (sym join.ends) s_held.held.a_in_range;
        b_in_range = subst (λ (e : Edge). InRange limit e.b) (sym join.ends) s_held.held.b_in_range;
      };
      light = subst (λ k. weight_of_counts k ≤ both.cover) (sym join.counts) joined_light;
    }

-- a number less itself
nothing : (k : ℕ) → k - k ≡ 0
nothing k = omega arith

-- the last part of a list and a further part, equal to it
module _ {C : Type 0} (merges : C → C → C → Type 0) (xs : List (Part C)) (n : ℕ) (s t : Part C)
    (last : n + 1 ≡ length xs) (at : s ≡ get_or xs n s) (equal : ends_of_part s ≡ ends_of_part t) where
  -- the list is the parts before, and the last
  with_last : xs ≡ take n xs ++ s ∷ []
  with_last =
      sym (take_all (n + 1) xs (omega (arith, last)))
      ∙ take_more xs n s (omega (arith, last)) ∙ ap (λ x. take n xs ++ x ∷ []) (sym at)

  -- and another one written there
  with_other : (both : Part C) → set xs n both ≡ take n xs ++ both ∷ []
  with_other both =
      ap (λ ys. set ys n both) with_last
      ∙ set-append_right (take n xs) (s ∷ []) n n both (length-take-le n xs (omega (arith, last))) (omega arith)
      ∙ ap (λ k. take n xs ++ set (s ∷ []) k both) (nothing n)

  -- the two, brought in front
  brought : (rest : List (Part C)) → IsPermutation (xs ++ t ∷ rest) (s ∷ t ∷ take n xs ++ rest)
  brought rest =
      subst (λ zs. IsPermutation (zs ++ t ∷ rest) (s ∷ t ∷ take n xs ++ rest)) (sym with_last)
      (subst (λ zs. IsPermutation zs (s ∷ t ∷ take n xs ++ rest))
      (sym (append_assoc (take n xs) (s ∷ []) (t ∷ rest)))
      (IsPermutation-past (take n xs) (s ∷ t ∷ []) rest))

  -- together they are light
  pub pair_light : (rest : List (Part C)) → AreLightParts merges (xs ++ t ∷ rest) →
      point_lt (ends_of_part s).a (ends_of_part s).b ≡ true → s.cover + t.cover < 2 ^ 31
  pair_light rest light forward =
      let le = light_pair merges light.edges s t (take n xs ++ rest)
      (parted_on merges light.parted (moved (brought rest))) forward equal in
      let all = light.light in
      omega (arith, le, all)

  module _ (both : Part C) (join : IsJoinedPart merges s t both) where
    -- they become one
    pub joined_last : AreParted merges (xs ++ t ∷ []) (set xs n both)
    joined_last =
        joined (brought []) join
        (subst (λ zs. AreParted merges (both ∷ zs) (set xs n both)) (sym (append-nil (take n xs)))
        (subst (AreParted merges (both ∷ take n xs)) (sym (with_other both))
        (moved (IsPermutation-append_comm (both ∷ []) (take n xs)))))

    -- which is held
    pub held_last : (limit : ℕ) → All (IsHeldPart limit) xs → IsHeldPart limit s → IsHeldPart limit t →
        All (IsHeldPart limit) (set xs n both)
    held_last limit all s_held t_held =
        subst (All (IsHeldPart limit)) (sym (with_other both))
        (All-push (IsHeldPart limit) (take n xs) both (All-take (IsHeldPart limit) n xs all)
        (held_joined merges limit s t both s_held t_held join))

    -- and has the ends of the last
    pub ends_kept : ends_in (set xs n both) ≡ ends_in xs
    ends_kept = map-set_same ends_of_part xs n both s (join.ends ∙ ap ends_of_part at)

-- ---- a further part

-- the edges ascend with one more, which does not come before them and is not equal to the last
pub ascending_on : (es : List CountedEdge) (f : CountedEdge) → IsAscending es → IsUpTo (ends_of f) es →
    ((n : ℕ) (d : CountedEdge) → n + 1 ≡ length es → edge_eq (ends_of (get_or es n d)) (ends_of f) ≡ false) →
    IsAscending (es ++ f ∷ [])
ascending_on es f up behind other =
    all_pairs_push (λ e g. Precedes (ends_of e) (ends_of g)) es f up
    (λ k d lt. ⊎_elim (earlier k d) (λ ge. last k d (omega (arith, lt, ge))) (cases_lt (k + 1) (length es)))
  where
    last : (n : ℕ) (d : CountedEdge) → n + 1 ≡ length es → Precedes (ends_of (get_or es n d)) (ends_of f)
    last n d is = ⊎_elim (λ less. less)
        (λ same. absurd (both_ways (edge_eq (ends_of (get_or es n d)) (ends_of f)) (other n d is) same))
        (lt_or_eq (ends_of (get_or es n d)) (ends_of f) (behind n d (omega (arith, is))))

    earlier : (k : ℕ) (d : CountedEdge) → k + 1 < length es → Precedes (ends_of (get_or es k d)) (ends_of f)
    earlier k d lt =
        let n = length es - 1 in
        let is : n + 1 ≡ length es = omega (arith, lt) in
        edge_lt-trans (ends_of (get_or es k d)) (ends_of (get_or es n d)) (ends_of f)
        (up k n d (omega (arith, is, lt)) (omega (arith, is))) (last n d is)

-- what holds of the items of a list, each with all later ones, holds of those from a place on
pairs_behind : {X : Type 0} (R : X → X → Type 0) (i : ℕ) (xs : List X) → AllPairs R xs → AllPairs R (drop i xs)
pairs_behind R i xs pairs = λ j k d lt inside.
    let long = length-drop i xs in
    subst (λ x. R x (get_or (drop i xs) k d)) (sym (get_or-drop i xs j d))
    (subst (R (get_or xs (i + j) d)) (sym (get_or-drop i xs k d))
    (pairs (i + j) (i + k) d (omega (arith, lt)) (omega (arith, inside, long))))

-- no edge of the second list comes before one of the first
abbrev pub Follow : List CountedEdge → List CountedEdge → Type 0
Follow es fs = All (λ e. All (λ f. edge_lt (ends_of f) (ends_of e) ≡ false) fs) es

module _ {I C : Type 0} (whole : I → ℤ) (counts : C → Counts) where
  -- the edge of a part of the program
  abbrev pub edge_in : HeldPart I C → CountedEdge
  edge_in p = plain_edge whole counts p.edge

  abbrev plain : List (HeldPart I C) → List (Part C)
  plain ps = plain_parts whole counts ps

  -- the edges of parts of the program
  pub edges_held : (ps : List (HeldPart I C)) → edges_in_parts (plain ps) ≡ map edge_in ps
  edges_held [] = refl
  edges_held (p ∷ ps) = ap (λ es. edge_in p ∷ es) (edges_held ps)

  -- parts ascend with one more
  pub ascending_with : (ps : List (HeldPart I C)) (p : HeldPart I C) →
      ((n : ℕ) (s : HeldPart I C) → n + 1 ≡ length ps → s ≡ get_or ps n s →
      edge_eq (ends_of (edge_in s)) (ends_of (edge_in p)) ≡ false) →
      IsAscending (edges_in_parts (plain ps)) → IsUpTo (ends_of (edge_in p)) (edges_in_parts (plain ps)) →
      IsAscending (edges_in_parts (plain (ps ++ p ∷ [])))
  ascending_with ps p other up behind =
      subst IsAscending (sym (edges_held (ps ++ p ∷ []) ∙ map-append edge_in ps (p ∷ [])))
      (ascending_on (map edge_in ps) (edge_in p) (subst IsAscending (edges_held ps) up)
      (subst (IsUpTo (ends_of (edge_in p))) (edges_held ps) behind) last)
    where
      last : (n : ℕ) (d : CountedEdge) → n + 1 ≡ length (map edge_in ps) →
          edge_eq (ends_of (get_or (map edge_in ps) n d)) (ends_of (edge_in p)) ≡ false
      last n d is =
          let long = length-map ps edge_in in
          let within : n < length ps = omega (arith, is, long) in
          let s = get_or ps n p in
          subst (λ e. edge_eq (ends_of e) (ends_of (edge_in p)) ≡ false) (sym (get_or-map edge_in ps n p d within))
          (other n s (omega (arith, is, long)) (get_or_default ps n p s within))

  -- what is not equal to the part at the last place is not equal to the last
  pub other_than_last : (ps : List (HeldPart I C)) (m : ℕ) (r p : HeldPart I C) → m + 1 ≡ length ps →
      r ≡ get_or ps m r → edge_eq (ends_of (edge_in r)) (ends_of (edge_in p)) ≡ false → (n : ℕ) (s : HeldPart I C) →
      n + 1 ≡ length ps → s ≡ get_or ps n s → edge_eq (ends_of (edge_in s)) (ends_of (edge_in p)) ≡ false
  other_than_last ps m r p long at other n s is here =
      let place : n ≡ m = omega (arith, long, is) in
      let same : s ≡ r =
      here ∙ ap (λ k. get_or ps k s) place ∙ get_or_default ps m s r (omega (arith, long)) ∙ sym at in
      subst (λ t. edge_eq (ends_of (edge_in t)) (ends_of (edge_in p)) ≡ false) (sym same) other

  -- s is the last part, and is equal to p
  pub record IsLastEqual (ps : List (HeldPart I C)) (n : ℕ) (s p : HeldPart I C) : Type 0 where
    pub within : n < length ps
    pub long : n + 1 ≡ length (plain ps)
    pub at : plain_part whole counts s ≡ get_or (plain ps) n (plain_part whole counts s)
    pub equal : ends_of_part (plain_part whole counts s) ≡ ends_of_part (plain_part whole counts p)

  -- so it is where the part read there has the ends of p
  pub last_equal : (ps : List (HeldPart I C)) (n : ℕ) (s r p : HeldPart I C) → n + 1 ≡ length ps → s ≡ get_or ps n s →
      r ≡ get_or ps n r → edge_eq (ends_of (edge_in r)) (ends_of (edge_in p)) ≡ true → IsLastEqual ps n s p
  last_equal ps n s r p is at there same =
      let count = length-map ps (plain_part whole counts) in
      let inside : n < length ps = omega (arith, is) in
      record {
        within = inside;
        long = omega (arith, is, count);
        at = sym (read_mapped (plain_part whole counts) ps n s (plain_part whole counts s) inside at);
        equal = edge_eq-same (ends_of (edge_in s)) (ends_of (edge_in p))
            (subst (λ t. edge_eq (ends_of (edge_in t)) (ends_of (edge_in p)) ≡ true)
            (there ∙ get_or_default ps n r s inside ∙ sym at) same);
      }

  -- written there, the joined part leaves the ends as they are
  pub ends_written : (merges : C → C → C → Type 0) (ps : List (HeldPart I C)) (n : ℕ) (s p both : HeldPart I C) →
      IsLastEqual ps n s p →
      IsJoinedPart merges (plain_part whole counts s) (plain_part whole counts p) (plain_part whole counts both) →
      ends_in (plain (set ps n both)) ≡ ends_in (plain ps)
  ends_written merges ps n s p both is join =
      ap ends_in (map-set (plain_part whole counts) ps n both)
      ∙ ends_kept merges (plain ps) n (plain_part whole counts s) (plain_part whole counts p) is.long is.at is.equal
      (plain_part whole counts both) join

  -- an edge that does not come before parts and one more does not come before all of them
  pub up_to_with : (e : Edge) (ps : List (HeldPart I C)) (p : HeldPart I C) → edge_lt e (ends_of (edge_in p)) ≡ false →
      IsUpTo e (edges_in_parts (plain ps)) → IsUpTo e (edges_in_parts (plain (ps ++ p ∷ [])))
  up_to_with e ps p here up =
      subst (IsUpTo e) (sym (edges_held (ps ++ p ∷ []) ∙ map-append edge_in ps (p ∷ [])))
      (All-push (λ f. edge_lt e (ends_of f) ≡ false) (map edge_in ps) (edge_in p)
      (subst (IsUpTo e) (edges_held ps) up) here)

  -- ---- the loop

  -- the parts are parted into those made, which ascend, and those from a place on, which do not come before them
  abbrev pub AreJoinedTo : (C → C → C → Type 0) → ℕ → List (HeldPart I C) → List (Part C) → ℕ → Type 0
  AreJoinedTo merges limit ps made i =
      AreParted merges (plain ps) (made ++ plain (drop i ps)) × All (IsHeldPart limit) made
      × IsAscending (edges_in_parts made) × Follow (edges_in_parts made) (edges_in_parts (plain (drop i ps)))

  -- at the start none is made
  pub joined_begin : (merges : C → C → C → Type 0) (limit : ℕ) (ps : List (HeldPart I C)) →
      AreJoinedTo merges limit ps [] 0
  joined_begin merges limit ps = (
    moved (IsPermutation-refl (plain ps)),
    All-nil (IsHeldPart limit),
    λ i j d lt inside. absurd (omega (arith, inside)),
    All-nil (λ (e : CountedEdge). All (λ f. edge_lt (ends_of f) (ends_of e) ≡ false) (edges_in_parts (plain ps))),
  )

  module _ (ps : List (HeldPart I C)) (i : ℕ) (p : HeldPart I C) (within : i < length ps) (at : p ≡ get_or ps i p) where
    -- the parts from a place on are the part there, and the rest
    pub next_of_rest : plain (drop i ps) ≡ plain_part whole counts p ∷ plain (drop (i + 1) ps)
    next_of_rest = mapped_rest (plain_part whole counts) ps i p within at

    -- the rest does not come before the part
    rest_follows : IsInOrder (edges_in_parts (plain ps)) →
        All (λ f. edge_lt (ends_of f) (ends_of (edge_in p)) ≡ false) (edges_in_parts (plain (drop (i + 1) ps)))
    rest_follows order =
        let R = λ (e f : CountedEdge). edge_lt (ends_of f) (ends_of e) ≡ false in
        let held = AllPairs-unmap R edge_in ps (subst (AllPairs R) (edges_held ps) order) in
        subst (All (R (edge_in p))) (sym (edges_held (drop (i + 1) ps)))
        (AllPairs-head R (edge_in p) (map edge_in (drop (i + 1) ps))
        (subst (AllPairs R) (mapped_rest edge_in ps i p within at)
        (AllPairs-map R edge_in (drop i ps) (pairs_behind (λ s t. R (edge_in s) (edge_in t)) i ps held))))

    module _ (made : List (Part C)) (follow : Follow (edges_in_parts made) (edges_in_parts (plain (drop i ps)))) where
      -- the part does not come before those made
      pub next_up_to : IsUpTo (ends_of (edge_in p)) (edges_in_parts made)
      next_up_to =
          let R = λ (e f : CountedEdge). edge_lt (ends_of f) (ends_of e) ≡ false in
          All-weaker (λ e. All (R e) (edges_in_parts (plain_part whole counts p ∷ plain (drop (i + 1) ps))))
          (λ e. R e (edge_in p))
          (λ e all. All-head (R e) (edge_in p) (edges_in_parts (plain (drop (i + 1) ps))) all) (edges_in_parts made)
          (subst (λ qs. Follow (edges_in_parts made) (edges_in_parts qs)) next_of_rest follow)

    -- what does not come before the part does not come before those that do not come behind it
    pub follow_next : (new : List (Part C)) → IsInOrder (edges_in_parts (plain ps)) →
        IsUpTo (ends_of (edge_in p)) (edges_in_parts new) →
        Follow (edges_in_parts new) (edges_in_parts (plain (drop (i + 1) ps)))
    follow_next new order up =
        let R = λ (e f : CountedEdge). edge_lt (ends_of f) (ends_of e) ≡ false in
        let rest = edges_in_parts (plain (drop (i + 1) ps)) in
        All-weaker (λ e. edge_lt (ends_of (edge_in p)) (ends_of e) ≡ false) (λ e. All (R e) rest)
        (λ e le. All-weaker (R (edge_in p)) (R e)
        (λ f behind. edge_lt-order.chain (ends_of f) (ends_of (edge_in p)) (ends_of e) behind le) rest
        (rest_follows order)) (edges_in_parts new) up

    module _ (merges : C → C → C → Type 0) (old made : List (Part C))
        (so_far : AreParted merges old (made ++ plain (drop i ps))) where
      -- the parts are parted into those made, the part and the rest
      with_next : AreParted merges old (made ++ plain_part whole counts p ∷ plain (drop (i + 1) ps))
      with_next = subst (λ qs. AreParted merges old (made ++ qs)) next_of_rest so_far

      -- so these are light
      pub next_light : AreLightParts merges old →
          AreLightParts merges (made ++ plain_part whole counts p ∷ plain (drop (i + 1) ps))
      next_light light = record {
        edges = light.edges;
        parted = parted_on merges light.parted with_next;
        light = light.light;
      }

      -- and into the next ones made, and the rest
      pub parted_next : (new : List (Part C)) → AreParted merges (made ++ plain_part whole counts p ∷ []) new →
          AreParted merges old (new ++ plain (drop (i + 1) ps))
      parted_next new step =
          let rest = plain (drop (i + 1) ps) in
          parted_on merges
          (subst (AreParted merges old) (sym (append_assoc made (plain_part whole counts p ∷ []) rest)) with_next)
          (parted_before merges rest step)

  -- ---- sorted parts

  -- parts of the program by their ends
  abbrev pub part_lt : HeldPart I C → HeldPart I C → Bool
  part_lt s t = edge_lt (ends_of (edge_in s)) (ends_of (edge_in t))

  -- that is an order in which any two parts compare
  pub part_lt-order : IsStrictWeakOrder part_lt
  part_lt-order = record {
    one_way = λ s t. edge_lt-order.one_way (ends_of (edge_in s)) (ends_of (edge_in t));
    chain = λ s t p. edge_lt-order.chain (ends_of (edge_in s)) (ends_of (edge_in t)) (ends_of (edge_in p));
  }

  -- sorted parts are in order
  pub sorted_in_order : (ps : List (HeldPart I C)) → IsSortedBy part_lt ps → IsInOrder (edges_in_parts (plain ps))
  sorted_in_order ps up =
      subst IsInOrder (sym (edges_held ps))
      (AllPairs-map (λ (e f : CountedEdge). edge_lt (ends_of f) (ends_of e) ≡ false) edge_in ps
      (λ i j d l m. sorted_far part_lt part_lt-order ps up i j d (omega arith) m))
