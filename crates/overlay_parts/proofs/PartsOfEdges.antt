-- Edges as parts of themselves, and the weight of parts that result from them.
use Rattle.std.proofs.Common.{◌≡◌, ℕ, ◌+◌, ◌^◌, ◌≤◌, ◌<◌, Bool, true, false, cond, not, ◌&&◌, ℤ, List, []}
use Rattle.std.proofs.Common.{◌∷◌, ◌++◌, map, All, length, take, drop, refl, sym, ap, ◌∙◌, subst, arith}
use Rattle.std.specs.List.{sum_by}
use Rattle.std.proofs.lemmas.Bool.{both_ways}
use Rattle.std.proofs.lemmas.List.{drop-map, length-map, map-append, take-append-drop, take-map}
use Rattle.std.proofs.lemmas.List.Elements.{All-drop, All-head, All-nil, All-take}
use Rattle.std.proofs.lemmas.List.Sorted.{length_permutation, sum_by-IsPermutation}
use Rattle.std.proofs.lemmas.List.Sums.{sum_by-append, sum_by-cons}
use Rattle.overlay_geom.specs.Counts.{Counts, weight_of_counts}
use Rattle.overlay_geom.specs.Edges.{CountedEdge, ends_of, weight}
use Rattle.overlay_geom.specs.Placed.{IsAlong}
use Rattle.overlay_geom.specs.Plane.{Point, Edge, point_lt}
use Rattle.overlay_geom.proofs.Orders.{point_lt-itself}
use Rattle.overlay_geom.proofs.PointOrder.{point_lt-transitive}
use Rattle.overlay_geom.proofs.Weights.{edge_weight, weight-cons}
use Rattle.overlay_plane.specs.Carried.{Carried, edges_in}
use Rattle.overlay_order.specs.Content.{carried_edge, carried_edges, plain_edge, plain_edges, IsHeld}
use Rattle.overlay_order.specs.declared.edge.CountedEdge.{CountedEdge as HeldEdge}
use Rattle.overlay_order.proofs.CarriedEdges.{edges_in-carried}
use Rattle.overlay_parts.specs.Parts.{Part, ends_of_part, lone_part, part_between, AreParted, moved, parted, joined}
use Rattle.overlay_parts.specs.Parts.{plain_part, plain_parts, IsJoinedPart}
use Rattle.overlay_parts.specs.declared.parts.Part.{Part as HeldPart}
use Rattle.overlay_parts.specs.LineParts.{AreOnLine, ArePartsOn, AreToJoin, IsPartOn}
use Rattle.overlay_parts.proofs.JoinedParts.{parted_both}
use Rattle.overlay_parts.proofs.LineParts.{alone_on}
use Rattle.overlay_parts.proofs.Parted.{parted_on}

-- ---- parts of few edges

-- one edge, or none, as a part of itself
pub lone_on : {C : Type 0} (limit : ℕ) (line : Edge) (es : List (Carried C)) → length es < 2 →
    All (IsHeld limit) (edges_in es) → AreOnLine line (edges_in es) →
    ArePartsOn limit (weight (edges_in es)) line (map lone_part es)
lone_on limit line [] short held on = record {
  on = All-nil (IsPartOn limit (weight []) line);
  in_order = λ i j d before inside. absurd (omega arith);
}
lone_on limit line (x ∷ []) short held on =
    let all = weight-cons x.edge [] in
    alone_on limit line (weight (x.edge ∷ [])) (lone_part x) (record {
      held = record { held = All-head (IsHeld limit) x.edge [] held; light = omega arith };
      cover = omega (arith, all);
      along = All-head (λ e. IsAlong line (ends_of e)) x.edge [] on.along;
    })
lone_on limit line (x ∷ y ∷ es) short held on = absurd (omega (arith, short))

-- parts do not vanish
pub some_left : {C : Type 0} (merges : C → C → C → Type 0) {old new : List (Part C)} → AreParted merges old new →
    0 < length old → 0 < length new
some_left merges {old} (moved {new = new} first) some =
    let long = length_permutation old new first in
    omega (arith, long, some)
some_left merges (parted first at later) some = some_left merges later (omega arith)
some_left merges (joined first join later) some = some_left merges later (omega arith)

module _ {I C : Type 0} (whole : I → ℤ) (counts : C → Counts) where
  -- the same for edges of the program
  pub lone_held_on : (limit : ℕ) (line : Edge) (fs : List (HeldEdge I C)) → length fs < 2 →
      All (IsHeld limit) (plain_edges whole counts fs) → AreOnLine line (plain_edges whole counts fs) →
      ArePartsOn limit (weight (plain_edges whole counts fs)) line (map lone_part (carried_edges whole counts fs))
  lone_held_on limit line fs short held on =
      let same = edges_in-carried whole counts fs in
      let few : length (carried_edges whole counts fs) < 2 = (let l = length-map fs (carried_edge whole counts) in
      omega (arith, l, short)) in
      subst (λ es. ArePartsOn limit (weight es) line (map lone_part (carried_edges whole counts fs))) same
      (lone_on limit line (carried_edges whole counts fs) few (subst (All (IsHeld limit)) (sym same) held)
      (subst (AreOnLine line) (sym same) on))

  -- parts of some edges are some
  pub some_parts : (merges : C → C → C → Type 0) (fs : List (HeldEdge I C)) (ps qs : List (HeldPart I C)) → qs ≡ ps →
      AreParted merges (map lone_part (carried_edges whole counts fs)) (plain_parts whole counts ps) →
      0 < length fs → 0 < length qs
  some_parts merges fs ps qs same are some =
      let of_fs = length-map fs (carried_edge whole counts) in
      let of_lone = length-map (carried_edges whole counts fs) lone_part in
      let of_ps = length-map ps (plain_part whole counts) in
      let of_qs : length qs ≡ length ps = ap length same in
      let left = some_left merges are (omega (arith, of_fs, of_lone, some)) in
      omega (arith, of_ps, of_qs, left)

-- ---- parts of two halves

module _ {I C : Type 0} (whole : I → ℤ) (counts : C → Counts) (es : List (HeldEdge I C)) (n : ℕ) where
  abbrev carried : List (HeldEdge I C) → List (Carried C)
  carried fs = carried_edges whole counts fs

  abbrev plain : List (HeldEdge I C) → List CountedEdge
  plain fs = plain_edges whole counts fs

  -- the lone parts of the halves are those of all
  lone_halves : map lone_part (carried (take n es)) ++ map lone_part (carried (drop n es)) ≡ map lone_part (carried es)
  lone_halves =
      sym (map-append lone_part (carried (take n es)) (carried (drop n es)))
      ∙ ap (map lone_part) (sym (map-append _ (take n es) (drop n es)))
      ∙ ap (λ fs. map lone_part (carried fs)) (take-append-drop n es)

  -- so is their weight
  pub weight_halves : weight (plain (take n es)) + weight (plain (drop n es)) ≡ weight (plain es)
  weight_halves =
      sym (sum_by-append edge_weight (plain (take n es)) (plain (drop n es)))
      ∙ ap weight (sym (map-append _ (take n es) (drop n es)))
      ∙ ap (λ fs. weight (plain fs)) (take-append-drop n es)

  -- the parts of the parts of both are parts of all
  pub parted_halves : (merges : C → C → C → Type 0) (low high new : List (Part C)) →
      AreParted merges (map lone_part (carried (take n es))) low →
      AreParted merges (map lone_part (carried (drop n es))) high → AreParted merges (low ++ high) new →
      AreParted merges (map lone_part (carried es)) new
  parted_halves merges low high new of_low of_high all =
      subst (λ ps. AreParted merges ps new) lone_halves
      (parted_on merges (parted_both merges (map lone_part (carried (take n es)))
      (map lone_part (carried (drop n es))) low high of_low of_high) all)

  -- ---- what holds of both halves

  module _ (front back : List (HeldEdge I C)) (is_front : front ≡ take n es) (is_back : back ≡ drop n es) where
    -- what holds of all edges holds of those of each half
    pub all_front : (P : CountedEdge → Type 0) → All P (plain es) → All P (plain front)
    all_front P all = subst (λ fs. All P (plain fs)) (sym is_front)
        (subst (All P) (take-map (plain_edge whole counts) n es) (All-take P n (plain es) all))

    pub all_back : (P : CountedEdge → Type 0) → All P (plain es) → All P (plain back)
    all_back P all = subst (λ fs. All P (plain fs)) (sym is_back)
        (subst (All P) (drop-map (plain_edge whole counts) n es) (All-drop P n (plain es) all))

    pub on_front : (line : Edge) → AreOnLine line (plain es) → AreOnLine line (plain front)
    on_front line on = record {
      forward = on.forward;
      along = all_front (λ e. IsAlong line (ends_of e)) on.along;
    }

    pub on_back : (line : Edge) → AreOnLine line (plain es) → AreOnLine line (plain back)
    on_back line on = record { forward = on.forward; along = all_back (λ e. IsAlong line (ends_of e)) on.along }

    -- the halves weigh as much as all
    pub weight_both : weight (plain front) + weight (plain back) ≡ weight (plain es)
    weight_both =
        ap (λ fs. weight (plain fs) + weight (plain back)) is_front
        ∙ ap (λ fs. weight (plain (take n es)) + weight (plain fs)) is_back ∙ weight_halves

    -- the parts of both are to be joined
    pub to_join : (limit : ℕ) (line : Edge) (low high : List (Part C)) → weight (plain es) < 2 ^ 31 →
        AreOnLine line (plain es) → ArePartsOn limit (weight (plain front)) line low →
        ArePartsOn limit (weight (plain back)) line high →
        AreToJoin limit (weight (plain front)) (weight (plain back)) line low high
    to_join limit line low high light on low_on high_on = record {
      forward = on.forward;
      low_on = low_on;
      high_on = high_on;
      light = let both = weight_both in omega (arith, light, both);
    }

    -- the joined parts are those of all
    pub parted_all : (merges : C → C → C → Type 0) (low high new : List (Part C)) →
        AreParted merges (map lone_part (carried front)) low → AreParted merges (map lone_part (carried back)) high →
        AreParted merges (low ++ high) new → AreParted merges (map lone_part (carried es)) new
    parted_all merges low high new of_low of_high all = parted_halves merges low high new
        (subst (λ fs. AreParted merges (map lone_part (carried fs)) low) is_front of_low)
        (subst (λ fs. AreParted merges (map lone_part (carried fs)) high) is_back of_high) all

    pub joined_on_line : (limit : ℕ) (line : Edge) (low high new : List (Part C)) → weight (plain es) < 2 ^ 31 →
        ArePartsOn limit (weight (plain front)) line low → ArePartsOn limit (weight (plain back)) line high →
        ((m k : ℕ) → AreToJoin limit m k line low high → ArePartsOn limit (m + k) line new) →
        AreOnLine line (plain es) → ArePartsOn limit (weight (plain es)) line new
    joined_on_line limit line low high new light low_on high_on become on =
        subst (λ w. ArePartsOn limit w line new) weight_both
        (become (weight (plain front)) (weight (plain back))
        (to_join limit line low high light on low_on high_on))

-- ---- the weight over a point

-- the part goes over the point, in the order of points: it starts up to it, and ends behind it
abbrev goes_over : Point → Edge → Bool
goes_over u e = not (point_lt u e.a) && point_lt u e.b

-- the cover of a part that goes over the point
abbrev pub cover_at : {C : Type 0} → Point → Part C → ℕ
cover_at u part = cond (goes_over u (ends_of_part part)) part.cover 0

-- two parts of a part cover what it covers
cover_both : (u a v b : Point) (n : ℕ) → point_lt a v ≡ true → point_lt v b ≡ true →
    cond (not (point_lt u a) && point_lt u v) n 0 + cond (not (point_lt u v) && point_lt u b) n 0
    ≡ cond (not (point_lt u a) && point_lt u b) n 0
cover_both u a v b n after before = by (point_lt u a) (point_lt u v) (point_lt u b) refl refl refl
  where
    by : (x y z : Bool) → point_lt u a ≡ x → point_lt u v ≡ y → point_lt u b ≡ z →
        cond (not x && y) n 0 + cond (not y && z) n 0 ≡ cond (not x && z) n 0
    by true true z at_a at_v at_b = refl
    by true false z at_a at_v at_b =
        absurd (both_ways (point_lt u v) at_v (point_lt-transitive u a v at_a after))
    by false true true at_a at_v at_b = omega arith
    by false true false at_a at_v at_b =
        absurd (both_ways (point_lt u b) at_b (point_lt-transitive u v b at_v before))
    by false false z at_a at_v at_b = omega arith

-- a joined part covers what both cover
cover_sum : (c : Bool) (m k : ℕ) → cond c (m + k) 0 ≡ cond c m 0 + cond c k 0
cover_sum true m k = refl
cover_sum false m k = refl

cover_joined : {C : Type 0} (merges : C → C → C → Type 0) (u : Point) (s t both : Part C) →
    IsJoinedPart merges s t both → cover_at u both ≡ cover_at u s + cover_at u t
cover_joined merges u s t both join =
    ap (λ e. cond (goes_over u e) both.cover 0) join.ends
    ∙ ap (λ n. cond (goes_over u (ends_of_part s)) n 0) join.cover
    ∙ cover_sum (goes_over u (ends_of_part s)) s.cover t.cover
    ∙ ap (λ e. cond (goes_over u (ends_of_part s)) s.cover 0 + cond (goes_over u e) t.cover 0) join.equal

-- parting keeps the cover over each point
pub cover_kept : {C : Type 0} (merges : C → C → C → Type 0) (u : Point) {old new : List (Part C)} →
    AreParted merges old new → sum_by (cover_at u) new ≡ sum_by (cover_at u) old
cover_kept merges u {old} (moved {new = new} first) = sum_by-IsPermutation (cover_at u) old new first
cover_kept merges u {old} (parted {rest = rest} {new = new} {part = part} {other = other} {v = v} first at later) =
    let low = part_between part (ends_of_part part).a v in
    let high = part_between part v (ends_of_part part).b in
    let before = sum_by-IsPermutation (cover_at u) old (part ∷ other ∷ rest) first in
    let after = cover_kept merges u later in
    let of_old = sum_by-cons (cover_at u) part (other ∷ rest) in
    let of_new = sum_by-cons (cover_at u) low (high ∷ other ∷ rest) in
    let of_rest = sum_by-cons (cover_at u) high (other ∷ rest) in
    let both = cover_both u (ends_of_part part).a v (ends_of_part part).b part.cover at.after at.before in
    after ∙ of_new ∙ add_on (cover_at u low) (cover_at u high) (sum_by (cover_at u) (other ∷ rest))
    (sum_by (cover_at u) (high ∷ other ∷ rest)) (cover_at u part) of_rest both ∙ sym of_old ∙ before
  where
    add_on : (a b c d n : ℕ) → d ≡ b + c → a + b ≡ n → a + d ≡ n + c
    add_on a b c d n e f = omega (arith, e, f)
cover_kept merges u {old} (joined {rest = rest} {new = new} {s = s} {t = t} {both = both} first join later) =
    let before = sum_by-IsPermutation (cover_at u) old (s ∷ t ∷ rest) first in
    let after = cover_kept merges u later in
    let of_old = sum_by-cons (cover_at u) s (t ∷ rest) in
    let of_rest = sum_by-cons (cover_at u) t rest in
    let of_new = sum_by-cons (cover_at u) both rest in
    after ∙ of_new ∙ take_on (cover_at u s) (cover_at u t) (cover_at u both) (sum_by (cover_at u) rest)
    (sum_by (cover_at u) (t ∷ rest)) (cover_joined merges u s t both join) of_rest ∙ sym of_old ∙ before
  where
    take_on : (a b n c d : ℕ) → n ≡ a + b → d ≡ b + c → n + c ≡ a + d
    take_on a b n c d e f = omega (arith, e, f)

-- edges cover no more than they weigh
pub lone_cover : {C : Type 0} (u : Point) (es : List (Carried C)) →
    sum_by (cover_at u) (map lone_part es) ≤ weight (edges_in es)
lone_cover u [] = omega arith
lone_cover u (x ∷ es) =
    let first = sum_by-cons (cover_at u) (lone_part x) (map lone_part es) in
    let all = weight-cons x.edge (edges_in es) in
    let rest = lone_cover u es in
    let most = at_most (goes_over u (ends_of x.edge)) (weight_of_counts x.edge.counts) in
    omega (arith, first, all, rest, most)
  where
    at_most : (c : Bool) (n : ℕ) → cond c n 0 ≤ n
    at_most true n = omega arith
    at_most false n = omega arith

-- a forward part goes over its start
pub cover_start : {C : Type 0} (part : Part C) → point_lt (ends_of_part part).a (ends_of_part part).b ≡ true →
    cover_at (ends_of_part part).a part ≡ part.cover
cover_start part forward =
    let a = (ends_of_part part).a in
    ap (λ c. cond (not c && point_lt a (ends_of_part part).b) part.cover 0) (point_lt-itself a)
    ∙ ap (λ c. cond c part.cover 0) forward

-- two equal parts together are as light as the edges
pub light_pair : {C : Type 0} (merges : C → C → C → Type 0) (es : List (Carried C)) (s t : Part C)
    (rest : List (Part C)) → AreParted merges (map lone_part es) (s ∷ t ∷ rest) →
    point_lt (ends_of_part s).a (ends_of_part s).b ≡ true → ends_of_part s ≡ ends_of_part t →
    s.cover + t.cover ≤ weight (edges_in es)
light_pair merges es s t rest are forward equal =
    let u = (ends_of_part s).a in
    let kept = cover_kept merges u are in
    let light = lone_cover u es in
    let first = sum_by-cons (cover_at u) s (t ∷ rest) in
    let second = sum_by-cons (cover_at u) t rest in
    let of_s = cover_start s forward in
    let of_t : cover_at u t ≡ t.cover =
    ap (λ e. cond (goes_over u e) t.cover 0) (sym equal)
    ∙ ap (λ c. cond (not c && point_lt u (ends_of_part s).b) t.cover 0) (point_lt-itself u)
    ∙ ap (λ c. cond c t.cover 0) forward in
    together (cover_at u s) (cover_at u t) (sum_by (cover_at u) (t ∷ rest)) (sum_by (cover_at u) (s ∷ t ∷ rest))
    (sum_by (cover_at u) (map lone_part es)) (sum_by (cover_at u) rest) (weight (edges_in es)) s.cover t.cover of_s of_t
    first second kept light
  where
    together : (a b c d e r w m k : ℕ) → a ≡ m → b ≡ k → d ≡ a + c → c ≡ b + r → d ≡ e → e ≤ w → m + k ≤ w
    together a b c d e r w m k p q x y z l = omega (arith, p, q, x, y, z, l)
