-- Two lists of parts on one line are joined from their start on: each step makes the next part.
use Rattle.std.proofs.Common.{◌≡◌, ◌⊎◌, inl, inr, ⊎_elim, ℕ, ◌+◌, ◌≤◌, ◌<◌, Bool, true, false, cond, ℤ, pos, List, []}
use Rattle.std.proofs.Common.{◌∷◌, ◌++◌, All, length, get_or, drop, refl, sym, ap, ◌∙◌, subst}
use Rattle.std.proofs.Common.{append_assoc, append-nil, arith}
use Rattle.std.specs.List.Sorted.{IsPermutation}
use Rattle.std.proofs.lemmas.List.{drop_all}
use Rattle.std.proofs.lemmas.List.Elements.{All-head, All-nil, All-push, All-weaker}
use Rattle.std.proofs.lemmas.List.Sorted.{IsPermutation-append_comm}
use Rattle.std.proofs.lemmas.List.Sorted.{IsPermutation-append_right, IsPermutation-refl, IsPermutation-sym}
use Rattle.std.proofs.lemmas.List.Sorted.{IsPermutation-trans}
use Rattle.overlay_geom.specs.Counts.{Counts}
use Rattle.overlay_geom.specs.Plane.{Point, Edge, cross_at, point_lt}
use Rattle.overlay_geom.specs.Points.{InRange}
use Rattle.overlay_geom.proofs.Mapped.{mapped_rest}
use Rattle.overlay_geom.proofs.Merging.{AllPairs-head}
use Rattle.overlay_geom.proofs.Orders.{point_lt-itself, point_lt-order}
use Rattle.overlay_geom.proofs.PointOrder.{point_lt-after_up_to}
use Rattle.overlay_plane.proofs.SplitLists.{IsPermutation-past}
use Rattle.overlay_parts.specs.Parts.{Part, ends_of_part, first_of, part_behind, plain_part, plain_parts, rest_behind}
use Rattle.overlay_parts.specs.Parts.{AreParted, moved, IsFirstPart}
use Rattle.overlay_parts.specs.LineParts.{parts_behind, ArePartsOn, AreToJoin, EndsUpTo, IsFrontOf, IsPartOn}
use Rattle.overlay_parts.specs.declared.parts.Part.{Part as HeldPart}
use Rattle.overlay_parts.proofs.LineParts.{all_from_first, alone_on, ends_left, fewer_at_end, fewer_behind, joined_on}
use Rattle.overlay_parts.proofs.LineParts.{lighter_on, next_left, rest_from, rest_on, unmoved, EndsBy, StartsFrom}
use Rattle.overlay_parts.proofs.PartFronts.{not_back}
use Rattle.overlay_parts.proofs.Parted.{moved_before, parted_before, parted_on}

-- ---- lists in another order

-- two lists in front of others, moved behind the first of these
gathered : {X : Type 0} (xs ss ls ts hs : List X) →
    IsPermutation (xs ++ ((ss ++ ls) ++ (ts ++ hs))) ((ss ++ ts) ++ (xs ++ (ls ++ hs)))
gathered xs ss ls ts hs =
    let flat : xs ++ ((ss ++ ls) ++ (ts ++ hs)) ≡ xs ++ (ss ++ (ls ++ (ts ++ hs))) =
    ap (λ vs. xs ++ vs) (append_assoc ss ls (ts ++ hs)) in
    subst (λ vs. IsPermutation vs ((ss ++ ts) ++ (xs ++ (ls ++ hs)))) (sym flat)
    (subst (λ vs. IsPermutation (xs ++ (ss ++ (ls ++ (ts ++ hs)))) vs) (sym (append_assoc ss ts (xs ++ (ls ++ hs))))
    (IsPermutation-trans (xs ++ (ss ++ (ls ++ (ts ++ hs)))) (ss ++ (xs ++ (ls ++ (ts ++ hs))))
    (ss ++ (ts ++ (xs ++ (ls ++ hs))))
    (IsPermutation-past xs ss (ls ++ (ts ++ hs)))
    (IsPermutation-append_right ss (xs ++ (ls ++ (ts ++ hs))) (ts ++ (xs ++ (ls ++ hs)))
    (IsPermutation-trans (xs ++ (ls ++ (ts ++ hs))) (xs ++ (ts ++ (ls ++ hs))) (ts ++ (xs ++ (ls ++ hs)))
    (IsPermutation-append_right xs (ls ++ (ts ++ hs)) (ts ++ (ls ++ hs)) (IsPermutation-past ls ts hs))
    (IsPermutation-past xs ts (ls ++ hs))))))

-- the next one, moved behind those before it
put_next : {X : Type 0} (x : X) (xs rs ss ls hs : List X) →
    IsPermutation (x ∷ ((rs ++ ss) ++ (xs ++ (ls ++ hs)))) ((xs ++ x ∷ []) ++ ((rs ++ ls) ++ (ss ++ hs)))
put_next x xs rs ss ls hs =
    let one = x ∷ [] in
    IsPermutation-trans (one ++ ((rs ++ ss) ++ (xs ++ (ls ++ hs)))) ((rs ++ ss) ++ ((xs ++ one) ++ (ls ++ hs)))
    ((xs ++ one) ++ ((rs ++ ls) ++ (ss ++ hs)))
    (IsPermutation-trans (one ++ ((rs ++ ss) ++ (xs ++ (ls ++ hs)))) ((rs ++ ss) ++ (one ++ (xs ++ (ls ++ hs))))
    ((rs ++ ss) ++ ((xs ++ one) ++ (ls ++ hs)))
    (IsPermutation-past one (rs ++ ss) (xs ++ (ls ++ hs)))
    (IsPermutation-append_right (rs ++ ss) (one ++ (xs ++ (ls ++ hs))) ((xs ++ one) ++ (ls ++ hs))
    (subst (λ vs. IsPermutation (one ++ (xs ++ (ls ++ hs))) vs) (sym (append_assoc xs one (ls ++ hs)))
    (IsPermutation-past one xs (ls ++ hs)))))
    (IsPermutation-sym ((xs ++ one) ++ ((rs ++ ls) ++ (ss ++ hs))) ((rs ++ ss) ++ ((xs ++ one) ++ (ls ++ hs)))
    (gathered (xs ++ one) rs ls ss hs))

-- lists are parted each by itself
pub parted_both : {C : Type 0} (merges : C → C → C → Type 0) (ps bs cs ds : List (Part C)) → AreParted merges ps cs →
    AreParted merges bs ds → AreParted merges (ps ++ bs) (cs ++ ds)
parted_both merges ps bs cs ds first second =
    parted_on merges (parted_before merges bs first)
    (moved_before merges (IsPermutation-append_comm cs bs)
    (parted_on merges (parted_before merges cs second) (moved (IsPermutation-append_comm ds cs))))

-- ---- one step

-- parts that are joined up to a point: those made so far, and what is left of both lists
pub record IsJoinedUpTo {C : Type 0} (merges : C → C → C → Type 0) (limit m k : ℕ) (line : Edge) (old : List (Part C))
    (v : Point) (made low high : List (Part C)) : Type 0 where
  pub parted : AreParted merges old (made ++ (low ++ high))
  pub made_on : ArePartsOn limit (m + k) line made
  pub ended : All (EndsBy v) made
  pub low_on : ArePartsOn limit m line low
  pub low_from : All (StartsFrom v) low
  pub high_on : ArePartsOn limit k line high
  pub high_from : All (StartsFrom v) high

module _ {C : Type 0} (merges : C → C → C → Type 0) (limit m k : ℕ) (line : Edge) (old : List (Part C)) where
  abbrev Joined : Point → List (Part C) → List (Part C) → List (Part C) → Type 0
  Joined v made low high = IsJoinedUpTo merges limit m k line old v made low high

  module _ (v : Point) (made low high : List (Part C)) (s t front : Part C) (is : IsFrontOf s t front)
      (so_far : Joined v made (s ∷ low) (t ∷ high)) where
    s_on : IsPartOn limit m line s
    s_on = All-head (IsPartOn limit m line) s low so_far.low_on.on

    t_on : IsPartOn limit k line t
    t_on = All-head (IsPartOn limit k line) t high so_far.high_on.on

    -- a fact of the ends of both is one of those of the first part
    of_start : (P : Point → Type 0) → P (ends_of_part s).a → P (ends_of_part t).a → P (ends_of_part front).a
    of_start P of_s of_t = ⊎_elim (λ e. subst P (sym e) of_s) (λ e. subst P (sym e) of_t) is.start

    of_end : (P : Point → Type 0) → P (ends_of_part s).a → P (ends_of_part s).b → P (ends_of_part t).a →
        P (ends_of_part t).b → P (ends_of_part front).b
    of_end P sa sb ta tb =
        ⊎_elim (λ e. ⊎_elim (λ d. subst P (sym d) sa) (λ d. subst P (sym d) sb) e)
        (λ e. ⊎_elim (λ d. subst P (sym d) ta) (λ d. subst P (sym d) tb) e) is.end

    abbrev on_line : Point → Type 0
    on_line p = cross_at line.a line.b p ≡ pos 0

    end_on_line : on_line (ends_of_part front).b
    end_on_line = of_end on_line s_on.along.0 s_on.along.1 t_on.along.0 t_on.along.1

    end_in_range : InRange limit (ends_of_part front).b
    end_in_range = of_end (InRange limit) s_on.held.held.a_in_range s_on.held.held.b_in_range
        t_on.held.held.a_in_range t_on.held.held.b_in_range

    from : StartsFrom v front
    from = of_start (λ p. point_lt p v ≡ false) (All-head (StartsFrom v) s low so_far.low_from)
        (All-head (StartsFrom v) t high so_far.high_from)

    -- the first part ends behind the point
    less : point_lt v (ends_of_part front).b ≡ true
    less = point_lt-after_up_to v (ends_of_part front).a (ends_of_part front).b from is.forward

    front_on : IsPartOn limit (m + k) line front
    front_on = record {
      held = record {
        held = record {
          forward = is.forward;
          a_in_range = of_start (InRange limit) s_on.held.held.a_in_range t_on.held.held.a_in_range;
          b_in_range = end_in_range;
        };
        light = is.light;
      };
      cover = omega (arith, is.cover, s_on.cover, t_on.cover);
      along = (of_start on_line s_on.along.0 t_on.along.0, end_on_line);
    }

    -- with the first part all is joined up to its end
    pub joined_next : IsFirstPart merges s t front → Joined (ends_of_part front).b (made ++ front ∷ [])
        (rest_behind s (ends_of_part front).b ++ low) (rest_behind t (ends_of_part front).b ++ high)
    joined_next first =
        let w = (ends_of_part front).b in
        let rs = rest_behind s w in
        let ts = rest_behind t w in
        record {
          parted = parted_on merges so_far.parted
              (moved_before merges (gathered made (s ∷ []) low (t ∷ []) high)
              (parted_on merges (parted_before merges (made ++ (low ++ high)) first)
              (moved (put_next front made rs ts low high))));
          made_on = joined_on limit line (m + k) made (front ∷ []) v so_far.made_on so_far.ended
              (alone_on limit line (m + k) front front_on)
              (record_all from);
          ended = All-push (EndsBy w) made front
              (All-weaker (EndsBy v) (EndsBy w) (λ p by. by_later (ends_of_part p).b by) made so_far.ended)
              (point_lt-itself w);
          low_on = rest_on limit line m s w end_in_range end_on_line low so_far.low_on is.of_s;
          low_from = rest_from limit line m s w end_in_range end_on_line low so_far.low_on is.of_s;
          high_on = rest_on limit line k t w end_in_range end_on_line high so_far.high_on is.of_t;
          high_from = rest_from limit line k t w end_in_range end_on_line high so_far.high_on is.of_t;
        }
      where
        record_all : StartsFrom v front → All (StartsFrom v) (front ∷ [])
        record_all h = All-push (StartsFrom v) [] front (All-nil (StartsFrom v)) h

        by_later : (p : Point) → point_lt v p ≡ false → point_lt (ends_of_part front).b p ≡ false
        by_later p by = point_lt-order.chain (ends_of_part front).b v p (not_back v (ends_of_part front).b less) by

    -- and fewer ends are left
    pub fewer_next : ends_left (ends_of_part front).b (rest_behind s (ends_of_part front).b ++ low)
        + ends_left (ends_of_part front).b (rest_behind t (ends_of_part front).b ++ high)
        < ends_left v (s ∷ low) + ends_left v (t ∷ high)
    fewer_next =
        let w = (ends_of_part front).b in
        let of_s = fewer_behind v w s low less in
        let of_t = fewer_behind v w t high less in
        ⊎_elim
        (λ e. let more = fewer_at_end v w s low less e in omega (arith, more, of_t))
        (λ e. let more = fewer_at_end v w t high less e in omega (arith, more, of_s))
        is.end

  -- ---- the first step, and the last

  -- the smaller one of two starts
  abbrev first_start : Part C → Part C → Point
  first_start s t = first_of (ends_of_part s).a (ends_of_part t).a

  -- two lists that are to be joined, from their first start on
  pub joined_none : (s t : Part C) (low high : List (Part C)) →
      AreToJoin limit m k line (s ∷ low) (t ∷ high) → old ≡ (s ∷ low) ++ (t ∷ high) →
      Joined (first_start s t) [] (parts_behind (first_start s t) (s ∷ low))
      (parts_behind (first_start s t) (t ∷ high))
  joined_none s t low high both whole =
      subst (λ ls. Joined (first_start s t) [] ls (parts_behind (first_start s t) (t ∷ high)))
      (sym (unmoved (first_start s t) (s ∷ low) from_low))
      (subst (λ hs. Joined (first_start s t) [] (s ∷ low) hs) (sym (unmoved (first_start s t) (t ∷ high) from_high))
      (record {
        parted = subst (λ xs. AreParted merges xs ((s ∷ low) ++ (t ∷ high))) (sym whole)
            (moved (IsPermutation-refl ((s ∷ low) ++ (t ∷ high))));
        made_on = record {
          on = All-nil (IsPartOn limit (m + k) line);
          in_order = λ i j d before inside. absurd (omega arith);
        };
        ended = All-nil (EndsBy (first_start s t));
        low_on = both.low_on;
        low_from = from_low;
        high_on = both.high_on;
        high_from = from_high;
      }))
    where
      before_s : (b : Bool) → point_lt (ends_of_part t).a (ends_of_part s).a ≡ b →
          point_lt (ends_of_part s).a (cond b (ends_of_part t).a (ends_of_part s).a) ≡ false
      before_s true less = not_back (ends_of_part t).a (ends_of_part s).a less
      before_s false past = point_lt-itself (ends_of_part s).a

      before_t : (b : Bool) → point_lt (ends_of_part t).a (ends_of_part s).a ≡ b →
          point_lt (ends_of_part t).a (cond b (ends_of_part t).a (ends_of_part s).a) ≡ false
      before_t true less = point_lt-itself (ends_of_part t).a
      before_t false past = past

      from_low : All (StartsFrom (first_start s t)) (s ∷ low)
      from_low = all_from_first s low (first_start s t)
          (before_s (point_lt (ends_of_part t).a (ends_of_part s).a) refl)
          (All-head (IsPartOn limit m line) s low both.low_on.on).held.held.forward both.low_on.in_order

      from_high : All (StartsFrom (first_start s t)) (t ∷ high)
      from_high = all_from_first t high (first_start s t)
          (before_t (point_lt (ends_of_part t).a (ends_of_part s).a) refl)
          (All-head (IsPartOn limit k line) t high both.high_on.on).held.held.forward both.high_on.in_order

  -- where nothing is left of a list, the rest of the other follows
  pub joined_all : (v : Point) (made low high : List (Part C)) → (low ≡ []) ⊎ (high ≡ []) → Joined v made low high →
      ArePartsOn limit (m + k) line (made ++ (low ++ high))
  joined_all v made low high (inl none) so_far =
      subst (λ ls. ArePartsOn limit (m + k) line (made ++ (ls ++ high))) (sym none)
      (joined_on limit line (m + k) made high v so_far.made_on so_far.ended
      (lighter_on limit line k (m + k) high (omega arith) so_far.high_on) so_far.high_from)
  joined_all v made low high (inr none) so_far =
      subst (λ hs. ArePartsOn limit (m + k) line (made ++ (low ++ hs))) (sym none)
      (subst (λ ls. ArePartsOn limit (m + k) line (made ++ ls)) (sym (append-nil low))
      (joined_on limit line (m + k) made low v so_far.made_on so_far.ended
      (lighter_on limit line m (m + k) low (omega arith) so_far.low_on) so_far.low_from))

-- ---- in the loop

module _ {I C : Type 0} (whole : I → ℤ) (counts : C → Counts) where
  -- what is left of the parts from place i on, behind a point
  abbrev pub left_behind : Point → ℕ → List (HeldPart I C) → List (Part C)
  left_behind v i ps = parts_behind v (plain_parts whole counts (drop i ps))

  -- the first of them, and the others
  pub left_first : (v : Point) (i : ℕ) (ps : List (HeldPart I C)) (s : HeldPart I C) → i < length ps →
      s ≡ get_or ps i s →
      left_behind v i ps ≡ part_behind (plain_part whole counts s) v ∷ left_behind v (i + 1) ps
  left_first v i ps s within is = ap (parts_behind v) (mapped_rest (plain_part whole counts) ps i s within is)

  -- at first all is left of both
  pub loop_init : (merges : C → C → C → Type 0) (limit m k : ℕ) (line : Edge) (low high : List (HeldPart I C))
      (s t : HeldPart I C) → 0 < length low → s ≡ get_or low 0 s → 0 < length high → t ≡ get_or high 0 t → (v : Point) →
      v ≡ first_of (ends_of_part (plain_part whole counts s)).a (ends_of_part (plain_part whole counts t)).a →
      AreToJoin limit m k line (plain_parts whole counts low) (plain_parts whole counts high) →
      IsJoinedUpTo merges limit m k line (plain_parts whole counts low ++ plain_parts whole counts high) v []
      (left_behind v 0 low) (left_behind v 0 high)
  loop_init merges limit m k line low high s t low_some s_is high_some t_is v v_is both =
      let p = plain_part whole counts s in
      let q = plain_part whole counts t in
      let ls = plain_parts whole counts (drop 1 low) in
      let hs = plain_parts whole counts (drop 1 high) in
      let of_low : plain_parts whole counts low ≡ p ∷ ls =
      mapped_rest (plain_part whole counts) low 0 s low_some s_is in
      let of_high : plain_parts whole counts high ≡ q ∷ hs =
      mapped_rest (plain_part whole counts) high 0 t high_some t_is
      in
      from_heads (plain_parts whole counts low) (plain_parts whole counts high) p q ls hs of_low of_high v v_is both
    where
      from_heads : (xs ys : List (Part C)) (p q : Part C) (ls hs : List (Part C)) → xs ≡ p ∷ ls → ys ≡ q ∷ hs →
          (u : Point) → u ≡ first_of (ends_of_part p).a (ends_of_part q).a → AreToJoin limit m k line xs ys →
          IsJoinedUpTo merges limit m k line (xs ++ ys) u [] (parts_behind u xs) (parts_behind u ys)
      from_heads xs ys p q ls hs of_xs of_ys u u_is join =
          subst (λ w. IsJoinedUpTo merges limit m k line (xs ++ ys) w [] (parts_behind w xs) (parts_behind w ys))
          (sym u_is)
          (subst (λ zs. IsJoinedUpTo merges limit m k line (xs ++ ys)
          (first_of (ends_of_part p).a (ends_of_part q).a) []
          (parts_behind (first_of (ends_of_part p).a (ends_of_part q).a) zs)
          (parts_behind (first_of (ends_of_part p).a (ends_of_part q).a) ys)) (sym of_xs)
          (subst (λ zs. IsJoinedUpTo merges limit m k line (xs ++ ys)
          (first_of (ends_of_part p).a (ends_of_part q).a) []
          (parts_behind (first_of (ends_of_part p).a (ends_of_part q).a) (p ∷ ls))
          (parts_behind (first_of (ends_of_part p).a (ends_of_part q).a) zs)) (sym of_ys)
          (joined_none merges limit m k line (xs ++ ys) p q ls hs
          (subst (λ zs. AreToJoin limit m k line zs (q ∷ hs)) of_xs
          (subst (λ zs. AreToJoin limit m k line xs zs) of_ys join))
          (ap (λ zs. zs ++ ys) of_xs ∙ ap (λ zs. (p ∷ ls) ++ zs) of_ys))))

  -- at last nothing is left of one
  pub none_left : (v : Point) (i : ℕ) (ps : List (HeldPart I C)) → length ps ≤ i → left_behind v i ps ≡ []
  none_left v i ps past = ap (λ qs. parts_behind v (plain_parts whole counts qs)) (drop_all i ps past)

  module _ (limit most : ℕ) (line : Edge) (v : Point) (i : ℕ) (ps : List (HeldPart I C)) (s : HeldPart I C)
      (within : i < length ps) (is : s ≡ get_or ps i s) where
    -- what is left from the next place on, behind a later point
    pub left_next : (w : Point) (j : ℕ) → j ≡ cond (point_lt w (ends_of_part (plain_part whole counts s)).b) i (i + 1) →
        point_lt v w ≡ true → point_lt (ends_of_part (plain_part whole counts s)).b w ≡ false →
        ArePartsOn limit most line (part_behind (plain_part whole counts s) v ∷ left_behind v (i + 1) ps) →
        left_behind w j ps ≡ rest_behind (part_behind (plain_part whole counts s) v) w ++ left_behind v (i + 1) ps
    left_next w j place less up on =
        by (point_lt w (ends_of_part (plain_part whole counts s)).b) place
        ∙ next_left (plain_part whole counts s) (plain_parts whole counts (drop (i + 1) ps)) v w less up
        (AllPairs-head EndsUpTo (part_behind (plain_part whole counts s) v) (left_behind v (i + 1) ps) on.in_order)
      where
        by : (t : Bool) → j ≡ cond t i (i + 1) → left_behind w j ps
            ≡ parts_behind w (cond t (plain_part whole counts s ∷ plain_parts whole counts (drop (i + 1) ps))
            (plain_parts whole counts (drop (i + 1) ps)))
        by true same = ap (λ n. left_behind w n ps) same
            ∙ ap (parts_behind w) (mapped_rest (plain_part whole counts) ps i s within is)
        by false same = ap (λ n. left_behind w n ps) same

  module _ (merges : C → C → C → Type 0) (limit m k : ℕ) (line : Edge) (old : List (Part C)) (v : Point)
      (made : List (Part C)) (low high : List (HeldPart I C)) (i j : ℕ) (s t : HeldPart I C) (i_within : i < length low)
      (s_is : s ≡ get_or low i s) (j_within : j < length high) (t_is : t ≡ get_or high j t)
      (so_far : IsJoinedUpTo merges limit m k line old v made (left_behind v i low) (left_behind v j high)) where
    abbrev s_left : Part C
    s_left = part_behind (plain_part whole counts s) v

    abbrev t_left : Part C
    t_left = part_behind (plain_part whole counts t) v

    here : IsJoinedUpTo merges limit m k line old v made (s_left ∷ left_behind v (i + 1) low)
        (t_left ∷ left_behind v (j + 1) high)
    here = subst (λ ls. IsJoinedUpTo merges limit m k line old v made ls (t_left ∷ left_behind v (j + 1) high))
        (left_first v i low s i_within s_is)
        (subst (λ hs. IsJoinedUpTo merges limit m k line old v made (left_behind v i low) hs)
        (left_first v j high t j_within t_is) so_far)

    -- both are parts on the line
    pub first_on : IsPartOn limit m line s_left
    first_on = All-head (IsPartOn limit m line) s_left (left_behind v (i + 1) low) here.low_on.on

    pub other_on : IsPartOn limit k line t_left
    other_on = All-head (IsPartOn limit k line) t_left (left_behind v (j + 1) high) here.high_on.on

    module _ (front : Part C) (is : IsFrontOf s_left t_left front) (next_i next_j : ℕ)
        (i_place : next_i ≡
        cond (point_lt (ends_of_part front).b (ends_of_part (plain_part whole counts s)).b) i (i + 1))
        (j_place : next_j ≡
        cond (point_lt (ends_of_part front).b (ends_of_part (plain_part whole counts t)).b) j (j + 1))
      where
        abbrev w : Point
        w = (ends_of_part front).b

        later : point_lt v w ≡ true
        later = less merges limit m k line old v made (left_behind v (i + 1) low) (left_behind v (j + 1) high) s_left
            t_left front is here

        low_next : left_behind w next_i low ≡ rest_behind s_left w ++ left_behind v (i + 1) low
        low_next = left_next limit m line v i low s i_within s_is w next_i i_place later is.of_s here.low_on

        high_next : left_behind w next_j high ≡ rest_behind t_left w ++ left_behind v (j + 1) high
        high_next = left_next limit k line v j high t j_within t_is w next_j j_place later is.of_t here.high_on

        -- the step of the loop
        pub loop_next : IsFirstPart merges s_left t_left front → IsJoinedUpTo merges limit m k line old w
            (made ++ front ∷ []) (left_behind w next_i low) (left_behind w next_j high)
        loop_next first =
            subst (λ ls. IsJoinedUpTo merges limit m k line old w (made ++ front ∷ []) ls (left_behind w next_j high))
            (sym low_next)
            (subst (λ hs. IsJoinedUpTo merges limit m k line old w (made ++ front ∷ [])
            (rest_behind s_left w ++ left_behind v (i + 1) low) hs) (sym high_next)
            (joined_next merges limit m k line old v made (left_behind v (i + 1) low) (left_behind v (j + 1) high)
            s_left t_left front is here first))

        -- its measure
        pub loop_fewer : ends_left w (left_behind w next_i low) + ends_left w (left_behind w next_j high)
            < ends_left v (left_behind v i low) + ends_left v (left_behind v j high)
        loop_fewer =
            let left = fewer_next merges limit m k line old v made (left_behind v (i + 1) low)
            (left_behind v (j + 1) high) s_left t_left front is here in
            rw (low_next, high_next, left_first v i low s i_within s_is, left_first v j high t j_within t_is) left
