-- What edges that count once tell of a point: whether it is on one of them, and how many are below it.
use Rattle.std.proofs.Common.{◌≡◌, inl, inr, Bool, true, false, cond, not, ◌&&◌, ◌||◌, ℤ, pos, ◌+ℤ◌, ◌-ℤ◌, ◌*ℤ◌, ◌<ℤ◌}
use Rattle.std.proofs.Common.{◌≤ℤ◌, int_lt, int_le, List, [], ◌∷◌, Contains, map, refl, sym, ap, ◌∙◌, subst, arith}
use Rattle.std.specs.List.{All}
use Rattle.std.specs.Ordering.{int_eq}
use Rattle.std.proofs.lemmas.Bool.{and_parts}
use Rattle.std.proofs.lemmas.Bool.Decides.{Decides-int_eq}
use Rattle.std.proofs.lemmas.Int.{ints, by_lt_z}
use Rattle.std.proofs.lemmas.List.Elements.{All-contains}
use lib.IntN.{+ℤ_idr}
use Rattle.overlay_geom.specs.Edges.{CountedEdge}
use Rattle.overlay_geom.specs.Plane.{Point, Edge, point_lt, side, in_plane, is_strictly_below, IsBetween, IsOn, IsOff}
use Rattle.overlay_geom.proofs.PointOrder.{IsBefore, Decides-point_lt}
use Rattle.overlay_geom.proofs.Signs.{linear, zero_of_mul-zero, mul-zero}
use Rattle.overlay_plane.proofs.Crossing.{between_on_line}
use Rattle.overlay_plane.proofs.Entries.{any_of_entry, all_of_entries, Contains-map, Contains-from_map}
use Rattle.overlay_plane.proofs.Entries.{Contains-flat_map, Contains-from_flat_map}
use Rattle.overlay_plane.proofs.Tests.{test_from_lt, test_from_le}
use Rattle.overlay_geom.proofs.Entries.{Contains-head, Contains-cases}
use Rattle.overlay_relate.specs.Locations.{differ, is_odd, odd_below, IsOnSome}
use Rattle.overlay_located.specs.Once.{counted_once, turned_point, turned, turned_if_upright, turned_uprights}
use Rattle.overlay_sectors.specs.Sectors.{spans_beside}
use Rattle.overlay_located.specs.Tells.{LeadsFrom, near_sum, Tells}
use Rattle.overlay_sectors.specs.declared.flank.Flank.{Flank}
use Rattle.overlay_sectors.specs.declared.flank.Flank.TheVariants.{Left, Right}
use Rattle.overlay_sectors.proofs.NearTests.{IsSpanned, spanned, span_left, span_right, both_so}

-- ---- one edge

module _ (e : Edge) (v : Point) where
  -- what an edge that leads from v has
  pub record Leads : Type 0 where
    pub over : IsSpanned e v
    pub level : side e (in_plane v) ≡ pos 0

  pub leads_of : LeadsFrom v (counted_once e) → Leads
  leads_of l =
      let parts = and_parts (spans_beside l.0 e (in_plane v)) (int_eq (side e (in_plane v)) (pos 0)) l.1 in
      record { over = spanned l.0 e v parts.0; level = (Decides-int_eq (side e (in_plane v)) (pos 0)).0 parts.1 }

  -- v is on an edge that leads from it
  pub on_where_leads : Leads → IsOn e (in_plane v)
  on_where_leads l =
      let from = l.over.from in
      let to = l.over.to in
      let wide = l.over.wide in
      record {
        on_line = l.level;
        in_x = inl (omega (arith, ints), omega (arith, ints));
        in_y = between_on_line e v.x v.y (pos 1) (omega linear) l.level
            (record { from = omega (arith, ints); to = omega (arith, ints) });
      }

  level_test : side e (in_plane v) ≡ pos 0 → int_eq (side e (in_plane v)) (pos 0) ≡ true
  level_test level = (Decides-int_eq (side e (in_plane v)) (pos 0)).1 level

  -- a wide edge leads from each point of its line in its span
  pub leads_where_level : side e (in_plane v) ≡ pos 0 → e.a.x <ℤ e.b.x → e.a.x ≤ℤ v.x → v.x ≤ℤ e.b.x →
      LeadsFrom v (counted_once e)
  leads_where_level level wide from to = by_lt_z v.x e.b.x
      (λ before. (
        Right,
        sym (both_so (spans_beside Right e (in_plane v)) true _
            (span_right e v ∙ ap₂_and (test_from_le e.a.x v.x from) (test_from_lt v.x e.b.x before))
            (sym (level_test level))),
      ))
      (λ past. (
        Left,
        sym (both_so (spans_beside Left e (in_plane v)) true _
            (span_left e v ∙ ap₂_and (test_from_lt e.a.x v.x (omega linear)) (test_from_le v.x e.b.x to))
            (sym (level_test level))),
      ))
    where
      ap₂_and : {s t : Bool} → s ≡ true → t ≡ true → (s && t) ≡ true
      ap₂_and {s = s} {t = t} a b = ap (λ u. u && t) a ∙ b

  -- a wide edge with v on it leads from v
  pub leads_where_on : e.a.x <ℤ e.b.x → IsOn e (in_plane v) → LeadsFrom v (counted_once e)
  leads_where_on wide on = by on.in_x
    where
      by : IsBetween v.x (e.a.x *ℤ pos 1) (e.b.x *ℤ pos 1) → LeadsFrom v (counted_once e)
      by (inl (from, to)) = leads_where_level on.on_line wide (omega (arith, ints)) (omega (arith, ints))
      by (inr (from, to)) = absurd (omega (arith, ints))

-- ---- upright edges

module _ (e : Edge) (v : Point) (upright : e.a.x ≡ e.b.x) where
  -- turned, they have a point on them as they are
  pub on_where_turned_leads : Leads (turned e) (turned_point v) → IsOn e (in_plane v)
  on_where_turned_leads l =
      let from = l.over.from in
      let to = l.over.to in
      let wide = l.over.wide in
      let level = l.level in
      let none : (e.b.x -ℤ e.a.x) *ℤ (v.y -ℤ e.a.y *ℤ pos 1) ≡ pos 0 = narrow (v.y -ℤ e.a.y *ℤ pos 1) in
      let beside : v.x -ℤ e.a.x *ℤ pos 1 ≡ pos 0 =
      zero_of_mul-zero (e.b.y -ℤ e.a.y) (v.x -ℤ e.a.x *ℤ pos 1) (omega linear) (omega linear) in
      let none_up : (e.b.y -ℤ e.a.y) *ℤ (v.x -ℤ e.a.x *ℤ pos 1) ≡ pos 0 =
      mul-zero (e.b.y -ℤ e.a.y) (v.x -ℤ e.a.x *ℤ pos 1) beside in
      record {
        on_line = omega linear;
        in_x = inl (omega (arith, ints), omega (arith, ints));
        in_y = inl (omega (arith, ints), omega (arith, ints));
      }
    where
      narrow : (z : ℤ) → (e.b.x -ℤ e.a.x) *ℤ z ≡ pos 0
      narrow z = let zero : e.b.x -ℤ e.a.x ≡ pos 0 = omega linear in ap (λ w. w *ℤ z) zero ∙ omega (arith, ints)

  pub turned_leads_where_on : IsBefore e.a e.b → IsOn e (in_plane v) →
      LeadsFrom (turned_point v) (counted_once (turned e))
  turned_leads_where_on before on =
      let high = before.y (omega linear) in by high on.in_x on.in_y
    where
      narrow : (z : ℤ) → (e.b.x -ℤ e.a.x) *ℤ z ≡ pos 0
      narrow z = let zero : e.b.x -ℤ e.a.x ≡ pos 0 = omega linear in ap (λ w. w *ℤ z) zero ∙ omega (arith, ints)

      at : v.x ≡ e.a.x → e.a.y <ℤ e.b.y → e.a.y ≤ℤ v.y → v.y ≤ℤ e.b.y →
          LeadsFrom (turned_point v) (counted_once (turned e))
      at over high from to =
          let none = narrow (v.y -ℤ e.a.y *ℤ pos 1) in
          let beside : v.x -ℤ e.a.x *ℤ pos 1 ≡ pos 0 = omega (arith, ints) in
          let none_up = mul-zero (e.b.y -ℤ e.a.y) (v.x -ℤ e.a.x *ℤ pos 1) beside in
          leads_where_level (turned e) (turned_point v) (omega linear) high from to

      by : e.a.y <ℤ e.b.y → IsBetween v.x (e.a.x *ℤ pos 1) (e.b.x *ℤ pos 1) →
          IsBetween v.y (e.a.y *ℤ pos 1) (e.b.y *ℤ pos 1) → LeadsFrom (turned_point v) (counted_once (turned e))
      by high (inl (l, r)) (inl (from, to)) = at (omega (arith, ints)) high (omega (arith, ints)) (omega (arith, ints))
      by high (inl (l, r)) (inr (from, to)) = absurd (omega (arith, ints))
      by high (inr (l, r)) (inl (from, to)) = at (omega (arith, ints)) high (omega (arith, ints)) (omega (arith, ints))
      by high (inr (l, r)) (inr (from, to)) = absurd (omega (arith, ints))

-- ---- lists of edges

module _ (es : List Edge) (v : Point) (through : List CountedEdge) (more : Flank → ℤ) where
  -- v is on one of them, where one leads from it
  pub on_some_where_leads : Tells v (map counted_once es) through more → (e : CountedEdge) → Contains through e →
      LeadsFrom v e → IsOnSome es (in_plane v)
  on_some_where_leads told e at leads =
      let found = Contains-from_map counted_once es e (told.back e at leads) in
      any_of_entry (λ f. IsOn f (in_plane v)) es found.0 found.1
      (on_where_leads found.0 v (leads_of found.0 v (subst (LeadsFrom v) (sym found.2) leads)))

  -- and where an upright one does, turned
  pub on_some_where_upright_leads : Tells (turned_point v) (map counted_once (turned_uprights es)) through more →
      (e : CountedEdge) → Contains through e → LeadsFrom (turned_point v) e → IsOnSome es (in_plane v)
  on_some_where_upright_leads told e at leads =
      let found = Contains-from_map counted_once (turned_uprights es) e (told.back e at leads) in
      let among = Contains-from_flat_map turned_if_upright es found.0 found.1 in
      any_of_entry (λ f. IsOn f (in_plane v)) es among.0 among.1
      (by among.0 found.0 among.2 (leads_of found.0 (turned_point v)
      (subst (LeadsFrom (turned_point v)) (sym found.2) leads)))
    where
      by : (f w : Edge) → Contains (turned_if_upright f) w → Leads w (turned_point v) → IsOn f (in_plane v)
      by f w at l = so (int_eq f.a.x f.b.x) refl (subst (λ (ws : List Edge). Contains ws w) refl at)
        where
          so : (t : Bool) → int_eq f.a.x f.b.x ≡ t → Contains (cond t (turned f ∷ []) []) w → IsOn f (in_plane v)
          so true upright c = elim (Contains-cases (turned f) [] w c) [
            | inl is ↦ on_where_turned_leads f v ((Decides-int_eq f.a.x f.b.x).0 upright)
                (subst (λ u. Leads u (turned_point v)) (sym is) l)
            | inr later ↦ absurd (omega (arith, later.1))
          ]
          so false wide c = absurd (omega (arith, c.1))

-- v is on no edge, where none leads from it, and no upright one, turned
module _ (es : List Edge) (v : Point) (m n : Flank → ℤ) (all : Tells v (map counted_once es) [] m)
    (uprights : Tells (turned_point v) (map counted_once (turned_uprights es)) [] n) where
  off_edge : (e : Edge) → Contains es e → point_lt e.a e.b ≡ true → ¬ (IsOn e (in_plane v))
  off_edge e at forward on = by_lt_z e.a.x e.b.x
      (λ wide. let c = all.to (counted_once e) (Contains-map counted_once es e at) (leads_where_on e v wide on) in
      absurd (omega (arith, c.1)))
      (λ narrow. let before = (Decides-point_lt e.a e.b).0 forward in let from = before.x in
      let upright : e.a.x ≡ e.b.x = omega linear in
      let among = Contains-flat_map turned_if_upright es e (turned e) at
      (subst (λ t. Contains (cond t (turned e ∷ []) []) (turned e)) (sym ((Decides-int_eq e.a.x e.b.x).1 upright))
      (Contains-head (turned e) [])) in
      let c = uprights.to (counted_once (turned e))
      (Contains-map counted_once (turned_uprights es) (turned e) among) (turned_leads_where_on e v upright before on) in
      absurd (omega (arith, c.1)))

  pub off_where_none_leads : All (λ e. point_lt e.a e.b ≡ true) es → IsOff es (in_plane v)
  off_where_none_leads forward = all_of_entries (λ e. ¬ (IsOn e (in_plane v))) es
      (λ e at. off_edge e at (All-contains (λ f. point_lt f.a f.b ≡ true) es e forward at))

-- ---- parity

abbrev never : Edge → Bool
never e = false

below_right : (s t u w : Bool) → ((s && t) && (u || (w && false))) ≡ (s && t && u)
below_right false t u w = refl
below_right true false u w = refl
below_right true true true w = refl
below_right true true false true = refl
below_right true true false false = refl

odd_more : (w : ℤ) → is_odd (pos 1 +ℤ w) ≡ not (is_odd w)
odd_more w = grind (arith, ints)

odd_same : (w : ℤ) → is_odd (pos 0 +ℤ w) ≡ is_odd w
odd_same w = grind (arith, ints)

odd_step : (below : Bool) (w : ℤ) → is_odd (cond below (pos 1) (pos 0) +ℤ w) ≡ differ below (is_odd w)
odd_step true w = odd_more w
odd_step false w = odd_same w

module _ (v : Point) where
  -- the winding right of v is odd where an odd number of the edges are below v
  odd_near : (es : List Edge) → is_odd (near_sum Right (map counted_once es) v never) ≡ odd_below es (in_plane v)
  odd_near [] = refl
  odd_near (e ∷ es) =
      ap (λ t. is_odd (cond t (pos 1) (pos 0) +ℤ near_sum Right (map counted_once es) v never))
      (below_right (int_le (e.a.x *ℤ pos 1) v.x) (int_lt v.x (e.b.x *ℤ pos 1)) (int_lt (pos 0) (side e (in_plane v)))
      (int_eq (side e (in_plane v)) (pos 0)))
      ∙ odd_step (is_strictly_below e (in_plane v)) (near_sum Right (map counted_once es) v never)
      ∙ ap (differ (is_strictly_below e (in_plane v))) (odd_near es)

  pub odd_told : (es : List Edge) (more : Flank → ℤ) → Tells v (map counted_once es) [] more →
      is_odd (more Right) ≡ odd_below es (in_plane v)
  odd_told es more told = ap is_odd (sym (told.sums Right never ∙ +ℤ_idr (more Right))) ∙ odd_near es
