-- Where a point lies, from the walls and from the highest edge not above it.
use Rattle.std.proofs.Common.{◌≡◌, ◌⊎◌, inl, inr, ℕ, ◌<◌, ◌≤◌, true, false, pos, ◌-ℤ◌, ◌*ℤ◌, ◌<ℤ◌, ◌≤ℤ◌, int_lt, int_le}
use Rattle.std.proofs.Common.{List, map, get_or, length, Contains, sym, ◌∙◌, subst, arith}
use Rattle.std.proofs.lemmas.Bool.{and_parts, and_from, false_from_ne_true}
use Rattle.std.proofs.lemmas.Int.{ints, by_lt_z}
use Rattle.std.proofs.lemmas.List.{get_or_default}
use Rattle.std.proofs.lemmas.List.Elements.{All-contains}
use Rattle.std.proofs.lemmas.List.Sorted.{Contains-permutation, IsPermutation-sym}
use Rattle.overlay_geom.specs.Plane.{Point, Edge, point_lt, cross_at, side, in_plane, is_strictly_below, IsOn, IsOff}
use Rattle.overlay_geom.proofs.Identities.{solve, ◌⊗◌, ◌⊖◌, ◌≗◌}
use Rattle.overlay_geom.proofs.Orders.{same_point, point_lt-itself}
use Rattle.overlay_geom.proofs.Signs.{linear, mul-zero, zero_of_mul-zero}
use Rattle.overlay_plane.specs.Heights.{covers, is_under}
use Rattle.overlay_plane.proofs.Entries.{all_of_entries, any_of_entry, Contains-from_any, Contains-map}
use Rattle.overlay_plane.proofs.Entries.{Contains-from_map}
use Rattle.overlay_plane.proofs.RisesOver.{meets_under}
use Rattle.overlay_plane.proofs.Tests.{lt_from_test, test_from_lt, test_from_le}
use Rattle.overlay_plane.proofs.Under.{covers_from, covers_to}
use Rattle.overlay_relate.specs.Locations.{odd_below, IsOnSome}
use Rattle.overlay_relate.specs.Sweeps.{AreOfContour, AreByStart, IsHighestUpTo, IsFound, inside_above}
use Rattle.overlay_relate.specs.Walls.{wall_of, AreWalls, IsOnSomeWall}
use Rattle.overlay_relate.proofs.Highest.{above_both}
use Rattle.overlay_relate.proofs.Insides.{settled, even_where_none, odd_where_next}
use Rattle.overlay_relate.proofs.OnEdges.{side-whole, from_where_on, to_where_on, level_where_on, up_to_where_not_less}
use Rattle.overlay_relate.proofs.OnEdges.{not_less_where_up_to, on_where_tested}
use Rattle.overlay_relate.proofs.OnWalls.{by_wide, wide_wall, upright_wall, on_wall_on}
use Rattle.overlay_scan.proofs.AtStarts.{reaches}

-- what was found is the edge at its place
pub is_at : (fs : List Edge) (p : Point) (n i : ℕ) → IsFound fs p n i → i < n → (e : Edge) → i < length fs →
    get_or fs i e ≡ e → IsHighestUpTo fs p e
is_at fs p n i (inl f) less e within at = subst (IsHighestUpTo fs p) (sym f.at ∙ get_or_default fs i f.edge e within
    ∙ at) f.is
is_at fs p n i (inr none) less e within at = absurd (let past = none.past in omega (arith, less))

-- and where nothing was found, all edges over the point are above it
pub is_none : (fs : List Edge) (p : Point) (n i : ℕ) → IsFound fs p n i → n ≤ i → (f : Edge) → Contains fs f →
    covers f p.x (pos 1) ≡ true → side f (in_plane p) <ℤ pos 0
is_none fs p n i (inl f) past = absurd (let less = f.within in omega (arith, past))
is_none fs p n i (inr none) past = none.none

module _ (es fs : List Edge) (of : AreOfContour es) (by : AreByStart es fs) (p : Point) where
  leads : (e : Edge) → Contains es e → point_lt e.a e.b ≡ true
  leads e c = All-contains (λ f. point_lt f.a f.b ≡ true) es e of.forward c

  -- a point on a wall is on an edge
  pub on_a_wall : (ws : List Edge) → AreWalls es ws → IsOnSomeWall ws p → IsOnSome es (in_plane p)
  on_a_wall ws walls on =
      let found = Contains-from_any (λ w. (point_lt p w.a ≡ false) × (point_lt w.b p ≡ false)) ws on in
      let own = Contains-from_map wall_of es found.0
      (Contains-permutation ws (map wall_of es) found.0 (IsPermutation-sym (map wall_of es) ws walls.same) found.1) in
      any_of_entry (λ e. IsOn e (in_plane p)) es own.0 own.1 (on_wall_on own.0 (leads own.0 own.1) p
      (subst (λ (w : Edge). point_lt p w.a ≡ false) (sym own.2) found.2.0)
      (subst (λ (w : Edge). point_lt w.b p ≡ false) (sym own.2) found.2.1))

  -- a point on an edge, and on no wall, is inside the edge's span or at its left end
  module _ (ws : List Edge) (walls : AreWalls es ws) (none : ¬ (IsOnSomeWall ws p)) (f : Edge) (c : Contains es f)
      (on : IsOn f (in_plane p)) where
    off_wall : ¬ ((point_lt p (wall_of f).a ≡ false) × (point_lt (wall_of f).b p ≡ false))
    off_wall held = none (any_of_entry (λ w. (point_lt p w.a ≡ false) × (point_lt w.b p ≡ false)) ws (wall_of f)
        (Contains-permutation (map wall_of es) ws (wall_of f) walls.same (Contains-map wall_of es f c)) held)

    from : point_lt p f.a ≡ false
    from = from_where_on f p (leads f c) on

    to : point_lt f.b p ≡ false
    to = to_where_on f p (leads f c) on

    level : cross_at f.a f.b p ≡ pos 0
    level = level_where_on f p (leads f c) on

    at_end : f.a.x <ℤ f.b.x → p.x ≡ f.b.x → p ≡ f.b
    at_end wide same = same_point p f.b same (let zero = zero_of_mul-zero (f.b.x -ℤ f.a.x) (p.y -ℤ f.b.y)
        (omega linear) product in omega linear)
      where
        form : cross_at f.a f.b p ≡ (f.b.x -ℤ f.a.x) *ℤ (p.y -ℤ f.b.y) -ℤ (f.b.y -ℤ f.a.y) *ℤ (p.x -ℤ f.b.x)
        form = solve 6 (λ ax ay bx by x y. (bx ⊖ ax) ⊗ (y ⊖ ay) ⊖ (by ⊖ ay) ⊗ (x ⊖ ax) ≗ (bx ⊖ ax) ⊗ (y ⊖ by) ⊖
            (by ⊖ ay) ⊗ (x ⊖ bx)) tt f.a.x f.a.y f.b.x f.b.y p.x p.y

        product : (f.b.x -ℤ f.a.x) *ℤ (p.y -ℤ f.b.y) ≡ pos 0
        product = let flat = mul-zero (f.b.y -ℤ f.a.y) (p.x -ℤ f.b.x) (omega (linear, same)) in let zero = level in
            let is = form in omega linear

    pub covered : covers f p.x (pos 1) ≡ true
    covered = by_wide f
        (λ wide. over (lt_from_test f.a.x f.b.x wide)
        (by_lt_z p.x f.b.x (λ less. less)
        (λ more. absurd (end (wide_wall f wide) (lt_from_test f.a.x f.b.x wide) more))))
        (λ upright. absurd (off_wall (
          subst (λ (w : Edge). point_lt p w.a ≡ false) (sym (upright_wall f upright)) from,
          subst (λ (w : Edge). point_lt w.b p ≡ false) (sym (upright_wall f upright)) to,
        )))
      where
        end : wall_of f ≡ record { a = f.b; b = f.b } → f.a.x <ℤ f.b.x → f.b.x ≤ℤ p.x → ⊥
        end is wide more =
            let before = (up_to_where_not_less p f.b to).x in
            let one = at_end wide (omega linear) in
            let held : point_lt p f.b ≡ false = subst (λ (q : Point). point_lt q f.b ≡ false) (sym one)
            (point_lt-itself f.b) in
            off_wall (
              subst (λ (w : Edge). point_lt p w.a ≡ false) (sym is) held,
              subst (λ (w : Edge). point_lt w.b p ≡ false) (sym is) to,
            )

        over : f.a.x <ℤ f.b.x → p.x <ℤ f.b.x → covers f p.x (pos 1) ≡ true
        over wide less = let after = (up_to_where_not_less f.a p from).x in
            and_from (int_le (f.a.x *ℤ pos 1) p.x) (int_lt p.x (f.b.x *ℤ pos 1))
            (test_from_le (f.a.x *ℤ pos 1) p.x (omega (arith, ints)))
            (test_from_lt p.x (f.b.x *ℤ pos 1) (omega (arith, ints)))

  module _ (ws : List Edge) (walls : AreWalls es ws) (off : ¬ (IsOnSomeWall ws p)) where
    -- an edge over the point that is strictly below it
    parts : (f : Edge) → is_strictly_below f (in_plane p) ≡ true →
        (covers f p.x (pos 1) ≡ true) × (pos 0 <ℤ side f (in_plane p))
    parts f below = let both = and_parts (covers f p.x (pos 1)) (int_lt (pos 0) (side f (in_plane p))) below in
        (both.0, lt_from_test (pos 0) (side f (in_plane p)) both.1)

    -- where all edges over the point are above it, it is outside
    pub outside_where_none : ((f : Edge) → Contains fs f → covers f p.x (pos 1) ≡ true → side f (in_plane p) <ℤ pos 0) →
        IsOff es (in_plane p) × (odd_below es (in_plane p) ≡ false)
    outside_where_none none = (
      all_of_entries (λ e. ¬ (IsOn e (in_plane p))) es (λ f c on.
          let over = covered ws walls off f c on in
          let above = none f (by.all f c (reaches f p.x over)) over in let zero = on.on_line in omega linear),
      even_where_none es of (in_plane p) (λ f c. false_from_ne_true (is_strictly_below f (in_plane p)) (λ below.
          let both = parts f below in let low = both.1 in
          let above = none f (by.all f c (reaches f p.x both.0)) both.0 in omega linear)),
    )

    module _ (e : Edge) (high : IsHighestUpTo fs p e) where
      -- a point on the highest edge is on an edge
      pub on_the_highest : cross_at e.a e.b p ≡ pos 0 → IsOnSome es (in_plane p)
      on_the_highest level = any_of_entry (λ f. IsOn f (in_plane p)) es e (by.from e high.among)
          (on_where_tested e p (leads e (by.from e high.among)) level
          (not_less_where_up_to e.a p (record { x = start; y = λ le. absurd_or le }))
          (not_less_where_up_to p e.b (record {
            x = let l = less in
                omega linear;
            y = λ le. absurd (let l = less in omega linear);
          })))
        where
          less : p.x <ℤ e.b.x
          less = let to = covers_to e p.x (pos 1) high.over in omega (arith, ints)

          start : e.a.x ≤ℤ p.x
          start = let from = covers_from e p.x (pos 1) high.over in omega (arith, ints)

          absurd_or : p.x ≤ℤ e.a.x → e.a.y ≤ℤ p.y
          absurd_or le =
              let same : p.x ≡ e.a.x = let s = start in omega linear in
              let flat = mul-zero (e.b.y -ℤ e.a.y) (p.x -ℤ e.a.x) (let s = start in omega linear) in
              let zero = zero_of_mul-zero (e.b.x -ℤ e.a.x) (p.y -ℤ e.a.y) (let s = start in let l = less in
              omega linear) (omega linear) in omega linear

      module _ (apart : ¬ (cross_at e.a e.b p ≡ pos 0)) where
        low : pos 0 <ℤ side e (in_plane p)
        low = by_lt_z (pos 0) (side e (in_plane p)) (λ less. less)
            (λ more. absurd (apart (sym (side-whole e p) ∙ (let up = high.up_to in omega linear))))

        own : Contains es e
        own = by.from e high.among

        below_or_at : (f : Edge) → Contains es f → covers f p.x (pos 1) ≡ true →
            (f ≡ e) ⊎ (is_under f e p.x (pos 1) ≡ true) → pos 0 <ℤ side f (in_plane p)
        below_or_at f c over (inl same) = subst (λ (g : Edge). pos 0 <ℤ side g (in_plane p)) (sym same) low
        below_or_at f c over (inr under) = above_both f e p
            (meets_under e f p.x (pos 1) (settled es of e f own c) under) over high.over under low

        -- off the highest edge it is on none, and inside where it is inside above that edge
        pub as_above_the_highest : IsOff es (in_plane p) × (odd_below es (in_plane p) ≡ inside_above es e)
        as_above_the_highest = (
          all_of_entries (λ f. ¬ (IsOn f (in_plane p))) es (λ f c on.
              let over = covered ws walls off f c on in
              let zero = on.on_line in
              let above = below_or_at f c over (high.highest f (by.all f c (reaches f p.x over)) over
              (omega linear)) in omega linear),
          odd_where_next es of (in_plane p) e own
              (and_from (covers e p.x (pos 1)) (int_lt (pos 0) (side e (in_plane p))) high.over
              (test_from_lt (pos 0) (side e (in_plane p)) low))
              (λ f c below. let both = parts f below in let up = both.1 in
              high.highest f (by.all f c (reaches f p.x both.0)) both.0 (omega linear)),
        )
