-- An x-coordinate moved into the span of an edge, to the nearest place there.
use Rattle.std.proofs.Common.{◌≡◌, Bool, true, false, cond, ℤ, pos, neg_ℤ, ◌*ℤ◌, ◌-ℤ◌, ◌≤ℤ◌, int_lt, refl, sym, subst}
use Rattle.overlay_geom.specs.Edges.{CountedEdge}
use Rattle.overlay_geom.proofs.Identities.{solve, ◌≗◌, ◌⊗◌, ⊝◌}
use Rattle.overlay_geom.proofs.Signs.{linear, mul-nonneg}
use Rattle.overlay_plane.proofs.Tests.{ge_from_test, lt_from_test}
use Rattle.overlay_arrange.specs.PixelRuns.{IsAmidX}

-- x moved to the span from a to b
abbrev pub moved : ℤ → ℤ → ℤ → ℤ
moved a b x = cond (int_lt x a) a (cond (int_lt b x) b x)

-- the facts of the moved number
record IsMoved (a b x z : ℤ) : Type 0 where
  from : a ≤ℤ z
  to : z ≤ℤ b
  least : (u : ℤ) → a ≤ℤ u → x ≤ℤ u → z ≤ℤ u
  greatest : (u : ℤ) → u ≤ℤ b → u ≤ℤ x → u ≤ℤ z

moved_within : (a b x : ℤ) → a ≤ℤ b → IsMoved a b x (moved a b x)
moved_within a b x forward = by (int_lt x a) (int_lt b x) refl refl
  where
    by : (s t : Bool) → int_lt x a ≡ s → int_lt b x ≡ t → IsMoved a b x (cond s a (cond t b x))
    by true t left right = let less = lt_from_test x a left in record {
      from = omega linear;
      to = forward;
      least = λ u past le. past;
      greatest = λ u short le. omega (linear, less, le);
    }
    by false true left right = let more = lt_from_test b x right in record {
      from = forward;
      to = omega linear;
      least = λ u past le. omega (linear, more, le);
      greatest = λ u short le. short;
    }
    by false false left right =
        let at_least = ge_from_test x a left in let at_most = ge_from_test b x right in record {
          from = at_least;
          to = at_most;
          least = λ u past le. le;
          greatest = λ u short le. le;
        }

-- two numbers below 0 have a product that is not
nonpos_both : (a b : ℤ) → a ≤ℤ pos 0 → b ≤ℤ pos 0 → pos 0 ≤ℤ (a *ℤ b)
nonpos_both a b a_nonpos b_nonpos =
    let product = mul-nonneg (neg_ℤ a) (neg_ℤ b) (omega linear) (omega linear) in
    let same = solve 2 (λ a b. ⊝ a ⊗ ⊝ b ≗ a ⊗ b) tt a b in
    omega (linear, product, same)

module _ (e : CountedEdge) (forward : e.a.x ≤ℤ e.b.x) where
  -- it lies in the span
  pub amid_moved : (x z : ℤ) → z ≡ moved e.a.x e.b.x x → IsAmidX e z
  amid_moved x z is = let m = moved_within e.a.x e.b.x x forward in
      subst (IsAmidX e) (sym is) (m.from, m.to)

  module _ (left right first last : ℤ) where
    -- between two of them the edge rises to the right, from the left on
    pub between_rising : e.a.y ≤ℤ e.b.y → first ≡ moved e.a.x e.b.x left → last ≡ moved e.a.x e.b.x right →
        (x : ℤ) → left ≤ℤ x → x ≤ℤ right → IsAmidX e x →
        (pos 0 ≤ℤ ((e.b.y -ℤ e.a.y) *ℤ (x -ℤ first))) × (pos 0 ≤ℤ ((e.b.y -ℤ e.a.y) *ℤ (last -ℤ x)))
    between_rising rises first_is last_is x from to amid =
        let l = moved_within e.a.x e.b.x left forward in
        let r = moved_within e.a.x e.b.x right forward in
        let low = l.least x amid.0 from in
        let high = r.greatest x amid.1 to in (
          mul-nonneg (e.b.y -ℤ e.a.y) (x -ℤ first) (omega (linear, rises)) (omega (linear, low, first_is)),
          mul-nonneg (e.b.y -ℤ e.a.y) (last -ℤ x) (omega (linear, rises)) (omega (linear, high, last_is)),
        )

    -- or to the left, from the right one on
    pub between_falling : e.b.y ≤ℤ e.a.y → first ≡ moved e.a.x e.b.x right → last ≡ moved e.a.x e.b.x left →
        (x : ℤ) → left ≤ℤ x → x ≤ℤ right → IsAmidX e x →
        (pos 0 ≤ℤ ((e.b.y -ℤ e.a.y) *ℤ (x -ℤ first))) × (pos 0 ≤ℤ ((e.b.y -ℤ e.a.y) *ℤ (last -ℤ x)))
    between_falling falls first_is last_is x from to amid =
        let l = moved_within e.a.x e.b.x left forward in
        let r = moved_within e.a.x e.b.x right forward in
        let low = l.least x amid.0 from in
        let high = r.greatest x amid.1 to in (
          nonpos_both (e.b.y -ℤ e.a.y) (x -ℤ first) (omega (linear, falls)) (omega (linear, high, first_is)),
          nonpos_both (e.b.y -ℤ e.a.y) (last -ℤ x) (omega (linear, falls)) (omega (linear, low, last_is)),
        )
