-- Two edges, each with its ends on different sides of the other's line, or one end on it. The lines meet in one point,
-- a mean of the ends weighted by sides. The edges meet in ends alone exactly where they share an end.
use lib.IntN.{*ℤ_comm}
use Rattle.std.proofs.Common.{◌≡◌, ◌⊎◌, inl, inr, ℤ, pos, ◌+ℤ◌, ◌-ℤ◌, ◌*ℤ◌, neg_ℤ, ◌<ℤ◌, ◌≤ℤ◌, sym, subst, refl}
use Rattle.std.proofs.lemmas.Int.{by_lt_z}
use Rattle.overlay_geom.specs.Plane.{Point, PlanePoint, Edge, IsBetween, IsOn, IsAt, IsEnd, side, cross_at}
use Rattle.overlay_geom.specs.Settled.{MeetInEnds}
use Rattle.overlay_geom.specs.Placed.{IsAcross}
use Rattle.overlay_geom.proofs.Identities.{solve, number, ◌⊕◌, ◌⊗◌, ◌⊖◌, ⊝◌, ◌≗◌}
use Rattle.overlay_geom.proofs.Products.{neg_ℤ-mul}
use Rattle.overlay_geom.proofs.Signs.{linear, mul-zero, mul-le, zero_of_mul-zero, eq_of_mul-eq}
use Rattle.overlay_geom.proofs.Cross.{crossE, cross_at_same, cross_at_first}
use Rattle.overlay_geom.proofs.Orders.{same_point}
use Rattle.overlay_geom.proofs.AlongEdge.{sideE}
use Rattle.overlay_geom.proofs.OneLine.{meet_in_ends_exchanged}

-- a number is 0 if its product with a number other than 0 is
zero_of_product : (k z : ℤ) → (pos 0 <ℤ k) ⊎ (k <ℤ pos 0) → k *ℤ z ≡ pos 0 → z ≡ pos 0
zero_of_product k z (inl positive) none = zero_of_mul-zero k z positive none
zero_of_product k z (inr negative) none = let turned = neg_ℤ-mul k z in
    zero_of_mul-zero (neg_ℤ k) z (omega linear) (omega linear)

-- ---- edges that share an end

-- the distance that f goes across: the difference of its ends' sides
abbrev crossed : Edge → Edge → ℤ
crossed e f = cross_at e.a e.b f.b -ℤ cross_at e.a e.b f.a

-- an edge that goes across does so by more than 0
crosses : (e f : Edge) → IsAcross e f → (pos 0 <ℤ crossed e f) ⊎ (crossed e f <ℤ pos 0)
crosses e f (inl (low, high, less)) = inl (omega linear)
crosses e f (inr (low, high, less)) = inr (omega linear)

-- two lines that are not parallel have one common point
lines_meet_once : (e f : Edge) (v : Point) (p : PlanePoint) → IsAcross e f → cross_at e.a e.b v ≡ pos 0 →
    cross_at f.a f.b v ≡ pos 0 → side e p ≡ pos 0 → side f p ≡ pos 0 → IsAt v p
lines_meet_once e f v p across e_v f_v e_p f_p = (omega (linear, in_x), omega (linear, in_y))
  where
    along_e : side e p -ℤ p.d *ℤ cross_at e.a e.b v ≡ pos 0
    along_e = let none = mul-zero p.d (cross_at e.a e.b v) e_v in omega linear

    along_f : side f p -ℤ p.d *ℤ cross_at f.a f.b v ≡ pos 0
    along_f = let none = mul-zero p.d (cross_at f.a f.b v) f_v in omega linear

    in_x : p.x -ℤ v.x *ℤ p.d ≡ pos 0
    in_x =
        let identity = solve 13 (λ ax ay bx by cx cy dx dy vx vy x y d.
        (crossE ax ay bx by dx dy ⊖ crossE ax ay bx by cx cy) ⊗ (x ⊖ vx ⊗ d) ≗ (dx ⊖ cx) ⊗
        (sideE ax ay bx by x y d ⊖ d ⊗ crossE ax ay bx by vx vy) ⊖ (bx ⊖ ax) ⊗
        (sideE cx cy dx dy x y d ⊖ d ⊗ crossE cx cy dx dy vx vy)) tt e.a.x e.a.y e.b.x e.b.y f.a.x f.a.y f.b.x f.b.y
        v.x v.y p.x p.y p.d in
        let of_e = mul-zero (f.b.x -ℤ f.a.x) (side e p -ℤ p.d *ℤ cross_at e.a e.b v) along_e in
        let of_f = mul-zero (e.b.x -ℤ e.a.x) (side f p -ℤ p.d *ℤ cross_at f.a f.b v) along_f in
        zero_of_product (crossed e f) (p.x -ℤ v.x *ℤ p.d) (crosses e f across) (omega linear)

    in_y : p.y -ℤ v.y *ℤ p.d ≡ pos 0
    in_y =
        let identity = solve 13 (λ ax ay bx by cx cy dx dy vx vy x y d.
        (crossE ax ay bx by dx dy ⊖ crossE ax ay bx by cx cy) ⊗ (y ⊖ vy ⊗ d) ≗ (dy ⊖ cy) ⊗
        (sideE ax ay bx by x y d ⊖ d ⊗ crossE ax ay bx by vx vy) ⊖ (by ⊖ ay) ⊗
        (sideE cx cy dx dy x y d ⊖ d ⊗ crossE cx cy dx dy vx vy)) tt e.a.x e.a.y e.b.x e.b.y f.a.x f.a.y f.b.x f.b.y
        v.x v.y p.x p.y p.d in
        let of_e = mul-zero (f.b.y -ℤ f.a.y) (side e p -ℤ p.d *ℤ cross_at e.a e.b v) along_e in
        let of_f = mul-zero (e.b.y -ℤ e.a.y) (side f p -ℤ p.d *ℤ cross_at f.a f.b v) along_f in
        zero_of_product (crossed e f) (p.y -ℤ v.y *ℤ p.d) (crosses e f across) (omega linear)

-- a whole point is an end of an edge
abbrev pub IsEndpoint : Edge → Point → Type 0
IsEndpoint e v = (v ≡ e.a) ⊎ (v ≡ e.b)

-- an end of an edge lies on its line
endpoint_on_line : (e : Edge) (v : Point) → IsEndpoint e v → cross_at e.a e.b v ≡ pos 0
endpoint_on_line e v (inl same) = let P : Point → Type 0 = λ w. cross_at e.a e.b w ≡ pos 0 in
    subst P (sym same) (cross_at_first e.a e.b)
endpoint_on_line e v (inr same) = let P : Point → Type 0 = λ w. cross_at e.a e.b w ≡ pos 0 in
    subst P (sym same) (cross_at_same e.a e.b)

-- a point of the plane at an end of an edge is that end
end_at_endpoint : (e : Edge) (v : Point) (p : PlanePoint) → IsEndpoint e v → IsAt v p → IsEnd e p
end_at_endpoint e v p (inl same) at = let P : Point → Type 0 = λ w. IsAt w p in inl (subst P same at)
end_at_endpoint e v p (inr same) at = let P : Point → Type 0 = λ w. IsAt w p in inr (subst P same at)

-- two edges that are not on one line and share an end meet in that end alone
pub sharing_meet_in_ends : (e f : Edge) (v : Point) → IsAcross e f → IsEndpoint e v → IsEndpoint f v → MeetInEnds e f
sharing_meet_in_ends e f v across end_of_e end_of_f p (on_e, on_f) =
    let at = lines_meet_once e f v p across (endpoint_on_line e v end_of_e) (endpoint_on_line f v end_of_f) on_e.on_line
    on_f.on_line in
    (end_at_endpoint e v p end_of_e at, end_at_endpoint f v p end_of_f at)

-- ---- edges that share none

-- the point at which two points' coordinates add up by weights
abbrev weighed : (a b : Point) (k m : ℤ) → pos 0 <ℤ (k +ℤ m) → PlanePoint
weighed a b k m some = record { x = k *ℤ a.x +ℤ m *ℤ b.x; y = k *ℤ a.y +ℤ m *ℤ b.y; d = k +ℤ m; positive = some }

-- a weighted mean lies between the two numbers where no weight is negative
weighed_between : (k m u v : ℤ) → pos 0 ≤ℤ k → pos 0 ≤ℤ m → IsBetween (k *ℤ u +ℤ m *ℤ v) (u *ℤ (k +ℤ m)) (v *ℤ (k +ℤ m))
weighed_between k m u v k_nonneg m_nonneg = by_lt_z v u (λ lt. inr (falling (omega linear))) (λ le. inl (rising le))
  where
    spread_u : u *ℤ (k +ℤ m) ≡ k *ℤ u +ℤ m *ℤ u
    spread_u = solve 3 (λ k m u. u ⊗ (k ⊕ m) ≗ k ⊗ u ⊕ m ⊗ u) tt k m u

    spread_v : v *ℤ (k +ℤ m) ≡ k *ℤ v +ℤ m *ℤ v
    spread_v = solve 3 (λ k m v. v ⊗ (k ⊕ m) ≗ k ⊗ v ⊕ m ⊗ v) tt k m v

    rising : u ≤ℤ v → ((u *ℤ (k +ℤ m)) ≤ℤ (k *ℤ u +ℤ m *ℤ v)) × ((k *ℤ u +ℤ m *ℤ v) ≤ℤ (v *ℤ (k +ℤ m)))
    rising le = let at_k = mul-le k u v k_nonneg le in let at_m = mul-le m u v m_nonneg le in
        (omega (linear, spread_u), omega (linear, spread_v))

    falling : v ≤ℤ u → ((v *ℤ (k +ℤ m)) ≤ℤ (k *ℤ u +ℤ m *ℤ v)) × ((k *ℤ u +ℤ m *ℤ v) ≤ℤ (u *ℤ (k +ℤ m)))
    falling le = let at_k = mul-le k v u k_nonneg le in let at_m = mul-le m v u m_nonneg le in
        (omega (linear, spread_v), omega (linear, spread_u))

-- it lies on the edge between them where no weight is negative
weighed_on : (e : Edge) (k m : ℤ) (some : pos 0 <ℤ (k +ℤ m)) → pos 0 ≤ℤ k → pos 0 ≤ℤ m →
    IsOn e (weighed e.a e.b k m some)
weighed_on e k m some k_nonneg m_nonneg = record {
  on_line = solve 6 (λ ax ay bx by k m. sideE ax ay bx by (k ⊗ ax ⊕ m ⊗ bx) (k ⊗ ay ⊕ m ⊗ by) (k ⊕ m) ≗ number (pos 0))
      tt e.a.x e.a.y e.b.x e.b.y k m;
  in_x = weighed_between k m e.a.x e.b.x k_nonneg m_nonneg;
  in_y = weighed_between k m e.a.y e.b.y k_nonneg m_nonneg;
}

-- a point on an edge is on it however its numbers are written
on_at_same : (e : Edge) (p q : PlanePoint) → p.x ≡ q.x → p.y ≡ q.y → p.d ≡ q.d → IsOn e p → IsOn e q
on_at_same e p q same_x same_y same_d on = record {
  on_line = rw (← same_x, ← same_y, ← same_d) on.on_line;
  in_x = rw (← same_x, ← same_d) on.in_x;
  in_y = rw (← same_y, ← same_d) on.in_y;
}

-- a plane point is at one whole point at most
pub at_one_point : (v w : Point) (p : PlanePoint) → IsAt v p → IsAt w p → v ≡ w
at_one_point v w p (v_x, v_y) (w_x, w_y) = same_point v w (cancel v.x w.x p.x v_x w_x) (cancel v.y w.y p.y v_y w_y)
  where
    cancel : (a b z : ℤ) → z ≡ a *ℤ p.d → z ≡ b *ℤ p.d → a ≡ b
    cancel a b z za zb = let at_a = *ℤ_comm a p.d in let at_b = *ℤ_comm b p.d in
        eq_of_mul-eq p.d a b p.positive (omega linear)

-- an end of an edge in the plane is at a whole point that is an end
endpoint_of_end : (e : Edge) (p : PlanePoint) → IsEnd e p → (v : Point) × IsEndpoint e v × IsAt v p
endpoint_of_end e p (inl at) = (e.a, inl refl, at)
endpoint_of_end e p (inr at) = (e.b, inr refl, at)

-- no point is an end of both edges
abbrev pub ShareNone : Edge → Edge → Type 0
ShareNone e f = (v : Point) → IsEndpoint e v → IsEndpoint f v → ⊥

-- f goes across e's line from right to left, and e across f's from left to right
crossing_leftward : (e f : Edge) → cross_at e.a e.b f.a ≤ℤ pos 0 → pos 0 ≤ℤ cross_at e.a e.b f.b →
    cross_at e.a e.b f.a <ℤ cross_at e.a e.b f.b → cross_at f.a f.b e.b ≤ℤ pos 0 → pos 0 ≤ℤ cross_at f.a f.b e.a →
    cross_at f.a f.b e.b <ℤ cross_at f.a f.b e.a → ShareNone e f → ¬ (MeetInEnds e f)
crossing_leftward e f f_from f_to f_goes e_to e_from e_goes share_none h = share_none v.0 v.1
    (let P : Point → Type 0 = λ u. IsEndpoint f u in subst P (at_one_point w.0 v.0 p w.2 v.2) w.1)
  where
    p : PlanePoint
    p = weighed f.a f.b (cross_at e.a e.b f.b) (neg_ℤ (cross_at e.a e.b f.a)) (omega linear)

    q : PlanePoint
    q = weighed e.a e.b (neg_ℤ (cross_at f.a f.b e.b)) (cross_at f.a f.b e.a) (omega linear)

    on_f : IsOn f p
    on_f = weighed_on f (cross_at e.a e.b f.b) (neg_ℤ (cross_at e.a e.b f.a)) (omega linear) f_to (omega linear)

    on_e : IsOn e p
    on_e =
        on_at_same e q p
        (solve 8 (λ ax ay bx by cx cy dx dy. ⊝ crossE cx cy dx dy bx by ⊗ ax ⊕ crossE cx cy dx dy ax ay ⊗ bx ≗ crossE ax
        ay bx by dx dy ⊗ cx ⊕ ⊝ crossE ax ay bx by cx cy ⊗ dx) tt e.a.x e.a.y e.b.x e.b.y f.a.x f.a.y f.b.x f.b.y)
        (solve 8 (λ ax ay bx by cx cy dx dy. ⊝ crossE cx cy dx dy bx by ⊗ ay ⊕ crossE cx cy dx dy ax ay ⊗ by ≗ crossE ax
        ay bx by dx dy ⊗ cy ⊕ ⊝ crossE ax ay bx by cx cy ⊗ dy) tt e.a.x e.a.y e.b.x e.b.y f.a.x f.a.y f.b.x f.b.y)
        (solve 8 (λ ax ay bx by cx cy dx dy. ⊝ crossE cx cy dx dy bx by ⊕ crossE cx cy dx dy ax ay ≗ crossE ax ay bx by
        dx dy ⊕ ⊝ crossE ax ay bx by cx cy) tt e.a.x e.a.y e.b.x e.b.y f.a.x f.a.y f.b.x f.b.y)
        (weighed_on e (neg_ℤ (cross_at f.a f.b e.b)) (cross_at f.a f.b e.a) (omega linear) (omega linear) e_from)

    v : (u : Point) × IsEndpoint e u × IsAt u p
    v = endpoint_of_end e p (h p (on_e, on_f)).0

    w : (u : Point) × IsEndpoint f u × IsAt u p
    w = endpoint_of_end f p (h p (on_e, on_f)).1

-- of two edges each goes as far across the other's line as that across its own, the other way
pub crossed_back : (e f : Edge) → cross_at e.a e.b f.b -ℤ cross_at e.a e.b f.a ≡ cross_at f.a f.b e.a -ℤ cross_at f.a
    f.b e.b
crossed_back e f = solve 8
    (λ ax ay bx by cx cy dx dy. crossE ax ay bx by dx dy ⊖ crossE ax ay bx by cx cy ≗ crossE cx cy dx dy ax ay ⊖ crossE
    cx cy dx dy bx by)
    tt e.a.x e.a.y e.b.x e.b.y f.a.x f.a.y f.b.x f.b.y

-- two edges that go across each other's lines and share no end have a common point inside one of them
pub crossing_do_not_meet_in_ends : (e f : Edge) → IsAcross e f → IsAcross f e → ShareNone e f → ¬ (MeetInEnds e f)
crossing_do_not_meet_in_ends e f across back share_none h = by across back
  where
    by : IsAcross e f → IsAcross f e → ⊥
    by (inl (f_from, f_to, f_goes)) (inr (e_to, e_from, e_goes)) = crossing_leftward e f f_from f_to f_goes e_to e_from
        e_goes share_none h
    by (inr (f_to, f_from, f_goes)) (inl (e_from, e_to, e_goes)) =
        crossing_leftward f e e_from e_to e_goes f_to f_from f_goes (λ v of_f of_e. share_none v of_e of_f)
        (meet_in_ends_exchanged f e h)
    by (inl (f_from, f_to, f_goes)) (inl (e_from, e_to, e_goes)) = let same = crossed_back e f in omega linear
    by (inr (f_to, f_from, f_goes)) (inr (e_to, e_from, e_goes)) = let same = crossed_back e f in omega linear
