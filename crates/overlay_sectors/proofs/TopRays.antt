-- The edges that lead from p into a flank, by their slopes. Where some are below a point near p, one is the topmost.
use Rattle.std.proofs.Common.{◌≡◌, ◌⊎◌, inl, inr, ⊎_elim, Bool, true, false, ◌&&◌, ℤ, pos, neg_ℤ}
use Rattle.std.proofs.Common.{◌+ℤ◌, ◌-ℤ◌, ◌*ℤ◌, ◌<ℤ◌, ◌≤ℤ◌, int_lt, int_le, List, [], ◌∷◌, Contains, refl}
use Rattle.std.proofs.Common.{subst}
use Rattle.std.specs.Ordering.{int_eq}
use Rattle.std.proofs.lemmas.Bool.{and_parts, both_ways}
use Rattle.std.proofs.lemmas.Bool.Decides.{Decides-int_eq}
use Rattle.std.proofs.lemmas.Int.{by_lt_z}
use Rattle.overlay_geom.specs.Edges.{CountedEdge, ends_of}
use Rattle.overlay_geom.specs.Plane.{PlanePoint, Edge, side, in_plane}
use Rattle.overlay_geom.proofs.AlongEdge.{sideE}
use Rattle.overlay_geom.proofs.Entries.{Contains-head, Contains-later, Contains-cases}
use Rattle.overlay_geom.proofs.Identities.{solve, number, ◌⊕◌, ◌⊗◌, ◌⊖◌, ⊝◌, ◌≗◌}
use Rattle.overlay_geom.proofs.Signs.{linear, mul-pos, mul-neg, mul-nonneg, mul-nonpos, mul-zero, mul-le}
use Rattle.overlay_geom.proofs.Signs.{pos_of_mul-pos, nonneg_of_mul-nonneg, neg_of_mul-neg, nonpos_of_mul-nonpos}
use Rattle.overlay_plane.specs.Heights.{width}
use Rattle.overlay_plane.proofs.Tests.{lt_from_test, le_from_test}
use Rattle.overlay_sectors.specs.Sectors.{spans_beside, far_end, leads_from}
use Rattle.overlay_sectors.specs.declared.flank.Flank.{Flank}
use Rattle.overlay_sectors.specs.declared.flank.Flank.TheVariants.{Left, Right}
use Rattle.overlay_sectors.proofs.NearSectors.{across, IsOnFlank}

-- the rise of an edge
abbrev pub height : Edge → ℤ
height f = f.b.y -ℤ f.a.y

-- positive where e is steeper than f
abbrev pub steeper : Edge → Edge → ℤ
steeper f e = width f *ℤ height e -ℤ height f *ℤ width e

-- on a flank, positive where e leads to above f
abbrev pub higher : Flank → Edge → Edge → ℤ
higher Right f e = steeper f e
higher Left f e = neg_ℤ (steeper f e)

-- the spans
pub wide_ray : (h : Flank) (f : Edge) (p : PlanePoint) → spans_beside h f p ≡ true → pos 0 <ℤ width f
wide_ray Right f p t =
    let over = and_parts (int_le (f.a.x *ℤ p.d) p.x) (int_lt p.x (f.b.x *ℤ p.d)) t in
    let from = le_from_test (f.a.x *ℤ p.d) p.x over.0 in
    let to = lt_from_test p.x (f.b.x *ℤ p.d) over.1 in
    by_lt_z f.a.x f.b.x (λ less. omega linear)
    (λ ge. absurd (
    let le = mul-le p.d f.b.x f.a.x (let d = p.positive in omega linear) ge in
    let one = solve 2 (λ z d. z ⊗ d ≗ d ⊗ z) tt f.a.x p.d in
    let two = solve 2 (λ z d. z ⊗ d ≗ d ⊗ z) tt f.b.x p.d in
    omega linear))
wide_ray Left f p t =
    let over = and_parts (int_lt (f.a.x *ℤ p.d) p.x) (int_le p.x (f.b.x *ℤ p.d)) t in
    let from = lt_from_test (f.a.x *ℤ p.d) p.x over.0 in
    let to = le_from_test p.x (f.b.x *ℤ p.d) over.1 in
    by_lt_z f.a.x f.b.x (λ less. omega linear)
    (λ ge. absurd (
    let le = mul-le p.d f.b.x f.a.x (let d = p.positive in omega linear) ge in
    let one = solve 2 (λ z d. z ⊗ d ≗ d ⊗ z) tt f.a.x p.d in
    let two = solve 2 (λ z d. z ⊗ d ≗ d ⊗ z) tt f.b.x p.d in
    omega linear))

-- what an edge that leads from p has
pub record IsRay (h : Flank) (f : Edge) (p : PlanePoint) : Type 0 where
  pub wide : pos 0 <ℤ width f
  pub level : side f p ≡ pos 0

pub ray_of : (h : Flank) (f : Edge) (p : PlanePoint) → leads_from h f p ≡ true → IsRay h f p
ray_of h f p t =
    let parts = and_parts (spans_beside h f p) (int_eq (side f p) (pos 0)) t in
    record { wide = wide_ray h f p parts.0; level = (Decides-int_eq (side f p) (pos 0)).0 parts.1 }

-- ---- slopes

-- of three directions
pub directions : (wf hf we he x y : ℤ) → we *ℤ (wf *ℤ y -ℤ hf *ℤ x) ≡
    x *ℤ (wf *ℤ he -ℤ hf *ℤ we) +ℤ wf *ℤ (we *ℤ y -ℤ he *ℤ x)
directions = solve 6 (λ wf hf we he x y. we ⊗ (wf ⊗ y ⊖ hf ⊗ x) ≗
    x ⊗ (wf ⊗ he ⊖ hf ⊗ we) ⊕ wf ⊗ (we ⊗ y ⊖ he ⊗ x)) tt

-- where g leads no higher than e, and e lower than f, g leads lower than f
below_higher : (h : Flank) (g e f : Edge) → pos 0 <ℤ width g → pos 0 <ℤ width e → pos 0 <ℤ width f →
    pos 0 ≤ℤ higher h g e → pos 0 <ℤ higher h e f → pos 0 ≤ℤ higher h g f
below_higher Right g e f wide_g wide_e wide_f first second =
    let is = directions (width g) (height g) (width e) (height e) (width f) (height f) in
    let one = mul-nonneg (width f) (steeper g e) (omega linear) first in
    let two = mul-pos (width g) (steeper e f) wide_g second in
    nonneg_of_mul-nonneg (width e) (steeper g f) wide_e (omega linear)
below_higher Left g e f wide_g wide_e wide_f first second =
    let is = directions (width g) (height g) (width e) (height e) (width f) (height f) in
    let one = mul-nonpos (width f) (steeper g e) (omega linear) (omega linear) in
    let two = mul-neg (width g) (steeper e f) wide_g (omega linear) in
    let none = nonpos_of_mul-nonpos (width e) (steeper g f) wide_e (omega linear) in
    omega linear

module _ (p : PlanePoint) (f e : Edge) (on_f : side f p ≡ pos 0) (on_e : side e p ≡ pos 0)
    (wide_e : pos 0 <ℤ width e) where
  -- the end of e lies by f as e leads
  end_b : width e *ℤ (p.d *ℤ side f (in_plane e.b)) ≡ (e.b.x *ℤ p.d -ℤ p.x) *ℤ steeper f e
  end_b =
      let is = solve 11 (λ fax fay fbx fby eax eay ebx eby x y d.
      (ebx ⊖ eax) ⊗ (d ⊗ sideE fax fay fbx fby ebx eby (number (pos 1))) ≗
      (ebx ⊗ d ⊖ x) ⊗ ((fbx ⊖ fax) ⊗ (eby ⊖ eay) ⊖ (fby ⊖ fay) ⊗ (ebx ⊖ eax))
      ⊕ ((ebx ⊖ eax) ⊗ sideE fax fay fbx fby x y d ⊖ (fbx ⊖ fax) ⊗ sideE eax eay ebx eby x y d)) tt
      f.a.x f.a.y f.b.x f.b.y e.a.x e.a.y e.b.x e.b.y p.x p.y p.d in
      let one = mul-zero (width e) (side f p) on_f in
      let two = mul-zero (width f) (side e p) on_e in
      omega linear

  end_a : width e *ℤ (p.d *ℤ side f (in_plane e.a)) ≡ (e.a.x *ℤ p.d -ℤ p.x) *ℤ steeper f e
  end_a =
      let is = solve 11 (λ fax fay fbx fby eax eay ebx eby x y d.
      (ebx ⊖ eax) ⊗ (d ⊗ sideE fax fay fbx fby eax eay (number (pos 1))) ≗
      (eax ⊗ d ⊖ x) ⊗ ((fbx ⊖ fax) ⊗ (eby ⊖ eay) ⊖ (fby ⊖ fay) ⊗ (ebx ⊖ eax))
      ⊕ ((ebx ⊖ eax) ⊗ sideE fax fay fbx fby x y d ⊖ (fbx ⊖ fax) ⊗ sideE eax eay ebx eby x y d)) tt
      f.a.x f.a.y f.b.x f.b.y e.a.x e.a.y e.b.x e.b.y p.x p.y p.d in
      let one = mul-zero (width e) (side f p) on_f in
      let two = mul-zero (width f) (side e p) on_e in
      omega linear

-- ---- the ends of an edge that leads from p tell how high it leads

-- the end on the flank is on the flank
pub end_right : (e : Edge) (p : PlanePoint) → spans_beside Right e p ≡ true → pos 0 <ℤ (e.b.x *ℤ p.d -ℤ p.x)
end_right e p t =
    let to = lt_from_test p.x (e.b.x *ℤ p.d) (and_parts (int_le (e.a.x *ℤ p.d) p.x) (int_lt p.x (e.b.x *ℤ p.d)) t).1 in
    omega linear

pub end_left : (e : Edge) (p : PlanePoint) → spans_beside Left e p ≡ true → (e.a.x *ℤ p.d -ℤ p.x) <ℤ pos 0
end_left e p t =
    let from = lt_from_test (e.a.x *ℤ p.d) p.x
    (and_parts (int_lt (e.a.x *ℤ p.d) p.x) (int_le p.x (e.b.x *ℤ p.d)) t).0 in
    omega linear

module _ (p : PlanePoint) (f e : Edge) (on_f : side f p ≡ pos 0) (on_e : side e p ≡ pos 0)
    (wide_e : pos 0 <ℤ width e) where
  -- the end of e is not below f where e leads no lower
  pub not_lower : (h : Flank) → spans_beside h e p ≡ true → pos 0 ≤ℤ higher h f e →
      pos 0 ≤ℤ side f (in_plane (far_end h e))
  not_lower Right t up =
      let is = end_b p f e on_f on_e wide_e in
      let end = end_right e p t in
      let some = mul-nonneg (e.b.x *ℤ p.d -ℤ p.x) (steeper f e) (omega linear) up in
      let scaled = nonneg_of_mul-nonneg (width e) (p.d *ℤ side f (in_plane e.b)) wide_e (omega linear) in
      nonneg_of_mul-nonneg p.d (side f (in_plane e.b)) p.positive scaled
  not_lower Left t up =
      let is = end_a p f e on_f on_e wide_e in
      let end = end_left e p t in
      let some = both_low (e.a.x *ℤ p.d -ℤ p.x) (steeper f e) (omega linear) (omega linear) in
      let scaled = nonneg_of_mul-nonneg (width e) (p.d *ℤ side f (in_plane e.a)) wide_e (omega linear) in
      nonneg_of_mul-nonneg p.d (side f (in_plane e.a)) p.positive scaled
    where
      both_low : (a b : ℤ) → a ≤ℤ pos 0 → b ≤ℤ pos 0 → pos 0 ≤ℤ (a *ℤ b)
      both_low a b s t =
          let nonneg = mul-nonneg (neg_ℤ a) (neg_ℤ b) (omega linear) (omega linear) in
          let is = solve 2 (λ a b. ⊝ a ⊗ ⊝ b ≗ a ⊗ b) tt a b in
          omega linear

  -- and below it where e leads lower
  pub lower : (h : Flank) → spans_beside h e p ≡ true → higher h f e <ℤ pos 0 →
      side f (in_plane (far_end h e)) <ℤ pos 0
  lower Right t down =
      let is = end_b p f e on_f on_e wide_e in
      let end = end_right e p t in
      let some = mul-neg (e.b.x *ℤ p.d -ℤ p.x) (steeper f e) end down in
      let scaled = neg_of_mul-neg (width e) (p.d *ℤ side f (in_plane e.b)) wide_e (omega linear) in
      neg_of_mul-neg p.d (side f (in_plane e.b)) p.positive scaled
  lower Left t down =
      let is = end_a p f e on_f on_e wide_e in
      let end = end_left e p t in
      let some = mul-neg (neg_ℤ (e.a.x *ℤ p.d -ℤ p.x)) (neg_ℤ (steeper f e)) (omega linear) down in
      let turned = solve 2 (λ a b. ⊝ a ⊗ ⊝ b ≗ a ⊗ b) tt (e.a.x *ℤ p.d -ℤ p.x) (steeper f e) in
      let scaled = neg_of_mul-neg (width e) (p.d *ℤ side f (in_plane e.a)) wide_e (omega linear) in
      neg_of_mul-neg p.d (side f (in_plane e.a)) p.positive scaled

  pub leads_up : (h : Flank) → spans_beside h e p ≡ true → pos 0 ≤ℤ side f (in_plane (far_end h e)) →
      pos 0 ≤ℤ higher h f e
  leads_up h t up = by_lt_z (higher h f e) (pos 0)
      (λ down. absurd (let less = lower h t down in omega linear)) (λ ge. ge)

-- ---- a point of the flank

module _ (p q : PlanePoint) where
  abbrev upward : ℤ
  upward = q.y *ℤ p.d -ℤ p.y *ℤ q.d

  -- the side of q by an edge with p on its line
  side_by : (f : Edge) → side f p ≡ pos 0 → p.d *ℤ side f q ≡ width f *ℤ upward -ℤ height f *ℤ across p q
  side_by f on =
      let is = solve 10 (λ ax ay bx by x y d u v c. d ⊗ sideE ax ay bx by u v c ≗
      c ⊗ sideE ax ay bx by x y d ⊕ ((bx ⊖ ax) ⊗ (v ⊗ d ⊖ y ⊗ c) ⊖ (by ⊖ ay) ⊗ (u ⊗ d ⊖ x ⊗ c))) tt
      f.a.x f.a.y f.b.x f.b.y p.x p.y p.d q.x q.y q.d in
      let none = mul-zero q.d (side f p) on in
      omega linear

  -- an edge that leads no higher than one below q is below q
  pub below_with : (h : Flank) → IsOnFlank h p q → (f e : Edge) → side f p ≡ pos 0 → side e p ≡ pos 0 →
      pos 0 <ℤ width f → pos 0 <ℤ width e → pos 0 ≤ℤ higher h f e → pos 0 <ℤ side e q → pos 0 <ℤ side f q
  below_with h on f e on_f on_e wide_f wide_e up high =
      let of_f = side_by f on_f in
      let of_e = side_by e on_e in
      let is = directions (width f) (height f) (width e) (height e) (across p q) upward in
      let one = turned h on up in
      let some = mul-pos p.d (side e q) p.positive high in
      let two = mul-pos (width f) (width e *ℤ upward -ℤ height e *ℤ across p q) wide_f (omega linear) in
      let all = pos_of_mul-pos (width e) (width f *ℤ upward -ℤ height f *ℤ across p q) wide_e (omega linear) in
      pos_of_mul-pos p.d (side f q) p.positive (omega linear)
    where
      turned : (h : Flank) → IsOnFlank h p q → pos 0 ≤ℤ higher h f e → pos 0 ≤ℤ (across p q *ℤ steeper f e)
      turned Right on up = mul-nonneg (across p q) (steeper f e) on up
      turned Left on up =
          let nonneg = mul-nonneg (neg_ℤ (across p q)) (neg_ℤ (steeper f e)) (omega linear) up in
          let is = solve 2 (λ a b. ⊝ a ⊗ ⊝ b ≗ a ⊗ b) tt (across p q) (steeper f e) in
          omega linear

-- ---- the topmost edge below a point

module _ (h : Flank) (p q : PlanePoint) where
  -- the edge leads from p, and is below q
  abbrev pub is_ray_below : Edge → Bool
  is_ray_below f = leads_from h f p && int_lt (pos 0) (side f q)

  -- the edge is so, and no other leads higher
  pub record IsTopRay (es : List CountedEdge) (e : CountedEdge) : Type 0 where
    pub entry : Contains es e
    pub below : is_ray_below (ends_of e) ≡ true
    pub top : (f : CountedEdge) → Contains es f → is_ray_below (ends_of f) ≡ true →
        pos 0 ≤ℤ higher h (ends_of f) (ends_of e)

  abbrev NoneBelow : List CountedEdge → Type 0
  NoneBelow es = (f : CountedEdge) → Contains es f → is_ray_below (ends_of f) ≡ false

  as_high : (f : Edge) → pos 0 ≤ℤ higher h f f
  as_high f = by h
    where
      by : (k : Flank) → pos 0 ≤ℤ higher k f f
      by Right = let is = solve 2 (λ w t. w ⊗ t ⊖ t ⊗ w ≗ number (pos 0)) tt (width f) (height f) in omega linear
      by Left = let is = solve 2 (λ w t. w ⊗ t ⊖ t ⊗ w ≗ number (pos 0)) tt (width f) (height f) in omega linear

  lower_turned : (f e : Edge) → higher h f e <ℤ pos 0 → pos 0 <ℤ higher h e f
  lower_turned f e down = by h down
    where
      is : steeper e f ≡ neg_ℤ (steeper f e)
      is = solve 4 (λ w t v s. w ⊗ t ⊖ s ⊗ v ≗ ⊝ (v ⊗ s ⊖ t ⊗ w)) tt (width e) (height f) (width f) (height e)

      by : (k : Flank) → higher k f e <ℤ pos 0 → pos 0 <ℤ higher k e f
      by Right less = let same = is in omega linear
      by Left less = let same = is in omega linear

  wide_below : (f : Edge) → is_ray_below f ≡ true → pos 0 <ℤ width f
  wide_below f t = let ray = ray_of h f p (and_parts (leads_from h f p) (int_lt (pos 0) (side f q)) t).0 in ray.wide

  -- one more edge
  next_top : (e : CountedEdge) (es : List CountedEdge) → (t : Bool) → is_ray_below (ends_of e) ≡ t →
      NoneBelow es ⊎ ((g : CountedEdge) × IsTopRay es g) →
      NoneBelow (e ∷ es) ⊎ ((g : CountedEdge) × IsTopRay (e ∷ es) g)
  next_top e es false is (inl none) = inl (λ f c. ⊎_elim
      (λ same. subst (λ (g : CountedEdge). is_ray_below (ends_of g) ≡ false) same is) (none f)
      (Contains-cases e es f c))
  next_top e es true is (inl none) = inr (
    e,
    record {
      entry = Contains-head e es;
      below = is;
      top = λ f c t. ⊎_elim
          (λ same. subst (λ (g : CountedEdge). pos 0 ≤ℤ higher h (ends_of g) (ends_of e)) same (as_high (ends_of e)))
          (λ later. absurd (both_ways (is_ray_below (ends_of f)) (none f later) t))
          (Contains-cases e es f c);
    },
  )
  next_top e es false is (inr (g, at)) = inr (
    g,
    record {
      entry = Contains-later e es g at.entry;
      below = at.below;
      top = λ f c t. ⊎_elim
          (λ same. absurd (both_ways (is_ray_below (ends_of f))
          (subst (λ (k : CountedEdge). is_ray_below (ends_of k) ≡ false) same is) t))
          (λ later. at.top f later t)
          (Contains-cases e es f c);
    },
  )
  next_top e es true is (inr (g, at)) = by_lt_z (higher h (ends_of e) (ends_of g)) (pos 0)
      (λ down. inr (
        e,
        record {
          entry = Contains-head e es;
          below = is;
          top = λ f c t. ⊎_elim
              (λ same. subst (λ (k : CountedEdge). pos 0 ≤ℤ higher h (ends_of k) (ends_of e)) same
              (as_high (ends_of e)))
              (λ later. below_higher h (ends_of f) (ends_of g) (ends_of e) (wide_below (ends_of f) t)
              (wide_below (ends_of g) at.below) (wide_below (ends_of e) is) (at.top f later t)
              (lower_turned (ends_of e) (ends_of g) down))
              (Contains-cases e es f c);
        },
      ))
      (λ up. inr (
        g,
        record {
          entry = Contains-later e es g at.entry;
          below = at.below;
          top = λ f c t. ⊎_elim
              (λ same. subst (λ (k : CountedEdge). pos 0 ≤ℤ higher h (ends_of k) (ends_of g)) same up)
              (λ later. at.top f later t)
              (Contains-cases e es f c);
        },
      ))

  pub some_top : (es : List CountedEdge) →
      ((f : CountedEdge) → Contains es f → is_ray_below (ends_of f) ≡ false) ⊎
      ((g : CountedEdge) × IsTopRay es g)
  some_top [] = inl (λ f c. elim c.1 [ ])
  some_top (e ∷ es) = next_top e es (is_ray_below (ends_of e)) refl (some_top es)
