-- The spoke met between two others, from the turns between their edges.
use Rattle.std.proofs.Common.{◌≡◌, ◌⊎◌, ⊎_elim, ℕ, Bool, true, false, cond, ◌&&◌, ◌||◌, ◌==◌, nat_lt, ℤ, pos, ◌+ℤ◌}
use Rattle.std.proofs.Common.{◌-ℤ◌, ◌*ℤ◌, neg_ℤ, int_lt, refl, sym, ap, ap₂, ◌∙◌}
use Rattle.std.proofs.lemmas.Bool.{false≢true}
use Rattle.overlay_geom.specs.Plane.{Point, Edge, cross_at, point_eq}
use Rattle.overlay_geom.specs.Edges.{CountedEdge, ends_of}
use Rattle.overlay_geom.proofs.Identities.{solve, ◌⊕◌, ◌⊗◌, ◌⊖◌, ⊝◌, ◌≗◌}
use Rattle.overlay_geom.proofs.Signs.{linear}
use Rattle.overlay_geom.proofs.Orders.{point_eq-same, point_eq-of_same}
use Rattle.overlay_plane.specs.Heights.{width}
use Rattle.overlay_plane.specs.Regions.{one_if}
use Rattle.overlay_plane.specs.Turn.{dot_at, part_of_turn, is_met_before}
use Rattle.overlay_plane.specs.Turn.Hand.{right}
use Rattle.overlay_plane.specs.Nodes.{edge_turn}
use Rattle.overlay_plane.specs.Spokes.{far_end}
use Rattle.overlay_plane.proofs.EdgeTurns.{rise, edge_dot, IsForward, edge_turn_exchanged, level_ahead, left_after_left}
use Rattle.overlay_plane.proofs.EdgeTurns.{left_of_level, left_to_level, level_after_level}
use Rattle.overlay_plane.proofs.SpokeSigns.{alike, signed, seen, sign_at, is_plus, part_by_sign, sign_signed}
use Rattle.overlay_plane.proofs.SpokeSigns.{test_is_plus, part_seen, go_together, together, met_by_signs, Counted}
use Rattle.overlay_plane.proofs.SpokeSigns.{between_counted}

-- the way from v to p is the way along e, or back along it
pub record IsAlong (v p : Point) (e : Edge) (h : Bool) : Type 0 where
  pub across : p.x -ℤ v.x ≡ signed h (width e)
  pub up : p.y -ℤ v.y ≡ signed h (rise e)

-- the cross product of two vectors, each perhaps reversed
crossed : (h k : Bool) (w r w' r' : ℤ) → signed h w *ℤ signed k r' -ℤ signed h r *ℤ signed k w' ≡ signed (alike h k)
    (w *ℤ r' -ℤ r *ℤ w')
crossed true true w r w' r' = refl
crossed true false w r w' r' = solve 4 (λ w r u s. w ⊗ ⊝ s ⊖ r ⊗ ⊝ u ≗ ⊝ (w ⊗ s ⊖ r ⊗ u)) tt w r w' r'
crossed false true w r w' r' = solve 4 (λ w r u s. (⊝ w) ⊗ s ⊖ (⊝ r) ⊗ u ≗ ⊝ (w ⊗ s ⊖ r ⊗ u)) tt w r w' r'
crossed false false w r w' r' = solve 4 (λ w r u s. (⊝ w) ⊗ ⊝ s ⊖ (⊝ r) ⊗ ⊝ u ≗ w ⊗ s ⊖ r ⊗ u) tt w r w' r'

-- the inner product of two vectors, each perhaps reversed
dotted : (h k : Bool) (w r w' r' : ℤ) → signed h w *ℤ signed k w' +ℤ signed h r *ℤ signed k r' ≡ signed (alike h k)
    (w *ℤ w' +ℤ r *ℤ r')
dotted true true w r w' r' = refl
dotted true false w r w' r' = solve 4 (λ w r u s. w ⊗ ⊝ u ⊕ r ⊗ ⊝ s ≗ ⊝ (w ⊗ u ⊕ r ⊗ s)) tt w r w' r'
dotted false true w r w' r' = solve 4 (λ w r u s. (⊝ w) ⊗ u ⊕ (⊝ r) ⊗ s ≗ ⊝ (w ⊗ u ⊕ r ⊗ s)) tt w r w' r'
dotted false false w r w' r' = solve 4 (λ w r u s. (⊝ w) ⊗ ⊝ u ⊕ (⊝ r) ⊗ ⊝ s ≗ w ⊗ u ⊕ r ⊗ s) tt w r w' r'

module _ (v p q : Point) (e g : Edge) (he hg : Bool) (at_p : IsAlong v p e he) (at_q : IsAlong v q g hg) where
  -- seen from v the cross product of two far ends is the turn between the edges, or its opposite
  pub cross_is : cross_at v p q ≡ signed (alike he hg) (edge_turn e g)
  cross_is = ap₂ (λ a b. a -ℤ b) (ap₂ (λ a b. a *ℤ b) at_p.across at_q.up) (ap₂ (λ a b. a *ℤ b) at_p.up at_q.across)
      ∙ crossed he hg (width e) (rise e) (width g) (rise g)

  -- and their inner product that of the edges, or its opposite
  pub dot_is : dot_at v p q ≡ signed (alike he hg) (edge_dot e g)
  dot_is = ap₂ (λ a b. a +ℤ b) (ap₂ (λ a b. a *ℤ b) at_p.across at_q.across) (ap₂ (λ a b. a *ℤ b) at_p.up at_q.up)
      ∙ dotted he hg (width e) (rise e) (width g) (rise g)

  -- the part of a turn is known by signs
  part_is : IsForward e → IsForward g → part_of_turn right v p q ≡ part_by_sign (alike he hg)
      (seen (alike he hg) (sign_at (edge_turn e g)))
  part_is forward_e forward_g = ap₂
      (λ t d. cond (int_lt (pos 0) t) 0 (cond (int_lt t (pos 0)) 2 (cond (int_lt d (pos 0)) 1 3))) cross_is dot_is
      ∙ part_seen (alike he hg) (edge_turn e g) (edge_dot e g) (λ level. level_ahead e g forward_e forward_g level)

  -- and so is whether one lies to the left
  left_is : int_lt (pos 0) (cross_at v p q) ≡ is_plus (seen (alike he hg) (sign_at (edge_turn e g)))
  left_is = ap (λ t. int_lt (pos 0) t) cross_is ∙ test_is_plus (signed (alike he hg) (edge_turn e g))
      ∙ ap is_plus (sign_signed (alike he hg) (edge_turn e g))

-- a spoke leads along its edge, or back
pub along : (v : Point) (e : CountedEdge) → (e.a ≡ v) ⊎ (e.b ≡ v) → IsAlong v (far_end v e) (ends_of e) (point_eq e.a v)
along v e at = by (point_eq e.a v) refl
  where
    ending : point_eq e.a v ≡ false → e.b ≡ v
    ending other = ⊎_elim (λ starts. absurd (false≢true (sym other ∙ point_eq-of_same e.a v starts))) (λ ends. ends) at

    by : (h : Bool) → point_eq e.a v ≡ h → IsAlong v (cond h e.b e.a) (ends_of e) h
    by true is = record {
      across = ap (λ (p : Point). e.b.x -ℤ p.x) (sym (point_eq-same e.a v is));
      up = ap (λ (p : Point). e.b.y -ℤ p.y) (sym (point_eq-same e.a v is));
    }
    by false is = record {
      across = ap (λ (p : Point). e.a.x -ℤ p.x) (sym (ending is)) ∙ turned e.a.x e.b.x;
      up = ap (λ (p : Point). e.a.y -ℤ p.y) (sym (ending is)) ∙ turned e.a.y e.b.y;
    }
      where
        turned : (a b : ℤ) → a -ℤ b ≡ neg_ℤ (b -ℤ a)
        turned a b = omega linear

-- the signs of the turns between three forward edges go together
turns_together : (e g f : Edge) → IsForward e → IsForward g → IsForward f →
    go_together (sign_at (edge_turn e g)) (sign_at (edge_turn g f)) (sign_at (edge_turn e f)) ≡ true
turns_together e g f fe fg ff = together (edge_turn e g) (edge_turn g f) (edge_turn e f)
    (λ x y. left_after_left e g f fe fg ff x y)
    (λ x y. let eg = edge_turn_exchanged e g in let gf = edge_turn_exchanged g f in let ef = edge_turn_exchanged e f in
    let more = left_after_left f g e ff fg fe (omega linear) (omega linear) in omega linear)
    (λ x y. level_after_level e g f fe fg ff x y)
    (λ x y. left_of_level e g f fe fg ff x y)
    (λ x y. let eg = edge_turn_exchanged e g in let gf = edge_turn_exchanged g f in let ef = edge_turn_exchanged e f in
    let more = left_to_level f g e ff fg fe (omega linear) (omega linear) in omega linear)
    (λ x y. left_to_level e g f fe fg ff x y)
    (λ x y. let eg = edge_turn_exchanged e g in let gf = edge_turn_exchanged g f in let ef = edge_turn_exchanged e f in
    let more = left_of_level f g e ff fg fe (omega linear) (omega linear) in omega linear)

-- which spoke is met first, by signs
pub met_is : (v p q r : Point) (e g f : Edge) (he hg hf : Bool) → IsForward e → IsForward g → IsForward f →
    IsAlong v p e he → IsAlong v q g hg → IsAlong v r f hf →
    is_met_before right v p q r ≡ met_by_signs he hg hf (sign_at (edge_turn e g)) (sign_at (edge_turn g f))
    (sign_at (edge_turn e f))
met_is v p q r e g f he hg hf fe fg ff at_p at_q at_r =
    ap₂ (λ i j. nat_lt i j || (i == j && int_lt (pos 0) (cross_at v q r))) (part_is v p q e g he hg at_p at_q fe fg)
    (part_is v p r e f he hf at_p at_r fe ff)
    ∙ ap (λ t. nat_lt i j || (i == j && t)) (left_is v q r g f hg hf at_q at_r)
  where
    i : ℕ
    i = part_by_sign (alike he hg) (seen (alike he hg) (sign_at (edge_turn e g)))

    j : ℕ
    j = part_by_sign (alike he hf) (seen (alike he hf) (sign_at (edge_turn e f)))

-- the table, of the edges themselves
pub met_counted : (v p q r : Point) (e g f : Edge) (he hg hf : Bool) → IsForward e → IsForward g → IsForward f →
    IsAlong v p e he → IsAlong v q g hg → IsAlong v r f hf →
    one_if (is_met_before right v p q r) ≡ Counted he hg hf (sign_at (edge_turn e g)) (sign_at (edge_turn g f))
    (sign_at (edge_turn e f))
met_counted v p q r e g f he hg hf fe fg ff at_p at_q at_r = ap (λ z. one_if z)
    (met_is v p q r e g f he hg hf fe fg ff at_p at_q at_r)
    ∙ between_counted he hg hf (sign_at (edge_turn e g)) (sign_at (edge_turn g f)) (sign_at (edge_turn e f))
    (turns_together e g f fe fg ff)
