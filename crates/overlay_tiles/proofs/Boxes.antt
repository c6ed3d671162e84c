-- The box of some points and of more of them, one after another; no other box is the box of the same points.
use Rattle.std.proofs.Common.{◌≡◌, Bool, true, false, cond, ℤ, ◌≤ℤ◌, int_lt, List, [], ◌∷◌, ◌++◌, map, All, refl, sym}
use Rattle.std.proofs.Common.{subst₂, ap₂}
use Rattle.std.proofs.lemmas.List.{map-append}
use Rattle.std.proofs.lemmas.List.Elements.{All-push, All-weaker, All-contains, Contains-push}
use Rattle.std.proofs.lemmas.List.Elements.{Contains-append_left}
use Rattle.overlay_geom.specs.Plane.{Point}
use Rattle.overlay_geom.proofs.Signs.{linear}
use Rattle.overlay_plane.proofs.Tests.{lt_from_test, ge_from_test}
use Rattle.overlay_tiles.specs.Spans.{Span, Bounds, IsIn, IsSpanOf, IsBoxOf, includes}

-- the numbers from a least to a greatest one, and one more
pub span_of_more : (zs : List ℤ) (s : Span) (z : ℤ) → IsSpanOf zs s → IsSpanOf (zs ++ z ∷ []) (includes s z)
span_of_more zs s z of = by (int_lt z s.least) (int_lt s.greatest z) refl refl
  where
    bounds : s.least ≤ℤ s.greatest
    bounds = (All-contains (IsIn s) zs s.least of.all of.has_least).high

    wider : (t : Span) → t.least ≤ℤ s.least → s.greatest ≤ℤ t.greatest → t.least ≤ℤ z → z ≤ℤ t.greatest →
        All (IsIn t) (zs ++ z ∷ [])
    wider t low high least greatest =
        All-push (IsIn t) zs z
        (All-weaker (IsIn s) (IsIn t) (λ y in_s. let a = in_s.low in
        let b = in_s.high in
        record { low = omega linear; high = omega linear }) zs of.all) (record { low = least; high = greatest })

    by : (b c : Bool) → int_lt z s.least ≡ b → int_lt s.greatest z ≡ c → IsSpanOf (zs ++ z ∷ [])
        (cond b (record { least = z; greatest = s.greatest })
        (cond c (record { least = s.least; greatest = z }) s))
    by true c below _ =
        let less = lt_from_test z s.least below in
        record {
          all = wider (record { least = z; greatest = s.greatest }) (omega linear) (omega linear) (omega linear)
              (let up = bounds in
              omega linear);
          has_least = Contains-push zs z;
          has_greatest = Contains-append_left zs (z ∷ []) s.greatest of.has_greatest;
        }
    by false true below above =
        let less = lt_from_test s.greatest z above in
        let more = ge_from_test z s.least below in
        record {
          all = wider (record { least = s.least; greatest = z }) (omega linear) (omega linear) more (omega linear);
          has_least = Contains-append_left zs (z ∷ []) s.least of.has_least;
          has_greatest = Contains-push zs z;
        }
    by false false below above =
        let low = ge_from_test z s.least below in
        let high = ge_from_test s.greatest z above in
        record {
          all = wider s (omega linear) (omega linear) low high;
          has_least = Contains-append_left zs (z ∷ []) s.least of.has_least;
          has_greatest = Contains-append_left zs (z ∷ []) s.greatest of.has_greatest;
        }

-- the box of points, and of one more
pub box_of_more : (ps : List Point) (b c : Bounds) (p : Point) → IsBoxOf ps b → c.x ≡ includes b.x p.x →
    c.y ≡ includes b.y p.y → IsBoxOf (ps ++ p ∷ []) c
box_of_more ps b c p box is_x is_y = record {
  x = subst₂ IsSpanOf (sym (map-append (λ (q : Point). q.x) ps (p ∷ []))) (sym is_x)
      (span_of_more (map (λ (q : Point). q.x) ps) b.x p.x box.x);
  y = subst₂ IsSpanOf (sym (map-append (λ (q : Point). q.y) ps (p ∷ []))) (sym is_y)
      (span_of_more (map (λ (q : Point). q.y) ps) b.y p.y box.y);
}

-- numbers have one span
pub one_span : (zs : List ℤ) (s t : Span) → IsSpanOf zs s → IsSpanOf zs t → s ≡ t
one_span zs s t of_s of_t =
    let low = (All-contains (IsIn s) zs t.least of_s.all of_t.has_least).low in
    let low_too = (All-contains (IsIn t) zs s.least of_t.all of_s.has_least).low in
    let high = (All-contains (IsIn s) zs t.greatest of_s.all of_t.has_greatest).high in
    let high_too = (All-contains (IsIn t) zs s.greatest of_t.all of_s.has_greatest).high in
    let least : s.least ≡ t.least = omega linear in
    let greatest : s.greatest ≡ t.greatest = omega linear in
    ap₂ (λ l g. record { least = l; greatest = g }) least greatest
