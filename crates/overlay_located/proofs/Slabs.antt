-- What tests of points and edges by a slab tell.
use Rattle.std.proofs.Common.{◌≡◌, inl, inr, Bool, true, false, not, ◌||◌, int_lt, refl, sym}
use Rattle.std.proofs.lemmas.Bool.{and_parts, both_ways}
use Rattle.overlay_geom.specs.Edges.{CountedEdge}
use Rattle.overlay_geom.specs.Plane.{Point}
use Rattle.overlay_plane.proofs.Tests.{lt_from_test, ge_from_test}
use Rattle.overlay_located.specs.Slabs.{Band, IsWithin, Spans, IsBeside, is_within, spans, is_beside}

pub not_false : (t : Bool) → not t ≡ true → t ≡ false
not_false true h = sym h
not_false false h = refl

or_second : (a b : Bool) → a ≡ false → (a || b) ≡ true → b ≡ true
or_second true b is t = absurd (both_ways true is refl)
or_second false b is t = t

module _ (s : Band) where
  pub within_from_test : (v : Point) → is_within s v ≡ true → IsWithin s v
  within_from_test v t =
      let both = and_parts (not (int_lt v.x s.from)) (not (int_lt s.to v.x)) t in record {
        from = ge_from_test v.x s.from (not_false (int_lt v.x s.from) both.0);
        to = ge_from_test s.to v.x (not_false (int_lt s.to v.x) both.1);
      }

  pub spans_from_test : (e : CountedEdge) → spans s e ≡ true → Spans s e
  spans_from_test e t =
      let both = and_parts (int_lt e.a.x s.from) (int_lt s.to e.b.x) t in record {
        from = lt_from_test e.a.x s.from both.0;
        to = lt_from_test s.to e.b.x both.1;
      }

  pub beside_from_test : (e : CountedEdge) → is_beside s e ≡ true → IsBeside s e
  beside_from_test e t = by (int_lt e.b.x s.from) refl
    where
      by : (b : Bool) → int_lt e.b.x s.from ≡ b → IsBeside s e
      by true ends = inl (lt_from_test e.b.x s.from ends)
      by false ends = inr (lt_from_test s.to e.a.x (or_second (int_lt e.b.x s.from) (int_lt s.to e.a.x) ends t))
