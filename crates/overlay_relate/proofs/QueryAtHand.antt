-- The query that a sweep over the edges of a contour has come to, and the edges that are put in up to its point.
use Rattle.std.proofs.Common.{◌≡◌, ℕ, ◌+◌, ◌<◌, ◌≤◌, ℤ, ◌<ℤ◌, List, ◌∷◌, map, length, drop, get_or, sym, ap, ◌∙◌, subst}
use Rattle.std.specs.List.{All}
use Rattle.std.proofs.lemmas.List.{length-map, drop_more}
use Rattle.std.proofs.lemmas.List.Elements.{All-contains, All-head}
use Rattle.overlay_geom.specs.Numbered.{Numbered}
use Rattle.overlay_geom.specs.Plane.{Point, Edge}
use Rattle.overlay_geom.proofs.Mapped.{read_mapped}
use Rattle.overlay_scan.specs.Scan.{Sweep, MayMoveTo}
use Rattle.overlay_relate.specs.Queries.{plain_query, plain_queries, AreQueries}
use Rattle.overlay_relate.specs.Sweeps.{IsSwept}
use Rattle.overlay_relate.specs.declared.queries.PointQuery.{PointQuery}

-- a query that is read at place i of those of the points
pub record IsQueryAt (points : List Point) (qs : List (Numbered Point)) (i : ℕ) (q : Numbered Point) : Type 0 where
  pub asked : AreQueries points qs
  pub within : i < length qs
  pub read : get_or qs i q ≡ q
  pub placed : q.place < length points
  pub point : get_or points q.place q.item ≡ q.item

pub query_read : {I : Type 0} (whole : I → ℤ) (points : List Point) (rs held : List (PointQuery I)) → rs ≡ held →
    AreQueries points (plain_queries whole held) → (i : ℕ) (q : PointQuery I) → i < length rs → q ≡ get_or rs i q →
    IsQueryAt points (plain_queries whole rs) i (plain_query whole q)
query_read whole points rs held same are i q lt is =
    let qs = plain_queries whole rs in
    let n = plain_query whole q in
    let asked : AreQueries points qs = subst (λ l. AreQueries points (plain_queries whole l)) (sym same) are in
    let within : i < length qs = rw length-map lt in
    let read : get_or qs i n ≡ n = read_mapped (plain_query whole) rs i q n lt is in
    let at = All-contains (λ t. (t.place < length points) × (get_or points t.place t.item ≡ t.item)) qs n
    asked.numbered.from (i, within, read) in
    record { asked = asked; within = within; read = read; placed = at.0; point = at.1 }

module _ (points : List Point) (qs : List (Numbered Point)) (i : ℕ) (q : Numbered Point)
    (at : IsQueryAt points qs i q) where
  -- what holds of all points holds of its point
  pub holds_of_point : (P : Point → Type 0) → All P points → P q.item
  holds_of_point P all = All-contains P points q.item all (q.place, at.placed, at.point)

  -- and what holds of all queries from there on holds of it
  pub holds_from_there : (P : Numbered Point → Type 0) → All P (drop i qs) → P q
  holds_from_there P all = All-head P q (drop (i + 1) qs)
      (subst (All P) (drop_more qs i q at.within ∙ ap (λ r. r ∷ drop (i + 1) qs) at.read) all)

-- the first n edges are put in: all those that start no further right than the point
pub record ArePutUpTo (limit : ℕ) (fs : List Edge) (n : ℕ) (s : Sweep ℕ) (p : Point) : Type 0 where
  pub swept : IsSwept limit fs n s
  pub rest : All (λ e. p.x <ℤ e.a.x) (drop n fs)
  pub within : n ≤ length fs
  pub moves : MayMoveTo p.x s

pub put_in_read : {X : Type 0} (f : X → Edge) (limit n : ℕ) (s : Sweep ℕ) (p : Point) (ds es : List X) → ds ≡ es →
    IsSwept limit (map f ds) n s → All (λ e. p.x <ℤ e.a.x) (drop n (map f ds)) → n ≤ length ds → MayMoveTo p.x s →
    ArePutUpTo limit (map f es) n s p
put_in_read f limit n s p ds es same swept rest within moves =
    subst (λ l. ArePutUpTo limit (map f l) n s p) same
    (record { swept = swept; rest = rest; within = rw length-map within; moves = moves })
