-- Lists of edges in order of height, with sums of their counts.
use Rattle.std.specs.Prelude.{◌≡◌, ℕ, ◌+◌, ◌<◌, ◌≤◌, ℤ, pos, ◌-ℤ◌, ◌*ℤ◌, ◌<ℤ◌, ◌≤ℤ◌, List, ◌++◌, map, length, take}
use Rattle.std.specs.Prelude.{slice_index_or, All, AllPairs}
use Rattle.overlay_geom.specs.Counts.{Counts}
use Rattle.overlay_geom.specs.Edges.{CountedEdge, ends_of, subj_of}
use Rattle.overlay_geom.specs.Plane.{Point, side, total, in_plane}
use Rattle.overlay_located.specs.Slabs.{plain_line, Band, IsWithin, Spans}
use Rattle.overlay_located.specs.Tells.{TellsWhere}
use Rattle.overlay_located.specs.declared.chain.Link.{Link}

-- v is in the span of the edge, ends left out
pub record IsInSpan (e : CountedEdge) (v : Point) : Type 0 where
  pub from : e.a.x <ℤ v.x
  pub to : v.x <ℤ e.b.x

-- where v is above f, it is above e, and where it is below e, it is below f
pub record IsUnderAt (e f : CountedEdge) (v : Point) : Type 0 where
  pub above : pos 0 <ℤ side (ends_of f) (in_plane v) → pos 0 <ℤ side (ends_of e) (in_plane v)
  pub below : side (ends_of e) (in_plane v) <ℤ pos 0 → side (ends_of f) (in_plane v) <ℤ pos 0

-- so of each point in the spans of both, ends left out
abbrev pub IsUnder : CountedEdge → CountedEdge → Type 0
IsUnder e f = (v : Point) → IsInSpan e v → IsInSpan f v → IsUnderAt e f v

-- how much higher f is than e at the x-coordinate of u, times the widths of both
abbrev pub lift : CountedEdge → CountedEdge → Point → ℤ
lift e f u =
    (f.b.x -ℤ f.a.x) *ℤ side (ends_of e) (in_plane u) -ℤ (e.b.x -ℤ e.a.x) *ℤ side (ends_of f) (in_plane u)

-- e is not above f at a point where both have begun, or where both have not ended
pub record StartsUnder (e f : CountedEdge) : Type 0 where
  pub at : Point
  pub left : (x : ℤ) → e.a.x <ℤ x → f.a.x <ℤ x → at.x <ℤ x
  pub rises : pos 0 ≤ℤ lift e f at

pub record EndsUnder (e f : CountedEdge) : Type 0 where
  pub at : Point
  pub right : (x : ℤ) → x <ℤ e.b.x → x <ℤ f.b.x → x <ℤ at.x
  pub rises : pos 0 ≤ℤ lift e f at

-- an edge and a sum
pub record Counted : Type 0 where
  pub edge : CountedEdge
  pub sum : ℤ

abbrev pub plain_link : {I C W U S : Type 0} {i w u k : _} → (I → ℤ) → (C → Counts) → Link I C W U S i w u k → Counted
plain_link whole counts m = record { edge = plain_line whole counts m.line; sum = m.sum }

abbrev pub plain_links : {I C W U S : Type 0} {i w u k : _} → (I → ℤ) → (C → Counts) → List (Link I C W U S i w u k) →
    List Counted
plain_links whole counts ks = map (plain_link whole counts) ks

abbrev pub edge_in : Counted → CountedEdge
edge_in k = k.edge

abbrev pub edges_of : List Counted → List CountedEdge
edges_of ks = map edge_in ks

-- each sum is that of the counts so far
abbrev pub AreSummed : List Counted → Type 0
AreSummed ks = (n : ℕ) (d : Counted) → n < length ks →
    (slice_index_or ks n d).sum ≡ total subj_of (edges_of (take (n + 1) ks))

-- edges that span the slab, each under all later ones there, with the sums of their counts
pub record IsChain (s : Band) (ks : List Counted) : Type 0 where
  pub spanned : All (λ k. Spans s k.edge) ks
  pub order : AllPairs (λ k m. (v : Point) → IsWithin s v → IsUnderAt k.edge m.edge v) ks
  pub summed : AreSummed ks

-- the edges are divided into a chain and others
pub record HasChain (s : Band) (es : List CountedEdge) (ks : List Counted) (kept : List CountedEdge) : Type 0 where
  pub chain : IsChain s ks
  pub split : TellsWhere (IsWithin s) es (edges_of ks ++ kept)

-- v is above the first `start` edges, on those from there to `end`, and below the others
pub record IsAmong (ks : List Counted) (v : Point) (start end : ℕ) : Type 0 where
  pub ordered : start ≤ end
  pub within : end ≤ length ks
  pub above : (n : ℕ) (d : Counted) → n < start → pos 0 <ℤ side (ends_of (slice_index_or ks n d).edge) (in_plane v)
  pub below : (n : ℕ) (d : Counted) → end ≤ n → n < length ks →
      side (ends_of (slice_index_or ks n d).edge) (in_plane v) <ℤ pos 0
