-- Where a point lies by edges that count once, as they and the upright ones among them were told of it.
use Rattle.std.proofs.Common.{◌≡◌, Bool, true, false, cond, ◌||◌, List, [], ◌∷◌, Contains, map, refl, sym, ◌∙◌, subst}
use Rattle.std.specs.List.{All}
use Rattle.std.proofs.lemmas.List.Elements.{All-contains, All-contains_itself, All-head}
use Rattle.overlay_geom.specs.Edges.{CountedEdge}
use Rattle.overlay_geom.specs.Plane.{Point, Edge, point_lt, in_plane, IsOff}
use Rattle.overlay_relate.specs.Locations.{is_odd, IsLocatedBy}
use Rattle.overlay_relate.specs.declared.location.PointLocation.TheVariants.{Inside, Boundary, Outside}
use Rattle.overlay_located.specs.Once.{counted_once, turned_point, turned_uprights, Lead, LeadFirst, TellsOf}
use Rattle.overlay_located.specs.Queries.{Asked, sum_on}
use Rattle.overlay_located.specs.Tells.{LeadsFrom, Tells}
use Rattle.overlay_located.proofs.OnceTells.{on_some_where_leads, on_some_where_upright_leads, off_where_none_leads}
use Rattle.overlay_located.proofs.OnceTells.{odd_told}

-- an edge that leads from v is one of a list of it alone
pub lead_alone : (v : Point) (e : CountedEdge) → LeadsFrom v e → Lead v (e ∷ []) true
lead_alone v e leads = (e, All-head (Contains (e ∷ [])) e [] (All-contains_itself (e ∷ [])), leads)

-- the first edge tells of all that are held whether one leads from v
pub lead_of_first : (v : Point) (fs through : List CountedEdge) (none : Bool) → All (Contains through) fs →
    (none ≡ true → through ≡ []) → (t : Bool) → LeadFirst v fs none t → Lead v through t
lead_of_first v fs through none all empty true lead =
    (lead.0, All-contains (Contains through) fs lead.0 all lead.1, lead.2)
lead_of_first v fs through none all empty false is = empty is

module _ (es : List Edge) (v : Point) (forward : All (λ e. point_lt e.a e.b ≡ true) es) (q r : Asked)
    (all : TellsOf (map counted_once es) v q)
    (uprights : TellsOf (map counted_once (turned_uprights es)) (turned_point v) r) where
  pub located_told : (s t : Bool) → Lead v q.through s → Lead (turned_point v) r.through t →
      IsLocatedBy es (in_plane v) (cond (s || t) Boundary (cond (is_odd q.right) Inside Outside))
  located_told true t lead other = on_some_where_leads es v q.through (sum_on q) all.1 lead.0 lead.1 lead.2
  located_told false true other lead =
      on_some_where_upright_leads es v r.through (sum_on r) uprights.1 lead.0 lead.1 lead.2
  located_told false false none none_upright = by (is_odd q.right) refl
    where
      told : Tells v (map counted_once es) [] (sum_on q)
      told = subst (λ fs. Tells v (map counted_once es) fs (sum_on q)) none all.1

      off : IsOff es (in_plane v)
      off = off_where_none_leads es v (sum_on q) (sum_on r) told
          (subst (λ fs. Tells (turned_point v) (map counted_once (turned_uprights es)) fs (sum_on r)) none_upright
          uprights.1) forward

      by : (b : Bool) → is_odd q.right ≡ b → IsLocatedBy es (in_plane v) (cond b Inside Outside)
      by true odd = (off, sym (odd_told v es (sum_on q) told) ∙ odd)
      by false even = (off, sym (odd_told v es (sum_on q) told) ∙ even)
