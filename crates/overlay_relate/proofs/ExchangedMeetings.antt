-- Edges with the counts of subject and clip exchanged meet, and are settled, where the edges do.
use Rattle.std.proofs.Common.{List, map, sym, subst}
use Rattle.overlay_geom.specs.Plane.{PlanePoint}
use Rattle.overlay_geom.specs.Edges.{CountedEdge}
use Rattle.overlay_geom.specs.Settled.{IsSettled}
use Rattle.overlay_plane.specs.Meetings.{MeetsAnother, MeetInWholePoints}
use Rattle.overlay_plane.proofs.Entries.{Contains-map}
use Rattle.overlay_relate.specs.PredicateLaws.{exchanged}
use Rattle.overlay_relate.proofs.ExchangedMerges.{exchanged_twice}

-- the edges are settled where the exchanged ones are, and the other way round
pub settled_back : (es : List CountedEdge) → IsSettled (map exchanged es) → IsSettled es
settled_back es h x y at_x at_y apart = h (exchanged x) (exchanged y) (Contains-map exchanged es x at_x)
    (Contains-map exchanged es y at_y) apart

pub settled_exchanged : (es : List CountedEdge) → IsSettled es → IsSettled (map exchanged es)
settled_exchanged es h = settled_back (map exchanged es) (subst IsSettled (sym (exchanged_twice es)) h)

-- another edge meets one where the exchanged one meets the exchanged one
pub meets_exchanged : (es : List CountedEdge) (e : CountedEdge) (p : PlanePoint) → MeetsAnother es e p →
    MeetsAnother (map exchanged es) (exchanged e) p
meets_exchanged es e p (f, at_f, apart, meets) = (exchanged f, Contains-map exchanged es f at_f, apart, meets)

pub meets_back : (es : List CountedEdge) (e : CountedEdge) (p : PlanePoint) →
    MeetsAnother (map exchanged es) (exchanged e) p → MeetsAnother es e p
meets_back es e p h = subst (λ fs. MeetsAnother fs e p) (exchanged_twice es)
    (meets_exchanged (map exchanged es) (exchanged e) p h)

-- the edges meet in whole points alone where the exchanged ones do, and the other way round
pub whole_back : (es : List CountedEdge) → MeetInWholePoints (map exchanged es) → MeetInWholePoints es
whole_back es h e f p at_e at_f meets = h (exchanged e) (exchanged f) p (Contains-map exchanged es e at_e)
    (Contains-map exchanged es f at_f) meets

pub whole_exchanged : (es : List CountedEdge) → MeetInWholePoints es → MeetInWholePoints (map exchanged es)
whole_exchanged es h = whole_back (map exchanged es) (subst MeetInWholePoints (sym (exchanged_twice es)) h)
