-- How a graph is made of contours in arrays.
use Rattle.std.specs.Prelude.{◌≡◌, ◌≤◌, ◌<◌, ◌⊎◌, ℕ, ℤ}
use Rattle.i_overlay.specs.Alone.{IsArrangedAlone, MayRefuseAlone}
use Rattle.polyover_calls.specs.Asked.{solver_of}
use Rattle.polyover_calls.specs.Given.{Contours, paths_given, AreGiven}
use Rattle.polyover_calls.specs.Held.{AreHeld}
use Rattle.polyover_calls.specs.Put.{EndsInto}
use Rattle.polyover_calls.specs.Refusals.{AreBothRefused}
use Rattle.polyover_calls.specs.Statuses.{code_of}
use Rattle.polyover_calls.specs.declared.status.Status.{Status}
use Rattle.polyover_calls.specs.declared.status.Status.TheVariants.{BadFill, BadOption}
use Rattle.polyover_views.specs.Held.{HeldArrangement, CanBeAsked, keeps_points, no_graph}

-- the numbers by which a graph is made stand for something: those of its fill rule, of its solver, and of whether given
-- points on one line are kept
abbrev pub AreMakingNumbers : ℕ → ℕ → ℕ → Type 0
AreMakingNumbers fill solver keep_given = (fill < 4) × ((solver < 2) × (keep_given < 2))

-- that some stand for nothing is told by the status, that of the fill rule first
abbrev pub IsUnknownMaking : ℕ → ℕ → ℕ → Status → Type 0
IsUnknownMaking fill solver keep_given s = ((s ≡ BadFill) × (4 ≤ fill))
    ⊎ ((s ≡ BadOption) × ((fill < 4) × ((2 ≤ solver) ⊎ (2 ≤ keep_given))))

-- the numbers are known, both are given, and the graph has the numbers, and the edges of some arrangement, by the
-- solver, of the contours of both, with all their points or without those on one line with their neighbours
pub record IsGraphOf {I : Type 0} (whole : I → ℤ) (limit fill solver keep_given : ℕ) (subject clip : Contours I)
    (g : HeldArrangement) : Type 0 where
  pub known : AreMakingNumbers fill solver keep_given
  pub subject_given : AreGiven whole limit subject
  pub clip_given : AreGiven whole limit clip
  pub filled_by : g.fill ≡ fill
  pub split_by : g.solver ≡ solver
  pub points_kept : g.keep_given ≡ keep_given
  pub arranged : IsArrangedAlone (keeps_points keep_given) (solver_of solver) (paths_given whole subject clip) g.edges
  pub can_be_asked : CanBeAsked limit g

-- it is refused so: a number stands for nothing; else the contours have a fault, those of the subject first; else
-- arranging them is refused
abbrev pub IsMakingRefused : {I : Type 0} → (I → ℤ) → ℕ → ℕ → ℕ → ℕ → Contours I → Contours I → Status → Type 0
IsMakingRefused whole limit fill solver keep_given subject clip = AreBothRefused whole limit
    (IsUnknownMaking fill solver keep_given) (AreMakingNumbers fill solver keep_given) subject clip
    (MayRefuseAlone (keeps_points keep_given) (solver_of solver) (paths_given whole subject clip))

-- how making it ends: such a graph is handed out, or it is refused, and one without edges is
abbrev pub MakingEnds : {I : Type 0} → (I → ℤ) → ℕ → ℕ → ℕ → ℕ → Contours I → Contours I → HeldArrangement → Status →
    Type 0
MakingEnds whole limit fill solver keep_given subject clip =
    EndsInto (IsGraphOf whole limit fill solver keep_given subject clip) (AreHeld (λ g. g))
    (IsMakingRefused whole limit fill solver keep_given subject clip) no_graph

-- what C is given: a graph that can be asked, and the code of the status with which making it ends so
pub record IsMadeSo {I : Type 0} (whole : I → ℤ) (limit fill solver keep_given : ℕ) (subject clip : Contours I)
    (g : HeldArrangement) (code : ℕ) : Type 0 where
  pub status : Status
  pub ends : MakingEnds whole limit fill solver keep_given subject clip g status
  pub told : code ≡ code_of status
  pub can_be_asked : CanBeAsked limit g
