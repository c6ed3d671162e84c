-- What contracts see of an overlay builder, and what its calls do to it.
use Rattle.std.specs.Prelude.{◌≡◌, ℕ, Bool, false, List, [], Option, Some}
use Rattle.overlay_geom.specs.Edges.{CountedEdge}
use Rattle.overlay_geom.specs.declared.solver.Solver.{Solver}
use Rattle.overlay_geom.specs.declared.solver.Solver.TheVariants.{Rounds}
use Rattle.overlay_geom.specs.Options.{AreOptions}
use Rattle.overlay_geom.specs.declared.options.IntOverlayOptions.{IntOverlayOptions}
use Rattle.overlay_builder.specs.Held.{Held}

-- a builder: its settings, whether it holds a buffer for extractions (of which nothing is seen), the counted edges that
-- it holds, and whether a query was refused since it was last cleared
pub record Builder (U : Type 0) : Type 0 where
  pub solver : Solver
  pub options : IntOverlayOptions U
  pub boolean_buffer : Option (Unit {0})
  pub edges : List CountedEdge
  pub failed : Bool

-- a new builder with these settings: it has a buffer, no edges, and has not failed
abbrev pub empty_builder : {U : Type 0} → IntOverlayOptions U → Solver → Builder U
empty_builder options solver = record {
  solver = solver;
  options = options;
  boolean_buffer = Some tt;
  edges = [];
  failed = false;
}

-- a builder as the constructors without settings make it, whatever it holds: it has not failed, and has the default
-- options, the default solver and a buffer
pub record IsNewBuilder {U : Type 0} (natural : U → ℕ) (b : Builder U) : Type 0 where
  pub ready : b.failed ≡ false
  pub options : AreOptions natural false false false b.options
  pub buffer : b.boolean_buffer ≡ Some tt
  pub by : b.solver ≡ Rounds

-- the builder without its edges, which has not failed
abbrev pub cleared : {U : Type 0} → Builder U → Builder U
cleared b = record b { edges = []; failed = false }

-- the part of it that all builders have
abbrev pub held_by : {U : Type 0} → Builder U → Held CountedEdge
held_by b = record { edges = b.edges; failed = b.failed }
