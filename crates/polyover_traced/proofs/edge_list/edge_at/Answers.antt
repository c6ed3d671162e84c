-- Both ends are in the coordinate range.
use Rattle.std.proofs.Common.{◌+◌, arith}
use Rattle.overlay_geom.specs.Numbers.{Within}
use Rattle.overlay_geom.proofs.Mapped.{All-mapped_at}
use Rattle.polyover_traced.proofs.edge_list.edge_at.Goals as goal

pub returns-clause-in_range : goal.returns-clause-in_range
returns-clause-in_range g c =
    let whole = g.I.IntNumber.whole in
    let within = Within g.I.IntNumber.limit in
    let cs = c.args.coordinates.now in
    let place = c.args.place in
    let all = c.requires.within in
    record {
      a = record {
        x = All-mapped_at within whole cs place c.index-coordinates-place.result
            (Prim.omega (arith, c.requires.inside)) c.index-coordinates-place.is all;
        y = All-mapped_at within whole cs (place + 1) c.index-coordinates-place-2.result
            (Prim.omega (arith, c.requires.inside)) c.index-coordinates-place-2.is all;
      };
      b = record {
        x = All-mapped_at within whole cs (place + 2) c.index-coordinates-place-3.result
            (Prim.omega (arith, c.requires.inside)) c.index-coordinates-place-3.is all;
        y = All-mapped_at within whole cs (place + 3) c.index-coordinates-place-4.result
            (Prim.omega (arith, c.requires.inside)) c.index-coordinates-place-4.is all;
      };
    }
