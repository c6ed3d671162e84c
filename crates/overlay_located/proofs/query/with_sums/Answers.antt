-- The sums are those of the numbers.
use Rattle.std.proofs.Common.{refl, rules, to_z-of_z}
use Rattle.overlay_located.proofs.query.with_sums.Goals as goal

pub returns : goal.returns
returns g c =
    let one = c.in-Some.ensures in
    let two = c.in-Some-sum.ensures in record {
      point = refl;
      alone = λ a. a;
      through = λ a. refl;
      left = λ a. search (rules, to_z-of_z);
      right = λ a. search (rules, to_z-of_z);
    }
