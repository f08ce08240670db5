-- The number of a refusal is one of the table's.
use Prim.Native.Nat.{◌≤◌, ◌<◌}
use lib.Dec.{lit<, lit≤}
use Rattle.rules.specs.Answers.{refusal_number}
use Rattle.rules.specs.declared.Refusal.{Refusal}
use Rattle.rules.specs.declared.Refusal.TheVariants as R

pub positive : (w : Refusal) → 0 < refusal_number w
positive R.Length = lit< tt
positive R.Mark = lit< tt
positive R.Sizes = lit< tt
positive R.Orders = lit< tt
positive R.Generators = lit< tt
positive R.Number = lit< tt
positive R.Field = lit< tt
positive R.Proof = lit< tt
positive R.Count = lit< tt
positive R.Tally = lit< tt
positive R.Out = lit< tt
positive R.Remain = lit< tt
positive R.Rankings = lit< tt
positive R.Draws = lit< tt
positive R.Output = lit< tt
positive R.Digests = lit< tt
positive R.Kind = lit< tt
positive R.Opening = lit< tt
positive R.NoneCounted = lit< tt
positive R.Repeat = lit< tt
positive R.Names = lit< tt
positive R.Limits = lit< tt

pub number_most : (w : Refusal) → refusal_number w ≤ 23
number_most R.Length = lit≤ tt
number_most R.Mark = lit≤ tt
number_most R.Sizes = lit≤ tt
number_most R.Orders = lit≤ tt
number_most R.Generators = lit≤ tt
number_most R.Number = lit≤ tt
number_most R.Field = lit≤ tt
number_most R.Proof = lit≤ tt
number_most R.Count = lit≤ tt
number_most R.Tally = lit≤ tt
number_most R.Out = lit≤ tt
number_most R.Remain = lit≤ tt
number_most R.Rankings = lit≤ tt
number_most R.Draws = lit≤ tt
number_most R.Output = lit≤ tt
number_most R.Digests = lit≤ tt
number_most R.Kind = lit≤ tt
number_most R.Opening = lit≤ tt
number_most R.NoneCounted = lit≤ tt
number_most R.Repeat = lit≤ tt
number_most R.Names = lit≤ tt
number_most R.Limits = lit≤ tt
