use mathlib.Core.Path.{◌≡◌, sym, ◌∙◌}
use mathlib.Core.Bool.{true}
use native.Mathlib.Omega.{arith}
use Rattle.sha256.specs.Message.{sha256}
use Rattle.group.specs.Elements.{parameters_of}
use Rattle.rules.specs.Bytes.{part}
use Rattle.rules.specs.Group.{orders, generators}
use Rattle.rules.specs.Header.{sizes, limits, counter_field}
use Rattle.rules.proofs.Limits.{sizes_bounds}
use Rattle.parameters.proofs.Rules.{orders_positive}
use Rattle.header.specs.Heads.{HeaderReads}
use Rattle.header.proofs.HeaderTable.{Shown, too_short, wrong_mark, wrong_sizes, past_limits_lem, wrong_orders, wrong_generators, sound_header, header_is}
use Rattle.header.proofs.read_header.Goals.{After-generators_good, After-shown-group, Else-not-few, Else-not-ordered, Else-not-sizes_good}
use Rattle.header.proofs.read_header.Goals as goal

-- what is read, and what the tests passed up to 3 say
read : (c : goal.After-shown-group) → let a = c.args in Shown a.model a.board.now c.byte-n.result c.number-k.result
    (parameters_of c.shown-group.result)
read c =
    record {
      long = omega arith;
      mark = sym c.has_mark.ensures ∙ c.if-not-has_mark.false;
      n_is = c.byte-n.ensures;
      k_is = c.number-k.ensures;
      group_is = c.shown-group.ensures;
    }

sized : (c : goal.Else-not-sizes_good) → sizes c.args.model c.byte-n.result c.number-k.result ≡ true
sized c = sym c.sizes_good.ensures ∙ c.if-not-sizes_good.false

pub returns-then-board-lt-HEADER_LENGTH : goal.returns-then-board-lt-HEADER_LENGTH
unfolding HeaderReads
returns-then-board-lt-HEADER_LENGTH c = too_short _ _ (omega arith)

pub returns-then-not-has_mark : goal.returns-then-not-has_mark
unfolding HeaderReads
returns-then-not-has_mark c = wrong_mark _ _ (omega arith) (sym c.has_mark.ensures ∙ c.if-not-has_mark.true)

pub returns-then-not-sizes_good : goal.returns-then-not-sizes_good
unfolding HeaderReads
returns-then-not-sizes_good c = wrong_sizes (read (goal.at.returns-then-not-sizes_good c).After-shown-group) (sym c.sizes_good.ensures ∙ c.if-not-sizes_good.true)

pub returns-then-not-few : goal.returns-then-not-few
unfolding HeaderReads
returns-then-not-few c =
    past_limits_lem (read (goal.at.returns-then-not-few c).After-shown-group) (sized (goal.at.returns-then-not-few c).Else-not-sizes_good)
    (sym c.limits_good-few.ensures ∙ c.if-not-few.true)

-- behind 23, and behind 4
few : (c : goal.Else-not-few) → limits c.args.model c.byte-n.result c.number-k.result ≡ true
few c = sym c.limits_good-few.ensures ∙ c.if-not-few.false

ordered : (c : goal.Else-not-ordered) → let g = c.shown-group.result in orders c.byte-n.result c.number-k.result g.p g.q ≡ true
ordered c = sym c.orders_good-ordered.ensures ∙ c.if-not-ordered.false

generated : (c : goal.After-generators_good) → let s = c.args.board.now in c.generators_good.result ≡ generators sha256 (part s 22 32) (counter_field s) (parameters_of c.shown-group.result)
generated c = c.generators_good.ensures

pub returns-then-not-ordered : goal.returns-then-not-ordered
unfolding HeaderReads
returns-then-not-ordered c =
    let within : c.limits_good-few.result ≡ true = cc in
    wrong_orders (read (goal.at.returns-then-not-ordered c).After-shown-group) (sized (goal.at.returns-then-not-ordered c).Else-not-sizes_good) (sym c.limits_good-few.ensures ∙ within)
    (sym c.orders_good-ordered.ensures ∙ c.if-not-ordered.true)

pub returns-then-not-generators_good : goal.returns-then-not-generators_good
unfolding HeaderReads
returns-then-not-generators_good c =
    wrong_generators (read (goal.at.returns-then-not-generators_good c).After-shown-group) (sized (goal.at.returns-then-not-generators_good c).Else-not-sizes_good) (few (goal.at.returns-then-not-generators_good c).Else-not-few) (ordered (goal.at.returns-then-not-generators_good c).Else-not-ordered)
    (sym (generated (goal.at.returns-then-not-generators_good c).After-generators_good) ∙ c.if-not-generators_good.true)

pub returns : goal.returns
unfolding HeaderReads
returns c =
    let shown = read (goal.at.returns c).After-shown-group in
    let size = sized (goal.at.returns c).Else-not-sizes_good in
    let bounds = sizes_bounds c.args.model c.byte-n.result c.number-k.result size in (
      sound_header shown size (few (goal.at.returns c).Else-not-few) (ordered (goal.at.returns c).Else-not-ordered)
          (sym (generated (goal.at.returns c).After-generators_good) ∙ c.if-not-generators_good.false),
      rw c.new.ensures.0 (header_is shown),
      record { ready = c.new.ensures.1; low = bounds.0; high = bounds.1; some = bounds.2; few = bounds.3; long = shown.long },
    )

pub generators_good-requires : goal.generators_good-requires
generators_good-requires c = orders_positive _ _ _ _ (ordered (goal.at.generators_good-requires c).Else-not-ordered)

pub new-requires : goal.new-requires
new-requires c = orders_positive _ _ _ _ (ordered (goal.at.new-requires c).Else-not-ordered)
