use mathlib.Core.Path.{ap, ◌∙◌}
use lib.ListN.{length}
use Rattle.gooseoften.specs.Answers.{find_code}
use Rattle.gooseoften.proofs.Codes.{found_placed}
use Rattle.gooseoften.proofs.gooseoften_find.Goals as goal

pub found_code-requires : goal.found_code-requires
found_code-requires c =
    let f = c.args in
    let r = c.find in
    found_placed f.board.now f.digests.now (length f.found.now) r.result _ r.ensures.found_after

pub returns : goal.returns
returns c =
    let r = c.find in record {
      value = c.found_code.ensures _ ∙ ap find_code r.ensures.found_after;
      found_after = r.ensures.found_after_2;
    }
