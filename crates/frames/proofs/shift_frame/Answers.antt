use Rattle.frames.proofs.shift_frame.Goals as goal

pub returns : goal.returns
returns c = rw c.shift_length.ensures.0 at c.numbered.ensures
