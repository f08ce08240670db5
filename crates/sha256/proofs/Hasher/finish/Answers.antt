use Rattle.std.proofs.Common.{sym, ap, ◌∙◌, arith, length-take-le}
use Rattle.sha256.specs.Message.{bytes}
use Rattle.sha256.specs.Stream.{Stream, feed, digest_of}
use Rattle.sha256.specs.Feed.{stream_of}
use Rattle.sha256.proofs.Tail.{padding_is}
use Rattle.sha256.proofs.Hasher.finish.Goals as goal

pub returns : goal.returns
unfolding digest_of stream_of
returns c =
    let self = c.args.self in
    c.digits.ensures
    ∙ ap (λ (s : Stream). bytes s.value) (c.update.ensures ∙ ap (feed (stream_of self)) (c.ending-tail.ensures ∙ padding_is self.total))

pub slice_bounds-update-end : goal.slice_bounds-update-end
slice_bounds-update-end c = sym (length-take-le _ c.ending-tail.result (omega (arith, c.ending-tail.type_inv)))
