use Rattle.std.proofs.Common.{◌≡◌, drop, sym, ap, ◌∙◌}
use Rattle.std.proofs.lemmas.List.{take_rest}
use Rattle.sha256.specs.Message.{sha256}
use Rattle.sha256.specs.Stream.{feed, feed_all, digest_of, pieces_from}
use Rattle.sha256.specs.Feed.{stream_of}
use Rattle.sha256.proofs.Pieces.{pieces}
use Rattle.sha256.proofs.Cuts.{piece_more, behind_last, at_falling, at_past}
use Rattle.sha256.proofs.digest_in_pieces.Goals.{else-loop-cut-test, then-loop-cut-test+then-cut-at, then-cut-at-via-then-cut-at, then-cut-at-via-else-cut-at+then-message-cut}
use Rattle.sha256.proofs.digest_in_pieces.Goals as goal

pub loop-cut-preserved : goal.loop-cut-preserved
loop-cut-preserved c =
    let l = c.loop-cut in
    let a = c.args in (
      c.if-message-cut.false,
      rw c.update-h.ensures (piece_more (stream_of l.h) a.message.now a.cuts.now l.cut-index l.at
          c.loop-cut-test.true c.if-cut-at.false c.if-message-cut.false ∙ l.invariant.1),
    )

pub returns : goal.returns
returns c =
    let l = c.loop-cut in
    let m = c.args.message.now in
    let cuts = c.args.cuts.now in
    let s = stream_of l.h in
    let last : feed_all s (pieces_from m l.at (drop l.cut-index cuts)) ≡ feed s (drop l.at m) = elim c.loop-cut-test.branch [
      | else-loop-cut-test w ↦ behind_last s m cuts l.cut-index l.at w.loop-cut-test.false
      | then-loop-cut-test+then-cut-at w ↦ elim w.then-cut-at.branch [
        | then-cut-at-via-then-cut-at v ↦ at_falling s m cuts l.cut-index l.at w.loop-cut-test.true v.if-cut-at.true
        | then-cut-at-via-else-cut-at+then-message-cut v ↦ at_past s m cuts l.cut-index l.at w.loop-cut-test.true v.if-message-cut.true
      ]
    ] in
    let fed = c.update.ensures ∙ ap (feed s) (take_rest m l.at) ∙ sym last ∙ l.invariant.1 in
    let r = c.finish.ensures ∙ ap digest_of fed in
    (r, r ∙ pieces.whole (pieces_from m 0 cuts) ∙ ap sha256 (pieces.all_fed m cuts))
