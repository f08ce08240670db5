use Rattle.std.proofs.Common.{◌≡◌, ◌≤◌, ◌+◌, ◌-◌, ◌%◌, length, sym, arith, rules, length-take-le}
use borrow.Rule.Slice.PartMut.{put_mid}
use Rattle.sha256.specs.Feed.{stream_of}
use Rattle.sha256.proofs.Stream.{piece_waits, piece_fills, filled_long}
use Rattle.sha256.proofs.Hasher.update.Goals.{After-hashed-state}
use Rattle.sha256.proofs.Hasher.update.Goals as goal

-- the rest fits into the block
room : (c : goal.After-hashed-state) → let f = c.args.self.total % 64 in
    length c.as_chunks.result.1.now ≤ length (put_mid f (f + length c.split_at.result.0.now - f) c.args.self.block c.copy_from_slice.new.self)
room c =
    let self = c.args.self in
    let long : length self.block ≡ 64 = search rules in
    let filled = filled_long self.state self.block c.args.piece.now _ _ self.total _ long c.min.ensures c.split_at.ensures.front c.copy_from_slice.ensures.after
    (self.total % 64 + length c.split_at.result.0.now - self.total % 64) (omega arith) c.if-not-full.false in
    omega (arith, filled, c.as_chunks.ensures.back_len)

pub returns-then-not-full : goal.returns-then-not-full
unfolding stream_of
returns-then-not-full c =
    let self = c.args.self in
    let long : length self.block ≡ 64 = search rules in
    piece_waits self.state self.block c.args.piece.now _ _ self.total _ long c.min.ensures c.split_at.ensures.front c.copy_from_slice.ensures.after _ c.if-not-full.true

pub slice_bounds-block-end-2 : goal.slice_bounds-block-end-2
slice_bounds-block-end-2 c = room (goal.at.slice_bounds-block-end-2 c).After-hashed-state

pub slice_bounds-copy_from_slice-end : goal.slice_bounds-copy_from_slice-end
slice_bounds-copy_from_slice-end c = sym (length-take-le _ _ (room (goal.at.slice_bounds-copy_from_slice-end c).After-hashed-state))

pub copy_from_slice-requires-2 : goal.copy_from_slice-requires-2
copy_from_slice-requires-2 c = length-take-le _ _ (room (goal.at.copy_from_slice-requires-2 c).After-hashed-state)

pub returns : goal.returns
unfolding stream_of
returns c =
    let self = c.args.self in
    let long : length self.block ≡ 64 = search rules in
    piece_fills self.state self.block c.args.piece.now _ _ self.total _ long c.min.ensures c.split_at.ensures.front c.copy_from_slice.ensures.after
    (self.total % 64 + length c.split_at.result.0.now - self.total % 64) (omega arith) c.if-not-full.false
    c.split_at.result.1.now _ _ _ _ _ c.split_at.ensures.back c.as_chunks.ensures.front c.as_chunks.ensures.back
    c.compress.ensures c.hashed-state.ensures c.copy_from_slice-2.ensures.after
