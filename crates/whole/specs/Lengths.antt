-- How long the messages of the challenges are (02, L4: a message of up to 65,536 bytes may be fed in pieces). At most 7,463 bytes: 32 of label, 7 of mark,
-- number, round and place, and with 8 processes, in round 2, 8 branches of 2 + 7 * 8 statements, each of 16 bytes.
use Rattle.std.specs.Prelude.{ℕ, ◌+◌, ◌*◌, ◌≤◌, ◌≡◌, List, length}
use Rattle.rules.specs.Records.{header_length}
use Rattle.rules.specs.Header.{header}
use Rattle.whole.specs.Messages.{Form, shift, Hashed, branches, statements, hashed_message, on_board}

pub record Lengths : Type 0 where
  pub long : (x : Hashed) → length x.label ≡ 32 → length (hashed_message x) ≡ 39 + branches x * (statements x * 16)
  pub short : (x : Hashed) → length x.label ≡ 32 → x.n ≤ 8 → length (hashed_message x) ≤ 7463
  pub longest : (x : Hashed) → length x.label ≡ 32 → x.n ≡ 8 → x.form ≡ shift 0 → length (hashed_message x) ≡ 7463
  -- every proof of every board, accepted or not, that has a header with up to 8 processes
  pub of_boards : (s : List ℕ) → header_length ≤ length s → (header s).n ≤ 8 → (k : ℕ) (f : Form) → length (hashed_message (on_board s k f)) ≤ 7463
