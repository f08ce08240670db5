-- The parts of the tests of a BA or SH record, as the code goes through them, at the place where it starts.
use Rattle.std.specs.Prelude.{ℕ, ◌+◌, ◌*◌, List, Bool, true, cond, ◌&&◌, ltb}
use Rattle.numbers.specs.Below.{all_below}
use Rattle.sha256.specs.Message.{sha256}
use Rattle.group.specs.Elements.{Parameters, parameters_of}
use Rattle.rules.specs.Bytes.{number2, number4}
use Rattle.rules.specs.Records.{is_audited, counted_length}
use Rattle.rules.specs.Claims.{matrix_at, entry_claim, row_claim, column_claim, shift_claim}
use Rattle.rules.specs.Count.{is_ranking}
use Rattle.rules.specs.Audit.{shown_ranking}
use Rattle.rules.specs.Proofs.{Statement, Context, proof_fields}
use Rattle.rules.specs.Ballot.{holds_at, ballot_matrix, ballot_context}
use Rattle.rules.specs.Shift.{shift_context}
use Rattle.openings.specs.Shown.{opens_at}
use Rattle.statements.specs.Lines.{by_line}
use Rattle.statements.specs.Walks.{pairs_fields}
use Rattle.header.specs.declared.Head.{Head}
use Rattle.header.specs.Heads.{head_of}

-- the pairs of a BA or SH record, from a place on, and the branches of its proofs
abbrev pub fields_at : (s : List ℕ) (at pairs branches statements p q : ℕ) → Bool
fields_at s at pairs branches statements p q = pairs_fields s at pairs p q && proof_fields s (at + 8 * pairs) branches statements p q

-- ---- BA of a kind: its proofs, of one branch or two, are branches of one shape
abbrev pub ballot_fields_at : (s : List ℕ) (n p q at kind : ℕ) → Bool
ballot_fields_at s n p q at kind =
    fields_at s (at + 5) (n * n) (n * n * 2 + (n + n)) 1 p q
    && cond (is_audited kind) (all_below (n * n) (λ t. ltb (number4 s (at + counted_length n + 4 * t)) q)) true

-- what an audited one shows
abbrev pub shown_at : (s : List ℕ) → Parameters → (n at kind : ℕ) → Bool
shown_at s g n at kind =
    cond (is_audited kind) (is_ranking n (shown_ranking s n at) && all_below (n * n) (opens_at s g n (at + 5) (at + counted_length n))) true

-- a proof under the board's label
abbrev pub proof_at : (s : List ℕ) (h : Head) → Context → (at branches statements : ℕ) → (ℕ → ℕ → Statement) → Bool
proof_at s h c at branches statements claim = holds_at sha256 s (head_of s h) c at branches statements claim

-- entry t, by rows, at place t: of the t-th pair
abbrev pub entry_good : (s : List ℕ) (h : Head) (at t : ℕ) → Bool
entry_good s h at t =
    proof_at s h (ballot_context (number2 s (at + 2)) t) (at + 5 + 8 * (h.n * h.n) + 32 * t) 2 1
    (λ l _. entry_claim (parameters_of h.setup.group) (number4 s (at + 5 + 8 * t)) (number4 s (at + 5 + 8 * t + 4)) l)

-- row t, or column t - n, behind the entries
abbrev pub line_good : (s : List ℕ) (h : Head) (at t : ℕ) → Bool
line_good s h at t =
    proof_at s h (ballot_context (number2 s (at + 2)) (h.n * h.n + t)) (at + 5 + 40 * (h.n * h.n) + 16 * t) 1 1
    (λ _ _. by_line h.n t (row_claim (parameters_of h.setup.group) h.n (ballot_matrix s h.n at)) (column_claim (parameters_of h.setup.group) h.n (ballot_matrix s h.n at)))

abbrev pub ballot_proofs_at : (s : List ℕ) (h : Head) (at : ℕ) → Bool
ballot_proofs_at s h at = all_below (h.n * h.n) (entry_good s h at) && all_below (h.n + h.n) (line_good s h at)

-- ---- SH: a is a column
abbrev pub shift_fields_at : (s : List ℕ) (n p q at rows : ℕ) → Bool
shift_fields_at s n p q at rows = fields_at s (at + 4) (rows * n) (rows + 1) (2 + rows * n) p q

abbrev pub shift_proof_at : (s : List ℕ) (h : Head) (before at rows round a : ℕ) → Bool
shift_proof_at s h before at rows round a =
    proof_at s h (shift_context round (number2 s (at + 2))) (at + 4 + 8 * (rows * h.n)) (rows + 1) (2 + rows * h.n)
    (λ l i. shift_claim (parameters_of h.setup.group) h.n (matrix_at s h.n before) (matrix_at s h.n (at + 4)) a l i)
