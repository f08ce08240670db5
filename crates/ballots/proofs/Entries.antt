-- The proofs of a ballot in the terms of its matrix.
use Prim.Native.Nat.{ℕ, zero, suc, ◌+◌, ◌*◌, ◌-◌, ◌/◌, ◌%◌, ◌≤◌, ◌<◌}
use mathlib.Core.Path.{◌≡◌, refl, sym, ap, ◌∙◌}
use mathlib.Core.List.{List}
use native.Mathlib.Nat.{zero-add, div-add-mod', mod-mod, mod-lt, div-lt_iff_lt-mul}
use native.Mathlib.Omega.{arith}
use lib.ListN.{length, get_or, replicate}
use Rattle.sha256.specs.Message.{sha256}
use Rattle.group.specs.Elements.{Parameters}
use Rattle.group.specs.declared.Element.{Element}
use Rattle.group.specs.declared.Exponent.{Exponent}
use Rattle.rules.specs.Proofs.{Statement, Context}
use Rattle.rules.specs.Claims.{matrix_at, entry_claim, row_claim, column_claim}
use Rattle.rules.specs.Ballot.{ballot_context}
use Rattle.statements.specs.declared.claims.Claim.{Claim}
use Rattle.statements.specs.declared.claims.Claim.TheVariants.{Entry, Line}
use Rattle.statements.specs.Claims.{claim_of, Within}
use Rattle.statements.proofs.Lines.{by_row, by_column, row_or_column}
use Rattle.statements.specs.Lines.{line_start, line_stride}
use Rattle.statements.proofs.Places.{entry_claimed, line_claimed, line_stands}
use Rattle.jobs.proofs.Matrices.{SameMatrix, entry_same, row_same, column_same}
use Rattle.proving.specs.declared.Plan.{Plan}
use Rattle.proving.specs.Plans.{DrawsBelow, PlanDraws, Planned, witness_at, proof_of}
use Rattle.jobs.proofs.Same.{proof_same}
use Rattle.jobs.proofs.Lengths.{length_proof}
use Rattle.ballots.specs.Parts.{line_said, line_of, entry_in}
use Rattle.jobs.specs.Records.{opened, matrix_of, line_prover}
use Rattle.jobs.specs.Prover.{proof_bytes}

pub spread_part : (q : ℕ) (draws : List ℕ) (from total at count : ℕ) → DrawsBelow q draws from total → at + count ≤ from + total → DrawsBelow q draws at count
spread_part q draws from total at count s h =
    record { positive = s.positive; low = s.low; near = omega (arith, s.near); enough = omega (arith, s.enough); below = λ d k. s.below d (omega arith) }

abbrev pub plan_of : Claim → (b s v from : ℕ) → Plan
plan_of claim b s v from = record { branches = b; statements = s; known = v; from = from; claim = claim }

pub drawn_of : {claim : Claim} (q : ℕ) (draws : List ℕ) (b s v from count : ℕ) → DrawsBelow q draws from count → b * (1 + s) ≡ count + 1 → b ≤ 8 → v < b → s < 100 →
    PlanDraws q (plan_of claim b s v from) draws
drawn_of q draws b s v from count w e few inside small =
    record {
      positive = w.positive;
      low = w.low;
      few = few;
      known = inside;
      small = small;
      near = omega (arith, w.near);
      enough = omega (arith, w.enough);
      below = λ d h. w.below d (omega arith);
    }

pub planned_line : (g : Parameters) (page : List ℕ) (inverses : List Element) (claim : Claim) (draws : List ℕ) (from : ℕ) → ((l i : ℕ) → Within page inverses g claim l i) →
    DrawsBelow g.q draws from 1 → Planned g page inverses (plan_of claim 1 1 0 from) draws
planned_line g page inverses claim draws from ready w =
    record { drawn = drawn_of g.q draws 1 1 0 from 1 w refl (omega arith) (omega arith) (omega arith); ready = λ l i h k. ready l i }

pub planned_entry : (g : Parameters) (page : List ℕ) (inverses : List Element) (at : ℕ) (draws : List ℕ) (v from : ℕ) → v < 2 → at + 8 ≤ length page →
    DrawsBelow g.q draws from 3 → Planned g page inverses (plan_of (Entry at) 2 1 v from) draws
unfolding Within
planned_entry g page inverses at draws v from hv long w =
    record { drawn = drawn_of g.q draws 2 1 v from 3 w refl (omega arith) hv (omega arith); ready = λ l k h m. long }

-- the witness of the one statement stands in every place
abbrev pub alone : Exponent → List Exponent
alone x = replicate 64 x

one : (x : Exponent) (i : ℕ) → i < 1 → witness_at (alone x) i ≡ x.0
one x zero h = refl
one x (suc i) h = absurd (omega arith)

pub line_is : (about : Claim) (label : List ℕ) (context : Context) (g : Parameters) (claim : ℕ → ℕ → Statement) (said : Statement) (w : Exponent) (x : ℕ) (draws : List ℕ) (from : ℕ) →
    ((l i : ℕ) → claim l i ≡ said) → w.0 ≡ x % g.q →
    proof_of label context g claim (plan_of about 1 1 0 from) (alone w) draws ≡ proof_bytes g (line_prover context draws said x from) sha256 label
line_is about label context g claim said w x draws from says e =
    proof_same sha256 label context g (λ d. get_or draws d 0) 1 1 0 from claim (λ _ _. said) _ _ (λ l i h k. says l i)
    (λ i h. ap (λ (a : ℕ). a % g.q) (one w i h ∙ e) ∙ mod-mod x g.q)

-- what a line says on a page that is read as the matrix was made
pub line_says : (g : Parameters) (n number : ℕ) (list : ℕ → ℕ) (page draws label : List ℕ) (from t : ℕ) → t < n + n →
    SameMatrix n n (matrix_at page n 0) (matrix_of g n list draws from) → (l i : ℕ) → claim_of page g (Line (8 * line_start n t) (8 * line_stride n t) n) l i ≡ line_said label g n number list draws from t
line_says g n number list page draws label from t low same l i =
    let M = matrix_at page n 0 in
    let N = matrix_of g n list draws from in
    ap (λ (f : ℕ → ℕ → Statement). f l i) (rw (zero-add (8 * line_start n t)) at (line_claimed page g n 0 t))
    ∙ row_or_column n t
    (λ h. by_row n (row_claim g n M) (column_claim g n M) t h ∙ row_same g n M N n t same h ∙ sym (by_row n (row_claim g n N) (column_claim g n N) t h))
    (λ h. by_column n (row_claim g n M) (column_claim g n M) t h ∙ column_same g n M N (t - n) same (omega arith) ∙ sym (by_column n (row_claim g n N) (column_claim g n N) t h))

-- and it is within the page
pub line_ready : (g : Parameters) (n : ℕ) (page : List ℕ) (inverses : List Element) → 8 * (n * n) ≤ length page → (l i t : ℕ) → t < n + n →
    Within page inverses g (Line (8 * line_start n t) (8 * line_stride n t) n) l i
line_ready g n page inverses long l i t low = rw (zero-add (8 * line_start n t)) at (line_stands page g n 0 inverses (omega arith) l i t low)

pub entry_is : (label : List ℕ) (g : Parameters) (n number : ℕ) (list : ℕ → ℕ) (page draws : List ℕ) (from c v : ℕ) (x : Exponent) → 0 < n → c < n * n →
    SameMatrix n n (matrix_at page n 0) (matrix_of g n list draws from) → v ≡ opened list (c / n) (c % n) → x.0 ≡ get_or draws (from + c) 0 →
    proof_of label (ballot_context number c) g (claim_of page g (Entry (8 * c))) (plan_of (Entry (8 * c)) 2 1 v (from + n * n + 3 * c)) (alone x) draws
    ≡ entry_in label g n number list draws from c
entry_is label g n number list page draws from c v x some low same ev ex =
    let here : claim_of page g (Entry (8 * c)) ≡ (λ l _. entry_claim g ((matrix_at page n 0).b (c / n) (c % n)) ((matrix_at page n 0).y (c / n) (c % n)) l) =
    rw (div-add-mod' c n, zero-add (8 * c)) at (entry_claimed page g n 0 (c / n) (c % n)) in
    rw (div-add-mod' c n, ← ev, ← ex)
    (proof_same sha256 label (ballot_context number c) g (λ d. get_or draws d 0) 2 1 v (from + n * n + 3 * c) _ _ _ _
    (λ l i h k. ap (λ (f : ℕ → ℕ → Statement). f l i) here ∙ entry_same g n _ _ n (c / n) (c % n) l same ((div-lt_iff_lt-mul some).1 low) (mod-lt c some))
    (λ i h. ap (λ (a : ℕ). a % g.q) (one x i h)))

pub length_line : (label : List ℕ) (g : Parameters) (n number : ℕ) (list : ℕ → ℕ) (draws : List ℕ) (from t : ℕ) → length (line_of label g n number list draws from t) ≡ 16
unfolding line_of
length_line label g n number list draws from t = length_proof sha256 label g _
