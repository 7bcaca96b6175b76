-- The program that the decoder hands over, read as document 01's program, and its answer read as an acceptance or a refusal's number and
-- place.
use Rattle.std.specs.Prelude.{ℕ, zero, suc, ◌+◌, Bool, true, false, List, [], ◌∷◌, eqb, get_or, Result, Ok, Err}
use Rattle.file_decoder.specs.declared.file.Compiled.{Compiled}
use Rattle.spec_file.specs.declared.refusal.Refusal.{Refusal}
use Rattle.spec_file.specs.Program.{Program}
use Rattle.spec_file.specs.Tabulate.{tabulate}
use Rattle.file_rows.specs.Rows.{thread_code}
use Rattle.spec_file.specs.Decode.{Decoded, accepted, refused}

-- the numbers below n that pass the test, ascending
unfoldable pub select : (ℕ → Bool) → ℕ → ℕ → List ℕ
select f k zero = []
select f k (suc n) = elim (f k) [ true ↦ k ∷ select f (suc k) n | false ↦ select f (suc k) n ]

-- the threads of group g
unfoldable pub members_of : List ℕ → ℕ → List ℕ
members_of class g = select (λ t. eqb (get_or class t 0) g) 0 6

-- the program
unfoldable pub program_of : Compiled → Program
program_of c = record {
  threads = tabulate (λ t. thread_code c.code t (get_or c.lengths t 0)) c.threads;
  groups = tabulate (λ k. members_of c.class (k + 1)) c.groups;
  starting = c.starting;
}

-- the answer in document 01's terms
unfoldable pub answer_of : Result Compiled Refusal → Decoded
answer_of (Ok c) = accepted (program_of c)
answer_of (Err r) = refused r.number r.place
