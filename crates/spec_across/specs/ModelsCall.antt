-- What the call over two program files, each under a memory model of its own, answers. A byte names the model: 0 sequential consistency, 1
-- total store order. Refusals in order: 49 for a byte that names none, at place 0 or 1; the first file's, with its 41; the second's, with its
-- 41; then 22 for an output shorter than 48 bytes, also where the answer would be covered. 49 and 22 belong to neither file. Otherwise
-- covered, or the first listed schedule of the second in its model with an outcome that the first lacks, which then stands in front of the
-- output (`output_after` of the call over two files, which has the same answers). Each two bytes, two files and room have exactly one answer
-- (`models_exists`, `models_unique`).
use Rattle.std.specs.Prelude.{ℕ, zero, suc, ◌<◌, ◌≤◌, ◌≡◌, List}
use Rattle.spec_file.specs.Program.{Program}
use Rattle.spec_file.specs.Decode.{accepted, refused, decode}
use Rattle.spec_schedules.specs.Order.{Schedule}
use Rattle.spec_model.specs.Model.{Model}
use Rattle.spec_model.specs.OnFile.{admit}
use Rattle.spec_sc.specs.Sequential.{sc}
use Rattle.spec_tso.specs.TotalStoreOrder.{tso}
use Rattle.spec_covers.specs.Answer.{Answer, covered, lacking, first_refused, second_refused, output_refused}
use Rattle.spec_across.specs.Under.{CoversUnder, FirstLackingUnder}

-- the model that a byte below two names
abbrev pub model_named : ℕ → Model
model_named zero = sc
model_named (suc b) = tso

-- both bytes name a model, and both files are programs that their models list
pub record Admits (m : ℕ) (first : List ℕ) (n : ℕ) (second : List ℕ) (p q : Program) : Type 0 where
  pub named : m < 2
  pub named_too : n < 2
  pub one : admit (model_named m) (decode first) ≡ accepted p
  pub other : admit (model_named n) (decode second) ≡ accepted q

-- the answer to two bytes and two program files, with an output of so many bytes
pub data ModelsCompared (m : ℕ) (first : List ℕ) (n : ℕ) (second : List ℕ) (room : ℕ) : Answer → Type 0 where
  -- a byte that names no model comes first
  by_model : 2 ≤ m → ModelsCompared m first n second room (output_refused 49 0)
  by_other_model : m < 2 → 2 ≤ n → ModelsCompared m first n second room (output_refused 49 1)
  -- then the first file's refusal, and 41 right behind it
  by_first : (i k : ℕ) → m < 2 → n < 2 → admit (model_named m) (decode first) ≡ refused i k
      → ModelsCompared m first n second room (first_refused i k)
  -- then the second file's, and its 41
  by_second : (p : Program) (i k : ℕ) → m < 2 → n < 2 → admit (model_named m) (decode first) ≡ accepted p
      → admit (model_named n) (decode second) ≡ refused i k → ModelsCompared m first n second room (second_refused i k)
  -- then 22
  by_output : (p q : Program) → Admits m first n second p q → room < 48 → ModelsCompared m first n second room (output_refused 22 0)
  -- the first under its model covers the second under its own
  covering : (p q : Program) → Admits m first n second p q → 48 ≤ room → CoversUnder (model_named m) p (model_named n) q
      → ModelsCompared m first n second room covered
  -- it does not: s is the first listed schedule of the second in its model with an outcome that the first lacks
  exceeding : (p q : Program) (s : Schedule) → Admits m first n second p q → 48 ≤ room
      → FirstLackingUnder (model_named m) p (model_named n) q s → ModelsCompared m first n second room (lacking s)
