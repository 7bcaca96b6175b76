-- What the call over two files, each under a model of its own, says fits its word, whatever is lent, so that each refusal's number and place
-- are read back; and where its schedule stands in the output.
use Prim.Native.Nat.{ℕ, zero, suc, ◌^◌, ◌<◌, ◌≤◌}
use mathlib.Core.Path.{◌≡◌, refl}
use mathlib.Core.List.{List}
use native.Mathlib.Omega.{arith}
use lib.ListN.{length}
use Rattle.spec_file.specs.Decode.{refused, decode}
use Rattle.spec_file.proofs.Over.{take_over, drop_over, length_over}
use Rattle.spec_schedules.specs.Order.{Schedule}
use Rattle.spec_model.specs.OnFile.{admit}
use Rattle.spec_model.proofs.Admitted.{listed_program}
use Rattle.spec_model.proofs.TheList.{list_exact, list_room}
use Rattle.spec_covers.specs.Answer.{Answer, covered, lacking, first_refused, second_refused, output_refused, output_after}
use Rattle.spec_across.specs.ModelsCall.{model_named, ModelsCompared, by_model, by_other_model, by_first, by_second, by_output, covering, exceeding}
use Rattle.spec_across.proofs.ModelsCompared.{named_laws}
use Rattle.spec_calls.specs.Word.{answered, word_of, read_in, kind_in, rest_in, Fits}
use Rattle.spec_calls.specs.Against.{covers_reply}
use Rattle.spec_calls.proofs.Words.{kind_one, read_back}
use Rattle.listing.specs.Demand3.{InFront}
use Rattle.listing_model.specs.declared.memory.Model.TheVariants.{Sequential, TotalStoreOrder}
use Rattle.listing_model.proofs.ModelLaws.{need_48}
use Rattle.listing_model.proofs.SmallRefusals.{refused_small}

named_small : (b : ℕ) (file : List ℕ) (n k : ℕ) → admit (model_named b) (decode file) ≡ refused n k → (n < 256) × (k < 2 ^ 48)
named_small zero file n k e = refused_small Sequential file n k e
named_small (suc b) file n k e = refused_small TotalStoreOrder file n k e

named_need : (b : ℕ) → (model_named b).need ≤ 48
named_need zero = need_48 Sequential
named_need (suc b) = need_48 TotalStoreOrder

-- a schedule has at most 48 steps, and is answered only where there is room for it
abbrev ModelsWithin : ℕ → Answer → Type 0
ModelsWithin room covered = Unit {0}
ModelsWithin room (lacking s) = (length s ≤ 48) × (48 ≤ room)
ModelsWithin room (first_refused n k) = (n < 256) × (k < 2 ^ 48)
ModelsWithin room (second_refused n k) = (n < 256) × (k < 2 ^ 48)
ModelsWithin room (output_refused n k) = (n < 256) × (k < 2 ^ 48)

module _ (b : ℕ) (first : List ℕ) (c : ℕ) (second : List ℕ) (room : ℕ) where
  models_within : (a : Answer) → ModelsCompared b first c second room a → ModelsWithin room a
  models_within covered (covering p q i h f) = tt
  models_within (lacking s) (exceeding p q s' i h f) =
      let N = model_named c in
      let L = named_laws c in
      let m = list_room N L q (listed_program N L second q i.other) s ((list_exact N L q s).1 f.listed) in
      (omega (arith, m, named_need c), h)
  models_within (first_refused n k) (by_first n' k' i j e) = named_small b first n k e
  models_within (second_refused n k) (by_second p n' k' i j e f) = named_small c second n k f
  models_within (output_refused n k) (by_model h) = (omega arith, omega arith)
  models_within (output_refused n k) (by_other_model h i) = (omega arith, omega arith)
  models_within (output_refused n k) (by_output p q i h) = (omega arith, omega arith)

  -- THE CALL fits its word
  pub models_fits : (a : Answer) → ModelsCompared b first c second room a → Fits (covers_reply a)
  unfolding covers_reply
  models_fits a h = go a (models_within a h)
    where
      go : (a : Answer) → ModelsWithin room a → Fits (covers_reply a)
      go covered h = tt
      go (lacking s) h = omega arith
      go (first_refused n k) h = h
      go (second_refused n k) h = h
      go (output_refused n k) h = h

  -- WHAT THE WORD SAYS IS READ BACK: the schedule's length, or whose refusal it is, with its number and place
  pub models_read : (a : Answer) → ModelsCompared b first c second room a → read_in (word_of (covers_reply a)) ≡ covers_reply a
  models_read a h = read_back (covers_reply a) (models_fits a h)

-- A WORD OF KIND 1 tells how many bytes in front of the output are the schedule
pub models_in_output : (b : ℕ) (first : List ℕ) (c : ℕ) (second out : List ℕ) (a : Answer) → ModelsCompared b first c second (length out) a
    → kind_in (word_of (covers_reply a)) ≡ 1 → (s : Schedule) × (a ≡ lacking s) × (length s ≡ rest_in (word_of (covers_reply a))) × InFront s out (output_after a out)
unfolding covers_reply output_after
models_in_output b first c second out a h e =
    go a _ (models_within b first c second (length out) a h) (kind_one (covers_reply a) (models_fits b first c second (length out) a h) e)
  where
    go : (a : Answer) (n : ℕ) → ModelsWithin (length out) a → covers_reply a ≡ answered n
        → (s : Schedule) × (a ≡ lacking s) × (length s ≡ n) × InFront s out (output_after a out)
    go (lacking s) n h q = (s, refl, cc, (take_over s out, drop_over s out, length_over s out (omega arith)))
    go covered n h q = absurd (let z : ◌≡◌ {A = ℕ} 0 1 = cc in omega arith)
    go (first_refused i k) n h q = absurd (let z : ◌≡◌ {A = ℕ} 0 1 = cc in omega arith)
    go (second_refused i k) n h q = absurd (let z : ◌≡◌ {A = ℕ} 0 1 = cc in omega arith)
    go (output_refused i k) n h q = absurd (let z : ◌≡◌ {A = ℕ} 0 1 = cc in omega arith)
