-- What the two calls say on a file that the memory model lists, and on one that it refuses.
use Prim.Native.Nat.{ℕ, ◌^◌, ◌%◌}
use mathlib.Core.Path.{◌≡◌, ap, ◌∙◌}
use mathlib.Core.Option.{Option, none}
use mathlib.Core.List.{List}
use lib.ListN.{length}
use Rattle.spec_file.specs.Program.{Program}
use Rattle.spec_file.specs.Decode.{Decoded, accepted, decode}
use Rattle.spec_file.specs.Decode as File
use Rattle.spec_schedules.specs.Order.{Schedule}
use Rattle.spec_schedules.specs.Calls.{refused}
use Rattle.spec_calls.proofs.Answered.{unchanged}
use Rattle.spec_model.specs.Model.{Model, Full}
use Rattle.spec_model.specs.OnFile.{admit}
use Rattle.spec_model.proofs.Refusing.{full_goes}
use Rattle.spec_members.specs.Kth.{kth_of, kth_on, kth_file}
use Rattle.spec_members.specs.Rank.{ranked, refused_rank, smaller, rank_by, rank_of, rank_on, rank_file}

module _ (M : Model) (file : List ℕ) where
  pub kth_refused : (n j : ℕ) → admit M (decode file) ≡ File.refused n j → (k : ℕ) (out : List ℕ) → kth_file M file k out ≡ (refused n j, out)
  unfolding kth_on
  kth_refused n j e k out = ap (λ (d : Decoded). kth_on M d k out) e ∙ unchanged n j out

  pub kth_listed : (p : Program) → admit M (decode file) ≡ accepted p → (k : ℕ) (out : List ℕ) → kth_file M file k out ≡ kth_of M p k out
  unfolding kth_on
  kth_listed p e k out = ap (λ (d : Decoded). kth_on M d k out) e

  pub rank_refused : (n k : ℕ) → admit M (decode file) ≡ File.refused n k → (s : Schedule) → rank_file M file s ≡ refused_rank n k
  unfolding rank_on
  rank_refused n k e s = ap (λ (d : Decoded). rank_on M d s) e

  pub rank_listed : (p : Program) → admit M (decode file) ≡ accepted p → (s : Schedule) → rank_file M file s ≡ rank_of M p s
  unfolding rank_on
  rank_listed p e s = ap (λ (d : Decoded). rank_on M d s) e

-- of a full schedule
pub rank_full : (M : Model) (p : Program) (s : Schedule) → Full M p s → rank_of M p s ≡ ranked (length (smaller M p s) % 2 ^ 64)
unfolding rank_of rank_by
rank_full M p s f = ap (rank_by M p s) (full_goes M.system s 0 (M.start p) f)
