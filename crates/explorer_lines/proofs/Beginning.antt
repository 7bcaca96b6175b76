-- Before anything is printed, all that is printed of the file is left.
use Prim.Native.Nat.{ℕ, ◌+◌, ◌%◌, ◌^◌, ◌<◌}
use mathlib.Core.Path.{◌≡◌, sym, ap, subst, ◌∙◌}
use mathlib.Core.Bool.{Bool, false}
use mathlib.Core.List.{List, [], ◌∷◌, ◌++◌, map}
use native.Mathlib.Omega.{arith}
use lib.ListN.{length}
use Rattle.std.specs.Prelude.{Result, Ok, Err}
use Rattle.spec_file.specs.declared.refusal.Refusal.{Refusal}
use Rattle.spec_file.specs.Program.{Program}
use Rattle.spec_file.specs.WellFormed.{WellFormed}
use Rattle.spec_file.specs.Decode.{Decoded, decode}
use Rattle.file_decoder.specs.Compiled.{program_of, answer_of}
use Rattle.file_decoder.specs.declared.file.Compiled.{Compiled}
use Rattle.spec_schedules.specs.Lists.{filter}
use Rattle.spec_schedules.specs.Order.{Schedule}
use Rattle.spec_schedules.proofs.Kept.{filter_length}
use Rattle.spec_sc.specs.Text.{text_of}
use Rattle.spec_sc.proofs.Lawful.{fits_64_bits}
use Rattle.spec_model.specs.Alike.{list_of}
use Rattle.spec_model.specs.Model.{failing}
use Rattle.spec_model.specs.Answers.{Counts, count_of}
use Rattle.spec_model.specs.Search.{sought}
use Rattle.spec_sc.specs.Sequential.{sc}
use Rattle.listing_cursor.specs.Cursor.{from}
use Rattle.spec_calls.specs.Printed.{schedule_frame, count_frame, printed_frames, printed}
use Rattle.spec_sc.proofs.TheList.{list_length}
use Rattle.file_decoder.proofs.Decoded.{decoded_refused, decoded_accepted, decoded_well_formed}
use Rattle.explorer_lines.specs.declared.pieces.Walk.{Walk}
use Rattle.explorer_lines.specs.declared.pieces.Listing.TheVariants.{Refused, Walking}
use Rattle.explorer_lines.specs.Pieces.{left, counts, frames_left, rest, Begun}

-- what is small enough does not wrap
small_rest : (n : ℕ) → n < 2 ^ 64 → n % 2 ^ 64 ≡ n
small_rest n h = omega arith

module _ (file : List ℕ) (a : Result Compiled Refusal) (e : answer_of a ≡ decode file) where
  -- a refused file
  pub begun_refused : (r : Refusal) → a ≡ Err r → Begun file (Refused r)
  unfolding rest frames_left printed
  begun_refused r v = record { sound = tt; whole = ap (λ (d : Decoded). text_of (printed_frames d)) (sym (decoded_refused a file e r v)) }

  -- an accepted one
  module _ (c : Compiled) (v : a ≡ Ok c) (w : Walk) (program : w.program ≡ c) (listed : w.listed ≡ 0) (failed : w.failed ≡ 0)
      (all : (l : List Schedule) → from w.cursor l ≡ l) where
    abbrev p : Program
    p = program_of c

    left_all : left w ≡ list_of sc p
    unfolding left sought
    left_all = all (sought sc false (program_of w.program)) ∙ ap (λ (c : Compiled). list_of sc (program_of c)) program

    well_formed_lem : WellFormed p
    well_formed_lem = decoded_well_formed a file e c v

    fit : length (list_of sc p) < 2 ^ 64
    fit = omega (arith, list_length p well_formed_lem, fits_64_bits)

    counts_all : counts w ≡ count_of sc p
    unfolding counts count_of
    counts_all =
        let f : failing sc (program_of w.program) ≡ failing sc p = ap (λ (c : Compiled). failing sc (program_of c)) program in
        let n : ℕ = length (filter (failing sc p) (list_of sc p)) in
        let a : w.listed + length (left w) ≡ length (list_of sc p) = omega (arith, listed, ap length left_all) in
        let b : w.failed + length (filter (failing sc (program_of w.program)) (left w)) ≡ n =
        omega (arith, failed, ap (λ (g : Schedule → Bool). length (filter g (left w))) f, ap (λ (l : List Schedule). length (filter (failing sc p) l)) left_all) in
        let c : w.listed + length (left w) ≡ length (list_of sc p) % 2 ^ 64 = a ∙ sym (small_rest (length (list_of sc p)) fit) in
        let d : w.failed + length (filter (failing sc (program_of w.program)) (left w)) ≡ n % 2 ^ 64 =
        b ∙ sym (small_rest n (omega (arith, fit, filter_length (failing sc p) (list_of sc p)))) in
        ap (λ (i : ℕ). record { listed = i; failed = w.failed + length (filter (failing sc (program_of w.program)) (left w)) }) c
        ∙ ap (λ (j : ℕ). record { listed = length (list_of sc p) % 2 ^ 64; failed = j }) d

    pub begun_accepted : Begun file (Walking w)
    unfolding rest frames_left printed printed_frames
    begun_accepted = record {
      sound = record {
        well_formed = subst (λ (c : Compiled). WellFormed (program_of c)) (sym program) well_formed_lem;
        fits = omega (arith, listed, ap length left_all, list_length p well_formed_lem, fits_64_bits);
        few = omega (arith, failed, listed);
      };
      whole = ap (λ (c : Compiled). text_of (map (schedule_frame (program_of c)) (left w) ++ (count_frame (counts w) ∷ []))) program
          ∙ ap (λ (l : List Schedule). text_of (map (schedule_frame p) l ++ (count_frame (counts w) ∷ []))) left_all
          ∙ ap (λ (c : Counts). text_of (map (schedule_frame p) (list_of sc p) ++ (count_frame c ∷ []))) counts_all
          ∙ ap (λ (d : Decoded). text_of (printed_frames d)) (sym (decoded_accepted a file e c v));
    }
