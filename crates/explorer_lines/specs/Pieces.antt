-- What is left to print of a file, and what a piece of it is. The whole is `printed` of the listing crate.
use Rattle.std.specs.Prelude.{ℕ, ◌+◌, ◌≤◌, ◌<◌, ◌^◌, ◌≡◌, false, List, [], ◌∷◌, ◌++◌, map, length}
use Rattle.file_decoder.specs.Compiled.{program_of}
use Rattle.spec_file.specs.WellFormed.{WellFormed, Everywhere}
use Rattle.spec_file.specs.Decode.{refused}
use Rattle.spec_schedules.specs.Lists.{filter}
use Rattle.spec_schedules.specs.Order.{Schedule}
use Rattle.spec_sc.specs.Text.{text_of}
use Rattle.spec_model.specs.Model.{failing}
use Rattle.spec_model.specs.Answers.{Counts}
use Rattle.spec_sc.specs.Sequential.{sc}
use Rattle.listing_cursor.specs.ListRows.{remaining}
use Rattle.spec_calls.specs.Printed.{schedule_frame, count_frame, printed_frames, printed}
use Rattle.explorer_lines.specs.declared.pieces.Walk.{Walk}
use Rattle.explorer_lines.specs.declared.pieces.Listing.{Listing}
use Rattle.explorer_lines.specs.declared.pieces.Listing.TheVariants.{Refused, Walking, Ended}

-- each schedule has at most 24 steps
abbrev pub Short : List Schedule → Type 0
Short ss = Everywhere (λ s. length s ≤ 24) ss

-- the listed schedules that are not printed yet
unfoldable pub left : Walk → List Schedule
left w = remaining sc (program_of w.program) false w.cursor

-- what the two counts come to, with those that are not printed yet
unfoldable pub counts : Walk → Counts
counts w = record { listed = w.listed + length (left w); failed = w.failed + length (filter (failing sc (program_of w.program)) (left w)) }

-- the frames that are left to print
unfoldable pub frames_left : Listing → List (List ℕ)
frames_left (Refused r) = printed_frames (refused r.number r.place)
frames_left (Walking w) = map (schedule_frame (program_of w.program)) (left w) ++ (count_frame (counts w) ∷ [])
frames_left Ended = []

-- the text that is left to print
unfoldable pub rest : Listing → List ℕ
rest s = text_of (frames_left s)

-- what the walk along the list needs
pub record Ready (w : Walk) : Type 0 where
  pub well_formed : WellFormed (program_of w.program)
  pub fits : w.listed + length (left w) < 2 ^ 64
  pub few : w.failed ≤ w.listed

-- what printing needs: only the walk needs something
abbrev pub Sound : Listing → Type 0
Sound (Refused r) = Unit {0}
Sound (Walking w) = Ready w
Sound Ended = Unit {0}

-- all that is printed of this file is left
pub record Begun (file : List ℕ) (s : Listing) : Type 0 where
  pub sound : Sound s
  pub whole : rest s ≡ printed file

-- the bytes come next, and then what s' has left; there are no bytes only where s had nothing left
pub record Next (s : Listing) (bytes : List ℕ) (s' : Listing) : Type 0 where
  pub sound : Sound s'
  pub text : rest s ≡ bytes ++ rest s'
  pub ends : bytes ≡ [] → rest s ≡ []

-- pieces handed over one after the other, from where printing stood first to where it stands behind them
unfoldable pub Handed : Listing → List (List ℕ) → Listing → Type 0
Handed s [] s' = s' ≡ s
Handed s (t ∷ ts) s' = (u : Listing) × Next s t u × Handed u ts s'

-- the bytes of all pieces, one behind the other
unfoldable pub joined : List (List ℕ) → List ℕ
joined [] = []
joined (t ∷ ts) = t ++ joined ts
