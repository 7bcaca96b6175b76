-- What the listing program prints of a file: a line `50 f s s ..` for each listed schedule, where f is 01 if it fails, then `51` with the
-- two counts, eight bytes each; of a file that is refused only `52`, the number in one byte and the place in two.
use Rattle.std.specs.Prelude.{ℕ, zero, suc, ◌/◌, ◌%◌, ◌^◌, Bool, true, false, List, [], ◌∷◌, ◌++◌, map}
use Rattle.spec_file.specs.Program.{Program}
use Rattle.spec_file.specs.Decode.{Decoded, accepted, refused, decode}
use Rattle.spec_schedules.specs.Order.{Schedule}
use Rattle.spec_sc.specs.Text.{text_of}
use Rattle.spec_model.specs.Alike.{list_of}
use Rattle.spec_model.specs.Model.{failing}
use Rattle.spec_model.specs.Answers.{Counts, count_of}
use Rattle.spec_sc.specs.Sequential.{sc}

-- the lowest bytes of a number, as many as the first argument says, most significant first
unfoldable pub bytes_of : ℕ → ℕ → List ℕ
bytes_of zero n = []
bytes_of (suc k) n = n / 256 ^ k % 256 ∷ bytes_of k n

unfoldable pub flag : Bool → ℕ
flag true = 1
flag false = 0

unfoldable pub schedule_frame : Program → Schedule → List ℕ
schedule_frame p s = 0x50 ∷ flag (failing sc p s) ∷ s

unfoldable pub count_frame : Counts → List ℕ
count_frame c = 0x51 ∷ (bytes_of 8 c.listed ++ bytes_of 8 c.failed)

unfoldable pub printed_frames : Decoded → List (List ℕ)
printed_frames (accepted p) = map (schedule_frame p) (list_of sc p) ++ (count_frame (count_of sc p) ∷ [])
printed_frames (refused n k) = (0x52 ∷ n ∷ bytes_of 2 k) ∷ []

-- from the file's bytes to the printed bytes
unfoldable pub printed : List ℕ → List ℕ
printed file = text_of (printed_frames (decode file))
