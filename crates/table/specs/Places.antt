-- Where a key's slot begins in a table of so many slots, and so what the table says of the key. Which slot it is matters to no answer, only that
-- it goes by the key: every law holds of any number in place of the hash.
use Rattle.std.specs.Prelude.{ℕ, ◌+◌, ◌*◌, ◌/◌, ◌%◌, ◌^◌, cond, List, [], ◌∷◌, length, nat_lt}
use Rattle.std.proofs.Math.Option.{Option}
use Rattle.table.specs.Said.{said_at}

-- a hash with one word more: its upper half and the word added, all by 2^64 / φ
unfoldable pub mixed : ℕ → ℕ → ℕ
mixed h w = ((h + h / 2 ^ 32) % 2 ^ 64 + w) % 2 ^ 64 * 0x9e3779b97f4a7c15 % 2 ^ 64

unfoldable pub hash_from : ℕ → List ℕ → ℕ
hash_from h [] = h
hash_from h (w ∷ k) = hash_from (mixed h w) k

-- the slot, of so many, that a hash chooses
unfoldable pub slot_of : ℕ → ℕ → ℕ
slot_of slots h = h / 2 ^ 32 * (slots % 2 ^ 32) / 2 ^ 32

-- slots stand one behind the other; keys and entries wider than 4096 words share the first
unfoldable pub place_of : ℕ → ℕ → List ℕ → ℕ
place_of slots width k = cond (nat_lt 4096 (length k)) 0 (cond (nat_lt 4096 width) 0 (slot_of slots (hash_from 0 k) * (length k + width)))

-- WHAT A TABLE SAYS OF A KEY: these words, or nothing
abbrev pub said : ℕ → ℕ → List ℕ → List ℕ → Option (List ℕ)
said slots width m k = said_at (place_of slots width k) width m k
