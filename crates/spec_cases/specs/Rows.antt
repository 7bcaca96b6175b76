-- Document 01's programs with known lists: for each the frames of its file and the frames that the listing program prints.
use Rattle.std.specs.Prelude.{ℕ, List, [], ◌∷◌, ◌++◌}

abbrev pub Frame : Type 0
Frame = List ℕ

pub record Row : Type 0 where
  pub file : List Frame
  pub prints : List Frame

-- operands
abbrev constant : ℕ → Frame
constant v = 0 ∷ 0 ∷ 0 ∷ 0 ∷ v ∷ []

abbrev register : ℕ → Frame
register k = 1 ∷ 0 ∷ 0 ∷ 0 ∷ k ∷ []

-- the lines of a file
abbrev thread : Frame
thread = 0x01 ∷ []

abbrev store : ℕ → Frame → Frame
store l p = 0x10 ∷ l ∷ p

abbrev load : ℕ → ℕ → Frame
load r l = 0x11 ∷ r ∷ l ∷ []

abbrev fetch_add : ℕ → ℕ → Frame → Frame
fetch_add r l p = 0x12 ∷ r ∷ l ∷ p

abbrev compare_swap : ℕ → ℕ → Frame → Frame → Frame
compare_swap r l e v = 0x13 ∷ r ∷ l ∷ (e ++ v)

abbrev add_assign : ℕ → Frame → Frame
add_assign r p = 0x21 ∷ r ∷ p

abbrev assert : ℕ → Frame → Frame
assert r p = 0x23 ∷ r ∷ p

abbrev assert_at_most : ℕ → Frame → Frame
assert_at_most r p = 0x25 ∷ r ∷ p

abbrev alike : List ℕ → Frame
alike ts = 0x02 ∷ ts

abbrev start : ℕ → ℕ → Frame
start l v = 0x03 ∷ l ∷ 0 ∷ 0 ∷ 0 ∷ v ∷ []

-- the printed lines
abbrev passes : List ℕ → Frame
passes s = 0x50 ∷ 0 ∷ s

abbrev fails : List ℕ → Frame
fails s = 0x50 ∷ 1 ∷ s

abbrev counts : ℕ → ℕ → Frame
counts n k = 0x51 ∷ 0 ∷ 0 ∷ 0 ∷ 0 ∷ 0 ∷ 0 ∷ 0 ∷ n ∷ 0 ∷ 0 ∷ 0 ∷ 0 ∷ 0 ∷ 0 ∷ 0 ∷ k ∷ []

-- P 1: one empty thread
abbrev pub empty : Row
empty = record { file = thread ∷ []; prints = passes [] ∷ counts 1 0 ∷ [] }

-- request c: the file of 0 bytes
abbrev pub nothing : Row
nothing = record { file = []; prints = passes [] ∷ counts 1 0 ∷ [] }

-- P 2: the whole case, a store beside two loads declared alike; and without its `02` line
abbrev store_loads : List Frame
store_loads = thread ∷ store 0 (constant 1) ∷ thread ∷ load 0 0 ∷ thread ∷ load 0 0 ∷ []

abbrev pub whole : Row
whole = record {
  file = store_loads ++ (alike (1 ∷ 2 ∷ []) ∷ []);
  prints = passes (0 ∷ 1 ∷ 2 ∷ []) ∷ passes (1 ∷ 0 ∷ 2 ∷ []) ∷ passes (1 ∷ 2 ∷ 0 ∷ []) ∷ counts 3 0 ∷ [];
}

abbrev pub whole_apart : Row
whole_apart = record {
  file = store_loads;
  prints = passes (0 ∷ 1 ∷ 2 ∷ []) ∷ passes (1 ∷ 0 ∷ 2 ∷ []) ∷ passes (1 ∷ 2 ∷ 0 ∷ [])
      ∷ passes (2 ∷ 0 ∷ 1 ∷ []) ∷ counts 4 0 ∷ [];
}

-- P 3: two threads, load, add 1, store, all on location 0; and declared alike
abbrev increment : List Frame
increment = thread ∷ load 0 0 ∷ add_assign 0 (constant 1) ∷ store 0 (register 0) ∷ []

abbrev pub increments : Row
increments = record {
  file = increment ++ increment;
  prints = passes (0 ∷ 0 ∷ 1 ∷ 1 ∷ []) ∷ passes (0 ∷ 1 ∷ 0 ∷ 1 ∷ []) ∷ passes (0 ∷ 1 ∷ 1 ∷ 0 ∷ []) ∷ passes (1 ∷ 1 ∷ 0 ∷ 0 ∷ [])
      ∷ counts 4 0 ∷ [];
}

abbrev pub increments_alike : Row
increments_alike = record {
  file = increment ++ (increment ++ (alike (0 ∷ 1 ∷ []) ∷ []));
  prints = passes (0 ∷ 0 ∷ 1 ∷ 1 ∷ []) ∷ passes (0 ∷ 1 ∷ 0 ∷ 1 ∷ []) ∷ counts 2 0 ∷ [];
}

-- P 4: three compare and swaps of 0 to 1 on one location; and declared alike
abbrev swap : List Frame
swap = thread ∷ compare_swap 0 0 (constant 0) (constant 1) ∷ []

abbrev pub swaps : Row
swaps = record {
  file = swap ++ (swap ++ swap);
  prints = passes (0 ∷ 1 ∷ 2 ∷ []) ∷ passes (1 ∷ 0 ∷ 2 ∷ []) ∷ passes (2 ∷ 0 ∷ 1 ∷ [])
      ∷ counts 3 0 ∷ [];
}

abbrev pub swaps_alike : Row
swaps_alike = record { file = swap ++ (swap ++ (swap ++ (alike (0 ∷ 1 ∷ 2 ∷ []) ∷ []))); prints = passes (0 ∷ 1 ∷ 2 ∷ []) ∷ counts 1 0 ∷ [] }

-- P 5: three fetch and adds of 1 on one location
abbrev adding : List Frame
adding = thread ∷ fetch_add 0 0 (constant 1) ∷ []

abbrev pub adds : Row
adds = record {
  file = adding ++ (adding ++ adding);
  prints = passes (0 ∷ 1 ∷ 2 ∷ []) ∷ passes (0 ∷ 2 ∷ 1 ∷ []) ∷ passes (1 ∷ 0 ∷ 2 ∷ []) ∷ passes (1 ∷ 2 ∷ 0 ∷ []) ∷ passes (2 ∷ 0 ∷ 1 ∷ [])
      ∷ passes (2 ∷ 1 ∷ 0 ∷ []) ∷ counts 6 0 ∷ [];
}

-- P 6: the same declared alike
abbrev pub adds_alike : Row
adds_alike = record {
  file = adding ++ (adding ++ (adding ++ (alike (0 ∷ 1 ∷ 2 ∷ []) ∷ [])));
  prints = passes (0 ∷ 1 ∷ 2 ∷ []) ∷ counts 1 0 ∷ [];
}

-- P 7: store 1 at location 0, load location 1, beside store 1 at location 1, load location 0; P 8 and P 9 are graphs of this program
abbrev pub buffering : Row
buffering = record {
  file = thread ∷ store 0 (constant 1) ∷ load 0 1 ∷ thread ∷ store 1 (constant 1) ∷ load 0 0 ∷ [];
  prints = passes (0 ∷ 0 ∷ 1 ∷ 1 ∷ []) ∷ passes (0 ∷ 1 ∷ 0 ∷ 1 ∷ []) ∷ passes (1 ∷ 1 ∷ 0 ∷ 0 ∷ []) ∷ counts 3 0 ∷ [];
}

-- P 10: load location 0 and assert that it gave 0, beside a store of 1 there
abbrev pub asserting : Row
asserting = record {
  file = thread ∷ load 0 0 ∷ assert 0 (constant 0) ∷ thread ∷ store 0 (constant 1) ∷ [];
  prints = passes (0 ∷ 1 ∷ []) ∷ fails (1 ∷ 0 ∷ []) ∷ counts 2 1 ∷ [];
}

-- request i: three fetch and adds of 0 on one location, which only read
abbrev pub adds_zero : Row
adds_zero = record {
  file = thread ∷ fetch_add 0 0 (constant 0) ∷ thread ∷ fetch_add 0 0 (constant 0) ∷ thread ∷ fetch_add 0 0 (constant 0) ∷ [];
  prints = passes (0 ∷ 1 ∷ 2 ∷ []) ∷ counts 1 0 ∷ [];
}

-- request a: message passing, which asserts that the flag is at most the data; and a load that finds 0 or minus 1, at most 0 both times
abbrev pub passing : Row
passing = record {
  file = thread ∷ store 0 (constant 1) ∷ store 1 (constant 1) ∷ thread ∷ load 0 1 ∷ load 1 0 ∷ assert_at_most 0 (register 1) ∷ [];
  prints = passes (0 ∷ 0 ∷ 1 ∷ 1 ∷ []) ∷ passes (0 ∷ 1 ∷ 0 ∷ 1 ∷ []) ∷ passes (1 ∷ 1 ∷ 0 ∷ 0 ∷ []) ∷ counts 3 0 ∷ [];
}

abbrev pub negative : Row
negative = record {
  file = thread ∷ load 0 0 ∷ assert_at_most 0 (constant 0) ∷ thread ∷ store 0 (0 ∷ 0xff ∷ 0xff ∷ 0xff ∷ 0xff ∷ []) ∷ [];
  prints = passes (0 ∷ 1 ∷ []) ∷ passes (1 ∷ 0 ∷ []) ∷ counts 2 0 ∷ [];
}

-- request e: location 0 starts with 1, a compare and swap of 1 to 2 there, beside a load: the swap succeeds, so that the order counts
abbrev pub sentinel : Row
sentinel = record {
  file = start 0 1 ∷ thread ∷ compare_swap 0 0 (constant 1) (constant 2) ∷ thread ∷ load 0 0 ∷ [];
  prints = passes (0 ∷ 1 ∷ []) ∷ passes (1 ∷ 0 ∷ []) ∷ counts 2 0 ∷ [];
}
