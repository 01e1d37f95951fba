-- Section 7: the verdict numbers, with the figures of each, and those that requests add.
use Rattle.std.specs.Prelude.{ℕ}

-- the word of a refusal, with those of its figures that are not fixed
pub data Refusal : Type 0 where
  malformed_fragment nesting alt_dry bad_index bad_tag arms_differ stray_else second_else stray_endif open_if bad_header tally_full bad_sitting : Refusal
  crooked_number negative_index strange_word output_short bad_map bad_limit : Refusal
  long_fragment unmodelled_opcode opcode_count script_size long_paper long_element : ℕ → Refusal
  start_too_large short_log stacks_full main_dry dispatch_too_large : ℕ → ℕ → Refusal

-- the greatest counts of sections 6 and 7; the stack limit, 244, is one of the rules (Stacks)
abbrev pub max_fragment : ℕ
max_fragment = 10000

abbrev pub max_open : ℕ
max_open = 24

abbrev pub max_operations : ℕ
max_operations = 201

abbrev pub max_paper : ℕ
max_paper = 8000

-- request L7, "its element limit is 520 bytes"
abbrev pub max_element : ℕ
max_element = 520

-- request L1, "the greatest in use": every verdict number below is at most this one. A request that adds numbers raises it.
abbrev pub greatest_number : ℕ
greatest_number = 30

-- number, offset and two figures: what the limit check answers, and part of every verdict
pub record Answer : Type 0 where
  pub number : ℕ
  pub offset : ℕ
  pub first : ℕ
  pub second : ℕ

abbrev pub answer : ℕ → ℕ → ℕ → ℕ → Answer
answer number offset first second = record { number = number; offset = offset; first = first; second = second }

-- number 0, "accepted": "offset and figures 0"
abbrev pub accepted : Answer
accepted = answer 0 0 0 0

-- The table; "unnamed figures are 0". "Offset is the instruction's, 0 for 1, 2, 4 and 17 to 22": it is given where the refusal
-- arises.
abbrev pub refused_at : ℕ → Refusal → Answer
refused_at at (long_fragment length) = answer 1 at length max_fragment
refused_at at (start_too_large sum limit) = answer 2 at sum limit
refused_at at malformed_fragment = answer 3 at 0 0
refused_at at (short_log needed lent) = answer 4 at needed lent
refused_at at nesting = answer 5 at max_open max_open
refused_at at (stacks_full wanted limit) = answer 6 at wanted limit
refused_at at (main_dry needed had) = answer 7 at needed had
refused_at at alt_dry = answer 8 at 0 0
refused_at at bad_index = answer 9 at 0 0
refused_at at bad_tag = answer 10 at 0 0
refused_at at (unmodelled_opcode opcode) = answer 11 at opcode 0
refused_at at arms_differ = answer 12 at 0 0
refused_at at stray_else = answer 13 at 0 0
refused_at at second_else = answer 14 at 0 0
refused_at at stray_endif = answer 15 at 0 0
refused_at at open_if = answer 16 at 0 0
refused_at at (opcode_count count) = answer 17 at count max_operations
refused_at at (script_size length) = answer 18 at length max_fragment
refused_at at bad_header = answer 19 at 0 0
refused_at at (dispatch_too_large sum limit) = answer 20 at sum limit
refused_at at (long_paper length) = answer 21 at length max_paper
refused_at at tally_full = answer 22 at 0 0
refused_at at bad_sitting = answer 23 at 0 0
refused_at at crooked_number = answer 24 at 0 0
refused_at at negative_index = answer 25 at 0 0
refused_at at strange_word = answer 26 at 0 0
refused_at at output_short = answer 27 at 0 0
refused_at at bad_map = answer 28 at 0 0
refused_at at bad_limit = answer 29 at 0 0
refused_at at (long_element length) = answer 30 at length max_element
