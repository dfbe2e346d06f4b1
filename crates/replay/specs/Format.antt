-- The numbers of a script: how wide its steps and answers are, and what stands where in a step. Words and floats that a call does not use may be any.
use Rattle.std.specs.Prelude.{ℕ}

-- The words of a step, and its floats. There is room for calls to come: which call, eight words of arguments, and a length.
abbrev pub step_width : ℕ
step_width = 10

-- The words of an answer. There is room for two more.
abbrev pub answer_width : ℕ
answer_width = 12

-- Which call.
abbrev pub kind_at : ℕ
kind_at = 0

-- A clear's bucket size.
abbrev pub bucket_at : ℕ
bucket_at = 1

-- The tag of an add or a remove; the word after it is kept for the upper half of a longer tag.
abbrev pub tag_at : ℕ
tag_at = 1

-- An add's codes.
abbrev pub red_at : ℕ
red_at = 3

abbrev pub green_at : ℕ
green_at = 4

abbrev pub blue_at : ℕ
blue_at = 5

-- A load's sheet: where it starts among the sheets, and its length.
abbrev pub sheet_start_at : ℕ
sheet_start_at = 1

abbrev pub sheet_length_at : ℕ
sheet_length_at = 2

-- How many words a query is lent for its listing.
abbrev pub lent_at : ℕ
lent_at = 9

-- Among the floats: the centre of a ball, or a box's low colour.
abbrev pub low_at : ℕ
low_at = 0

-- A box's high colour.
abbrev pub high_at : ℕ
high_at = 3

-- A radius.
abbrev pub radius_at : ℕ
radius_at = 3
