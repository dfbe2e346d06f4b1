-- Cases a to l of document 01 and its walklist example, each a computed test on the definitions, gathered in one table with one theorem.
use Rattle.std.specs.Prelude.{ℕ, Bool, true, ◌&&◌, ◌≡◌, refl, List, [], ◌∷◌, ◌++◌, map, eqb, length, take, drop, get_or, replicate, Float}
use Rattle.std.specs.Float.{binary32}
use Rattle.std.specs.Float.Ieee.{of_bits}
use Rattle.colour.specs.Channels.{PanelColour}
use Rattle.colour.specs.declared.Sample.{Sample}
use Rattle.colour.specs.declared.Query.TheVariants.{Ball, Nearest}
use Rattle.colour.specs.Panel.{code_of, shown, CodesAnswer, floats_to_codes}
use Rattle.sheet.specs.Line.{line_bytes}
use Rattle.sheet.specs.Sheet.{same_bytes as same}
use Rattle.model.specs.SampleSet.{order, octants}
use Rattle.model.specs.Layout.{current}
use Rattle.model.specs.Queries.{tag_of}
use Rattle.model.specs.Machine.{Machine, Call, Change, Add, Remove, Ask, Answer, tables_of, start_on, step, next_state}
use Rattle.model.specs.Walklist.{walklist_prints}
use Rattle.model.specs.Computes.{computes}

-- Every test of a list passes.
unfoldable pub all : List Bool → Bool
all [] = true
all (x ∷ xs) = x && all xs

-- A sample, and a panel colour, with the same in each channel; a float by its bits.
unfoldable pub grey : ℕ → ℕ → Sample
grey t v = record { tag = t; colour = record { red = v; green = v; blue = v } }

unfoldable pub panel_grey : Float → PanelColour
panel_grey v = record { red = v; green = v; blue = v }

unfoldable pub bits : ℕ → Float
bits w = of_bits binary32 w

-- Machines on room for 16 samples and on a given number of octant words.
unfoldable pub fresh : ℕ → ℕ → Machine
fresh b words = start_on (record { bucket = b }) 82 words

-- The machine after some calls.
unfoldable pub after : Machine → List Call → Machine
after m [] = m
after m (c ∷ rest) = after (next_state m c) rest

-- The numbers that calls give.
unfoldable pub numbers : Machine → List Call → List ℕ
numbers m [] = []
numbers m (c ∷ rest) = (step m c).answer.number ∷ numbers (next_state m c) rest

-- Add 7 (0, 0, 0), 8 (65,535 in all), 9 (0, 0, 0).
unfoldable pub adds : List Call
adds = Change (Add (grey 7 0)) ∷ Change (Add (grey 8 65535)) ∷ Change (Add (grey 9 0)) ∷ []

-- b = 2, with the three samples.
unfoldable pub three : Machine
three = after (fresh 2 199) adds

-- The tags in the order, the next words of the three rows, and the octant table's words.
unfoldable pub order_tags : Machine → List ℕ
order_tags m = map tag_of (order m.set)

unfoldable pub next_words : Machine → List ℕ
next_words m = let words : List ℕ = (tables_of current m).samples in get_or words 6 0 ∷ get_or words 11 0 ∷ get_or words 16 0 ∷ []

unfoldable pub octant_words_of : Machine → List ℕ
octant_words_of m = (tables_of current m).octants

-- 7 removed, and added anew.
unfoldable pub again : List Call
again = Change (Remove 7) ∷ Change (Add (grey 7 0)) ∷ []

-- Alone in a set: (3, 4, 0).
unfoldable pub alone : Machine
alone = after (fresh 2 199) (Change (Add (record { tag = 1; colour = record { red = 3; green = 4; blue = 0 } })) ∷ [])

-- Two samples at the edge of a ball of 65,536 codes around 0 in all.
unfoldable pub edge : Machine
edge =
    after (fresh 2 199)
    (Change (Add (record { tag = 1; colour = record { red = 65535; green = 362; blue = 0 } }))
    ∷ Change (Add (record { tag = 2; colour = record { red = 65535; green = 363; blue = 0 } }))
    ∷ [])

-- A ball at centre 0 in all, with a radius, lists these tags into eight words of 1, with these counts.
unfoldable pub ball_gives : Machine → Float → List ℕ → ℕ → ℕ → Bool
ball_gives m radius tags entered measured =
    let a : Answer = (step m (Ask (Ball (panel_grey (bits 0)) radius) (replicate 8 1))).answer in
    eqb a.number 0
    && eqb a.listed (length tags)
    && same a.listing (tags ++ drop (length tags) (replicate 8 1))
    && eqb a.entered entered
    && eqb a.measured measured

-- Nearest to centre 0 with radius 1 finds this tag at d² 0.
unfoldable pub nearest_gives : Machine → ℕ → Bool
nearest_gives m tag =
    let a : Answer = (step m (Ask (Nearest (panel_grey (bits 0)) (bits 0x37800000)) [])).answer in
    eqb a.number 0 && a.found && eqb a.tag tag && eqb a.distance 0

-- As a channel: the number, and the code.
unfoldable pub channel_gives : ℕ → ℕ → ℕ → Bool
channel_gives w number code =
    let a : CodesAnswer = floats_to_codes (panel_grey (bits w)) in
    eqb a.number number && same (a.codes.red ∷ a.codes.green ∷ a.codes.blue ∷ []) (code ∷ code ∷ code ∷ [])

-- The number of a ball with a channel and a radius by their bits.
unfoldable pub query_number : ℕ → ℕ → ℕ
query_number channel radius = (step three (Ask (Ball (panel_grey (bits channel)) (bits radius)) (replicate 8 1))).answer.number

-- The sheet of the walklist example: header, and a line for each of the three samples, reel A001.
unfoldable pub blanks : ℕ → List ℕ
blanks n = replicate n 32

unfoldable pub reel_end : List ℕ
reel_end = 32 ∷ 65 ∷ 48 ∷ 48 ∷ 49 ∷ blanks 28 ++ (10 ∷ [])

unfoldable pub black_line : ℕ → List ℕ
black_line digit = blanks 9 ++ (digit ∷ blanks 5) ++ (48 ∷ blanks 5) ++ (48 ∷ blanks 5) ++ (48 ∷ reel_end)

unfoldable pub white_line : ℕ → List ℕ
white_line digit =
    blanks 9
    ++ (digit ∷ 32 ∷ 54 ∷ 53 ∷ 53 ∷ 51 ∷ 53 ∷ 32 ∷ 54 ∷ 53 ∷ 53 ∷ 51 ∷ 53 ∷ 32 ∷ 54 ∷ 53 ∷ 53 ∷ 51 ∷ 53 ∷ reel_end)

unfoldable pub example : List ℕ
example =
    (83 ∷ 87 ∷ 65 ∷ 84 ∷ 67 ∷ 72 ∷ 69 ∷ 83 ∷ 32 ∷ 32 ∷ 32 ∷ 32 ∷ 32 ∷ 51 ∷ 10 ∷ black_line 55) ++ white_line 56 ++ black_line 57

-- The table.
unfoldable pub cases : List Bool
cases =
    -- a. Order 7, 9, 8; next words 2, 3, 1; octant count 3.
    same (order_tags three) (7 ∷ 9 ∷ 8 ∷ [])
    ∷ same (next_words three) (2 ∷ 3 ∷ 1 ∷ [])
    ∷ eqb (get_or (octant_words_of three) 0 0) 3
    -- b. The root's row.
    ∷ same (take 11 (drop 1 (octant_words_of three))) (0 ∷ 1 ∷ 3 ∷ 1 ∷ 0 ∷ 0 ∷ 0 ∷ 0 ∷ 0 ∷ 0 ∷ 2 ∷ [])
    -- c. d. e. f. Balls of 0, 1, 113,509 and 113,510 codes.
    ∷ ball_gives three (shown 0) [] 0 0
    ∷ ball_gives three (shown 1) (7 ∷ 9 ∷ []) 2 2
    ∷ ball_gives three (shown 113509) (7 ∷ 9 ∷ []) 3 1
    ∷ ball_gives three (shown 113510) (7 ∷ 9 ∷ 8 ∷ []) 1 0
    -- g. Nearest: tag 7; 7 removed: tag 9; 7 added anew: still 9. Both calls are accepted, and the order is then 9, 7, 8.
    ∷ nearest_gives three 7
    ∷ nearest_gives (after three (Change (Remove 7) ∷ [])) 9
    ∷ nearest_gives (after three again) 9
    ∷ same (numbers three again) (0 ∷ 0 ∷ [])
    ∷ same (order_tags (after three again)) (9 ∷ 7 ∷ 8 ∷ [])
    -- h. b = 1: 18 octants; 199 octant words suffice, with 198 the third add gives 7.
    ∷ eqb (octants (after (fresh 1 199) adds).set) 18
    ∷ same (numbers (fresh 1 199) adds) (0 ∷ 0 ∷ 0 ∷ [])
    ∷ same (numbers (fresh 1 198) adds) (0 ∷ 0 ∷ 7 ∷ [])
    -- i. Alone in a set, (3, 4, 0): outside ball 5, inside ball 6.
    ∷ ball_gives alone (shown 5) [] 1 1
    ∷ ball_gives alone (shown 6) (1 ∷ []) 1 1
    -- j. As a channel 0x3F7FFFFF is 65,535; 0x3F800000 gives 9, as a radius 65,536: such a ball holds (65535, 362, 0) and not (65535, 363, 0).
    ∷ channel_gives 0x3F7FFFFF 0 65535
    ∷ channel_gives 0x3F800000 9 0
    ∷ eqb (query_number 0x3F800000 0) 9
    ∷ eqb (query_number 0 0x3F800000) 0
    ∷ eqb (code_of (bits 0x3F800000)) 65536
    ∷ ball_gives edge (bits 0x3F800000) (1 ∷ []) 1 2
    -- k. 0x37800000 is 1, 0x377FFFFF is 0, 0x80000000 is 0, as channels and as radii.
    ∷ channel_gives 0x37800000 0 1
    ∷ channel_gives 0x377FFFFF 0 0
    ∷ channel_gives 0x80000000 0 0
    ∷ ball_gives three (bits 0x37800000) (7 ∷ 9 ∷ []) 2 2
    ∷ ball_gives three (bits 0x377FFFFF) [] 0 0
    ∷ ball_gives three (bits 0x80000000) [] 0 0
    -- l. 0xBF000000 and 0x7FC00000 give 9.
    ∷ channel_gives 0xBF000000 9 0
    ∷ channel_gives 0x7FC00000 9 0
    ∷ eqb (query_number 0 0xBF000000) 9
    ∷ eqb (query_number 0 0x7FC00000) 9
    -- walklist: what it prints for the example, and for its first 200 bytes; its lines are those that the writer writes.
    ∷ same (walklist_prints example) (blanks 9 ++ (55 ∷ 10 ∷ blanks 9) ++ (57 ∷ 10 ∷ blanks 9) ++ (56 ∷ 10 ∷ []))
    ∷ same (walklist_prints (take 200 example)) (82 ∷ 69 ∷ 70 ∷ 85 ∷ 83 ∷ 69 ∷ 68 ∷ 32 ∷ 49 ∷ 49 ∷ 10 ∷ [])
    ∷ same (line_bytes (grey 7 0) (65 ∷ 48 ∷ 48 ∷ 49 ∷ [])) (black_line 55)
    ∷ same (line_bytes (grey 8 65535) (65 ∷ 48 ∷ 48 ∷ 49 ∷ [])) (white_line 56)
    ∷ []

-- The theorem.
pub cases_hold : all cases ≡ true
unfolding computes cases all grey panel_grey bits fresh after numbers adds three order_tags next_words octant_words_of again alone edge
    ball_gives nearest_gives channel_gives query_number blanks reel_end black_line white_line example
cases_hold = refl
