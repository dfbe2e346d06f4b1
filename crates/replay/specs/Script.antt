-- A script of calls in words and floats: the call of the reference machine that each step means, and the words of its answer.
use Rattle.std.specs.Prelude.{ℕ, zero, suc, ◌+◌, ◌*◌, ◌/◌, ◌%◌, ◌^◌, min, Bool, true, false, List, [], ◌∷◌, ◌++◌, length, get_or, take, drop, pos, Float}
use Rattle.std.proofs.Math.Option.{Option, none, some}
use Rattle.std.specs.Float.{fin}
use Rattle.colour.specs.Channels.{PanelColour}
use Rattle.colour.specs.declared.Sample.{Sample}
use Rattle.colour.specs.declared.Query.{Query}
use Rattle.colour.specs.declared.Query.TheVariants as Q
use Rattle.model.specs.Machine.{Answer}
use Rattle.model.specs.Machine as M
use Rattle.replay.specs.declared.calls.Changing.TheVariants as G
use Rattle.replay.specs.declared.calls.Call.{Call}
use Rattle.replay.specs.declared.calls.Call.TheVariants as C
use Rattle.replay.specs.declared.script.Kind.{Kind}
use Rattle.replay.specs.declared.script.Kind.TheVariants as K
use Rattle.replay.specs.Calls.{meant, query_of}
use Rattle.replay.specs.Format.{step_width, answer_width, kind_at, bucket_at, tag_at, red_at, green_at, blue_at, sheet_start_at, sheet_length_at, lent_at, low_at, high_at, radius_at}

-- A step is the first words of a list and the first floats of another. Past a list's end a word is 0, and a float is 0.0.
abbrev pub no_float : Float
no_float = fin false 0 (pos 0)

-- The colour in three floats from float k on.
unfoldable pub colour_at : List Float → ℕ → PanelColour
colour_at floats k = record { red = get_or floats k no_float; green = get_or floats (k + 1) no_float; blue = get_or floats (k + 2) no_float }

-- The sample that an add says.
unfoldable pub sample_said : List ℕ → Sample
sample_said words =
    record { tag = get_or words tag_at 0; colour = record { red = get_or words red_at 0; green = get_or words green_at 0; blue = get_or words blue_at 0 } }

-- The kinds of calls that a step's word chooses from, by their place in this list; any other word chooses a nearest query.
abbrev pub first_kinds : List Kind
first_kinds = K.Clear ∷ K.Load ∷ K.Add ∷ K.Remove ∷ K.Ball ∷ K.Box ∷ []

unfoldable pub kind_of : ℕ → Kind
kind_of word = get_or first_kinds word K.Nearest

-- The call of a kind that a step says.
unfoldable pub call_of_kind : Kind → List ℕ → List Float → Call
call_of_kind K.Clear words floats = C.Clear (record { bucket = get_or words bucket_at 0 })
call_of_kind K.Load words floats = C.Change G.Load
call_of_kind K.Add words floats = C.Change (G.Add (sample_said words))
call_of_kind K.Remove words floats = C.Change (G.Remove (get_or words tag_at 0))
call_of_kind K.Ball words floats = C.Ask (Q.Ball (colour_at floats low_at) (get_or floats radius_at no_float))
call_of_kind K.Box words floats = C.Ask (Q.Box (colour_at floats low_at) (colour_at floats high_at))
call_of_kind K.Nearest words floats = C.Ask (Q.Nearest (colour_at floats low_at) (get_or floats radius_at no_float))

-- The call that a step says.
unfoldable pub call_in : List ℕ → List Float → Call
call_in words floats = call_of_kind (kind_of (get_or words kind_at 0)) words floats

-- The part of the sheets that a step names by start and length, as far as it is there.
unfoldable pub sheet_in : List ℕ → List ℕ → List ℕ
sheet_in words sheets = take (get_or words sheet_length_at 0) (drop (get_or words sheet_start_at 0) sheets)

-- How many words a step's call is lent for its listing if the step says `most`: none if it is no query.
unfoldable pub wants : Option Query → ℕ → ℕ
wants none most = 0
wants (some q) most = most

-- The words that a step is lent, of those left of the listings, as far as they are there.
unfoldable pub lent_of : List ℕ → List Float → List ℕ → List ℕ
lent_of words floats left = take (wants (query_of (call_in words floats)) (get_or words lent_at 0)) left

-- The machine's call that a step means.
unfoldable pub step_call : List ℕ → List Float → List ℕ → List ℕ → M.Call
step_call words floats sheets left = meant (call_in words floats) (sheet_in words sheets) (lent_of words floats left)

-- All that a script's calls are made of.
pub record Script : Type 0 where
  pub words : List ℕ
  pub floats : List Float
  pub sheets : List ℕ
  pub listings : List ℕ

abbrev pub script_of : List ℕ → List Float → List ℕ → List ℕ → Script
script_of words floats sheets listings = record { words = words; floats = floats; sheets = sheets; listings = listings }

-- The words of step i on, and the floats.
abbrev pub words_from : Script → ℕ → List ℕ
words_from s i = drop (step_width * i) s.words

abbrev pub floats_from : Script → ℕ → List Float
floats_from s i = drop (step_width * i) s.floats

-- How many words of the listings the first n steps are lent, each from where the step before it ended.
unfoldable pub lent_before : Script → ℕ → ℕ
lent_before s zero = 0
lent_before s (suc n) = lent_before s n + length (lent_of (words_from s n) (floats_from s n) (drop (lent_before s n) s.listings))

-- What the first n steps leave of the listings.
abbrev pub listings_from : Script → ℕ → List ℕ
listings_from s n = drop (lent_before s n) s.listings

-- The machine's calls that the first n steps mean. The parts of the listings are apart from each other, so each is as it was at the start.
unfoldable pub script_calls : Script → ℕ → List M.Call
script_calls s zero = []
script_calls s (suc n) = script_calls s n ++ (step_call (words_from s n) (floats_from s n) s.sheets (listings_from s n) ∷ [])

-- The steps that there are words, floats and answer words for.
unfoldable pub steps_of : Script → List ℕ → ℕ
steps_of s answers = min (length s.words / step_width) (min (length s.floats / step_width) (length answers / answer_width))

-- Yes or no as a word.
unfoldable pub flag : Bool → ℕ
flag true = 1
flag false = 0

-- The words of an answer; tag and d² take two each, the lower first.
unfoldable pub answer_words : Answer → List ℕ
answer_words a =
    a.number
    ∷ a.taken
    ∷ a.listed
    ∷ a.entered
    ∷ a.measured
    ∷ flag a.found
    ∷ a.tag % 2 ^ 32
    ∷ a.tag / 2 ^ 32
    ∷ a.distance % 2 ^ 32
    ∷ a.distance / 2 ^ 32
    ∷ 0
    ∷ 0
    ∷ []

-- Words written over others from the first on; the rest stay.
unfoldable pub written_over : List ℕ → List ℕ → List ℕ
written_over new old = new ++ drop (length new) old
