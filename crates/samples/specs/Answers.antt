-- The answers of this crate's calls: for each result the paper's number and values (document 01, "Our forms for each place").
use Rattle.std.specs.Prelude.{ℕ, [], Result, Ok, Err}
use Rattle.colour.specs.declared.refusal.Refusal.{Refusal}
use Rattle.colour.specs.Refusal.{refusal_number, answer_number}
use Rattle.model.specs.Machine.{Answer, plain, load_answer}
use Rattle.samples.specs.declared.answers.Stop.{Stop}

-- A clear, an add or a remove: a number and nothing else.
unfoldable pub changed_answer : Result (Unit {0}) Refusal → Answer
changed_answer r = plain (answer_number r) []

-- A load that is refused before its lines.
abbrev pub before_lines : Refusal → Stop
before_lines r = record { refusal = r; taken = 0 }

-- A load.
abbrev pub loaded_number : Result ℕ Stop → ℕ
loaded_number (Ok taken) = 0
loaded_number (Err s) = refusal_number s.refusal

-- How many lines it took.
abbrev pub loaded_taken : Result ℕ Stop → ℕ
loaded_taken (Ok taken) = taken
loaded_taken (Err s) = s.taken

-- It gives both.
unfoldable pub loaded_answer : Result ℕ Stop → Answer
loaded_answer r = load_answer (loaded_number r) (loaded_taken r)
