-- The answers of this crate's calls: for each result the paper's number and values (document 01, "Our forms for each place").
use Rattle.std.specs.Prelude.{ℕ, List, Result}
use Rattle.std.specs.Result.{result_ok}
use Rattle.colour.specs.declared.refusal.Refusal.{Refusal}
use Rattle.colour.specs.Refusal.{answer_number}
use Rattle.sheet.specs.declared.line.Line.{Line}
use Rattle.sheet.specs.Line.{LineAnswer, WriteAnswer}
use Rattle.sheet.specs.Sheet.{HeaderAnswer}

-- A header: question 11.
unfoldable pub header_answer : Result ℕ Refusal → HeaderAnswer
header_answer r = record { number = answer_number r; lines = result_ok r }

-- A line: question 12.
unfoldable pub line_answer : Result Line Refusal → LineAnswer
line_answer r = record { number = answer_number r; line = result_ok r }

-- A line to write, with the bytes as they are left: questions 4, 10, 13.
unfoldable pub written_answer : Result (Unit {0}) Refusal → List ℕ → WriteAnswer
written_answer r left = record { number = answer_number r; left = left }
