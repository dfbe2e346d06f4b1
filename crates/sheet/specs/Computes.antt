-- Names that open definitions together. A proof that computes with them says `unfolding sheet_computes`.
use Rattle.colour.specs.Computes.{colour_computes}
use Rattle.sheet.specs.Column.{blank, newline, between, digit_byte, trimmed, digits_after, decimal_in, column_number, decimal, column_of}
use Rattle.sheet.specs.Line.{tag_columns, code_columns, name_columns, red_start, green_start, blue_start, blank_at, name_start, newline_at, line_length}
use Rattle.sheet.specs.Line.{name_byte, leading, name_good, name_field_good, line_from, name_field, line_formed, code_column, line_numbers, line_of, read_line}
use Rattle.sheet.specs.Line.{number_columns, line_bytes, write_number, write_line}
use Rattle.sheet.specs.Steps.{within, put_at, name_length_in}
use Rattle.sheet.specs.Answers.{header_answer, line_answer, written_answer}
use Rattle.sheet.specs.Sheet.{title, same_bytes, count_columns, header_length, line_start, header_formed, count_if, line_count, read_header, line_part, lines_from, lines_by, lines_of}
use Rattle.sheet.specs.Sheet.{empty_part, bytes_of, all_good, name_part_from, name_part}
use Rattle.sheet.specs.Entries.{header_bytes, lines_bytes, sheet_bytes, entry_good, entries_good, line_said, lines_said, name_for}

-- The numbers of columns, places and lengths.
unfoldable pub sheet_numbers : Unit {0}
unfolding tag_columns code_columns name_columns red_start green_start blue_start blank_at name_start newline_at line_length title count_columns header_length line_start
sheet_numbers = tt

-- Every definition of this crate and of `colour`.
unfoldable pub sheet_computes : Unit {0}
unfolding colour_computes sheet_numbers blank newline between digit_byte trimmed digits_after decimal_in column_number within decimal column_of put_at
    name_byte leading name_good name_field_good line_from name_length_in name_field line_formed code_column line_numbers line_of read_line
    number_columns line_bytes write_number write_line
    same_bytes header_formed count_if line_count read_header line_part lines_from lines_by lines_of
    empty_part bytes_of all_good name_part_from name_part
    header_answer line_answer written_answer
    header_bytes lines_bytes sheet_bytes entry_good entries_good line_said lines_said name_for
sheet_computes = tt
