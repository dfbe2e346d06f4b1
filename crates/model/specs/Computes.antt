-- One name that opens every definition at once, of this crate and of those below it: a proof that computes says `unfolding computes`.
use Rattle.std.specs.Float.Ieee.{of_bits, round}
use Rattle.sheet.specs.Computes.{sheet_computes}
use Rattle.model.specs.Lists.{keep, joined, total, padded}
use Rattle.model.specs.SampleSet.{settings_good, placed_from, placed, part, splits, order_of, octants_of, order, octants}
use Rattle.model.specs.Layout.{sample_header, sample_width, octant_width, sample_rows, octant_rows, current}
use Rattle.model.specs.Tables.{first_row, last_row, next_row, setting_word, sample_word, sample_rows_of, sample_words, child_row, row_or_none, child_word}
use Rattle.model.specs.Tables.{octant_word, octant_row, octant_rows_of, octant_words, tables_for}
use Rattle.model.specs.Queries.{listed, no_counts, total_counts, measure_all, enter, visit, counts, or_else, nearest_in, nearest}
use Rattle.model.specs.Machine.{tables_of, lent, load_answer, list_answer, nearest_answer, plain, unless_refused, with_set, with_samples, empty_set, added, removed, has_tag}
use Rattle.model.specs.Machine.{fit_questions, new_questions, line_questions, room_questions, wanted_questions, clear_questions, questions}
use Rattle.model.specs.Machine.{loaded, load_lines, found_answer, listing_answer, wanted_answer, accepted, refusal, step, next_state, start_on, start}
use Rattle.model.specs.Sound.{long_enough}
use Rattle.model.specs.Walklist.{walklist_start, tag_lines, refused_line, printed_after, walklist_prints}

unfoldable pub computes : Unit {0}
unfolding sheet_computes of_bits round keep joined total padded settings_good placed_from placed part splits order_of octants_of order octants
    sample_header sample_width octant_width sample_rows octant_rows current
    first_row last_row next_row setting_word sample_word sample_rows_of sample_words child_row row_or_none child_word
    octant_word octant_row octant_rows_of octant_words tables_for
    listed no_counts total_counts measure_all enter visit counts or_else nearest_in nearest
    tables_of lent load_answer list_answer nearest_answer plain unless_refused with_set with_samples empty_set added removed has_tag
    fit_questions new_questions line_questions room_questions wanted_questions clear_questions questions
    loaded load_lines found_answer listing_answer wanted_answer accepted refusal step next_state start_on start long_enough
    walklist_start tag_lines refused_line printed_after walklist_prints
computes = tt
