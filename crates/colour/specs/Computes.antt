-- One name that opens every definition of this crate: a proof that computes with them says `unfolding colour_computes`.
use Rattle.colour.specs.Colour.{code_in, colour_by, each, sum_of, is_code, is_tag, codes_fit, wrapped, black, apart, distance}
use Rattle.colour.specs.Octant.{depths, side_at, cube_holds, last_code, bit_weight, bit_at, child_number, children, child_low}
use Rattle.colour.specs.Key.{base8, key, spread_number}
use Rattle.colour.specs.Region.{closest_code, farthest_code, closest, farthest, holds, overlaps, inside}
use Rattle.colour.specs.Mask.{bit_if, mask_of, overlap_mask}
use Rattle.colour.specs.Panel.{below, code_of, channel_good, radius_good, panel_good, codes_of, shown, shown_colour, floats_to_codes, codes_to_floats}
use Rattle.colour.specs.Query.{ordered, query_good, query_questions, in_codes, asked_of}
use Rattle.colour.specs.Question.{first_no}

unfoldable pub colour_computes : Unit {0}
unfolding code_in colour_by each sum_of is_code is_tag codes_fit wrapped black apart distance
    depths side_at cube_holds last_code bit_weight bit_at child_number children child_low base8 key spread_number
    closest_code farthest_code closest farthest holds overlaps inside bit_if mask_of overlap_mask
    below code_of channel_good radius_good panel_good codes_of shown shown_colour floats_to_codes codes_to_floats
    ordered query_good query_questions in_codes asked_of first_no
colour_computes = tt
