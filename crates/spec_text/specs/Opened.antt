-- The definitions of this crate that computing opens, by one name: a proof that computes with them says `unfolding opened`.
use Rattle.spec_text.specs.Words.{ascii, same_bytes, lines_from, lines, mark, ended, words_from, words}
use Rattle.spec_text.specs.Numerals.{number_from, numeral, digits, decimal}
use Rattle.spec_text.specs.Forms.{same_sort, size, fields_in, record_of, place, bound, forms, first_of, named, of_kind, bare}
use Rattle.spec_text.specs.Reading.{took_if, members, taken, filled, entry_if, line_of, read_lines, with_node, with_step, read_from, answer, read_text}
use Rattle.spec_text.specs.Where.{node_or_step, rule_sort, which, owner_from, step_words, record_words, nodes_held, nodes_spelt, spot_says, place_words, fault_says, is_of, line_from, line_of_record, spot_line}
use Rattle.spec_text.specs.Printing.{both, listing, spaced, argument, arguments, indent, title, remark, line_text, said, count_in, says, printed_if, record_text, steps_text, nodes_text, printed, parted, bytes_text, shown_record, shown_steps, steps_had, shown_left, shown_nodes, shown_records}

unfoldable pub opened : Unit {0}
unfolding ascii same_bytes lines_from lines mark ended words_from words number_from numeral digits decimal same_sort size fields_in record_of place bound forms first_of named of_kind bare took_if members taken filled entry_if line_of read_lines with_node with_step read_from answer read_text node_or_step rule_sort which owner_from step_words record_words nodes_held nodes_spelt spot_says place_words fault_says is_of line_from line_of_record spot_line both listing spaced argument arguments indent title remark line_text said count_in says printed_if record_text steps_text nodes_text printed parted bytes_text shown_record shown_steps steps_had shown_left shown_nodes shown_records
opened = tt
