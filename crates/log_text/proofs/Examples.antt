-- What `stacklog` prints, by example: the paper of LogText, a paper of three fragments, and a header of seven bytes; and what is
-- printed by a lent map (document 02, L6).
use mathlib.Core.Bool.{false}
use mathlib.Core.List.{List, [], ◌∷◌, ◌++◌}
use mathlib.Core.Path.{◌≡◌, refl, ap, ◌∙◌}
use Prim.Native.Nat.{ℕ}
use lib.Dec.{eqb}
use lib.ListN.{replicate}
use Rattle.definition.specs.Basics.{Bytes, pick}
use Rattle.definition.specs.Decoding.{front, decode, serialize, deserialize}
use Rattle.definition.specs.Classes.{IF, class_number, class_of}
use Rattle.definition_rules.specs.Maps.{good_map, Options, built_in_map, built_in_options, rules_of, mark_paper_with}
use Rattle.definition.specs.Stacks.{Rules, built_in, push_item, drop_items, copy_items, rotate_items, tuck_top, nip_second, move_to_alt, move_from_alt, step, plain_step}
use Rattle.definition.specs.Walk.{join_stacks, log_row, walk, analysis_of, analysis}
use Rattle.definition.specs.Papers.{good_header, fragments, mark_from, dispatch, mark_paper, display}
use Rattle.definition.specs.Lines.{text, decimal, refused_line, last_line}
use Rattle.definition_listings.specs.OpcodeNames.{name_table, name_of}
use Rattle.definition_rules.proofs.BuiltInMap.{built_in_map_rules}
use Rattle.definition_rules.proofs.UnderEveryMap.{built_in_map_paper}
use Rattle.faults.specs.Faults.{fault, fault_words}
use Rattle.reasons.specs.Reasons.{reason}
use Rattle.log_rows.specs.Rows.{total_of, column, bar, live_heights, instruction, bytes_field, shown_data, word, indented, depth_after, indent, heading, row_line, row, rows}
use Rattle.log_lines.specs.Log.{start_line, start, accepted_line, refusal, refusal_line, header_line, malformed_line, opener, other_main, arms, verdict_line}
use Rattle.log_blocks.specs.Blocks.{block}
use Rattle.log_text.specs.LogText.{refused, refused_told, log_of, log_text, log_text_with}

-- two arms that leave different heights
unfoldable pub arms_differ : Bytes
arms_differ =
    0x01 ∷ 0x00 ∷ 0x01 ∷ 0x00 ∷ 0x0e ∷ 0x00 ∷ 0x00 ∷ 0x00 ∷ 0x01 ∷ 0x00 ∷ 0x0e ∷ 0x00 ∷ 0x06 ∷ 0x00 ∷
    0x63 ∷ 0x51 ∷ 0x67 ∷ 0x75 ∷ 0x68 ∷ 0x75 ∷ []

pub arms_differ_logged : log_text built_in arms_differ (replicate 18 0)
    ≡ text "entry 0: length 6, from main 2 alt 0\n"
    ++ text "offset main  alt total |of 8            | bytes       instruction\n"
    ++ text "     0    2    0     2 |####............| 63          OpIf\n"
    ++ text "     1    1    0     1 |##..............| 51           Op1\n"
    ++ text "     2    2    0     2 |####............| 67          OpElse\n"
    ++ text "     3    1    0     1 |##..............| 75           OpDrop\n"
    ++ text "     4    0    0     0 |................| 68          OpEndIf\n"
    ++ text "     ^ refused 12, arms differ: main 0 alt 0 against main 2 alt 0\n"
    ++ text "\n"
    ++ text "refused 12 at 0 4 0 0\n"
unfolding arms_differ log_text refused block refused_told verdict_line start_line start accepted_line refusal refusal_line malformed_line opener other_main arms rows row row_line heading indent depth_after instruction bytes_field word shown_data indented name_of name_table live_heights bar column total_of reason display last_line refused_line decimal good_header fragments mark_from dispatch mark_paper analysis analysis_of walk log_row join_stacks step plain_step push_item drop_items copy_items rotate_items tuck_top nip_second move_to_alt move_from_alt class_of class_number decode front serialize deserialize
arms_differ_logged = refl

-- a dead arm, an entry that has no rows, and the initialiser: entries of 1 parameter and none, 1 state field
unfoldable pub three_fragments : Bytes
three_fragments =
    0x02 ∷ 0x00 ∷ 0x01 ∷ 0x00 ∷ 0x1b ∷ 0x00 ∷ 0x01 ∷ 0x00 ∷
    0x01 ∷ 0x00 ∷ 0x14 ∷ 0x00 ∷ 0x07 ∷ 0x00 ∷
    0x00 ∷ 0x00 ∷ 0x1b ∷ 0x00 ∷ 0x00 ∷ 0x00 ∷
    0x63 ∷ 0x51 ∷ 0x67 ∷ 0x6a ∷ 0x52 ∷ 0x68 ∷ 0x75 ∷ 0x6c ∷ []

pub three_fragments_logged : log_text built_in three_fragments (replicate 24 0)
    ≡ text "entry 0: length 7, from main 2 alt 0\n"
    ++ text "offset main  alt total |of 8            | bytes       instruction\n"
    ++ text "     0    2    0     2 |####............| 63          OpIf\n"
    ++ text "     1    1    0     1 |##..............| 51           Op1\n"
    ++ text "     2    2    0     2 |####............| 67          OpElse\n"
    ++ text "     3    1    0     1 |##..............| 6a           OpReturn\n"
    ++ text "     4 dead dead       |                | 52           Op2\n"
    ++ text "     5 dead dead       |                | 68          OpEndIf\n"
    ++ text "     6    2    0     2 |####............| 75          OpDrop\n"
    ++ text "accepted: peak 2, end main 1 alt 0\n"
    ++ text "\n"
    ++ text "entry 1: length 0, from main 1 alt 0\n"
    ++ text "accepted: peak 1, end main 1 alt 0\n"
    ++ text "\n"
    ++ text "state: length 1, from main 1 alt 1\n"
    ++ text "offset main  alt total |of 8            | bytes       instruction\n"
    ++ text "     0    1    1     2 |####............| 6c          OpFromAltStack\n"
    ++ text "accepted: peak 2, end main 2 alt 0\n"
    ++ text "\n"
    ++ text "accepted\n"
unfolding three_fragments log_text refused block refused_told verdict_line start_line start accepted_line refusal refusal_line malformed_line opener other_main arms rows row row_line heading indent depth_after instruction bytes_field word shown_data indented name_of name_table live_heights bar column total_of reason display last_line refused_line decimal good_header fragments mark_from dispatch mark_paper analysis analysis_of walk log_row join_stacks step plain_step push_item drop_items copy_items rotate_items tuck_top nip_second move_to_alt move_from_alt class_of class_number decode front serialize deserialize
three_fragments_logged = refl

-- a header that is cut
pub seven_bytes_logged : log_text built_in (replicate 7 0) [] ≡ text "refused 19, header: 7 bytes, fewer than 8\n\nrefused 19 at 0 0 0 0\n"
unfolding log_text refused block refused_told header_line refusal refusal_line fault fault_words reason last_line refused_line decimal good_header mark_paper
seven_bytes_logged = refl

-- where ff is IF and the limit is 5: the rows and the other arm go by the class, the word is that of the code
abbrev ff_if : Rules
ff_if = record { class_for = λ code. pick (eqb code 0xff) IF (class_of code); limit = 5; examined = false }

unfoldable pub other_if : Bytes
other_if =
    0x01 ∷ 0x00 ∷ 0x01 ∷ 0x00 ∷ 0x0e ∷ 0x00 ∷ 0x00 ∷ 0x00 ∷ 0x01 ∷ 0x00 ∷ 0x0e ∷ 0x00 ∷ 0x03 ∷ 0x00 ∷
    0xff ∷ 0x51 ∷ 0x68 ∷ []

pub other_if_logged : log_text ff_if other_if (replicate 9 0)
    ≡ text "entry 0: length 3, from main 2 alt 0\n"
    ++ text "offset main  alt total |of 8            | bytes       instruction\n"
    ++ text "     0    2    0     2 |####............| ff          0xff\n"
    ++ text "     1    1    0     1 |##..............| 51           Op1\n"
    ++ text "     2    2    0     2 |####............| 68          OpEndIf\n"
    ++ text "     ^ refused 12, arms differ: main 2 alt 0 against main 1 alt 0\n"
    ++ text "\n"
    ++ text "refused 12 at 0 2 0 0\n"
unfolding other_if log_text refused block refused_told verdict_line start_line start accepted_line refusal refusal_line malformed_line opener other_main arms rows row row_line heading indent depth_after instruction bytes_field word shown_data indented name_of name_table live_heights bar column total_of reason display last_line refused_line decimal good_header fragments mark_from dispatch mark_paper analysis analysis_of walk log_row join_stacks step plain_step push_item drop_items copy_items rotate_items tuck_top nip_second move_to_alt move_from_alt class_of class_number decode front serialize deserialize
other_if_logged = refl

-- a map of no bytes
pub no_map_logged : (options : Options) (paper : Bytes) (log : List ℕ) → log_text_with [] options paper log ≡ text "refused 28, bad map\n\nrefused 28 at 0 0 0 0\n"
unfolding log_text_with refused refused_told refusal refusal_line reason last_line refused_line decimal mark_paper_with good_map
no_map_logged options paper log = refl

-- the built-in map at 244: the same text
pub built_in_map_logged : (paper : Bytes) (log : List ℕ) → log_text_with built_in_map built_in_options paper log ≡ log_text built_in paper log
unfolding log_text log_text_with
built_in_map_logged paper log =
    ap (λ m. log_of (rules_of built_in_map built_in_options) paper m) (built_in_map_paper paper log) ∙ ap (λ R. log_of R paper (mark_paper built_in paper log)) built_in_map_rules
