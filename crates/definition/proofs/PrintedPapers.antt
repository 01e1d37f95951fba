-- What `stackmark` prints, by example: the paper of Section 6, and papers that show each form of a line.
use mathlib.Core.List.{[], ◌∷◌}
use mathlib.Core.Path.{◌≡◌, refl}
use lib.ListN.{replicate}
use Rattle.definition.specs.Basics.{Bytes}
use Rattle.definition.specs.Decoding.{front, decode, serialize, deserialize}
use Rattle.definition.specs.Classes.{class_number, class_of}
use Rattle.definition.specs.Stacks.{push_item, drop_items, copy_items, rotate_items, tuck_top, nip_second, move_to_alt, move_from_alt, step, plain_step}
use Rattle.definition.specs.Walk.{join_stacks, log_row, walk, analysis_of, analysis}
use Rattle.definition.specs.Papers.{good_header, fragments, mark_from, dispatch, mark_paper}
use Rattle.definition.specs.Lines.{text, decimal, line, refused_line, last_line, printed, stackmark}
use Rattle.definition.proofs.MarkedPapers.{sample_paper, two_entries}

-- "prints .."
pub sample_printed : stackmark sample_paper ≡ text "entry 0 peak 2 end 1 0\naccepted\n"
unfolding stackmark printed last_line refused_line line decimal sample_paper good_header fragments mark_from dispatch mark_paper analysis analysis_of walk log_row join_stacks step plain_step push_item drop_items copy_items rotate_items tuck_top nip_second move_to_alt move_from_alt class_of class_number decode front serialize deserialize
sample_printed = refl

-- "`state` for `entry 0` at the initialiser"
pub state_printed : stackmark two_entries
    ≡ text "entry 0 peak 1 end 1 0\nentry 1 peak 2 end 1 0\nstate peak 3 end 0 1\naccepted\n"
unfolding stackmark printed last_line refused_line line decimal two_entries good_header fragments mark_from dispatch mark_paper analysis analysis_of walk log_row join_stacks step plain_step push_item drop_items copy_items rotate_items tuck_top nip_second move_to_alt move_from_alt class_of class_number decode front serialize deserialize
state_printed = refl

-- Two entries. The first takes 102 parameters, and its body is RETURN: "`end none` if dead". The second takes none, pushes
-- one item and drops two.
pub second_dry : Bytes
second_dry =
    0x02 ∷ 0x00 ∷ 0x00 ∷ 0x00 ∷ 0x14 ∷ 0x00 ∷ 0x00 ∷ 0x00 ∷
    0x66 ∷ 0x00 ∷ 0x14 ∷ 0x00 ∷ 0x01 ∷ 0x00 ∷
    0x00 ∷ 0x00 ∷ 0x15 ∷ 0x00 ∷ 0x03 ∷ 0x00 ∷
    0x6a ∷ 0x51 ∷ 0x75 ∷ 0x75 ∷ []

-- "A refused paper ends in `refused N at K O A B`": 7 in entry 1 at offset 2, needed 1 and had 0
pub dry_printed : stackmark second_dry ≡ text "entry 0 peak 102 end none\nrefused 7 at 1 2 1 0\n"
unfolding stackmark printed last_line refused_line line decimal second_dry good_header fragments mark_from dispatch mark_paper analysis analysis_of walk log_row join_stacks step plain_step push_item drop_items copy_items rotate_items tuck_top nip_second move_to_alt move_from_alt class_of class_number decode front serialize deserialize
dry_printed = refl

-- the empty input; "at most 8,001 bytes .., so its 21 always shows 8001"
pub empty_printed : stackmark [] ≡ text "refused 19 at 0 0 0 0\n"
unfolding stackmark printed last_line refused_line decimal good_header mark_paper
empty_printed = refl

pub long_printed : stackmark (replicate 9000 0) ≡ text "refused 21 at 0 0 8001 8000\n"
unfolding stackmark printed last_line refused_line decimal mark_paper
long_printed = refl
