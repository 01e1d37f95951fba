use borrow.Author.Rules.{rules}
use native.Mathlib.Omega.{arith}
use Rattle.decode.proofs.Bytes.{slice-bytes}
use Rattle.decode.proofs.Codes.{less-left}
use Rattle.listing.proofs.Listed.{told, stands, measured-start, measured-more, measured-short, counted-whole}
use Rattle.listing.proofs.measure.Goals as goal

pub loop-instruction-init : goal.loop-instruction-init
loop-instruction-init c = (measured-start c.args.fragment.now c.args.room, omega arith)

pub word_size-requires : goal.word_size-requires
word_size-requires c =
    let f = c.args.fragment.now in
    stands f c.loop-instruction.offset (slice-bytes f c.type_inv.fragment) c.in-Some.instruction (told f c.loop-instruction.offset c.decode_at.ensures.same c.in_ok-instruction.was c.in-Some.is)

pub returns-then-room-size : goal.returns-then-room-size
returns-then-room-size c =
    let f = c.args.fragment.now in
    let to = measured-more f c.args.room c.loop-instruction.offset c.loop-instruction.size c.loop-instruction.invariant.0 (slice-bytes f c.type_inv.fragment) c.in-Some.instruction
    (told f c.loop-instruction.offset c.decode_at.ensures.same c.in_ok-instruction.was c.in-Some.is) c.word_size.result c.from-space.result c.saturating_add-size.result
    c.loop-instruction.invariant.1 c.requires c.word_size.ensures (search rules) (search rules) in
    measured-short f c.args.room c.in-Some.instruction.next c.saturating_add-size.result to c.if-room-size.true (counted-whole f c.in_ok-count_instructions.field-0 c.in_ok-count_instructions.ensures)

pub loop-instruction-smaller : goal.loop-instruction-smaller
loop-instruction-smaller c =
    let f = c.args.fragment.now in
    less-left f c.loop-instruction.offset c.in-Some.instruction c.type_inv.fragment (told f c.loop-instruction.offset c.decode_at.ensures.same c.in_ok-instruction.was c.in-Some.is)

pub loop-instruction-preserved : goal.loop-instruction-preserved
loop-instruction-preserved c =
    let f = c.args.fragment.now in (
      measured-more f c.args.room c.loop-instruction.offset c.loop-instruction.size c.loop-instruction.invariant.0 (slice-bytes f c.type_inv.fragment) c.in-Some.instruction
          (told f c.loop-instruction.offset c.decode_at.ensures.same c.in_ok-instruction.was c.in-Some.is) c.word_size.result c.from-space.result c.saturating_add-size.result
          c.loop-instruction.invariant.1 c.requires c.word_size.ensures (search rules) (search rules),
      c.if-room-size.false,
    )
